-- Four and eight bytes as a word, the bytes of a list fed by words and by runs, and zeros before them. Assumes nothing.
use mathlib.Core.Path.{◌≡◌, refl, sym, ap, ap₂, ◌∙◌, subst}
use mathlib.Core.List.{List, [], ◌∷◌}
use Prim.Native.Nat.{ℕ, zero, suc, ◌+◌, ◌*◌, ◌/◌, ◌%◌, ◌^◌, ◌<◌, ◌≤◌}
use native.Mathlib.Nat.{mul_comm, mul-suc}
use native.Mathlib.Numerals.{add-one}
use native.Mathlib.Omega.{arith}
use lib.ListN.{length, get_or, set, take, drop, replicate}
use lib.Seq.{take-suc-set}
use lib.Bits.{bit_xor, xor_comm, xor_lt, xor_shifted}
use mir.Syntax.{w64}
use Rattle.std.specs.Int.{from_le_bytes}
use Rattle.std.specs.Simd.{first_chunks}
use Rattle.std.proofs.lemmas.List.{get_or-take, get_or-drop, drop-drop, take-append-drop}
use Rattle.laws.specs.Bytes.{Bytes}
use Rattle.laws.proofs.Bytes.{four_bytes}
use Rattle.laws.proofs.Xor.{xor_assoc, xor_cancel}
use Rattle.edc.specs.Edc.{fed, edc}
use Rattle.edc.specs.Fold.{shifts}
use Rattle.edc.proofs.Shifts.{fed_xor, shifts_xor, shifts_add, shifts_high, shifts_empty}
use Rattle.edc.proofs.Laws.{edc_drop, edc_append}
use Rattle.edc.proofs.Folds.{steps, steps_are}

-- a byte that comes after n bits may stand above them
more : (n r x b : ℕ) → x < 2 ^ n → b < 256 → fed 8 (shifts n (bit_xor r x)) b ≡ shifts (n + 8) (bit_xor r (x + 2 ^ n * b))
more n r x b hx hb =
    fed_xor 8 (shifts n (bit_xor r x)) b hb
    ∙ ap (shifts 8)
    (ap (bit_xor (shifts n (bit_xor r x))) (sym (shifts_high n b)) ∙ sym (shifts_xor n (bit_xor r x) (b * 2 ^ n))
    ∙ ap (shifts n) (xor_assoc r x (b * 2 ^ n) ∙ ap (bit_xor r) (xor_comm x (b * 2 ^ n) ∙ xor_shifted b n x hx ∙ e)))
    ∙ sym (shifts_add n 8 (bit_xor r (x + 2 ^ n * b)))
  where
    e : b * 2 ^ n + x ≡ x + 2 ^ n * b
    e = omega (arith, mul_comm b (2 ^ n))

-- four bytes as a word
pub fed_four : (r a b c d : ℕ) → a < 256 → b < 256 → c < 256 → d < 256
    → fed 8 (fed 8 (fed 8 (fed 8 r a) b) c) d ≡ shifts 32 (bit_xor r (a + 256 * b + 65536 * c + 16777216 * d))
fed_four r a b c d ha hb hc hd =
    ap (λ (x : ℕ). fed 8 x d)
    (ap (λ (x : ℕ). fed 8 x c) (ap (λ (x : ℕ). fed 8 x b) (fed_xor 8 r a ha) ∙ more 8 r a b ha hb)
    ∙ more 16 r (a + 256 * b) c (omega arith) hc)
    ∙ more 24 r (a + 256 * b + 65536 * c) d (omega arith) hd

pub fed_eight : (r a b c d e f g h : ℕ) → a < 256 → b < 256 → c < 256 → d < 256 → e < 256 → f < 256 → g < 256 → h < 256
    → fed 8 (fed 8 (fed 8 (fed 8 (fed 8 (fed 8 (fed 8 (fed 8 r a) b) c) d) e) f) g) h
    ≡ shifts 64 (bit_xor r (a + 256 * b + 65536 * c + 16777216 * d + 4294967296 * e + 1099511627776 * f + 281474976710656 * g + 72057594037927936 * h))
fed_eight r a b c d e f g h ha hb hc hd he hf hg hh =
    ap (λ (x : ℕ). fed 8 x h)
    (ap (λ (x : ℕ). fed 8 x g)
    (ap (λ (x : ℕ). fed 8 x f)
    (ap (λ (x : ℕ). fed 8 x e) (fed_four r a b c d ha hb hc hd)
    ∙ more 32 r (a + 256 * b + 65536 * c + 16777216 * d) e (omega arith) he)
    ∙ more 40 r (a + 256 * b + 65536 * c + 16777216 * d + 4294967296 * e) f (omega arith) hf)
    ∙ more 48 r (a + 256 * b + 65536 * c + 16777216 * d + 4294967296 * e + 1099511627776 * f) g (omega arith) hg)
    ∙ more 56 r (a + 256 * b + 65536 * c + 16777216 * d + 4294967296 * e + 1099511627776 * f + 281474976710656 * g) h (omega arith) hh

-- any list can be followed by four bytes after which its code is 1: so a code of one byte that is not zero occurs
test : steps 0xD8018001 32 0xB0030003 ≡ 1
unfolding steps
test = refl

pub to_one : (r w : ℕ) → r < 2 ^ 32 → w ≡ bit_xor r 0xB0030003 → edc r (w % 256 ∷ w / 256 % 256 ∷ w / 65536 % 256 ∷ w / 16777216 % 256 ∷ []) ≡ 1
unfolding edc
to_one r w h e =
    let fits : w < 2 ^ 32 = subst (λ (x : ℕ). x < 2 ^ 32) (sym e) (xor_lt 32 r 0xB0030003 h (omega arith)) in
    fed_four r (w % 256) (w / 256 % 256) (w / 65536 % 256) (w / 16777216 % 256) (omega arith) (omega arith) (omega arith) (omega arith)
    ∙ ap (λ (x : ℕ). shifts 32 (bit_xor r x)) (four_bytes w fits ∙ e)
    ∙ ap (shifts 32) (xor_comm r (bit_xor r 0xB0030003) ∙ ap (λ (x : ℕ). bit_xor x r) (xor_comm r 0xB0030003) ∙ xor_cancel 0xB0030003 r)
    ∙ sym (steps_are 32 0xB0030003) ∙ test

-- array i of n bytes
chunk_at : (n k : ℕ) (s : List ℕ) (i : ℕ) (d : List ℕ) → i < k → get_or (first_chunks n k s) i d ≡ take n (drop (n * i) s)
chunk_at n zero s i d h = let z : ⊥ = omega arith in absurd z
chunk_at n (suc k) s zero d h = let e : 0 ≡ n * 0 = omega arith in ap (λ (m : ℕ). take n (drop m s)) e
chunk_at n (suc k) s (suc i) d h =
    let e : n + n * i ≡ n * suc i = omega (arith, mul-suc n i) in
    chunk_at n k (drop n s) i d (omega arith) ∙ ap (take n) (drop-drop (n * i) n s ∙ ap (λ (m : ℕ). drop m s) e)

-- the first n bytes, and what is left
pub edc_parts : (r n : ℕ) (s : List ℕ) → edc (edc r (take n s)) (drop n s) ≡ edc r s
edc_parts r n s = sym (edc_append r (take n s) (drop n s)) ∙ ap (edc r) (take-append-drop n s)

-- eight bytes of a list, from i on
pub edc_eight : (s : List ℕ) (r i : ℕ) → i + 8 ≤ length s
    → edc (fed 8 (fed 8 (fed 8 (fed 8 (fed 8 (fed 8 (fed 8 (fed 8 r (get_or s i 0)) (get_or s (i + 1) 0)) (get_or s (i + 2) 0)) (get_or s (i + 3) 0)) (get_or s (i + 4) 0)) (get_or s (i + 5) 0)) (get_or s (i + 6) 0)) (get_or s (i + 7) 0)) (drop (i + 8) s)
    ≡ edc r (drop i s)
edc_eight s r i h =
    sym
    (edc_drop s r i (omega arith)
    ∙ next _ (i + 1) (i + 2) (omega arith) (omega arith)
    ∙ next _ (i + 2) (i + 3) (omega arith) (omega arith)
    ∙ next _ (i + 3) (i + 4) (omega arith) (omega arith)
    ∙ next _ (i + 4) (i + 5) (omega arith) (omega arith)
    ∙ next _ (i + 5) (i + 6) (omega arith) (omega arith)
    ∙ next _ (i + 6) (i + 7) (omega arith) (omega arith)
    ∙ next _ (i + 7) (i + 8) (omega arith) (omega arith))
  where
    next : (q j k : ℕ) → j < length s → j + 1 ≡ k → edc q (drop j s) ≡ edc (fed 8 q (get_or s j 0)) (drop k s)
    next q j k hj e = edc_drop s q j hj ∙ ap (λ (n : ℕ). edc (fed 8 q (get_or s j 0)) (drop n s)) e

-- word i of a list, out of its arrays of eight bytes
pub edc_word : (s : List ℕ) (n i r w : ℕ) (d : List ℕ) → Bytes s → i < n → 8 * n ≤ length s → w ≡ from_le_bytes w64 (get_or (first_chunks 8 n s) i d)
    → edc (shifts 64 (bit_xor r w)) (drop (8 * i + 8) s) ≡ edc r (drop (8 * i) s)
edc_word s n i r w d b hi hn e =
    ap (λ (x : ℕ). edc x (drop (j + 8) s))
    (ap (λ (x : ℕ). shifts 64 (bit_xor r x)) value
    ∙ sym (fed_eight r _ _ _ _ _ _ _ _ (b j) (b (j + 1)) (b (j + 2)) (b (j + 3)) (b (j + 4)) (b (j + 5)) (b (j + 6)) (b (j + 7))))
    ∙ edc_eight s r j (omega arith)
  where
    j : ℕ
    j = 8 * i

    l : List ℕ
    l = get_or (first_chunks 8 n s) i d

    at : (k m : ℕ) → k < 8 → j + k ≡ m → get_or l k 0 ≡ get_or s m 0
    at k m h q =
        ap (λ (t : List ℕ). get_or t k 0) (chunk_at 8 n s i d hi) ∙ get_or-take 8 (drop j s) k 0 h ∙ get_or-drop j s k 0 ∙ ap (λ (o : ℕ). get_or s o 0) q

    value : w ≡ get_or s j 0 + 256 * get_or s (j + 1) 0 + 65536 * get_or s (j + 2) 0 + 16777216 * get_or s (j + 3) 0 + 4294967296 * get_or s (j + 4) 0 + 1099511627776 * get_or s (j + 5) 0 + 281474976710656 * get_or s (j + 6) 0 + 72057594037927936 * get_or s (j + 7) 0
    value =
        let sum : w ≡ get_or l 0 0 + get_or l 1 0 * 256 + get_or l 2 0 * 65536 + get_or l 3 0 * 16777216 + get_or l 4 0 * 4294967296 + get_or l 5 0 * 1099511627776 + get_or l 6 0 * 281474976710656 + get_or l 7 0 * 72057594037927936 = e in
        let a₀ : get_or l 0 0 ≡ get_or s j 0 = at 0 j (omega arith) (omega arith) in
        let a₁ : get_or l 1 0 ≡ get_or s (j + 1) 0 = at 1 (j + 1) (omega arith) refl in
        let a₂ : get_or l 2 0 ≡ get_or s (j + 2) 0 = at 2 (j + 2) (omega arith) refl in
        let a₃ : get_or l 3 0 ≡ get_or s (j + 3) 0 = at 3 (j + 3) (omega arith) refl in
        let a₄ : get_or l 4 0 ≡ get_or s (j + 4) 0 = at 4 (j + 4) (omega arith) refl in
        let a₅ : get_or l 5 0 ≡ get_or s (j + 5) 0 = at 5 (j + 5) (omega arith) refl in
        let a₆ : get_or l 6 0 ≡ get_or s (j + 6) 0 = at 6 (j + 6) (omega arith) refl in
        let a₇ : get_or l 7 0 ≡ get_or s (j + 7) 0 = at 7 (j + 7) (omega arith) refl in
        omega arith

-- run i of 256 bytes after the first m
pub edc_run : (s : List ℕ) (r m n i : ℕ) (d : List ℕ) → i < n
    → edc (edc r (get_or (first_chunks 256 n (drop m s)) i d)) (drop (m + 256 * (i + 1)) s) ≡ edc r (drop (m + 256 * i) s)
edc_run s r m n i d h =
    let e : m + 256 * (i + 1) ≡ m + 256 * i + 256 = omega arith in
    ap₂ (λ (l : List ℕ) (k : ℕ). edc (edc r l) (drop k s)) (chunk_at 256 n (drop m s) i d h ∙ ap (take 256) (drop-drop (256 * i) m s)) e
    ∙ ap (edc (edc r (take 256 (drop (m + 256 * i) s)))) (sym (drop-drop 256 (m + 256 * i) s))
    ∙ edc_parts r 256 (drop (m + 256 * i) s)

-- zeros leave an empty register empty
pub edc_zeros : (m n : ℕ) → edc 0 (take m (replicate n 0)) ≡ 0
unfolding edc
edc_zeros zero n = refl
edc_zeros (suc m) zero = refl
edc_zeros (suc m) (suc n) =
    let z : 0 < 256 = omega arith in
    ap (λ (x : ℕ). edc x (take m (replicate n 0))) (fed_xor 8 0 0 z ∙ shifts_empty 8) ∙ edc_zeros m n

-- one more byte of s behind the zeros
pub pad_next : (s b : List ℕ) (i m : ℕ) → i < length s → m < length b
    → edc (edc 0 (take (m + 1) (set b m (get_or s i 0)))) (drop (i + 1) s) ≡ edc (edc 0 (take m b)) (drop i s)
unfolding edc
pad_next s b i m hi hm =
    ap (λ (l : List ℕ). edc (edc 0 l) (drop (i + 1) s)) (ap (λ (n : ℕ). take n (set b m (get_or s i 0))) (add-one m) ∙ take-suc-set b m (get_or s i 0) hm)
    ∙ ap (λ (x : ℕ). edc x (drop (i + 1) s)) (edc_append 0 (take m b) (get_or s i 0 ∷ []))
    ∙ sym (edc_drop s (edc 0 (take m b)) i hi)

-- the same, xored into the next of the zeros
pub pad_xored : (s b : List ℕ) (i m : ℕ) → i < length s → m < length b → get_or b m 0 ≡ 0
    → edc (edc 0 (take (m + 1) (set b m (bit_xor (get_or b m 0) (get_or s i 0))))) (drop (i + 1) s) ≡ edc (edc 0 (take m b)) (drop i s)
pad_xored s b i m hi hm z =
    ap (λ (x : ℕ). edc (edc 0 (take (m + 1) (set b m (bit_xor x (get_or s i 0))))) (drop (i + 1) s)) z ∙ pad_next s b i m hi hm
