-- Words moved on by a number of bits that is no multiple of 64, and folded at a lesser scale. Assumes nothing.
use mathlib.Core.Path.{◌≡◌, refl, sym, ap, ap₂, ◌∙◌}
use mathlib.Core.List.{List, [], ◌∷◌}
use Prim.Native.Nat.{ℕ, suc, ◌+◌, ◌-◌, ◌*◌, ◌/◌, ◌%◌, ◌^◌, ◌<◌, ◌≤◌}
use native.Mathlib.Nat.{mod-lt, zero-lt-suc, lt_of_lt_of_le}
use native.Mathlib.Omega.{arith}
use lib.ListN.{length, get_or, set, length-set}
use lib.Pow.{pow_mono, shr-shr, shl-shr}
use lib.Bits.{bit_xor}
use Rattle.edc.specs.Fold.{shifts, code, along, Folds}
use Rattle.edc.proofs.Shifts.{shifts_xor, shifts_add, shifts_high, shifts_split, shifts_width}
use Rattle.laws.proofs.Sum.{sums, op, ◌⊕◌}
use Rattle.edc.proofs.Runs.{list_first, code_xor}

-- k places up is k bits sooner
pub up : (n k m x : ℕ) → m ≡ k + n → shifts m (x * 2 ^ k) ≡ shifts n x
up n k m x e = ap (λ (i : ℕ). shifts i (x * 2 ^ k)) e ∙ shifts_add k n (x * 2 ^ k) ∙ ap (shifts n) (shifts_high k x)

-- a word of which h bits go over into the next
pub parted : (m h x : ℕ) → h < 64
    → bit_xor (shifts (64 * suc m) (x * 2 ^ h % 2 ^ 64)) (shifts (64 * m) (x / 2 / 2 ^ (63 - h))) ≡ shifts (64 * suc m - h) x
parted m h x l =
    ap₂ bit_xor (whole (y % 2 ^ 64)) (ap (shifts (64 * m)) high)
    ∙ sym (shifts_xor (64 * m) (shifts 64 (y % 2 ^ 64)) (y / 2 ^ 64))
    ∙ ap (shifts (64 * m)) (sym (shifts_split 64 y)) ∙ sym (whole y) ∙ up (64 * suc m - h) h (64 * suc m) x e
  where
    y : ℕ
    y = x * 2 ^ h

    e : 64 * suc m ≡ h + (64 * suc m - h)
    e = omega arith

    whole : (z : ℕ) → shifts (64 * suc m) z ≡ shifts (64 * m) (shifts 64 z)
    whole z = let f : 64 * suc m ≡ 64 + 64 * m = omega arith in ap (λ (n : ℕ). shifts n z) f ∙ shifts_add 64 (64 * m) z

    high : x / 2 / 2 ^ (63 - h) ≡ y / 2 ^ 64
    high =
        let f : 1 + (63 - h) ≡ 64 - h = omega arith in
        let g : h + (64 - h) ≡ 64 = omega arith in
        shr-shr x 1 (63 - h) ∙ ap (λ (n : ℕ). x / 2 ^ n) f
        ∙ sym (ap (λ (n : ℕ). y / 2 ^ n) (sym g) ∙ sym (shr-shr y h (64 - h)) ∙ ap (λ (z : ℕ). z / 2 ^ (64 - h)) (shl-shr x h))

place : (i d : ℕ) → i + d / 64 + 1 < 32 → 64 * suc (31 - (i + d / 64)) - d % 64 ≡ 64 * (32 - i) - d
place i d r = omega arith

-- two stores: x is xored in d bits after the start of word i
pub put_law : (v : List ℕ) (i d x e : ℕ) → length v ≡ 32 → i + d / 64 + 1 < 32 → e ≤ i + d / 64
    → (w : List ℕ) → w ≡ set v (i + d / 64) (bit_xor (get_or v (i + d / 64) 0) (x * 2 ^ (d % 64) % 2 ^ 64))
    → code (along (set w (i + d / 64 + 1) (bit_xor (get_or w (i + d / 64 + 1) 0) (x / 2 / 2 ^ (63 - d % 64)))) e) (32 - e)
    ≡ bit_xor (code (along v e) (32 - e)) (shifts (64 * (32 - i) - d) x)
put_law v i d x e n r le w q =
    let a : e ≤ i + d / 64 + 1 = omega arith in
    let b : i + d / 64 + 1 < e + (32 - e) = omega arith in
    let c : i + d / 64 < e + (32 - e) = omega arith in
    let l : length w ≡ 32 = ap length q ∙ length-set v (i + d / 64) (bit_xor (get_or v (i + d / 64) 0) lo) ∙ n in
    let f : i + d / 64 + 1 < length w = omega arith in
    let g : i + d / 64 < length v = omega arith in
    let p : 64 * (e + (32 - e) - (i + d / 64 + 1)) ≡ 64 * (31 - (i + d / 64)) = omega arith in
    let s : 64 * (e + (32 - e) - (i + d / 64)) ≡ 64 * suc (31 - (i + d / 64)) = omega arith in
    code_xor w e (32 - e) (i + d / 64 + 1) hi a b f
    ∙ ap₂ (λ (u : List ℕ) (k : ℕ). bit_xor (code (along u e) (32 - e)) (shifts k hi)) q p
    ∙ ap (λ (y : ℕ). bit_xor y (shifts (64 * (31 - (i + d / 64))) hi))
    (code_xor v e (32 - e) (i + d / 64) lo le c g ∙ ap (λ (k : ℕ). bit_xor (code (along v e) (32 - e)) (shifts k lo)) s)
    ∙ sums (code (along v e) (32 - e) ∷ shifts (64 * suc (31 - (i + d / 64))) lo ∷ shifts (64 * (31 - (i + d / 64))) hi ∷ []) (op 0 ⊕ op 1 ⊕ op 2) (op 0 ⊕ (op 1 ⊕ op 2)) refl
    ∙ ap (bit_xor (code (along v e) (32 - e))) (parted (31 - (i + d / 64)) (d % 64) x (mod-lt d (zero-lt-suc 63)) ∙ ap (λ (k : ℕ). shifts k x) (place i d r))
  where
    lo : ℕ
    lo = x * 2 ^ (d % 64) % 2 ^ 64

    hi : ℕ
    hi = x / 2 / 2 ^ (63 - d % 64)

-- a register of which n bits are still to come, and a word
pub folded : (s n x : ℕ) → Folds s → x < 2 ^ 32 → 31 * s ≤ n
    → shifts n x ≡ bit_xor (bit_xor (shifts (n - 16 * s) x) (shifts (n - 28 * s) x)) (shifts (n - 31 * s) x)
folded s n x f h l =
    ap (λ (k : ℕ). shifts k x) e ∙ shifts_add (31 * s) (n - 31 * s) x ∙ ap (shifts (n - 31 * s)) (f x h)
    ∙ shifts_xor (n - 31 * s) (bit_xor (shifts (15 * s) x) (shifts (3 * s) x)) x
    ∙ ap (λ (y : ℕ). bit_xor y (shifts (n - 31 * s) x))
    (shifts_xor (n - 31 * s) (shifts (15 * s) x) (shifts (3 * s) x)
    ∙ ap₂ bit_xor (sym (shifts_add (15 * s) (n - 31 * s) x) ∙ ap (λ (k : ℕ). shifts k x) e₁)
    (sym (shifts_add (3 * s) (n - 31 * s) x) ∙ ap (λ (k : ℕ). shifts k x) e₂))
  where
    e : n ≡ 31 * s + (n - 31 * s)
    e = omega arith

    e₁ : 15 * s + (n - 31 * s) ≡ n - 16 * s
    e₁ = omega arith

    e₂ : 3 * s + (n - 31 * s) ≡ n - 28 * s
    e₂ = omega arith

pub folded_word : (s n x : ℕ) → Folds s → x < 2 ^ 64 → 64 + 31 * s ≤ n
    → shifts n x ≡ bit_xor (bit_xor (shifts (n - 16 * s) x) (shifts (n - 28 * s) x)) (shifts (n - 31 * s) x)
folded_word s n x f h l =
    let k : 31 * s ≤ n - 64 = omega arith in
    let b : 64 ≤ 96 = omega arith in
    first n (omega arith) ∙ folded s (n - 64) (shifts 64 x) f (shifts_width 64 x (lt_of_lt_of_le h (pow_mono b))) k
    ∙ ap₂ bit_xor (ap₂ bit_xor (later (16 * s) (omega arith)) (later (28 * s) (omega arith))) (later (31 * s) (omega arith))
  where
    first : (m : ℕ) → 64 ≤ m → shifts m x ≡ shifts (m - 64) (shifts 64 x)
    first m q = let e : m ≡ 64 + (m - 64) = omega arith in ap (λ (i : ℕ). shifts i x) e ∙ shifts_add 64 (m - 64) x

    later : (d : ℕ) → 64 + d ≤ n → shifts (n - 64 - d) (shifts 64 x) ≡ shifts (n - d) x
    later d q = let e : n - d - 64 ≡ n - 64 - d = omega arith in sym (first (n - d) (omega arith) ∙ ap (λ (i : ℕ). shifts i (shifts 64 x)) e)

-- a turn of the fold: the first word is moved to three places after it
pub turn : (v v₁ v₂ v₃ : List ℕ) (s i : ℕ) → Folds s → get_or v i 0 < 2 ^ 64 → i + 31 * s / 64 + 1 ≤ 31
    → code (along v₁ (i + 1)) (32 - (i + 1)) ≡ bit_xor (code (along v (i + 1)) (32 - (i + 1))) (shifts (64 * (32 - i) - 16 * s) (get_or v i 0))
    → code (along v₂ (i + 1)) (32 - (i + 1)) ≡ bit_xor (code (along v₁ (i + 1)) (32 - (i + 1))) (shifts (64 * (32 - i) - 28 * s) (get_or v i 0))
    → code (along v₃ (i + 1)) (32 - (i + 1)) ≡ bit_xor (code (along v₂ (i + 1)) (32 - (i + 1))) (shifts (64 * (32 - i) - 31 * s) (get_or v i 0))
    → code (along v₃ (i + 1)) (32 - (i + 1)) ≡ code (along v i) (32 - i)
turn v v₁ v₂ v₃ s i f h r e₁ e₂ e₃ =
    let k : 32 - i ≡ suc (32 - (i + 1)) = omega arith in
    let l : 64 + 31 * s ≤ 64 * (32 - i) = omega arith in
    e₃ ∙ ap (λ (y : ℕ). bit_xor y (shifts (64 * (32 - i) - 31 * s) x)) (e₂ ∙ ap (λ (y : ℕ). bit_xor y (shifts (64 * (32 - i) - 28 * s) x)) e₁)
    ∙ sums (code (along v (i + 1)) (32 - (i + 1)) ∷ shifts (64 * (32 - i) - 16 * s) x ∷ shifts (64 * (32 - i) - 28 * s) x ∷ shifts (64 * (32 - i) - 31 * s) x ∷ [])
    (op 0 ⊕ op 1 ⊕ op 2 ⊕ op 3) ((op 1 ⊕ op 2 ⊕ op 3) ⊕ op 0) refl
    ∙ ap (λ (y : ℕ). bit_xor y (code (along v (i + 1)) (32 - (i + 1)))) (sym (folded_word s (64 * (32 - i)) x f h l))
    ∙ sym (ap (code (along v i)) k ∙ list_first v i (32 - (i + 1)) ∙ ap (λ (n : ℕ). bit_xor (shifts (64 * n) x) (code (along v (i + 1)) (32 - (i + 1)))) (sym k))
  where
    x : ℕ
    x = get_or v i 0
