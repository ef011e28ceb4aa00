-- The last two words to one, and the last word to its register: folds at the scale 2, by halves of a word. Assumes nothing.
use mathlib.Core.Path.{◌≡◌, refl, sym, ap, ap₂, ◌∙◌}
use mathlib.Core.List.{List, [], ◌∷◌}
use Prim.Native.Nat.{ℕ, ◌+◌, ◌*◌, ◌/◌, ◌%◌, ◌^◌, ◌<◌, ◌≤◌}
use native.Mathlib.Nat.{mod-lt}
use native.Mathlib.Omega.{arith}
use lib.ListN.{get_or}
use lib.Pow.{pow_pos}
use lib.Bits.{bit_xor, xor_zero_l}
use Rattle.laws.proofs.Sum.{sums, op, ◌⊕◌}
use Rattle.edc.specs.Fold.{shifts, code, along, halved}
use Rattle.edc.proofs.Shifts.{shifts_xor, shifts_add, shifts_split}
use Rattle.edc.proofs.Folds.{folds_2}
use Rattle.edc.proofs.Moved.{up, folded}

-- the k low bits by themselves
pub cut : (n k x : ℕ) → shifts (k + n) x ≡ bit_xor (shifts (k + n) (x % 2 ^ k)) (shifts n (x / 2 ^ k))
cut n k x =
    shifts_add k n x ∙ ap (shifts n) (shifts_split k x) ∙ shifts_xor n (shifts k (x % 2 ^ k)) (x / 2 ^ k)
    ∙ ap (λ (y : ℕ). bit_xor y (shifts n (x / 2 ^ k))) (sym (shifts_add k n (x % 2 ^ k)))

-- two words to one, at the scale 2: the low half of the first goes to its high half and to the second, and then the high half
pub two : (a b h : ℕ) → h ≡ halved a → h < 2 ^ 32
    → shifts 64 (bit_xor (bit_xor (bit_xor (bit_xor (bit_xor b (a % 2 ^ 32 / 2 ^ 8)) (a % 2 ^ 32 / 2 ^ 2)) h) (h * 2 ^ 24)) (h * 2 ^ 30)) ≡ shifts 64 (bit_xor (shifts 64 a) b)
two a b h e hh =
    shifts_sum b (l / 2 ^ 8) (l / 2 ^ 2) h (h * 2 ^ 24) (h * 2 ^ 30)
    ∙ ap₂ (λ (x y : ℕ). bit_xor (bit_xor (bit_xor (bit_xor (bit_xor (shifts 64 b) (shifts 64 (l / 2 ^ 8))) (shifts 64 (l / 2 ^ 2))) (shifts 64 h)) x) y)
    (up 40 24 64 h refl) (up 34 30 64 h refl)
    ∙ sums (shifts 64 b ∷ shifts 64 (l / 2 ^ 8) ∷ shifts 64 (l / 2 ^ 2) ∷ shifts 64 h ∷ shifts 40 h ∷ shifts 34 h ∷ []) (op 0 ⊕ op 1 ⊕ op 2 ⊕ op 3 ⊕ op 4 ⊕ op 5)
    ((op 3 ⊕ op 4 ⊕ op 5) ⊕ op 1 ⊕ op 2 ⊕ op 0) refl
    ∙ ap (λ (x : ℕ). bit_xor (bit_xor (bit_xor x (shifts 64 (l / 2 ^ 8))) (shifts 64 (l / 2 ^ 2))) (shifts 64 b)) (sym (folded 2 96 h folds_2 hh n₁) ∙ high)
    ∙ sums (shifts 96 (a / 2 ^ 32) ∷ shifts 96 l ∷ shifts 72 (l % 2 ^ 8) ∷ shifts 66 (l % 2 ^ 2) ∷ shifts 64 (l / 2 ^ 8) ∷ shifts 64 (l / 2 ^ 2) ∷ shifts 64 b ∷ [])
    ((op 0 ⊕ op 1 ⊕ op 2 ⊕ op 3) ⊕ op 4 ⊕ op 5 ⊕ op 6) (((op 1 ⊕ (op 2 ⊕ op 4) ⊕ (op 3 ⊕ op 5)) ⊕ op 0) ⊕ op 6) refl
    ∙ ap₂ (λ (x y : ℕ). bit_xor (bit_xor (bit_xor (bit_xor (shifts 96 l) x) y) (shifts 96 (a / 2 ^ 32))) (shifts 64 b)) (sym (cut 64 8 l)) (sym (cut 64 2 l))
    ∙ ap (λ (x : ℕ). bit_xor (bit_xor x (shifts 96 (a / 2 ^ 32))) (shifts 64 b)) (sym (folded 2 128 l folds_2 hl n₂))
    ∙ ap (λ (x : ℕ). bit_xor x (shifts 64 b)) (sym (cut 96 32 a) ∙ shifts_add 64 64 a)
    ∙ sym (shifts_xor 64 (shifts 64 a) b)
  where
    l : ℕ
    l = a % 2 ^ 32

    hl : a % 2 ^ 32 < 2 ^ 32
    hl = mod-lt a (pow_pos 32)

    n₁ : 31 * 2 ≤ 96
    n₁ = omega arith

    n₂ : 31 * 2 ≤ 128
    n₂ = omega arith

    shifts_sum : (p q r s t u : ℕ)
        → shifts 64 (bit_xor (bit_xor (bit_xor (bit_xor (bit_xor p q) r) s) t) u)
        ≡ bit_xor (bit_xor (bit_xor (bit_xor (bit_xor (shifts 64 p) (shifts 64 q)) (shifts 64 r)) (shifts 64 s)) (shifts 64 t)) (shifts 64 u)
    shifts_sum p q r s t u = simp shifts_xor

    high : shifts 96 h ≡ bit_xor (bit_xor (bit_xor (shifts 96 (a / 2 ^ 32)) (shifts 96 l)) (shifts 72 (l % 2 ^ 8))) (shifts 66 (l % 2 ^ 2))
    high =
        ap (shifts 96) e
        ∙ shifts_xor 96 (bit_xor (bit_xor (a / 2 ^ 32) l) (l % 2 ^ 8 * 2 ^ 24)) (l % 2 ^ 2 * 2 ^ 30)
        ∙ ap₂ bit_xor
        (shifts_xor 96 (bit_xor (a / 2 ^ 32) l) (l % 2 ^ 8 * 2 ^ 24) ∙ ap₂ bit_xor (shifts_xor 96 (a / 2 ^ 32) l) (up 72 24 96 (l % 2 ^ 8) refl))
        (up 66 30 96 (l % 2 ^ 2) refl)

-- the same with shifts of words, which cut at 64 bits: no bit of the half is lost
pub two_shifted : (a b low h : ℕ) → low ≡ a % 2 ^ 32 → h ≡ halved a → h < 2 ^ 32
    → shifts 64 (bit_xor (bit_xor (bit_xor (bit_xor (bit_xor b (low / 2 ^ 8)) (low / 2 ^ 2)) h) (h * 2 ^ 24 % 2 ^ 64)) (h * 2 ^ 30 % 2 ^ 64)) ≡ shifts 64 (bit_xor (shifts 64 a) b)
two_shifted a b low h el e hh =
    ap (λ (x : ℕ). shifts 64 (bit_xor (bit_xor (bit_xor (bit_xor (bit_xor b (x / 2 ^ 8)) (x / 2 ^ 2)) h) (h * 2 ^ 24 % 2 ^ 64)) (h * 2 ^ 30 % 2 ^ 64))) el
    ∙ ap₂ (λ (x y : ℕ). shifts 64 (bit_xor (bit_xor (bit_xor (bit_xor (bit_xor b (a % 2 ^ 32 / 2 ^ 8)) (a % 2 ^ 32 / 2 ^ 2)) h) x) y)) up_24 up_30
    ∙ two a b h e hh
  where
    up_24 : h * 2 ^ 24 % 2 ^ 64 ≡ h * 2 ^ 24
    up_24 = omega arith

    up_30 : h * 2 ^ 30 % 2 ^ 64 ≡ h * 2 ^ 30
    up_30 = omega arith

-- a word's register: only its high half is left to be moved on
pub half_left : (x : ℕ) → shifts 64 x ≡ bit_xor (bit_xor (shifts 32 (halved x)) (x % 2 ^ 32 / 2 ^ 8)) (x % 2 ^ 32 / 2 ^ 2)
half_left x =
    cut 32 32 x ∙ ap (λ (y : ℕ). bit_xor y (shifts 32 (x / 2 ^ 32))) (folded 2 64 l folds_2 (mod-lt x (pow_pos 32)) n)
    ∙ ap₂ (λ (y z : ℕ). bit_xor (bit_xor (bit_xor (shifts 32 l) y) z) (shifts 32 (x / 2 ^ 32))) (shifts_split 8 l) (shifts_split 2 l)
    ∙ sums (shifts 32 l ∷ shifts 8 (l % 2 ^ 8) ∷ l / 2 ^ 8 ∷ shifts 2 (l % 2 ^ 2) ∷ l / 2 ^ 2 ∷ shifts 32 (x / 2 ^ 32) ∷ [])
    ((op 0 ⊕ (op 1 ⊕ op 2) ⊕ (op 3 ⊕ op 4)) ⊕ op 5) ((op 5 ⊕ op 0 ⊕ op 1 ⊕ op 3) ⊕ op 2 ⊕ op 4) refl
    ∙ ap (λ (y : ℕ). bit_xor (bit_xor y (l / 2 ^ 8)) (l / 2 ^ 2)) (sym high)
  where
    l : ℕ
    l = x % 2 ^ 32

    n : 31 * 2 ≤ 64
    n = omega arith

    high : shifts 32 (halved x) ≡ bit_xor (bit_xor (bit_xor (shifts 32 (x / 2 ^ 32)) (shifts 32 l)) (shifts 8 (l % 2 ^ 8))) (shifts 2 (l % 2 ^ 2))
    high =
        shifts_xor 32 (bit_xor (bit_xor (x / 2 ^ 32) l) (l % 2 ^ 8 * 2 ^ 24)) (l % 2 ^ 2 * 2 ^ 30)
        ∙ ap₂ bit_xor
        (shifts_xor 32 (bit_xor (x / 2 ^ 32) l) (l % 2 ^ 8 * 2 ^ 24) ∙ ap₂ bit_xor (shifts_xor 32 (x / 2 ^ 32) l) (up 8 24 32 (l % 2 ^ 8) refl))
        (up 2 30 32 (l % 2 ^ 2) refl)

pub code_two : (l : List ℕ) → shifts 64 (bit_xor (shifts 64 (get_or l 30 0)) (get_or l 31 0)) ≡ code (along l 30) 2
unfolding code
code_two l = ap (λ (x : ℕ). shifts 64 (bit_xor (shifts 64 x) (get_or l 31 0))) (sym (xor_zero_l (get_or l 30 0)))
