-- The laws of `edc` for callers: a run from what is left of it, the code's width, and its linearity in the register. Assumes nothing.
use mathlib.Core.Path.{◌≡◌, refl, sym, ap, ◌∙◌}
use mathlib.Core.List.{List, [], ◌∷◌, ◌++◌}
use Prim.Native.Nat.{ℕ, zero, suc, ◌+◌, ◌*◌, ◌/◌, ◌%◌, ◌^◌, ◌<◌, ◌≤◌}
use native.Mathlib.Numerals.{add-one}
use native.Mathlib.Omega.{arith}
use lib.ListN.{length, get_or, drop, drop_of_length-le}
use lib.Seq.{drop-cons}
use lib.Bits.{bit_xor, differ, xor_zero_r, xor_lt}
use Rattle.laws.specs.Bytes.{Bytes}
use Rattle.laws.proofs.Xor.{xor_assoc, differ_lt, odd_lt}
use Rattle.edc.specs.Edc.{feedback, feedback_is, fed1, fed, edc}
use Rattle.edc.specs.Fold.{shifts}
use Rattle.edc.proofs.Shifts.{fed_xor, shifts_xor, shifts_add}

-- a run is fed from what is left of it
pub edc_drop : (s : List ℕ) (r i : ℕ) → i < length s → edc r (drop i s) ≡ edc (fed 8 r (get_or s i 0)) (drop (i + 1) s)
unfolding edc
edc_drop s r i h = ap (edc r) (drop-cons s i 0 h) ∙ ap (λ (n : ℕ). edc (fed 8 r (get_or s i 0)) (drop n s)) (sym (add-one i))

pub edc_end : (s : List ℕ) (r i : ℕ) → length s ≤ i → edc r (drop i s) ≡ r
unfolding edc
edc_end s r i h = ap (edc r) (drop_of_length-le s h)

-- one list behind another
pub edc_append : (r : ℕ) (s t : List ℕ) → edc r (s ++ t) ≡ edc (edc r s) t
unfolding edc
edc_append r [] t = refl
edc_append r (b ∷ s) t = edc_append (fed 8 r b) s t

-- the code has 32 bits, whatever the list holds
fed1_lt : (r d : ℕ) → r < 2 ^ 32 → d < 2 → fed1 r d < 2 ^ 32
unfolding fed1
fed1_lt r d h k =
    xor_lt 32 (r / 2) (differ (r % 2) d * feedback) (omega arith) (rw feedback_is (omega (arith, differ_lt (r % 2) d (odd_lt r) k)))

pub fed_lt : (n r b : ℕ) → r < 2 ^ 32 → fed n r b < 2 ^ 32
unfolding fed
fed_lt zero r b h = h
fed_lt (suc n) r b h = fed_lt n (fed1 r (b % 2)) (b / 2) (fed1_lt r (b % 2) h (odd_lt b))

pub edc_from_lt : (r : ℕ) (s : List ℕ) → r < 2 ^ 32 → edc r s < 2 ^ 32
unfolding edc
edc_from_lt r [] h = h
edc_from_lt r (b ∷ s) h = edc_from_lt (fed 8 r b) s (fed_lt 8 r b h)

pub edc_lt : (s : List ℕ) → edc 0 s < 2 ^ 32
edc_lt s = edc_from_lt 0 s (omega arith)

-- linear in the register: the part p of it goes by itself
pub edc_xor : (p q : ℕ) (s : List ℕ) → Bytes s → edc (bit_xor p q) s ≡ bit_xor (shifts (8 * length s) p) (edc q s)
unfolding edc shifts
edc_xor p q [] h = refl
edc_xor p q (b ∷ s) h =
    ap (λ (x : ℕ). edc x s)
    (fed_xor 8 (bit_xor p q) b (h 0) ∙ ap (shifts 8) (xor_assoc p q b) ∙ shifts_xor 8 p (bit_xor q b)
    ∙ ap (bit_xor (shifts 8 p)) (sym (fed_xor 8 q b (h 0))))
    ∙ edc_xor (shifts 8 p) (fed 8 q b) s (λ i. h (suc i))
    ∙ ap (λ (x : ℕ). bit_xor x (edc (fed 8 q b) s)) (sym (shifts_add 8 (8 * length s) p) ∙ ap (λ (n : ℕ). shifts n p) e)
  where
    e : 8 + 8 * length s ≡ 8 * suc (length s)
    e = omega arith

pub edc_from : (p : ℕ) (s : List ℕ) → Bytes s → edc p s ≡ bit_xor (shifts (8 * length s) p) (edc 0 s)
edc_from p s h = ap (λ (x : ℕ). edc x s) (sym (xor_zero_r p)) ∙ edc_xor p 0 s h
