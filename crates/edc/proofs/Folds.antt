-- The scales s at which x^(31s) + x^(15s) + x^(3s) + 1 is a multiple of the generator: 2 by a test of one register, of which all others
-- are made, and the double of each. Assumes nothing.
use mathlib.Core.Path.{◌≡◌, refl, sym, ap, ap₂, ◌∙◌, subst}
use mathlib.Core.Bool.{Bool, true, false, ◌&&◌}
use mathlib.Core.List.{[], ◌∷◌}
use Prim.Native.Nat.{ℕ, zero, suc, ◌+◌, ◌-◌, ◌*◌, ◌/◌, ◌%◌, ◌^◌, ◌<◌, ◌≤◌}
use native.Mathlib.Nat.{zero-mul, one-mul, mod-lt, le_refl}
use native.Mathlib.Omega.{arith}
use lib.Arith.{lt-one}
use lib.Dec.{eqb}
use lib.Pow.{split, pow_pos, pow-add, shr_lt}
use lib.Bits.{bit_xor, xor_shifted}
use borrow.Author.Tests.{eqb-true}
use Rattle.std.specs.Prelude.{if◌then◌else◌}
use Rattle.laws.proofs.Choice.{left_true, right_true}
use Rattle.laws.proofs.Xor.{past}
use Rattle.edc.specs.Edc.{feedback, feedback_is}
use Rattle.edc.specs.Fold.{shift, shifts, Folds, scale}
use Rattle.edc.proofs.Shifts.{shifts_xor, shifts_add, shifts_high, shifts_lt, shifts_empty, shifts_comm}
use Rattle.laws.proofs.Sum.{sums, op, ◌⊕◌}

-- the law at one register
abbrev At : ℕ → ℕ → Type 0
At s x = shifts (31 * s) x ≡ bit_xor (bit_xor (shifts (15 * s) x) (shifts (3 * s) x)) x

at_xor : (s x y : ℕ) → At s x → At s y → At s (bit_xor x y)
at_xor s x y hx hy =
    shifts_xor (31 * s) x y ∙ ap₂ bit_xor hx hy
    ∙ sums (shifts (15 * s) x ∷ shifts (3 * s) x ∷ x ∷ shifts (15 * s) y ∷ shifts (3 * s) y ∷ y ∷ [])
    ((op 0 ⊕ op 1 ⊕ op 2) ⊕ (op 3 ⊕ op 4 ⊕ op 5)) ((op 0 ⊕ op 3) ⊕ (op 1 ⊕ op 4) ⊕ (op 2 ⊕ op 5)) refl
    ∙ sym (ap₂ (λ (a b : ℕ). bit_xor (bit_xor a b) (bit_xor x y)) (shifts_xor (15 * s) x y) (shifts_xor (3 * s) x y))

at_shifts : (s n x : ℕ) → At s x → At s (shifts n x)
at_shifts s n x h =
    shifts_comm (31 * s) n x ∙ ap (shifts n) h
    ∙ shifts_xor n (bit_xor (shifts (15 * s) x) (shifts (3 * s) x)) x
    ∙ ap (λ (y : ℕ). bit_xor y (shifts n x)) (shifts_xor n (shifts (15 * s) x) (shifts (3 * s) x))
    ∙ ap₂ (λ (a b : ℕ). bit_xor (bit_xor a b) (shifts n x)) (shifts_comm n (15 * s) x) (shifts_comm n (3 * s) x)

at_zero : (s : ℕ) → At s 0
at_zero s =
    shifts_empty (31 * s) ∙ sym (ap₂ (λ (a b : ℕ). bit_xor (bit_xor a b) 0) (shifts_empty (15 * s)) (shifts_empty (3 * s)))

-- each bit of a register comes from its highest, and each register from its bits
module _ (s : ℕ) (top : At s (2 ^ 31)) where
  at_bit : (n q : ℕ) → n < 32 → q < 2 → At s (q * 2 ^ n)
  at_bit n zero hn hq = subst (At s) (sym (zero-mul (2 ^ n))) (at_zero s)
  at_bit n (suc zero) hn hq =
      subst (At s) (ap (shifts (31 - n)) e ∙ shifts_high (31 - n) (2 ^ n) ∙ sym (one-mul (2 ^ n))) (at_shifts s (31 - n) (2 ^ 31) top)
    where
      k : 31 ≡ n + (31 - n)
      k = omega arith

      e : 2 ^ 31 ≡ 2 ^ n * 2 ^ (31 - n)
      e = ap (λ (m : ℕ). 2 ^ m) k ∙ pow-add 2 n (31 - n)
  at_bit n (suc (suc q)) hn hq = past hq

  at_below : (n x : ℕ) → n ≤ 32 → x < 2 ^ n → At s x
  at_below zero x hn hx = subst (At s) (sym (lt-one hx)) (at_zero s)
  at_below (suc n) x hn hx =
      subst (At s) (xor_shifted (x / 2 ^ n) n (x % 2 ^ n) small ∙ split x n)
      (at_xor s (x / 2 ^ n * 2 ^ n) (x % 2 ^ n) (at_bit n (x / 2 ^ n) hn (shr_lt 1 n (subst (λ (m : ℕ). x < 2 ^ m) e hx)))
      (at_below n (x % 2 ^ n) (omega arith) small))
    where
      small : x % 2 ^ n < 2 ^ n
      small = mod-lt x (pow_pos n)

      e : suc n ≡ 1 + n
      e = omega arith

  pub folds_top : Folds s
  folds_top x h = at_below 32 x (le_refl 32) h

-- the test computes with the feedback as a numeral
unfoldable pub steps : ℕ → ℕ → ℕ → ℕ
steps p zero x = x
steps p (suc n) x = steps p n (bit_xor (x / 2) (x % 2 * p))

steps_feedback : (n x : ℕ) → steps feedback n x ≡ shifts n x
unfolding steps shift shifts
steps_feedback zero x = refl
steps_feedback (suc n) x = steps_feedback n (shift x)

pub steps_are : (n x : ℕ) → steps 0xD8018001 n x ≡ shifts n x
steps_are n x = ap (λ (p : ℕ). steps p n x) (sym feedback_is) ∙ steps_feedback n x

test : steps 0xD8018001 62 (2 ^ 31) ≡ bit_xor (bit_xor (steps 0xD8018001 30 (2 ^ 31)) (steps 0xD8018001 6 (2 ^ 31))) (2 ^ 31)
unfolding steps
test = refl

pub folds_2 : Folds 2
folds_2 =
    folds_top 2
    (sym (steps_are 62 (2 ^ 31)) ∙ test
    ∙ ap₂ (λ (a b : ℕ). bit_xor (bit_xor a b) (2 ^ 31)) (steps_are 30 (2 ^ 31)) (steps_are 6 (2 ^ 31)))

-- the square of a multiple of the generator is one
folds_double : (s : ℕ) → Folds s → Folds (2 * s)
folds_double s f x h =
    twice 31 ∙ ap (shifts (31 * s)) (f x h)
    ∙ shifts_xor (31 * s) (bit_xor a b) x ∙ ap (λ (y : ℕ). bit_xor y (shifts (31 * s) x)) (shifts_xor (31 * s) a b)
    ∙ ap₂ bit_xor (ap₂ bit_xor (f a (shifts_lt (15 * s) x h)) (f b (shifts_lt (3 * s) x h))) (f x h)
    ∙ ap (λ (y : ℕ). bit_xor (bit_xor (bit_xor (bit_xor (shifts (15 * s) a) (shifts (3 * s) a)) a) (bit_xor (bit_xor y (shifts (3 * s) b)) b)) (bit_xor (bit_xor a b) x))
    (shifts_comm (15 * s) (3 * s) x)
    ∙ sums (shifts (15 * s) a ∷ shifts (3 * s) a ∷ a ∷ shifts (3 * s) b ∷ b ∷ x ∷ [])
    ((op 0 ⊕ op 1 ⊕ op 2) ⊕ (op 1 ⊕ op 3 ⊕ op 4) ⊕ (op 2 ⊕ op 4 ⊕ op 5)) (op 0 ⊕ op 3 ⊕ op 5) refl
    ∙ sym (ap₂ (λ (y z : ℕ). bit_xor (bit_xor y z) x) (twice 15) (twice 3))
  where
    a : ℕ
    a = shifts (15 * s) x

    b : ℕ
    b = shifts (3 * s) x

    twice : (k : ℕ) → shifts (k * (2 * s)) x ≡ shifts (k * s) (shifts (k * s) x)
    twice k = ap (λ (n : ℕ). shifts n x) (e k) ∙ shifts_add (k * s) (k * s) x
      where
        e : (k : ℕ) → k * (2 * s) ≡ k * s + k * s
        e k = omega (arith, native.Mathlib.Nat.mul_left_comm k 2 s)

pub folds_of : (n s : ℕ) → scale n s ≡ true → Folds s
unfolding scale
folds_of zero s t = subst Folds (sym (eqb-true s 2 t)) folds_2
folds_of (suc n) s t = choose (folds_of n (s / 2)) (eqb s 2) refl t
  where
    half : Bool
    half = scale n (s / 2)

    choose : (half ≡ true → Folds (s / 2)) → (b : Bool) → eqb s 2 ≡ b → (if b then true else (eqb (s % 2) 0 && half)) ≡ true → Folds s
    choose f true e h = subst Folds (sym (eqb-true s 2 e)) folds_2
    choose f false e h =
        let o : s % 2 ≡ 0 = eqb-true (s % 2) 0 (left_true (eqb (s % 2) 0) half h) in
        let d : 2 * (s / 2) ≡ s = omega arith in
        subst Folds d (folds_double (s / 2) (f (right_true (eqb (s % 2) 0) half h)))
