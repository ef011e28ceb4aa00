-- Tests joined by `&&`, `||` and `not`, and the facts that they are made of. Assumes nothing.
use mathlib.Core.Path.{◌≡◌, refl, sym, ◌∙◌}
use mathlib.Core.Bool.{Bool, true, false, ◌&&◌, ◌||◌, not, false≢true}
use mathlib.Core.Logic.{◌⊎◌, inl, inr}
use Prim.Native.Nat.{ℕ, ◌<◌, ◌≤◌}
use lib.Dec.{leb, ltb}
use borrow.Author.Tests.{leb-false, ltb-false}
use Rattle.std.specs.Prelude.{if◌then◌else◌}
use Rattle.laws.specs.Numbers.{weight}
use Rattle.laws.proofs.Choice.{left_true, right_true}

pub clash : {P : Type 0} (b : Bool) → b ≡ false → b ≡ true → P
clash b no_b yes_b = absurd (false≢true (sym no_b ∙ yes_b))

pub contra : (a b : Bool) → (a ≡ true → b ≡ true) → b ≡ false → a ≡ false
contra true b h e = absurd (false≢true (sym e ∙ h refl))
contra false b h e = refl

pub unless : (a b : Bool) → (a ≡ true → b ≡ false) → b ≡ true → a ≡ false
unless true b h e = absurd (false≢true (sym (h refl) ∙ e))
unless false b h e = refl

pub and3 : (a b c : Bool) → (a && b && c) ≡ true → (a ≡ true) × (b ≡ true) × (c ≡ true)
and3 a b c h = let ab = left_true (a && b) c h in (left_true a b ab, right_true a b ab, right_true (a && b) c h)

pub and4 : (a b c d : Bool) → (a && b && c && d) ≡ true → (a ≡ true) × (b ≡ true) × (c ≡ true) × (d ≡ true)
and4 a b c d h =
    let abc = and3 a b c (left_true (a && b && c) d h) in
    (abc.0, abc.1, abc.2, right_true (a && b && c) d h)

pub true3 : (a b c : Bool) → a ≡ true → b ≡ true → c ≡ true → (a && b && c) ≡ true
true3 a b c p q r = simp (p, q, r)

pub or_true : (a b : Bool) → (a || b) ≡ true → (a ≡ true) ⊎ (b ≡ true)
or_true true b h = inl refl
or_true false b h = inr h

pub or_left : (a b : Bool) → a ≡ true → (a || b) ≡ true
or_left a b p = simp p

pub or_first : (a b : Bool) → b ≡ false → a ≡ (a || b)
or_first true b e = refl
or_first false b e = sym e

pub and_last : (a b : Bool) → a ≡ true → (a && b) ≡ b
and_last true b e = refl
and_last false b e = absurd (false≢true e)

pub or_right : (a b : Bool) → b ≡ true → (a || b) ≡ true
or_right true b p = refl
or_right false b p = p

pub or_false : (a b : Bool) → (a || b) ≡ false → (a ≡ false) × (b ≡ false)
or_false true b h = absurd (false≢true (sym h))
or_false false b h = (refl, h)

pub both_false : (a b : Bool) → a ≡ false → b ≡ false → (a || b) ≡ false
both_false a b p q = simp (p, q)

-- `not a || b` says that b holds when a does
pub when_true : (a b : Bool) → (not a || b) ≡ true → a ≡ true → b ≡ true
when_true true b h e = h
when_true false b h e = absurd (false≢true e)

pub true_when : (a b : Bool) → (a ≡ true → b ≡ true) → (not a || b) ≡ true
true_when true b h = h refl
true_when false b h = refl

-- as if_case, the test turned round
pub if_not : {A : Type 0} (P : A → Type 0) (b : Bool) (x y : A) → (b ≡ false → P x) → (b ≡ true → P y) → P (if not b then x else y)
if_not P true x y f g = g refl
if_not P false x y f g = f refl

-- a switch that is off weighs nothing
pub weightless : (b : Bool) (w : ℕ) → b ≡ false → weight b w ≡ 0
weightless b w h = simp h

-- a switch that was not set is set exactly where it is set by something
pub exactly : (inside was is : Bool) → (inside ≡ true → was ≡ false → is ≡ true) → (inside ≡ false → is ≡ was) → was ≡ false → is ≡ inside
exactly true was is set_by stays unset = set_by refl unset
exactly false was is set_by stays unset = stays refl ∙ unset

-- outside of a run of numbers
pub out_of_run : (a b k : ℕ) → (leb a k && ltb k b) ≡ false → (k < a) ⊎ (b ≤ k)
out_of_run a b k e = by (leb a k) refl e
  where
    by : (t : Bool) → leb a k ≡ t → (t && ltb k b) ≡ false → (k < a) ⊎ (b ≤ k)
    by true f g = inr (ltb-false k b g)
    by false f g = inl (leb-false a k f)
