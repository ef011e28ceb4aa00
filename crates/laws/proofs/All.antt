-- Tests joined by `all`: each of them is true where all are, and all are where each is. Assumes nothing.
use mathlib.Core.Path.{◌≡◌, refl}
use mathlib.Core.Bool.{Bool, true, ◌&&◌}
use mathlib.Core.List.{List, [], ◌∷◌}
use Prim.Native.Nat.{ℕ, zero, suc}
use lib.ListN.{get_or}
use Rattle.laws.specs.All.{all, all_from}
use Rattle.laws.proofs.Choice.{both_true, left_true, right_true}

first : (x : Bool) (xs : List Bool) → all_from x xs ≡ true → x ≡ true
first x [] h = h
first x (y ∷ ys) h = left_true x y (first (x && y) ys h)

others : (x : Bool) (xs : List Bool) → all_from x xs ≡ true → (i : ℕ) → get_or xs i true ≡ true
others x [] h i = refl
others x (y ∷ ys) h zero = right_true x y (first (x && y) ys h)
others x (y ∷ ys) h (suc i) = others (x && y) ys h i

-- test i of those joined; past their end there is none, and nothing is said
pub all_at : (xs : List Bool) → all xs ≡ true → (i : ℕ) → get_or xs i true ≡ true
all_at [] h i = refl
all_at (x ∷ xs) h zero = first x xs h
all_at (x ∷ xs) h (suc i) = others x xs h i

-- P, from each test's fact one after the other
abbrev pub Given : List Bool → Type 0 → Type 0
Given [] P = P
Given (x ∷ xs) P = x ≡ true → Given xs P

joined : (x : Bool) (xs : List Bool) → x ≡ true → Given xs (all_from x xs ≡ true)
joined x [] h = h
joined x (y ∷ ys) h = λ e. joined (x && y) ys (both_true x y h e)

-- `all_of (a ∷ b ∷ c ∷ []) p q r`, with p : a ≡ true and so on
pub all_of : (xs : List Bool) → Given xs (all xs ≡ true)
all_of [] = refl
all_of (x ∷ xs) = λ e. joined x xs e
