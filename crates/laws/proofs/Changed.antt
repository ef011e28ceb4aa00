-- A list in which one element was changed, and its windows, `take w (drop a l)`: a window away from it stays, and one that holds it differs. So it is
-- with the test that a window is some list. Assumes nothing.
use Prim.Native.Nat.{ℕ, ◌+◌, ◌-◌, ◌<◌, ◌≤◌}
use mathlib.Core.Path.{◌≡◌, sym, ◌∙◌, ap}
use mathlib.Core.Bool.{true, false}
use mathlib.Core.List.{List}
use mathlib.Core.Logic.{◌⊎◌, inl, inr}
use native.Mathlib.Omega.{arith}
use lib.ListN.{length, take, drop, get_or, set}
use lib.Seq.{drop-set-lt, drop-set-add, take-set-le, get_or-set_same}
use Rattle.laws.specs.Same.{same}
use Rattle.laws.proofs.Same.{same_is, not_same}
use Rattle.laws.proofs.Window.{get_d_window}

module _ (a w k v : ℕ) (l : List ℕ) where
  pub window_away : (k < a) ⊎ (a + w ≤ k) → take w (drop a (set l k v)) ≡ take w (drop a l)
  window_away (inl before) = ap (take w) (drop-set-lt a l k v before)
  window_away (inr behind) =
      let place : k ≡ a + (k - a) = omega arith in
      let past : w ≤ k - a = omega arith in
      ap (λ (i : ℕ). take w (drop a (set l i v))) place ∙ ap (take w) (drop-set-add a l (k - a) v) ∙ take-set-le w (drop a l) (k - a) v past

  -- what is left of the list behind a place before it
  pub drop_changed : a ≤ k → drop a (set l k v) ≡ set (drop a l) (k - a) v
  drop_changed from = let place : k ≡ a + (k - a) = omega arith in ap (λ (i : ℕ). drop a (set l i v)) place ∙ drop-set-add a l (k - a) v

  pub window_differs : a ≤ k → k < a + w → k < length l → (v ≡ get_or l k 0 → ⊥) → take w (drop a (set l k v)) ≡ take w (drop a l) → ⊥
  window_differs from to inside new e =
      let place : a + (k - a) ≡ k = omega arith in
      let here : k - a < w = omega arith in
      let at : (x : List ℕ) → get_or (take w (drop a x)) (k - a) 0 ≡ get_or x k 0 = λ (x : List ℕ).
      get_d_window a w (k - a) 0 x here ∙ ap (λ (i : ℕ). get_or x i 0) place in
      new (sym (get_or-set_same l k v 0 inside) ∙ sym (at (set l k v)) ∙ ap (λ (x : List ℕ). get_or x (k - a) 0) e ∙ at l)

  -- the test
  pub same_away : (xs : List ℕ) → (k < a) ⊎ (a + w ≤ k) → same (take w (drop a (set l k v))) xs ≡ same (take w (drop a l)) xs
  same_away xs away = ap (λ (x : List ℕ). same x xs) (window_away away)

  pub same_fails : (xs : List ℕ) → a ≤ k → k < a + w → k < length l → (v ≡ get_or l k 0 → ⊥) → same (take w (drop a l)) xs ≡ true
      → same (take w (drop a (set l k v))) xs ≡ false
  same_fails xs from to inside new held =
      not_same (take w (drop a (set l k v))) xs
      (λ (e : take w (drop a (set l k v)) ≡ xs). window_differs from to inside new (e ∙ sym (same_is (take w (drop a l)) xs held)))
