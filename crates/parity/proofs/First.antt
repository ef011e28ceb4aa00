-- The first row, as the words see it. Assumes nothing.
use mathlib.Core.Path.{◌≡◌, refl, sym, ap, ◌∙◌}
use mathlib.Core.Bool.{Bool, true, false}
use mathlib.Core.List.{List, [], ◌∷◌, ◌++◌, append-nil}
use Prim.Native.Nat.{ℕ, zero, suc, ◌+◌, ◌<◌}
use native.Mathlib.Omega.{arith}
use lib.ListN.{length, get_or, take, drop}
use Rattle.laws.specs.Listed.{listed}
use Rattle.laws.proofs.Listed.{listed_of}
use Rattle.laws.proofs.Window.{length_window, get_d_window}
use Rattle.parity.specs.Layout.{value_at}
use Rattle.parity.proofs.Places.{value_at_outside}

module _ (s : List ℕ) (size : length s ≡ 2352) where
  row_length : length (take 86 (drop 12 s)) ≡ 86
  row_length = length_window 12 86 s (omega arith)

  rest_length : length (take 82 (drop 16 s)) ≡ 82
  rest_length = length_window 16 82 s (omega arith)

  -- l is what was copied
  module _ (l : List ℕ) where
    pub as_it_is : (z : Bool) → z ≡ false → l ≡ take 86 (drop 12 s) → l ≡ listed 86 (λ k. value_at z s (12 + k))
    as_it_is true z e = absurd (mathlib.Core.Bool.false≢true (sym z))
    as_it_is false z e = e ∙ listed_of 86 (λ k. value_at false s (12 + k)) (take 86 (drop 12 s)) row_length (λ k h. get_d_window 12 86 k 0 s h)

    -- behind four zeros
    zeros_at : (k : ℕ) → k < 86 → get_or (0 ∷ 0 ∷ 0 ∷ 0 ∷ take 82 (drop 16 s)) k 0 ≡ value_at true s (12 + k)
    zeros_at zero h = refl
    zeros_at (suc zero) h = refl
    zeros_at (suc (suc zero)) h = refl
    zeros_at (suc (suc (suc zero))) h = refl
    zeros_at (suc (suc (suc (suc k)))) h =
        let place : 16 + k ≡ 12 + suc (suc (suc (suc k))) = omega arith in
        get_d_window 16 82 k 0 s (omega arith) ∙ sym (value_at_outside true s (16 + k) (omega arith)) ∙ ap (value_at true s) place

    pub with_zeros : (z : Bool) → z ≡ true → l ≡ take 82 (drop 16 s) → 0 ∷ 0 ∷ 0 ∷ 0 ∷ l ++ [] ≡ listed 86 (λ k. value_at z s (12 + k))
    with_zeros false z e = absurd (mathlib.Core.Bool.false≢true z)
    with_zeros true z e =
        ap (λ (x : List ℕ). 0 ∷ 0 ∷ 0 ∷ 0 ∷ x) (append-nil l ∙ e)
        ∙ listed_of 86 (λ k. value_at true s (12 + k)) (0 ∷ 0 ∷ 0 ∷ 0 ∷ take 82 (drop 16 s)) (ap (λ (n : ℕ). suc (suc (suc (suc n)))) rest_length) zeros_at
