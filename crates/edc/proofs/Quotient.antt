-- The register moved on by 32 bits through the quotient of one word: the formula is linear, and tested at each bit. Assumes nothing.
use mathlib.Core.Path.{◌≡◌, sym, ap, ap₂, ◌∙◌, subst}
use mathlib.Core.Bool.{Bool, true, ◌&&◌}
use mathlib.Core.Logic.{⊎_elim}
use Prim.Native.Nat.{ℕ, zero, suc, ◌*◌, ◌/◌, ◌%◌, ◌^◌, ◌<◌}
use native.Mathlib.Omega.{arith}
use lib.Dec.{eqb}
use lib.Bits.{bit_xor}
use borrow.Author.Tests.{eqb-true}
use Rattle.laws.proofs.Choice.{left_true, right_true}
use Rattle.laws.proofs.Wrap.{lt_or_ge}
use Rattle.laws.proofs.Linear.{Linear, same, plus, low, down, agree}
use Rattle.laws.proofs.Linear as linear
use Rattle.edc.specs.Fold.{shifts, up, on}
use Rattle.edc.proofs.Shifts.{shifts_xor}
use Rattle.edc.proofs.Folds.{steps, steps_are}

-- `up` and `on` as they compute
abbrev raised : ℕ → ℕ → ℕ
raised k x = x * 2 ^ k % 2 ^ 64

abbrev beside : ℕ → ℕ → ℕ
beside k x = bit_xor x (raised k x)

beside_linear : (k : ℕ) (g : ℕ → ℕ) → Linear g → Linear (λ q. beside k (g q))
beside_linear k g h = plus g (λ q. raised k (g q)) h (linear.up k g h)

-- the formula: the quotient with 32 bits, by the inverse, and what the generator times it has above them. The numbers of places are the
-- code's own, so that it is these that are tested
module _ (k₁ k₂ k₃ k₄ k₅ k₆ k₇ k₈ k₉ k₁₀ : ℕ) where
  abbrev a : ℕ → ℕ
  a q = beside k₁ q

  abbrev c : ℕ → ℕ
  c q = beside k₃ (beside k₂ (a q))

  abbrev e : ℕ → ℕ
  e q = bit_xor (bit_xor (beside k₄ (c q)) (raised k₅ (a q))) (raised k₆ q) % 2 ^ 32

  abbrev f : ℕ → ℕ
  f q = bit_xor (bit_xor (beside k₇ (e q)) (raised k₈ (e q))) (raised k₉ (e q))

  abbrev out : ℕ → ℕ
  out q = beside k₁₀ (f q) / 2 ^ 32

  out_linear : Linear out
  out_linear = down 32 (λ q. beside k₁₀ (f q)) (beside_linear k₁₀ f hf)
    where
      ha : Linear a
      ha = beside_linear k₁ (λ q. q) same

      hc : Linear c
      hc = beside_linear k₃ (λ q. beside k₂ (a q)) (beside_linear k₂ a ha)

      he : Linear e
      he =
          low 32 (λ q. bit_xor (bit_xor (beside k₄ (c q)) (raised k₅ (a q))) (raised k₆ q))
          (plus (λ q. bit_xor (beside k₄ (c q)) (raised k₅ (a q))) (λ q. raised k₆ q)
          (plus (λ q. beside k₄ (c q)) (λ q. raised k₅ (a q)) (beside_linear k₄ c hc) (linear.up k₅ a ha)) (linear.up k₆ (λ q. q) same))

      hf : Linear f
      hf =
          plus (λ q. bit_xor (beside k₇ (e q)) (raised k₈ (e q))) (λ q. raised k₉ (e q))
          (plus (λ q. beside k₇ (e q)) (λ q. raised k₈ (e q)) (beside_linear k₇ e he) (linear.up k₈ e he)) (linear.up k₉ e he)

  -- the test at each bit below n
  unfoldable pub right : ℕ → Bool
  right zero = true
  right (suc n) = eqb (out (2 ^ n)) (steps 0xD8018001 32 (2 ^ n)) && right n

  right_at : (n k : ℕ) → right n ≡ true → k < n → out (2 ^ k) ≡ shifts 32 (2 ^ k)
  unfolding right
  right_at zero k t h = let z : ⊥ = omega arith in absurd z
  right_at (suc n) k t h =
      ⊎_elim (λ l. right_at n k (right_true (eqb (out (2 ^ n)) (steps 0xD8018001 32 (2 ^ n))) (right n) t) l)
      (λ g. let i : k ≡ n = omega arith in
      subst (λ (m : ℕ). out (2 ^ m) ≡ shifts 32 (2 ^ m)) (sym i)
      (eqb-true (out (2 ^ n)) (steps 0xD8018001 32 (2 ^ n)) (left_true (eqb (out (2 ^ n)) (steps 0xD8018001 32 (2 ^ n))) (right n) t) ∙ steps_are 32 (2 ^ n)))
      (lt_or_ge k n)

  -- the code's results one after another
  pub out_is : (q r₁ r₂ r₃ r₄ r₅ r₆ w r₇ r₈ r₉ r₁₀ : ℕ) → r₁ ≡ on k₁ q → r₂ ≡ on k₂ r₁ → r₃ ≡ on k₃ r₂ → r₄ ≡ on k₄ r₃ → r₅ ≡ up k₅ r₁ → r₆ ≡ up k₆ q
      → w ≡ bit_xor (bit_xor r₄ r₅) r₆ % 2 ^ 32 → r₇ ≡ on k₇ w → r₈ ≡ up k₈ w → r₉ ≡ up k₉ w
      → r₁₀ ≡ on k₁₀ (bit_xor (bit_xor r₇ r₈) r₉) → q < 2 ^ 32 → right 32 ≡ true → r₁₀ / 2 ^ 32 ≡ shifts 32 q
  unfolding on up
  out_is q r₁ r₂ r₃ r₄ r₅ r₆ w r₇ r₈ r₉ r₁₀ e₁ e₂ e₃ e₄ e₅ e₆ cut e₇ e₈ e₉ e₁₀ h t =
      ap (λ (x : ℕ). x / 2 ^ 32) (e₁₀ ∙ ap (on k₁₀) (ap₂ bit_xor (ap₂ bit_xor (e₇ ∙ ap (on k₇) d) (e₈ ∙ ap (up k₈) d)) (e₉ ∙ ap (up k₉) d)))
      ∙ agree out (shifts 32) out_linear (shifts_xor 32) 32 (λ k l. right_at 32 k t l) q h
    where
      d : w ≡ e q
      d =
          cut ∙ ap (λ (x : ℕ). x % 2 ^ 32)
          (ap₂ bit_xor (ap₂ bit_xor (e₄ ∙ ap (on k₄) (e₃ ∙ ap (on k₃) (e₂ ∙ ap (on k₂) e₁))) (e₅ ∙ ap (up k₅) e₁)) e₆)
