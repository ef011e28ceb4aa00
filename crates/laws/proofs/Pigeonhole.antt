-- A function that takes the numbers below n to numbers below n, no two to the same, reaches each of them. Assumes nothing.
use mathlib.Core.Path.{◌≡◌, sym, ◌∙◌}
use Prim.Native.Nat.{ℕ, zero, suc, ◌<◌}
use native.Mathlib.Nat.{not-suc-le-zero, lt-suc_self}
use native.Mathlib.Omega.{arith}
use native.Mathlib.Decide.{ℕ_discrete}
use lib.Dec.{eqb}
use borrow.Author.Tests.{eq-eqb, ne_eqb}
use Rattle.std.specs.Prelude.{if◌then◌else◌}
use Rattle.laws.proofs.Choice.{if_true, if_false}

-- a number below n that f takes to a
pub record Reached (f : ℕ → ℕ) (n a : ℕ) : Type 0 where
  pub from : ℕ
  pub below : from < n
  pub reaches : f from ≡ a

abbrev pub Inside : (ℕ → ℕ) → ℕ → Type 0
Inside f n = (k : ℕ) → k < n → f k < n

abbrev pub Injective : (ℕ → ℕ) → ℕ → Type 0
Injective f n = (i j : ℕ) → i < n → j < n → f i ≡ f j → i ≡ j

-- what f takes to n is taken to f n instead: so n and f n are left out
module _ (f : ℕ → ℕ) (n : ℕ) (inside : Inside f (suc n)) (inj : Injective f (suc n)) where
  without : ℕ → ℕ
  without k = if eqb (f k) n then f n else f k

  at_top : (k : ℕ) → f k ≡ n → without k ≡ f n
  unfolding without
  at_top k e = if_true (eqb (f k) n) (f n) (f k) (eq-eqb (f k) n e)

  under_top : (k : ℕ) → (f k ≡ n → ⊥) → without k ≡ f k
  unfolding without
  under_top k e = if_false (eqb (f k) n) (f n) (f k) (ne_eqb (f k) n e)

  last_alone : (k : ℕ) → k < n → f k ≡ f n → ⊥
  last_alone k h e = let same : k ≡ n = inj k n (omega arith) (lt-suc_self n) e in omega arith

  without_inside : Inside without n
  without_inside k h =
      elim (ℕ_discrete (f k) n) [
        | yes e ↦
            (let other : f n ≡ n → ⊥ = λ (t : f n ≡ n). last_alone k h (e ∙ sym t) in
            let b : f n < suc n = inside n (lt-suc_self n) in
            omega (arith, at_top k e))
        | no e ↦ (let b : f k < suc n = inside k (omega arith) in omega (arith, under_top k e))
      ]

  without_injective : Injective without n
  without_injective i j hi hj e =
      elim (ℕ_discrete (f i) n) [
        | yes p ↦
            elim (ℕ_discrete (f j) n) [
              | yes q ↦ inj i j (omega arith) (omega arith) (p ∙ sym q)
              | no q ↦ absurd (last_alone j hj (sym (under_top j q) ∙ sym e ∙ at_top i p))
            ]
        | no p ↦
            elim (ℕ_discrete (f j) n) [
              | yes q ↦ absurd (last_alone i hi (sym (under_top i p) ∙ e ∙ at_top j q))
              | no q ↦ inj i j (omega arith) (omega arith) (sym (under_top i p) ∙ e ∙ under_top j q)
            ]
      ]

pub pigeonhole : (n : ℕ) (f : ℕ → ℕ) → Inside f n → Injective f n → (a : ℕ) → a < n → Reached f n a
pigeonhole zero f inside inj a h = absurd (not-suc-le-zero h)
pigeonhole (suc n) f inside inj a h =
    elim (ℕ_discrete (f n) a) [
      | yes last ↦ record { from = n; below = lt-suc_self n; reaches = last }
      | no last ↦
          elim (ℕ_discrete a n) [
            | yes top ↦
                (let b : f n < suc n = inside n (lt-suc_self n) in
                let r : Reached (without f n inside inj) n (f n) =
                pigeonhole n (without f n inside inj) (without_inside f n inside inj) (without_injective f n inside inj) (f n)
                (let apart : f n ≡ n → ⊥ = λ (e : f n ≡ n). last (e ∙ sym top) in omega arith) in
                elim (ℕ_discrete (f r.from) n) [
                  | yes e ↦ record { from = r.from; below = omega (arith, r.below); reaches = e ∙ sym top }
                  | no e ↦ absurd (last_alone f n inside inj r.from r.below (sym (under_top f n inside inj r.from e) ∙ r.reaches))
                ])
            | no top ↦
                (let r : Reached (without f n inside inj) n a =
                pigeonhole n (without f n inside inj) (without_inside f n inside inj) (without_injective f n inside inj) a (omega arith) in
                elim (ℕ_discrete (f r.from) n) [
                  | yes e ↦ absurd (last (sym (at_top f n inside inj r.from e) ∙ r.reaches))
                  | no e ↦ record { from = r.from; below = omega (arith, r.below); reaches = sym (under_top f n inside inj r.from e) ∙ r.reaches }
                ])
          ]
    ]
