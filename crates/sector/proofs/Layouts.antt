-- The laws of kinds and layouts: what the three have in common, and which one is read. Assumes nothing.
use mathlib.Core.Path.{◌≡◌, refl, sym, ap, ◌∙◌}
use mathlib.Core.Bool.{Bool, true, false, true≢false}
use mathlib.Core.List.{List}
use mathlib.Core.Logic.{◌⊎◌, inl, inr, ⊎_elim}
use Prim.Native.Nat.{ℕ, ◌/◌, ◌%◌, ◌≤◌}
use native.Mathlib.Omega.{arith}
use lib.Dec.{eqb}
use lib.ListN.{get_or}
use borrow.Author.Tests.{eq-eqb, ne_eqb, eqb-true, eqb-false}
use Rattle.std.specs.Prelude.{if◌then◌else◌}
use Rattle.laws.proofs.Choice.{if_case, if_true, if_false}
use Rattle.laws.proofs.Tests.{or_right}
use Rattle.sector.specs.declared.layout.Layout.{Layout}
use Rattle.sector.specs.Layout.{form, agrees, kind_read, mode_1, form_1, form_2, layout, subheader_read, Fits}

-- what holds of the three holds of each
pub each : (P : Layout → Type 0) → P mode_1 → P form_1 → P form_2 → (k : ℕ) → P (layout k)
unfolding layout
each P one two three k =
    if_case P (eqb k 2) form_1 (if eqb k 3 then form_2 else mode_1) (λ _. two)
    (λ _. if_case P (eqb k 3) form_2 mode_1 (λ _. three) (λ _. one))

never : {P : Type 0} → true ≡ false → P
never e = absurd (true≢false e)

mode_1_fits : Fits mode_1
mode_1_fits = record {
  head = inl (refl, refl);
  covered_from = omega arith;
  covered_before = omega arith;
  user_before = omega arith;
  zeros_are = inr refl;
  inside = omega arith;
  parity_from = λ _. refl;
  no_parity = λ e. never e;
}

form_1_fits : Fits form_1
form_1_fits = record {
  head = inr (refl, refl);
  covered_from = omega arith;
  covered_before = omega arith;
  user_before = omega arith;
  zeros_are = inl refl;
  inside = omega arith;
  parity_from = λ _. refl;
  no_parity = λ e. never e;
}

form_2_fits : Fits form_2
form_2_fits = record {
  head = inr (refl, refl);
  covered_from = omega arith;
  covered_before = omega arith;
  user_before = omega arith;
  zeros_are = inl refl;
  inside = omega arith;
  parity_from = λ e. never (sym e);
  no_parity = λ _. refl;
}

pub fits : (k : ℕ) → Fits (layout k)
fits = each (λ l. Fits l) mode_1_fits form_1_fits form_2_fits

-- the code stands behind both copies of a subheader
pub code_after : (k : ℕ) → 24 ≤ (layout k).code
code_after = each (λ l. 24 ≤ l.code) (omega arith) (omega arith) (omega arith)

-- where the user bytes begin
module _ (l : Layout) (f : Fits l) where
  pub user_from : 16 ≤ l.user
  user_from = ⊎_elim (λ (e : (l.mode ≡ 1) × (l.user ≡ 16)). omega (arith, e.1)) (λ (e : (l.mode ≡ 2) × (l.user ≡ 24)). omega (arith, e.1)) f.head

  pub user_to : l.user ≤ 24
  user_to = ⊎_elim (λ (e : (l.mode ≡ 1) × (l.user ≡ 16)). omega (arith, e.1)) (λ (e : (l.mode ≡ 2) × (l.user ≡ 24)). omega (arith, e.1)) f.head

-- what only one of them has
module _ (P : Layout → Type 0) (k : ℕ) where
  by_kind : (k ≡ 2 → P form_1) → (k ≡ 3 → P form_2) → P mode_1 → P (layout k)
  unfolding layout
  by_kind two three one =
      if_case P (eqb k 2) form_1 (if eqb k 3 then form_2 else mode_1) (λ e. two (eqb-true k 2 e))
      (λ _. if_case P (eqb k 3) form_2 mode_1 (λ e. three (eqb-true k 3 e)) (λ _. one))

pub optional_kind : (k : ℕ) → (layout k).optional ≡ true → k ≡ 3
optional_kind k = by_kind (λ l. l.optional ≡ true → k ≡ 3) k (λ _ e. never (sym e)) (λ three _. three) (λ e. never (sym e))

pub wordless_kind : (k : ℕ) → (layout k).parity ≡ false → k ≡ 3
wordless_kind k = by_kind (λ l. l.parity ≡ false → k ≡ 3) k (λ _ e. never e) (λ three _. three) (λ e. never e)

pub masked_kind : (k : ℕ) → (layout k).masked ≡ true → k ≡ 2
masked_kind k = by_kind (λ l. l.masked ≡ true → k ≡ 2) k (λ two _. two) (λ _ e. never (sym e)) (λ e. never (sym e))

pub two_masked : (k : ℕ) → k ≡ 2 → (layout k).masked ≡ true
unfolding layout
two_masked k e = ap (λ (n : ℕ). (layout n).masked) e

pub three_wordless : (k : ℕ) → k ≡ 3 → (layout k).parity ≡ false
unfolding layout
three_wordless k e = ap (λ (n : ℕ). (layout n).parity) e

pub three_code : (k : ℕ) → k ≡ 3 → (layout k).code ≡ 2348
unfolding layout
three_code k e = ap (λ (n : ℕ). (layout n).code) e

-- the two forms are mode 2
module _ (x : ℕ) where
  pub form_cases : (form x ≡ 3) ⊎ (form x ≡ 2)
  form_cases = if_case (λ (n : ℕ). (n ≡ 3) ⊎ (n ≡ 2)) (eqb (x / 32 % 2) 1) 3 2 (λ _. inl refl) (λ _. inr refl)

  pub form_not_1 : form x ≡ 1 → ⊥
  form_not_1 e = ⊎_elim (λ (t : form x ≡ 3). cc) (λ (t : form x ≡ 2). cc) form_cases

  pub form_mode : ((layout (form x)).mode ≡ 2) × ((layout (form x)).user ≡ 24)
  unfolding layout
  form_mode = if_case (λ (n : ℕ). ((layout n).mode ≡ 2) × ((layout n).user ≡ 24)) (eqb (x / 32 % 2) 1) 3 2 (λ _. (refl, refl)) (λ _. (refl, refl))

-- the kind that is read, by the mode byte
module _ (s : List ℕ) where
  pub read_two : get_or s 15 0 ≡ 2 → kind_read s ≡ form (get_or s 18 0)
  unfolding kind_read
  read_two e = if_true (eqb (get_or s 15 0) 2) (form (get_or s 18 0)) 1 (eq-eqb (get_or s 15 0) 2 e)

  pub read_other : (get_or s 15 0 ≡ 2 → ⊥) → kind_read s ≡ 1
  unfolding kind_read
  read_other n = if_false (eqb (get_or s 15 0) 2) (form (get_or s 18 0)) 1 (ne_eqb (get_or s 15 0) 2 n)

  -- and back
  pub two_read : (kind_read s ≡ 1 → ⊥) → get_or s 15 0 ≡ 2
  two_read n = by (eqb (get_or s 15 0) 2) refl
    where
      by : (b : Bool) → eqb (get_or s 15 0) 2 ≡ b → get_or s 15 0 ≡ 2
      by true e = eqb-true (get_or s 15 0) 2 e
      by false e = absurd (n (read_other (eqb-false (get_or s 15 0) 2 e)))

  pub other_read : kind_read s ≡ 1 → get_or s 15 0 ≡ 2 → ⊥
  other_read one two = form_not_1 (get_or s 18 0) (sym (read_two two) ∙ one)

  -- mode 2 is the mode of the layout that is read where it is the mode byte
  pub mode_read : eqb (layout (kind_read s)).mode 2 ≡ eqb (get_or s 15 0) 2
  unfolding layout
  mode_read = by (eqb (get_or s 15 0) 2) refl
    where
      by : (b : Bool) → eqb (get_or s 15 0) 2 ≡ b → eqb (layout (kind_read s)).mode 2 ≡ b
      by true e = ap (λ (n : ℕ). eqb (layout n).mode 2) (read_two (eqb-true (get_or s 15 0) 2 e)) ∙ ap (λ (n : ℕ). eqb n 2) (form_mode (get_or s 18 0)).0
      by false e = ap (λ (n : ℕ). eqb (layout n).mode 2) (read_other (eqb-false (get_or s 15 0) 2 e))

  -- its own subheader is of its form
  pub read_agrees : agrees (kind_read s) (subheader_read s) ≡ true
  unfolding kind_read
  read_agrees =
      if_case (λ (n : ℕ). agrees n (subheader_read s) ≡ true) (eqb (get_or s 15 0) 2) (form (get_or s 18 0)) 1
      (λ _. or_right (eqb (form (get_or s 18 0)) 1) (eqb (form (get_or s 18 0)) (form (get_or s 18 0))) (eq-eqb (form (get_or s 18 0)) (form (get_or s 18 0)) refl)) (λ _. refl)
