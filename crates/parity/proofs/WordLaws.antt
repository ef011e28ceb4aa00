-- Laws of a word, over any length: its weighted sum made symbol by symbol, what its sums depend on, and the two symbols that make it hold.
-- Assumes nothing.
use mathlib.Core.Path.{◌≡◌, refl, sym, ap, ap₂, ◌∙◌, subst⁻¹}
use mathlib.Core.Bool.{true, false, ◌&&◌}
use Prim.Native.Nat.{ℕ, zero, suc, ◌+◌, ◌-◌, ◌<◌, ◌≤◌}
use native.Mathlib.Nat.{zero-lt-suc, lt-suc_self, not-suc-le-zero}
use native.Mathlib.Omega.{arith}
use native.Mathlib.Decide.{dec_lt}
use lib.Bits.{bit_xor, xor_zero_r, xor_self, xor_comm, xor_lt}
use lib.Dec.{eqb}
use borrow.Author.Tests.{eqb-true, eq-eqb, ne_eqb}
use Rattle.laws.proofs.Xor.{xor_four, xor_assoc, xor_swap}
use Rattle.laws.proofs.Cancel.{same_of_xor, drop_left}
use Rattle.laws.proofs.Choice.{both_true, left_true, right_true, left_false}
use Rattle.parity.specs.Field.{times_x, product, power}
use Rattle.parity.specs.Rows.{horner}
use Rattle.parity.specs.Claims.{DifferAt}
use Rattle.parity.specs.Word.{sum, weighted, holds, first_parity, second_parity}
use Rattle.parity.proofs.FieldLaws.{times_x_xor, times_x_lt, scaled, scaled_xor, scaled_lt, scaled_zero, scaled_times_x}
use Rattle.parity.proofs.Powers.{product_power, scaled_back, three}

-- the symbols are bytes
abbrev pub Symbols : (ℕ → ℕ) → Type 0
Symbols g = (i : ℕ) → g i < 256

pub sum_next : (n : ℕ) (g : ℕ → ℕ) → sum (suc n) g ≡ bit_xor (sum n g) (g n)
unfolding sum
sum_next n g = refl

pub horner_next : (n : ℕ) (g : ℕ → ℕ) → horner (suc n) g ≡ bit_xor (times_x (horner n g)) (g n)
unfolding horner
horner_next n g = refl

pub sum_lt : (n : ℕ) (g : ℕ → ℕ) → Symbols g → sum n g < 256
unfolding sum
sum_lt zero g b = zero-lt-suc 255
sum_lt (suc n) g b = xor_lt 8 (sum n g) (g n) (sum_lt n g b) (b n)

pub horner_lt : (n : ℕ) (g : ℕ → ℕ) → Symbols g → horner n g < 256
unfolding horner
horner_lt zero g b = zero-lt-suc 255
horner_lt (suc n) g b = xor_lt 8 (times_x (horner n g)) (g n) (times_x_lt (horner n g) (horner_lt n g b)) (b n)

pub weighted_part : (l n : ℕ) (g : ℕ → ℕ) → Symbols g → n ≤ l → weighted l n g ≡ scaled (l - n) (horner n g)
unfolding weighted horner scaled
weighted_part l zero g b h = sym (scaled_zero (l - 0))
weighted_part l (suc n) g b h =
    ap₂ bit_xor
    (weighted_part l n g b (omega arith) ∙ ap (λ (k : ℕ). scaled k (horner n g)) more ∙ sym (scaled_times_x (l - suc n) (horner n g)))
    (product_power (l - 1 - n) (g n) (b n) ∙ ap (λ (k : ℕ). scaled k (g n)) left)
    ∙ sym (scaled_xor (l - suc n) (times_x (horner n g)) (g n))
  where
    more : l - n ≡ suc (l - suc n)
    more = omega arith

    left : l - 1 - n ≡ l - suc n
    left = omega arith

pub weighted_whole : (n : ℕ) (g : ℕ → ℕ) → Symbols g → weighted n n g ≡ horner n g
unfolding scaled
weighted_whole n g b = weighted_part n n g b (omega arith) ∙ ap (λ (k : ℕ). scaled k (horner n g)) none
  where
    none : n - n ≡ 0
    none = omega arith

-- with the two parity symbols to come
pub weighted_data : (n : ℕ) (g : ℕ → ℕ) → Symbols g → weighted (n + 2) n g ≡ times_x (times_x (horner n g))
unfolding scaled
weighted_data n g b = weighted_part (n + 2) n g b (omega arith) ∙ ap (λ (k : ℕ). scaled k (horner n g)) two
  where
    two : n + 2 - n ≡ 2
    two = omega arith

-- Holding, as two tests of sums

pub holds_sums : (n : ℕ) (g : ℕ → ℕ) → Symbols g → holds n g ≡ (eqb (sum n g) 0 && eqb (horner n g) 0)
unfolding holds
holds_sums n g b = ap (λ (x : ℕ). eqb (sum n g) 0 && eqb x 0) (weighted_whole n g b)

pub holds_of : (n : ℕ) (g : ℕ → ℕ) → Symbols g → sum n g ≡ 0 → horner n g ≡ 0 → holds n g ≡ true
holds_of n g b s w =
    holds_sums n g b ∙ both_true (eqb (sum n g) 0) (eqb (horner n g) 0) (eq-eqb (sum n g) 0 s) (eq-eqb (horner n g) 0 w)

pub holds_sum : (n : ℕ) (g : ℕ → ℕ) → holds n g ≡ true → sum n g ≡ 0
unfolding holds
holds_sum n g h = eqb-true (sum n g) 0 (left_true (eqb (sum n g) 0) (eqb (weighted n n g) 0) h)

pub holds_horner : (n : ℕ) (g : ℕ → ℕ) → Symbols g → holds n g ≡ true → horner n g ≡ 0
holds_horner n g b h = eqb-true (horner n g) 0 (right_true (eqb (sum n g) 0) (eqb (horner n g) 0) (sym (holds_sums n g b) ∙ h))

-- What the symbols at hand say is all that counts

pub sum_same : (n : ℕ) (g h : ℕ → ℕ) → ((i : ℕ) → i < n → g i ≡ h i) → sum n g ≡ sum n h
unfolding sum
sum_same zero g h e = refl
sum_same (suc n) g h e = ap₂ bit_xor (sum_same n g h (λ i k. e i (omega arith))) (e n (lt-suc_self n))

pub horner_same : (n : ℕ) (g h : ℕ → ℕ) → ((i : ℕ) → i < n → g i ≡ h i) → horner n g ≡ horner n h
unfolding horner
horner_same zero g h e = refl
horner_same (suc n) g h e = ap₂ (λ (x y : ℕ). bit_xor (times_x x) y) (horner_same n g h (λ i k. e i (omega arith))) (e n (lt-suc_self n))

weighted_same : (l n : ℕ) (g h : ℕ → ℕ) → ((i : ℕ) → i < n → g i ≡ h i) → weighted l n g ≡ weighted l n h
unfolding weighted
weighted_same l zero g h e = refl
weighted_same l (suc n) g h e =
    ap₂ (λ (x y : ℕ). bit_xor x (product (power (l - 1 - n)) y)) (weighted_same l n g h (λ i k. e i (omega arith))) (e n (lt-suc_self n))

pub holds_same : (n : ℕ) (g h : ℕ → ℕ) → ((i : ℕ) → i < n → g i ≡ h i) → holds n g ≡ holds n h
unfolding holds
holds_same n g h e = ap₂ (λ (x y : ℕ). eqb x 0 && eqb y 0) (sum_same n g h e) (weighted_same n n g h e)

pub first_same : (n : ℕ) (g h : ℕ → ℕ) → ((i : ℕ) → i < n → g i ≡ h i) → first_parity n g ≡ first_parity n h
unfolding first_parity
first_same n g h e = ap₂ (λ (x y : ℕ). product (power 230) (bit_xor x y)) (weighted_same (n + 2) n g h e) (sum_same n g h e)

pub second_same : (n : ℕ) (g h : ℕ → ℕ) → ((i : ℕ) → i < n → g i ≡ h i) → second_parity n g ≡ second_parity n h
unfolding second_parity
second_same n g h e = ap₂ bit_xor (first_same n g h e) (sum_same n g h e)

-- One symbol, at position j, is another: then the sum is, and the word no longer holds

pub sum_off : (n : ℕ) (g h : ℕ → ℕ) (j : ℕ) → DifferAt n g h j → sum n g ≡ bit_xor (sum n h) (bit_xor (g j) (h j))
unfolding sum
sum_off zero g h j o = absurd (not-suc-le-zero o.inside)
sum_off (suc n) g h j o =
    elim (dec_lt j n) [
      | yes k ↦
          (let less : DifferAt n g h j = record { inside = k; differs = o.differs; else_same = λ i l m. o.else_same i (omega arith) m } in
          ap₂ bit_xor (sum_off n g h j less) (o.else_same n (lt-suc_self n) (λ e. omega arith)) ∙ xor_swap (sum n h) (bit_xor (g j) (h j)) (h n))
      | no k ↦
          (let e : j ≡ n = omega (arith, o.inside) in
          ap₂ bit_xor (sum_same n g h (λ i l. o.else_same i (omega arith) (λ f. omega arith))) (ap g (sym e) ∙ again (g j) (h j))
          ∙ ap (λ (x : ℕ). bit_xor (sum n h) (bit_xor (h x) (bit_xor (g j) (h j)))) e ∙ sym (xor_assoc (sum n h) (h n) (bit_xor (g j) (h j))))
    ]
  where
    again : (x y : ℕ) → x ≡ bit_xor y (bit_xor x y)
    again x y = sym (xor_zero_r x) ∙ ap (bit_xor x) (sym (xor_self y)) ∙ sym (xor_assoc x y y) ∙ xor_comm (bit_xor x y) y

pub off_fails : (n : ℕ) (g h : ℕ → ℕ) (j : ℕ) → DifferAt n g h j → holds n h ≡ true → holds n g ≡ false
unfolding holds
off_fails n g h j o t =
    left_false (eqb (sum n g) 0) (eqb (weighted n n g) 0)
    (ne_eqb (sum n g) 0
    (λ (z : sum n g ≡ 0).
    o.differs (same_of_xor (g j) (h j)
    (drop_left (sum n h) (bit_xor (g j) (h j)) 0 (sym (sum_off n g h j o) ∙ z ∙ sym (holds_sum n h t) ∙ sym (xor_zero_r (sum n h)))))))

-- The two parity symbols

-- the weighted sum of data of the sums w and s and of the parity a and a + s
total : (w s a : ℕ) → bit_xor (times_x (bit_xor (times_x w) a)) (bit_xor a s) ≡ bit_xor (bit_xor (times_x (times_x w)) s) (bit_xor (times_x a) a)
total w s a = ap₂ bit_xor (times_x_xor (times_x w) a) (xor_comm a s) ∙ xor_four (times_x (times_x w)) (times_x a) s a

module _ (n : ℕ) (g : ℕ → ℕ) (b : Symbols g) where
  abbrev target : ℕ
  target = bit_xor (times_x (times_x (horner n g))) (sum n g)

  target_lt : target < 256
  target_lt =
      xor_lt 8 (times_x (times_x (horner n g))) (sum n g) (times_x_lt (times_x (horner n g)) (times_x_lt (horner n g) (horner_lt n g b))) (sum_lt n g b)

  -- from the two sums of the data
  pub first_of : first_parity n g ≡ scaled 230 target
  unfolding first_parity
  first_of = ap (λ (x : ℕ). product (power 230) (bit_xor x (sum n g))) (weighted_data n g b) ∙ product_power 230 target target_lt

  pub second_of : second_parity n g ≡ bit_xor (first_parity n g) (sum n g)
  unfolding second_parity
  second_of = refl

  pub first_lt : first_parity n g < 256
  first_lt = subst⁻¹ (λ (x : ℕ). x < 256) first_of (scaled_lt 230 target target_lt)

  pub second_lt : second_parity n g < 256
  second_lt = subst⁻¹ (λ (x : ℕ). x < 256) second_of (xor_lt 8 (first_parity n g) (sum n g) first_lt (sum_lt n g b))

  first_back : bit_xor (times_x (first_parity n g)) (first_parity n g) ≡ target
  first_back = three (first_parity n g) first_lt ∙ ap (scaled 25) first_of ∙ scaled_back 230 target (omega arith) target_lt

  pub encode_holds : g n ≡ first_parity n g → g (suc n) ≡ second_parity n g → holds (suc (suc n)) g ≡ true
  unfolding sum horner
  encode_holds p q =
      holds_of (suc (suc n)) g b
      (ap₂ (λ (x y : ℕ). bit_xor (bit_xor (sum n g) x) y) p (q ∙ second_of ∙ xor_comm (first_parity n g) (sum n g))
      ∙ xor_self (bit_xor (sum n g) (first_parity n g)))
      (ap₂ (λ (x y : ℕ). bit_xor (times_x (bit_xor (times_x (horner n g)) x)) y) p (q ∙ second_of)
      ∙ total (horner n g) (sum n g) (first_parity n g) ∙ ap (bit_xor target) first_back ∙ xor_self target)

  pub encode_only : holds (suc (suc n)) g ≡ true → (g n ≡ first_parity n g) × (g (suc n) ≡ second_parity n g)
  unfolding sum horner
  encode_only h = (first, second ∙ ap (λ (x : ℕ). bit_xor x (sum n g)) first ∙ sym second_of)
    where
      second : g (suc n) ≡ bit_xor (g n) (sum n g)
      second = sym (same_of_xor (bit_xor (sum n g) (g n)) (g (suc n)) (holds_sum (suc (suc n)) g h)) ∙ xor_comm (sum n g) (g n)

      first : g n ≡ first_parity n g
      first =
          sym (scaled_back 25 (g n) (omega arith) (b n))
          ∙ ap (scaled 230)
          (sym (three (g n) (b n))
          ∙ sym (same_of_xor target (bit_xor (times_x (g n)) (g n))
          (sym (total (horner n g) (sum n g) (g n))
          ∙ ap (bit_xor (times_x (bit_xor (times_x (horner n g)) (g n)))) (sym second)
          ∙ holds_horner (suc (suc n)) g b h)))
          ∙ sym first_of
