-- A sector with one byte changed, as the words see it; and where each byte stands in them. Assumes nothing.
use mathlib.Core.Path.{◌≡◌, refl, sym, ap, ap₂, ◌∙◌}
use mathlib.Core.Bool.{Bool, true, false, ◌&&◌}
use mathlib.Core.List.{List}
use mathlib.Core.Logic.{⊎_elim}
use Prim.Native.Nat.{ℕ, zero, suc, ◌+◌, ◌*◌, ◌-◌, ◌/◌, ◌%◌, ◌<◌, ◌≤◌}
use native.Mathlib.Omega.{arith}
use native.Mathlib.Decide.{ℕ_discrete}
use lib.Bits.{bit_xor}
use lib.Dec.{eqb, leb, ltb}
use lib.ListN.{length, get_or, set}
use lib.Seq.{get_or-set_same, get_or-set_other}
use borrow.Author.Tests.{le-leb, lt-ltb, eq-eqb}
use Rattle.laws.proofs.Choice.{both_true, right_true, right_false, if_true, if_false, if_case}
use Rattle.laws.proofs.Listed.{below_at, below_all, below_same, below_fails}
use Rattle.laws.proofs.Wrap.{lt_or_ge}
use Rattle.parity.specs.Field.{product, power}
use Rattle.parity.specs.Word.{sum, weighted, holds}
use Rattle.parity.proofs.FieldLaws.{product_zero_r}
use Rattle.parity.specs.Layout.{Code, p, q, place, value_at, word}
use Rattle.parity.specs.Parity.{code_holds, parity_holds}
use Rattle.parity.specs.Claims.{DifferAt, Once}
use Rattle.parity.proofs.WordLaws.{holds_same, off_fails}
use Rattle.parity.proofs.Places.{p_apart, q_apart, p_cover, q_cover, q_cover_tail, q_word, q_position, value_at_same}

pub in_p : (k : ℕ) → 12 ≤ k → k < 2248 → Once p k
unfolding p
in_p k h l =
    record {
      of_word = (k - 12) % 86;
      at = (k - 12) / 86;
      word_below = omega arith;
      at_below = omega arith;
      there = p_cover k h;
      only = λ v m hv e. p_apart v ((k - 12) % 86) m ((k - 12) / 86) hv (omega arith) (e ∙ sym (p_cover k h));
    }

pub in_q : (k : ℕ) → 12 ≤ k → k < 2352 → Once q k
unfolding q
in_q k h l =
    ⊎_elim
    (λ (rows : k < 2248).
    record {
      of_word = q_word k;
      at = q_position k;
      word_below = omega arith;
      at_below = omega arith;
      there = q_cover k h rows;
      only = λ v m hv e. q_apart v (q_word k) m (q_position k) hv (omega arith) (e ∙ sym (q_cover k h rows));
    })
    (λ (tail : 2248 ≤ k).
    record {
      of_word = (k - 2248) % 52;
      at = 43 + (k - 2248) / 52;
      word_below = omega arith;
      at_below = omega arith;
      there = q_cover_tail k tail l;
      only = λ v m hv e. q_apart v ((k - 2248) % 52) m (43 + (k - 2248) / 52) hv (omega arith) (e ∙ sym (q_cover_tail k tail l));
    })
    (lt_or_ge k 2248)

-- what the words see is all that counts, and they see nothing before byte 12
code_same : (c : Code) (z : Bool) (s t : List ℕ) → ((k : ℕ) → 12 ≤ k → value_at z s k ≡ value_at z t k) → code_holds c z s ≡ code_holds c z t
unfolding code_holds
code_same c z s t e =
    below_same (2 * c.words) (λ v. holds (c.data_size + 2) (word c z s v)) (λ v. holds (c.data_size + 2) (word c z t v))
    (λ v h. holds_same (c.data_size + 2) (word c z s v) (word c z t v) (λ i k. e (place c v i) (omega arith)))

parity_same : (z : Bool) (s t : List ℕ) → ((k : ℕ) → 12 ≤ k → value_at z s k ≡ value_at z t k) → parity_holds z s ≡ parity_holds z t
unfolding parity_holds
parity_same z s t e = ap₂ (λ (x y : Bool). x && y) (code_same p z s t e) (code_same q z s t e)

away : (z : Bool) (s : List ℕ) (k x j : ℕ) → (j ≡ k → ⊥) → value_at z (set s k x) j ≡ value_at z s j
away z s k x j n = value_at_same z (set s k x) s j (get_or-set_other s k j x 0 n)

pub sync_free : (z : Bool) (s : List ℕ) (k x : ℕ) → k < 12 → parity_holds z (set s k x) ≡ parity_holds z s
sync_free z s k x h = parity_same z (set s k x) s (λ j l. away z s k x j (λ (e : j ≡ k). absurd (omega arith)))

pub header_free : (s : List ℕ) (k x : ℕ) → 12 ≤ k → k < 16 → parity_holds true (set s k x) ≡ parity_holds true s
header_free s k x h l =
    parity_same true (set s k x) s
    (λ j m.
    elim (ℕ_discrete j k) [
      | yes e ↦ (let hidden : (leb 12 j && ltb j 16) ≡ true = both_true (leb 12 j) (ltb j 16) (le-leb 12 j m) (lt-ltb j 16 (omega arith)) in
          if_true (leb 12 j && ltb j 16) 0 (get_or (set s k x) j 0) hidden ∙ sym (if_true (leb 12 j && ltb j 16) 0 (get_or s j 0) hidden))
      | no e ↦ away true s k x j e
    ])

-- a byte that counts is in some Q word, which then fails
pub detected : (z : Bool) (s : List ℕ) (k x : ℕ) → length s ≡ 2352 → parity_holds z s ≡ true → 12 ≤ k → k < 2352
    → (z && (leb 12 k && ltb k 16)) ≡ false → (x ≡ get_or s k 0 → ⊥) → parity_holds z (set s k x) ≡ false
unfolding parity_holds code_holds q
detected z s k x size t h l counts new =
    right_false (code_holds p z (set s k x)) (code_holds q z (set s k x))
    (below_fails 52 (λ v. holds 45 (word q z (set s k x) v)) o.of_word o.word_below
    (off_fails 45 (word q z (set s k x) o.of_word) (word q z s o.of_word) o.at off
    (below_at 52 (λ v. holds 45 (word q z s v)) (right_true (code_holds p z s) (code_holds q z s) t) o.of_word o.word_below)))
  where
    o : Once q k
    o = in_q k h l

    here : (y : List ℕ) → word q z y o.of_word o.at ≡ get_or y k 0
    here y = ap (value_at z y) o.there ∙ if_false (z && (leb 12 k && ltb k 16)) 0 (get_or y k 0) counts

    off : DifferAt 45 (word q z (set s k x) o.of_word) (word q z s o.of_word) o.at
    off =
        record {
          inside = o.at_below;
          differs = λ e. new (sym (get_or-set_same s k x 0 (omega arith)) ∙ sym (here (set s k x)) ∙ e ∙ here s);
          else_same = λ i m n. away z s k x (place q o.of_word i) (λ e. n (o.only o.of_word i o.word_below e).1);
        }

-- of zeros every word holds
sum_zeros : (n : ℕ) (g : ℕ → ℕ) → ((i : ℕ) → g i ≡ 0) → sum n g ≡ 0
unfolding sum
sum_zeros zero g e = refl
sum_zeros (suc n) g e = ap₂ bit_xor (sum_zeros n g e) (e n)

weighted_zeros : (l n : ℕ) (g : ℕ → ℕ) → ((i : ℕ) → g i ≡ 0) → weighted l n g ≡ 0
unfolding weighted
weighted_zeros l zero g e = refl
weighted_zeros l (suc n) g e =
    ap₂ bit_xor (weighted_zeros l n g e) (ap (product (power (l - 1 - n))) (e n) ∙ product_zero_r 8 (power (l - 1 - n)))

code_zeros : (c : Code) (z : Bool) (s : List ℕ) → ((k : ℕ) → get_or s k 0 ≡ 0) → code_holds c z s ≡ true
unfolding code_holds holds
code_zeros c z s e =
    below_all (2 * c.words) (λ v. holds (c.data_size + 2) (word c z s v))
    (λ v h.
    let n = c.data_size + 2 in
    let none : (i : ℕ) → word c z s v i ≡ 0 = λ (i : ℕ). if_case (λ (x : ℕ). x ≡ 0) (z && (leb 12 (place c v i) && ltb (place c v i) 16)) 0 (get_or s (place c v i) 0) (λ t. refl) (λ t. e (place c v i)) in
    both_true (eqb (sum n (word c z s v)) 0) (eqb (weighted n n (word c z s v)) 0) (eq-eqb (sum n (word c z s v)) 0 (sum_zeros n (word c z s v) none))
    (eq-eqb (weighted n n (word c z s v)) 0 (weighted_zeros n n (word c z s v) none)))

pub all_zeros : (z : Bool) (s : List ℕ) → ((k : ℕ) → get_or s k 0 ≡ 0) → parity_holds z s ≡ true
unfolding parity_holds
all_zeros z s e = both_true (code_holds p z s) (code_holds q z s) (code_zeros p z s e) (code_zeros q z s e)
