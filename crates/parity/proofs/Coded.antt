-- From the sums of a code's data to its parity bytes, and to the test that all of its words hold: for any code. Then what the rows give, for P and
-- for Q. Assumes nothing.
use mathlib.Core.Path.{◌≡◌, sym, ap, ap₂, ◌∙◌}
use mathlib.Core.Bool.{Bool, ◌&&◌}
use mathlib.Core.List.{List, ◌++◌}
use Prim.Native.Nat.{ℕ, suc, ◌+◌, ◌*◌, ◌-◌, ◌/◌, ◌%◌, ◌<◌, ◌≤◌}
use native.Mathlib.Numerals.{add-one}
use native.Mathlib.Omega.{arith}
use native.Mathlib.Decide.{dec_lt}
use lib.Bits.{bit_xor}
use lib.Dec.{eqb}
use lib.ListN.{length, get_or, take, drop, length-append}
use lib.Seq.{get_or-take, get_or-drop}
use Rattle.laws.specs.Bytes.{Bytes}
use Rattle.laws.specs.Listed.{listed, all_below}
use Rattle.laws.proofs.Listed.{length_listed, getD_listed, listed_same, below_same}
use Rattle.laws.proofs.Window.{get_d_window}
use Rattle.parity.specs.Field.{times_x, product, power}
use Rattle.parity.specs.Word.{sum, holds, first_parity, second_parity}
use Rattle.parity.specs.Layout.{Code, p, q, place, value_at, word}
use Rattle.parity.specs.Parity.{parity_bytes, code_holds}
use Rattle.parity.specs.Rows.{horner, view, AreSums, Summed, p_lane, q_lane, in_word_order, first_of_sums, firsts, seconds, fits, all_fit}
use Rattle.parity.proofs.WordLaws.{Symbols, sum_next, horner_next, sum_same, horner_same, holds_sums, first_same, second_same, weighted_data, second_of}
use Rattle.parity.proofs.RowLaws.{view_first, view_other}
use Rattle.parity.proofs.Places.{p_place, q_place, q_tail, p_inside, q_inside, value_at_outside, value_at_byte, value_at_same}

-- the two symbols from the two sums
first_is : (n : ℕ) (g : ℕ → ℕ) → Symbols g → first_of_sums (sum n g) (horner n g) ≡ first_parity n g
unfolding first_parity
first_is n g b = ap (λ (x : ℕ). product (power 230) (bit_xor x (sum n g))) (sym (weighted_data n g b))

-- and the test of a word by the sums of its data
fits_is : (n : ℕ) (g : ℕ → ℕ) → Symbols g → fits (sum n g) (horner n g) (g n) (g (suc n)) ≡ holds (suc (suc n)) g
fits_is n g b =
    ap₂ (λ (x y : ℕ). eqb x 0 && eqb y 0)
    (sym (sum_next (suc n) g ∙ ap (λ (x : ℕ). bit_xor x (g (suc n))) (sum_next n g)))
    (sym (horner_next (suc n) g ∙ ap (λ (x : ℕ). bit_xor (times_x x) (g (suc n))) (horner_next n g)))
    ∙ sym (holds_sums (suc (suc n)) g b)

pub word_bytes : (c : Code) (z : Bool) (s : List ℕ) (v : ℕ) → Bytes s → Symbols (word c z s v)
word_bytes c z s v b m = value_at_byte z s (place c v m) b

module _ (c : Code) (z : Bool) (s a b : List ℕ) (bytes : Bytes s) (m : Summed c z s a b) where
  -- its parity bytes: d has the data's bytes as s does
  module _ (d : List ℕ) (same : (v i : ℕ) → v < 2 * c.words → i < c.data_size → word c z s v i ≡ word c z d v i) where
    first_at : (v : ℕ) → v < 2 * c.words → first_of_sums (get_or a v 0) (get_or b v 0) ≡ first_parity c.data_size (word c z d v)
    first_at v h =
        ap₂ first_of_sums (m.plain v h) (m.weights v h) ∙ first_is c.data_size (word c z s v) (word_bytes c z s v bytes)
        ∙ first_same c.data_size (word c z s v) (word c z d v) (λ i k. same v i h k)

    second_at : (v : ℕ) → v < 2 * c.words
        → bit_xor (first_of_sums (get_or a v 0) (get_or b v 0)) (get_or a v 0) ≡ second_parity c.data_size (word c z d v)
    second_at v h =
        ap₂ bit_xor (first_at v h ∙ sym (first_same c.data_size (word c z s v) (word c z d v) (λ i k. same v i h k))) (m.plain v h)
        ∙ sym (second_of c.data_size (word c z s v) (word_bytes c z s v bytes))
        ∙ second_same c.data_size (word c z s v) (word c z d v) (λ i k. same v i h k)

    pub firsts_are : firsts a b ≡ listed (2 * c.words) (λ v. first_parity c.data_size (word c z d v))
    firsts_are =
        ap (λ (n : ℕ). listed n (λ v. first_of_sums (get_or a v 0) (get_or b v 0))) m.size_a
        ∙ listed_same (2 * c.words) (λ v. first_of_sums (get_or a v 0) (get_or b v 0)) (λ v. first_parity c.data_size (word c z d v)) first_at

    pub seconds_are : seconds a b ≡ listed (2 * c.words) (λ v. second_parity c.data_size (word c z d v))
    seconds_are =
        ap (λ (n : ℕ). listed n (λ v. bit_xor (first_of_sums (get_or a v 0) (get_or b v 0)) (get_or a v 0))) m.size_a
        ∙ listed_same (2 * c.words) (λ v. bit_xor (first_of_sums (get_or a v 0) (get_or b v 0)) (get_or a v 0))
        (λ v. second_parity c.data_size (word c z d v)) second_at

    pub parity_is : firsts a b ++ seconds a b ≡ parity_bytes c z d
    parity_is = ap₂ (λ (x y : List ℕ). x ++ y) firsts_are seconds_are

  -- the test: x and y are the two parity symbols of each word
  pub all_fit_is : (x y : List ℕ)
      → ((v : ℕ) → v < 2 * c.words → get_or x v 0 ≡ word c z s v c.data_size)
      → ((v : ℕ) → v < 2 * c.words → get_or y v 0 ≡ word c z s v (c.data_size + 1))
      → all_fit a b x y ≡ code_holds c z s
  unfolding code_holds
  all_fit_is x y ex ey =
      ap (λ (n : ℕ). all_below n (λ v. fits (get_or a v 0) (get_or b v 0) (get_or x v 0) (get_or y v 0))) m.size_a
      ∙ below_same (2 * c.words) (λ v. fits (get_or a v 0) (get_or b v 0) (get_or x v 0) (get_or y v 0)) (λ v. holds (c.data_size + 2) (word c z s v)) each
    where
      two : c.data_size + 2 ≡ suc (suc c.data_size)
      two = omega arith

      each : (v : ℕ) → v < 2 * c.words → fits (get_or a v 0) (get_or b v 0) (get_or x v 0) (get_or y v 0) ≡ holds (c.data_size + 2) (word c z s v)
      each v h =
          ap₂ (λ (i j : ℕ). fits i j (get_or x v 0) (get_or y v 0)) (m.plain v h) (m.weights v h)
          ∙ ap₂ (fits (sum c.data_size (word c z s v)) (horner c.data_size (word c z s v))) (ex v h)
          (ey v h ∙ ap (word c z s v) (add-one c.data_size))
          ∙ fits_is c.data_size (word c z s v) (word_bytes c z s v bytes)
          ∙ ap (λ (n : ℕ). holds n (word c z s v)) (sym two)

-- Rows

-- the first row as the words see it makes the sector as they see it
pub view_value : (z : Bool) (s : List ℕ) (k : ℕ) → 12 ≤ k → view (listed 86 (λ i. value_at z s (12 + i))) s k ≡ value_at z s k
view_value z s k h =
    elim (dec_lt k 98) [
      | yes l ↦
          (let e : 12 + (k - 12) ≡ k = omega arith in
          ap (view (listed 86 (λ i. value_at z s (12 + i))) s) (sym e) ∙ view_first (listed 86 (λ i. value_at z s (12 + i))) s (k - 12) (omega arith)
          ∙ getD_listed 86 (λ i. value_at z s (12 + i)) (k - 12) (omega arith) ∙ ap (value_at z s) e)
      | no l ↦ view_other (listed 86 (λ i. value_at z s (12 + i))) s k (omega arith) ∙ sym (value_at_outside z s k (omega arith))
    ]

module _ (z : Bool) (s first a b : List ℕ) (e : first ≡ listed 86 (λ i. value_at z s (12 + i))) where
  value_at_by : (k : ℕ) → 12 ≤ k → view first s k ≡ value_at z s k
  value_at_by k h = ap (λ (l : List ℕ). view l s k) e ∙ view_value z s k h

  p_symbol : (v m : ℕ) → p_lane (view first s) v m ≡ word p z s v m
  p_symbol v m = value_at_by (12 + 86 * m + v) (omega arith) ∙ ap (value_at z s) (sym (p_place v m))

  pub p_summed : AreSums (p_lane (view first s)) (λ u. 24) 86 a b → Summed p z s a b
  unfolding p
  p_summed t =
      record {
        size_a = t.size_a;
        size_b = t.size_b;
        plain = λ v h. t.plain v h ∙ sum_same 24 (p_lane (view first s) v) (word p z s v) (λ i k. p_symbol v i);
        weights = λ v h. t.weights v h ∙ horner_same 24 (p_lane (view first s) v) (word p z s v) (λ i k. p_symbol v i);
      }

  -- the Q word at place v, where all are in_word_order round
  abbrev turn : ℕ → ℕ
  turn v = 50 - 2 * (v / 2) + v % 2

  q_symbol : (v m : ℕ) → v < 52 → m < 43 → q_lane (view first s) (turn v) m ≡ word q z s v m
  q_symbol v m h k =
      let half : 25 - turn v / 2 ≡ v / 2 = omega arith in
      let odd : turn v % 2 ≡ v % 2 = omega arith in
      value_at_by (12 + 86 * ((25 - turn v / 2 + m) % 26) + 2 * m + turn v % 2) (omega arith)
      ∙ ap₂ (λ (x y : ℕ). value_at z s (12 + 86 * ((x + m) % 26) + 2 * m + y)) half odd ∙ ap (value_at z s) (sym (q_place v m h k))

  pub q_summed : (c d : List ℕ) → c ≡ in_word_order a → d ≡ in_word_order b → AreSums (q_lane (view first s)) (λ u. 43) 52 a b → Summed q z s c d
  unfolding q
  q_summed c d ec ed t =
      record {
        size_a = ap length ec ∙ length_listed 52 (λ v. get_or a (turn v) 0);
        size_b = ap length ed ∙ length_listed 52 (λ v. get_or b (turn v) 0);
        plain = λ v h. ap (λ (l : List ℕ). get_or l v 0) ec ∙ getD_listed 52 (λ v. get_or a (turn v) 0) v h ∙ t.plain (turn v) (omega arith)
            ∙ sum_same 43 (q_lane (view first s) (turn v)) (word q z s v) (λ i k. q_symbol v i h k);
        weights = λ v h. ap (λ (l : List ℕ). get_or l v 0) ed ∙ getD_listed 52 (λ v. get_or b (turn v) 0) v h ∙ t.weights (turn v) (omega arith)
            ∙ horner_same 43 (q_lane (view first s) (turn v)) (word q z s v) (λ i k. q_symbol v i h k);
      }

-- the parity symbols, where they stand: the first ones of all words, and behind them the second ones
module _ (c : Code) (z : Bool) (s : List ℕ) (base n v m : ℕ) (h : v < n) (l : 16 ≤ base) where
  first_behind : place c v m ≡ base + v → get_or (take n (take (n + n) (drop base s))) v 0 ≡ word c z s v m
  first_behind e =
      get_or-take n (take (n + n) (drop base s)) v 0 h ∙ get_d_window base (n + n) v 0 s (omega arith)
      ∙ sym (value_at_outside z s (base + v) (omega arith)) ∙ ap (value_at z s) (sym e)

  second_behind : place c v m ≡ base + (n + v) → get_or (drop n (take (n + n) (drop base s))) v 0 ≡ word c z s v m
  second_behind e =
      get_or-drop n (take (n + n) (drop base s)) v 0 ∙ get_d_window base (n + n) (n + v) 0 s (omega arith)
      ∙ sym (value_at_outside z s (base + (n + v)) (omega arith)) ∙ ap (value_at z s) (sym e)

pub p_first : (z : Bool) (s : List ℕ) (v : ℕ) → v < 86 → get_or (take 86 (take 172 (drop 2076 s))) v 0 ≡ word p z s v 24
p_first z s v h = first_behind p z s 2076 86 v 24 h (omega arith) (p_place v 24 ∙ omega arith)

pub p_second : (z : Bool) (s : List ℕ) (v : ℕ) → v < 86 → get_or (drop 86 (take 172 (drop 2076 s))) v 0 ≡ word p z s v 25
p_second z s v h = second_behind p z s 2076 86 v 25 h (omega arith) (p_place v 25 ∙ omega arith)

pub q_first : (z : Bool) (s : List ℕ) (v : ℕ) → v < 52 → get_or (take 52 (take 104 (drop 2248 s))) v 0 ≡ word q z s v 43
q_first z s v h = first_behind q z s 2248 52 v 43 h (omega arith) (q_tail v 43 (omega arith) ∙ omega arith)

pub q_second : (z : Bool) (s : List ℕ) (v : ℕ) → v < 52 → get_or (drop 52 (take 104 (drop 2248 s))) v 0 ≡ word q z s v 44
q_second z s v h = second_behind q z s 2248 52 v 44 h (omega arith) (q_tail v 44 (omega arith) ∙ omega arith)

-- a word's data lies in the front of the sector
pub p_front : (z : Bool) (s : List ℕ) (v i : ℕ) → v < 86 → i < 24 → word p z s v i ≡ word p z (take 2076 s) v i
p_front z s v i hv hi = value_at_same z s (take 2076 s) (place p v i) (sym (get_or-take 2076 s (place p v i) 0 (p_inside v i hv hi).1))

pub q_front : (z : Bool) (s : List ℕ) (v i : ℕ) → v < 52 → i < 43 → word q z s v i ≡ word q z (take 2248 s) v i
q_front z s v i hv hi = value_at_same z s (take 2248 s) (place q v i) (sym (get_or-take 2248 s (place q v i) 0 (q_inside v i hv hi).1))

-- Both codes

pub length_parity : (c : Code) (z : Bool) (d : List ℕ) → length (parity_bytes c z d) ≡ 2 * c.words + 2 * c.words
length_parity c z d =
    length-append (listed (2 * c.words) (λ v. first_parity c.data_size (word c z d v))) (listed (2 * c.words) (λ v. second_parity c.data_size (word c z d v)))
    ∙ ap₂ (λ (x y : ℕ). x + y) (length_listed (2 * c.words) (λ v. first_parity c.data_size (word c z d v)))
    (length_listed (2 * c.words) (λ v. second_parity c.data_size (word c z d v)))
