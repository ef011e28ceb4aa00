-- A row of words whose sums stand side by side: taking in a symbol for each of them, or for those of a part. Assumes nothing.
use mathlib.Core.Path.{◌≡◌, sym, ap, ap₂, ◌∙◌, subst}
use mathlib.Core.List.{List}
use mathlib.Core.Logic.{◌⊎◌, inl, inr, ⊎_elim}
use Prim.Native.Nat.{ℕ, suc, ◌+◌, ◌-◌, ◌<◌, ◌≤◌}
use native.Mathlib.Omega.{arith}
use lib.Bits.{bit_xor}
use lib.ListN.{length, get_or, replicate, length-replicate}
use Rattle.laws.proofs.Fill.{zeros}
use Rattle.laws.proofs.Wrap.{lt_or_ge}
use Rattle.parity.specs.Field.{times_x}
use Rattle.parity.specs.Word.{sum}
use Rattle.parity.specs.Rows.{horner, Taken, AreSums}
use Rattle.parity.proofs.WordLaws.{sum_next, horner_next}

-- the same symbols under another name, and their count
pub taken_as : (x y : ℕ → ℕ) (k m n : ℕ) (a b a' b' : List ℕ) → m ≡ n → ((u : ℕ) → u < n → x u ≡ y u) → Taken x k m a b a' b' → Taken y k n a b a' b'
taken_as x y k m n a b a' b' size e t =
    record {
      size_a = t.size_a;
      size_b = t.size_b;
      plain = λ u h. t.plain u (omega arith) ∙ ap (bit_xor (get_or a (k + u) 0)) (e u h);
      weights = λ u h. t.weights u (omega arith) ∙ ap (bit_xor (times_x (get_or b (k + u) 0))) (e u h);
      others_a = λ u o. t.others_a u (same u o);
      others_b = λ u o. t.others_b u (same u o);
    }
  where
    same : (u : ℕ) → (u < k) ⊎ (k + n ≤ u) → (u < k) ⊎ (k + m ≤ u)
    same u (inl h) = inl h
    same u (inr h) = inr (omega arith)

-- sums of no symbols
pub sums_none : (g : ℕ → ℕ → ℕ) (met : ℕ → ℕ) (n : ℕ) (a b : List ℕ) → a ≡ replicate n 0 → b ≡ replicate n 0
    → ((u : ℕ) → u < n → met u ≡ 0) → AreSums g met n a b
unfolding sum horner
sums_none g met n a b ea eb none =
    record {
      size_a = ap length ea ∙ length-replicate n 0;
      size_b = ap length eb ∙ length-replicate n 0;
      plain = λ u h. ap (λ (l : List ℕ). get_or l u 0) ea ∙ zeros n u ∙ sym (ap (λ (k : ℕ). sum k (g u)) (none u h));
      weights = λ u h. ap (λ (l : List ℕ). get_or l u 0) eb ∙ zeros n u ∙ sym (ap (λ (k : ℕ). horner k (g u)) (none u h));
    }

-- one more symbol of each word of a part; the others have as many as before
module _ (g : ℕ → ℕ → ℕ) (met met' : ℕ → ℕ) (w : ℕ) (x : ℕ → ℕ) (k n : ℕ) (a b a' b' : List ℕ)
    (m : AreSums g met w a b) (t : Taken x k n a b a' b') (room : k + n ≤ w)
    (next : (u : ℕ) → u < n → (met' (k + u) ≡ suc (met (k + u))) × (x u ≡ g (k + u) (met (k + u))))
    (stay : (u : ℕ) → u < w → (u < k) ⊎ (k + n ≤ u) → met' u ≡ met u) where
  plain_in : (u : ℕ) → u < n → get_or a' (k + u) 0 ≡ sum (met' (k + u)) (g (k + u))
  plain_in u h =
      t.plain u h ∙ ap₂ bit_xor (m.plain (k + u) (omega arith)) (next u h).1 ∙ sym (sum_next (met (k + u)) (g (k + u)))
      ∙ ap (λ (i : ℕ). sum i (g (k + u))) (sym (next u h).0)

  weights_in : (u : ℕ) → u < n → get_or b' (k + u) 0 ≡ horner (met' (k + u)) (g (k + u))
  weights_in u h =
      t.weights u h ∙ ap₂ (λ (y z : ℕ). bit_xor (times_x y) z) (m.weights (k + u) (omega arith)) (next u h).1
      ∙ sym (horner_next (met (k + u)) (g (k + u))) ∙ ap (λ (i : ℕ). horner i (g (k + u))) (sym (next u h).0)

  -- what holds of the words of the part and of the others holds of all
  each : (P : ℕ → Type 0) → ((u : ℕ) → u < n → P (k + u)) → ((u : ℕ) → u < w → (u < k) ⊎ (k + n ≤ u) → P u) → (u : ℕ) → u < w → P u
  each P f h u l =
      ⊎_elim (λ (under : u < k). h u l (inl under))
      (λ (from : k ≤ u).
      ⊎_elim
      (λ (inside : u < k + n).
      let place : k + (u - k) ≡ u = omega arith in
      subst P place (f (u - k) (omega arith)))
      (λ (over : k + n ≤ u). h u l (inr over))
      (lt_or_ge u (k + n)))
      (lt_or_ge u k)

  pub sums_more : AreSums g met' w a' b'
  sums_more =
      record {
        size_a = t.size_a ∙ m.size_a;
        size_b = t.size_b ∙ m.size_b;
        plain = each (λ (u : ℕ). get_or a' u 0 ≡ sum (met' u) (g u)) plain_in
            (λ u h o. t.others_a u o ∙ m.plain u h ∙ ap (λ (i : ℕ). sum i (g u)) (sym (stay u h o)));
        weights = each (λ (u : ℕ). get_or b' u 0 ≡ horner (met' u) (g u)) weights_in
            (λ u h o. t.others_b u o ∙ m.weights u h ∙ ap (λ (i : ℕ). horner i (g u)) (sym (stay u h o)));
      }
