-- A sector in which P was written behind its data, and then Q: it is the one that has the parity of its data. Assumes nothing.
use mathlib.Core.Path.{◌≡◌, sym, ap, ap₂, ◌∙◌, subst⁻¹}
use mathlib.Core.Bool.{Bool}
use mathlib.Core.List.{List, ◌++◌, append_assoc, append-nil}
use Prim.Native.Nat.{ℕ, ◌+◌}
use native.Mathlib.Nat.{le_of_eq}
use native.Mathlib.Omega.{arith}
use lib.ListN.{length, take, drop, length-append, length-drop, drop_of_length-le}
use lib.Seq.{take_at, length-take-le}
use borrow.Rule.Slice.PartMut.{put_mid}
use Rattle.laws.specs.Bytes.{Bytes}
use Rattle.laws.proofs.Bytes.{bytes_append, bytes_take, bytes_drop}
use Rattle.laws.proofs.Parts.{put_part}
use Rattle.parity.specs.Layout.{p, q}
use Rattle.parity.specs.Parity.{parity_bytes, coded, with_parity}
use Rattle.parity.specs.Rows.{Summed, firsts, seconds}
use Rattle.parity.proofs.Coded.{parity_is, p_front, q_front}
use Rattle.parity.proofs.Validity.{p_placed, p_long, bytes_coded}

-- x and y are what was written, from the sums a and b of P's data and then c and d of Q's
module _ (z : Bool) (s x y a b c d : List ℕ) (size : length s ≡ 2352) (bytes : Bytes s) (p_sums : Summed p z s a b)
    (p_bytes : x ≡ firsts a b ++ seconds a b) where
  abbrev front : List ℕ
  front = take 2076 s

  abbrev with_p : List ℕ
  with_p = put_mid 2076 172 s x

  front_long : length front ≡ 2076
  front_long = length-take-le 2076 s (omega arith)

  with_p_is : with_p ≡ coded p z front ++ drop 2248 s
  unfolding p
  with_p_is =
      put_part 2076 172 s x
      ∙ ap (λ (l : List ℕ). front ++ (l ++ drop 2248 s)) (p_bytes ∙ parity_is p z s a b bytes p_sums front (p_front z s))
      ∙ sym (append_assoc front (parity_bytes p z front) (drop 2248 s))

  long : length with_p ≡ 2352
  long =
      ap length with_p_is ∙ length-append (coded p z front) (drop 2248 s)
      ∙ ap₂ (λ (m n : ℕ). m + n) (p_long z front front_long) (length-drop 2248 s) ∙ omega arith

  with_p_bytes : Bytes with_p
  with_p_bytes =
      subst⁻¹ Bytes with_p_is
      (bytes_append (coded p z front) (drop 2248 s) (bytes_coded p 2076 p_placed z front (bytes_take 2076 s bytes)) (bytes_drop 2248 s bytes))

  with_p_front : take 2248 with_p ≡ coded p z front
  with_p_front = ap (take 2248) with_p_is ∙ take_at (coded p z front) (drop 2248 s) 2248 (p_long z front front_long)

  pub written : Summed q z with_p c d → y ≡ firsts c d ++ seconds c d → put_mid 2248 104 with_p y ≡ with_parity z front
  unfolding with_parity q
  written q_sums q_bytes =
      put_part 2248 104 with_p y
      ∙ ap (λ (l : List ℕ). take 2248 with_p ++ (y ++ l)) (drop_of_length-le with_p (le_of_eq long))
      ∙ ap (λ (l : List ℕ). take 2248 with_p ++ l) (append-nil y ∙ q_bytes ∙ parity_is q z with_p c d with_p_bytes q_sums (take 2248 with_p) (q_front z with_p))
      ∙ ap (coded q z) with_p_front
