-- The end of a list: what is left from a place on, and a list whose end was put anew. Assumes nothing.
use mathlib.Core.Path.{◌≡◌, sym, ap, ◌∙◌}
use mathlib.Core.List.{List, ◌∷◌, ◌++◌}
use Prim.Native.Nat.{ℕ, ◌+◌, ◌-◌, ◌≤◌, ◌<◌}
use native.Mathlib.Numerals.{add-one}
use native.Mathlib.Omega.{arith}
use lib.ListN.{length, take, drop, get_or, length-append, length-drop}
use lib.Seq.{drop-cons, take-append-add, drop-append-add, length-take-le, take-append_seam, drop-append_seam}
use borrow.Rule.Slice.PartMut.{put_mid, mid_of}
use Rattle.laws.proofs.Parts.{put_rest, mid_rest}

-- what is left from a place on, one element further
pub drop_next : (xs : List ℕ) (i : ℕ) → i < length xs → drop i xs ≡ get_or xs i 0 ∷ drop (i + 1) xs
drop_next xs i h = drop-cons xs i 0 h ∙ ap (λ (n : ℕ). get_or xs i 0 ∷ drop n xs) (sym (add-one i))

-- after a call was lent the end of a list: it keeps its length
pub put_length : (l o : List ℕ) (a : ℕ) → a ≤ length l → length o ≡ length (mid_of a (length l - a) l) → length (put_mid a (length l - a) l o) ≡ length l
put_length l o a h e =
    let lt : length (take a l) ≡ a = length-take-le a l h in
    let lo : length o ≡ length l - a = e ∙ ap length (mid_rest a l) ∙ length-drop a l in
    let q : length (take a l ++ o) ≡ length l = omega (arith, lt, lo, length-append (take a l) o) in
    ap length (put_rest a l o) ∙ q

-- where the call put t at the front of that end, t follows what stood before it, and what stood behind it is there still
module _ (l t : List ℕ) (a : ℕ) (h : a ≤ length l) (o : List ℕ) (e : o ≡ t ++ drop (length t) (drop a l)) where
  put_is : put_mid a (length l - a) l o ≡ take a l ++ (t ++ drop (length t) (drop a l))
  put_is = put_rest a l o ∙ ap (λ (x : List ℕ). take a l ++ x) e

  pub take_put : take (a + length t) (put_mid a (length l - a) l o) ≡ take a l ++ t
  take_put =
      ap (take (a + length t)) put_is
      ∙ ap (λ (n : ℕ). take (n + length t) (take a l ++ (t ++ drop (length t) (drop a l)))) (sym (length-take-le a l h))
      ∙ take-append-add (take a l) (t ++ drop (length t) (drop a l)) (length t)
      ∙ ap (λ (x : List ℕ). take a l ++ x) (take-append_seam t (drop (length t) (drop a l)))

  pub drop_put : drop (a + length t) (put_mid a (length l - a) l o) ≡ drop (length t) (drop a l)
  drop_put =
      ap (drop (a + length t)) put_is
      ∙ ap (λ (n : ℕ). drop (n + length t) (take a l ++ (t ++ drop (length t) (drop a l)))) (sym (length-take-le a l h))
      ∙ drop-append-add (take a l) (t ++ drop (length t) (drop a l)) (length t)
      ∙ drop-append_seam t (drop (length t) (drop a l))
