-- The laws of xored lists and of scrambled sectors. Assumes nothing.
use mathlib.Core.Path.{◌≡◌, refl, sym, ap, ap₂, ◌∙◌}
use mathlib.Core.List.{List, [], ◌∷◌, ◌++◌}
use Prim.Native.Nat.{ℕ, zero, suc, ◌+◌, ◌<◌}
use native.Mathlib.Nat.{le_of_suc-le-suc, not-suc-le-zero}
use native.Mathlib.Omega.{arith}
use lib.ListN.{length, take, drop, get_or, length-append, length-drop, take-append-drop}
use lib.Seq.{length-take-le, take_at, drop_at, get_or-drop, ext_get_or}
use Rattle.std.proofs.lemmas.List.{get_or-take}
use lib.Bits.{bit_xor}
use Rattle.laws.specs.Bytes.{Bytes}
use Rattle.laws.proofs.Bytes.{bytes_of, bytes_cons, bytes_append, bytes_take, bytes_drop, xor_byte}
use Rattle.laws.proofs.Xor.{xor_cancel}
use Rattle.scramble.specs.Table.{table}
use Rattle.scramble.specs.Scramble.{xored, scrambled}

pub xored_twice : (xs ks : List ℕ) → xored (xored xs ks) ks ≡ xs
unfolding xored
xored_twice [] ks = refl
xored_twice (x ∷ xs) [] = refl
xored_twice (x ∷ xs) (k ∷ ks) = ap₂ (λ (y : ℕ) (ys : List ℕ). y ∷ ys) (xor_cancel x k) (xored_twice xs ks)

pub length_xored : (xs ks : List ℕ) → length (xored xs ks) ≡ length xs
unfolding xored
length_xored [] ks = refl
length_xored (x ∷ xs) [] = refl
length_xored (x ∷ xs) (k ∷ ks) = ap suc (length_xored xs ks)

pub getD_xored : (xs ks : List ℕ) (j : ℕ) → j < length xs → j < length ks → bit_xor (get_or xs j 0) (get_or ks j 0) ≡ get_or (xored xs ks) j 0
unfolding xored
getD_xored [] ks j h k = absurd (not-suc-le-zero h)
getD_xored (x ∷ xs) [] j h k = absurd (not-suc-le-zero k)
getD_xored (x ∷ xs) (y ∷ ks) zero h k = refl
getD_xored (x ∷ xs) (y ∷ ks) (suc j) h k = getD_xored xs ks j (le_of_suc-le-suc h) (le_of_suc-le-suc k)

pub bytes_xored : (xs ks : List ℕ) → Bytes xs → Bytes ks → Bytes (xored xs ks)
unfolding xored
bytes_xored [] ks hx hk = hx
bytes_xored (x ∷ xs) [] hx hk = hx
bytes_xored (x ∷ xs) (k ∷ ks) hx hk =
    bytes_cons (bit_xor x k) (xored xs ks) (xor_byte x k (hx 0) (hk 0)) (bytes_xored xs ks (λ (j : ℕ). hx (suc j)) (λ (j : ℕ). hk (suc j)))

pub length_table : length table ≡ 2340
unfolding table
length_table = refl

pub bytes_table : Bytes table
unfolding table
bytes_table = bytes_of table refl

module _ (s : List ℕ) (full : length s ≡ 2352) where
  front : length (take 12 s) ≡ 12
  front = length-take-le 12 s (omega arith)

  pub scrambled_twice : scrambled (scrambled s) ≡ s
  unfolding scrambled
  scrambled_twice =
      ap₂ (λ (a b : List ℕ). a ++ xored b table) (take_at (take 12 s) (xored (drop 12 s) table) 12 front) (drop_at (take 12 s) (xored (drop 12 s) table) 12 front)
      ∙ ap (λ (l : List ℕ). take 12 s ++ l) (xored_twice (drop 12 s) table) ∙ take-append-drop 12 s

  pub length_scrambled : length (scrambled s) ≡ 2352
  unfolding scrambled
  length_scrambled = simp (length-append, length_xored, length-drop) (omega (arith, front))

  pub sync_scrambled : take 12 (scrambled s) ≡ take 12 s
  unfolding scrambled
  sync_scrambled = take_at (take 12 s) (xored (drop 12 s) table) 12 front

pub bytes_scrambled : (s : List ℕ) → Bytes s → Bytes (scrambled s)
unfolding scrambled
bytes_scrambled s h =
    bytes_append (take 12 s) (xored (drop 12 s) table) (bytes_take 12 s h) (bytes_xored (drop 12 s) table (bytes_drop 12 s h) bytes_table)

-- a sector whose sync bytes are those of s, and whose others are those of s xored with the table, is s scrambled
module _ (s d : List ℕ) (full : length s ≡ 2352) (size : length d ≡ 2352) (sync : (k : ℕ) → k < 12 → get_or d k 0 ≡ get_or s k 0)
    (done : (k : ℕ) → k < 2340 → get_or d (12 + k) 0 ≡ bit_xor (get_or s (12 + k) 0) (get_or table k 0)) where
  same_sync : take 12 d ≡ take 12 s
  same_sync =
      ext_get_or 0 (take 12 d) (take 12 s) (front d size ∙ sym (front s full))
      (λ k h. let l : k < 12 = omega (arith, front d size) in get_or-take 12 d k 0 l ∙ sync k l ∙ sym (get_or-take 12 s k 0 l))

  same_rest : drop 12 d ≡ xored (drop 12 s) table
  same_rest =
      ext_get_or 0 (drop 12 d) (xored (drop 12 s) table) (simp (length_xored, length-drop) (omega arith))
      (λ k h.
      let l : k < 2340 = omega (arith, length-drop 12 d) in
      get_or-drop 12 d k 0 ∙ done k l ∙ ap (λ (x : ℕ). bit_xor x (get_or table k 0)) (sym (get_or-drop 12 s k 0))
      ∙ getD_xored (drop 12 s) table k (omega (arith, length-drop 12 s)) (omega (arith, length_table)))

  pub scrambled_is : d ≡ scrambled s
  unfolding scrambled
  scrambled_is = sym (take-append-drop 12 d) ∙ ap₂ (λ (a b : List ℕ). a ++ b) same_sync same_rest
