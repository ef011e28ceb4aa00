-- Text written into a buffer at a place: what is written piece by piece is written as one. Assumes nothing.
use mathlib.Core.Path.{◌≡◌, refl, ap, ap₂, ◌∙◌}
use mathlib.Core.List.{List, [], ◌∷◌, ◌++◌}
use Prim.Native.Nat.{ℕ, ◌+◌, ◌/◌, ◌%◌, ◌<◌, ◌≤◌}
use native.Mathlib.Nat.{zero-add}
use native.Mathlib.Numerals.{add-one}
use native.Mathlib.Omega.{arith}
use lib.ListN.{length, take, drop, get_or, length-append}
use lib.Seq.{sets, sets-eq, length-sets, take-suc}
use Rattle.laws.proofs.Sets.{sets_append}
use Rattle.syntax.specs.Print.{Written, decimal}
use Rattle.syntax.proofs.Digits.{decimal_one, decimal_more}

-- nothing
pub none : {l : List ℕ} {at : ℕ} → Written l at [] l at
none = record { bytes = refl; place = omega arith }

-- ys after xs
pub then : {l m o xs ys : List ℕ} {at e f : ℕ} → Written l at xs m e → Written m e ys o f → Written l at (xs ++ ys) o f
then {l} {m} {o} {xs} {ys} {at} w v = record {
  bytes = v.bytes ∙ ap₂ (λ (k : List ℕ) (i : ℕ). sets k i ys) w.bytes w.place ∙ sets_append xs ys l at;
  place = omega (arith, length-append xs ys);
}

-- as long as it was
pub same_length : {l m xs : List ℕ} {at e : ℕ} → Written l at xs m e → length m ≡ length l
same_length {l} {m} {xs} {at} w = ap length w.bytes ∙ length-sets l at xs

-- one byte more of xs
pub more : {l m o : List ℕ} {at e f : ℕ} (xs : List ℕ) (i : ℕ) → i < length xs → Written l at (take i xs) m e → Written m e (get_or xs i 0 ∷ []) o f
    → Written l at (take (i + 1) xs) o f
more xs i h w v = rw (add-one, take-suc xs i 0 h) (then w v)

-- a number: one digit, or the rest of it and the last digit
pub one_digit : {l o : List ℕ} {at f : ℕ} (n : ℕ) → n < 10 → Written l at ((48 + n) ∷ []) o f → Written l at (decimal n) o f
one_digit n h v = rw (decimal_one n h) v

pub last_digit : {l m o : List ℕ} {at e f : ℕ} (n : ℕ) → 10 ≤ n → Written l at (decimal (n / 10)) m e → Written m e ((48 + n % 10) ∷ []) o f
    → Written l at (decimal n) o f
last_digit n h w v = rw (decimal_more n h) (then w v)

-- at the front of a buffer: what was written, and then what was there
pub at_front : {l m xs : List ℕ} {e : ℕ} → e ≤ length l → Written l 0 xs m e → (e ≡ length xs) × (m ≡ xs ++ drop (length xs) l)
at_front {l} {m} {xs} h w = (omega arith, w.bytes ∙ sets-eq xs l 0 (omega arith) ∙ ap (λ (k : ℕ). xs ++ drop k l) (zero-add (length xs)))
