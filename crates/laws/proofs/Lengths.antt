-- Lengths of lists: of the front and the rest, and of a list that is not empty. Assumes nothing.
use Prim.Native.Nat.{ℕ, ◌+◌, ◌-◌, ◌<◌, ◌≤◌}
use mathlib.Core.Path.{◌≡◌, refl, ap}
use mathlib.Core.List.{List, [], ◌∷◌}
use mathlib.Core.Logic.{⊎_elim}
use native.Mathlib.Omega.{arith}
use lib.ListN.{length, take}
use lib.Seq.{length-take-le, take_all}
use Rattle.laws.proofs.Wrap.{lt_or_ge}

-- also where less is there than is taken
pub length_parts : {A : Type 0} (v : ℕ) (l : List A) → length (take v l) + (length l - v) ≡ length l
length_parts v l =
    ⊎_elim
    (λ (h : v < length l). let e = length-take-le v l (omega arith) in omega arith)
    (λ (h : length l ≤ v). let e = ap length (take_all v l h) in omega arith)
    (lt_or_ge v (length l))

pub length_some : {A : Type 0} (l : List A) → (l ≡ [] → ⊥) → 1 ≤ length l
length_some [] f = absurd (f refl)
length_some (x ∷ l) f = omega arith
