-- A list filled with one element. Assumes nothing.
use mathlib.Core.Path.{◌≡◌, refl, ap, ◌∙◌}
use mathlib.Core.List.{List, ◌∷◌}
use Prim.Native.Nat.{ℕ, zero, suc, ◌+◌, ◌≤◌}
use native.Mathlib.Nat.{le_of_suc-le-suc, not-suc-le-zero, zero-add, suc-add}
use lib.ListN.{take, drop, get_or, replicate}

pub zeros : (n k : ℕ) → ◌≡◌ {A = ℕ} (get_or (replicate n 0) k 0) 0
zeros zero k = refl
zeros (suc n) zero = refl
zeros (suc n) (suc k) = zeros n k

pub take_replicate : (n m x : ℕ) → n ≤ m → take n (replicate m x) ≡ replicate n x
take_replicate zero m x h = refl
take_replicate (suc n) zero x h = absurd (not-suc-le-zero h)
take_replicate (suc n) (suc m) x h = ap (λ (l : List ℕ). x ∷ l) (take_replicate n m x (le_of_suc-le-suc h))

pub drop_replicate : (n m x : ℕ) → drop n (replicate (n + m) x) ≡ replicate m x
drop_replicate zero m x = ap (λ (k : ℕ). replicate k x) (zero-add m)
drop_replicate (suc n) m x = ap (λ (k : ℕ). drop (suc n) (replicate k x)) (suc-add n m) ∙ drop_replicate n m x
