-- The lesser of a number and a quotient, found by counting down: nothing has to be divided. Assumes nothing.
use Prim.Native.Nat.{ℕ, ◌*◌, ◌/◌, ◌<◌, ◌≤◌, min}
use mathlib.Core.Path.{◌≡◌}
use native.Mathlib.Nat.{le-div_iff_mul-le}
use native.Mathlib.Omega.{arith}

-- where so many times k do not pass x, they are the lesser
pub within : (b x k : ℕ) → 0 < k → b * k ≤ x → b ≡ min b (x / k)
within b x k some h = let l : b ≤ x / k = (le-div_iff_mul-le {k = k} {x = b} {y = x} some).1 h in omega arith
