-- A store into one block of the ring: that block, the others, the length. Assumes nothing.
use Prim.Native.Nat.{ℕ, ◌+◌, ◌*◌, ◌<◌, ◌≤◌}
use mathlib.Core.Path.{◌≡◌, ap}
use mathlib.Core.Logic.{⊎_elim, ◌≢◌}
use mathlib.Core.List.{List}
use native.Mathlib.Omega.{arith}
use lib.ListN.{length, take}
use Rattle.ring.specs.Memory.{base, block, stored}
use Rattle.laws.proofs.Wrap.{lt_or_ge}
use Rattle.laws.proofs.Window.{length_put, window_put, before_put, after_put}

-- a block's sector is within the ring
pub within : (ring : List ℕ) (n b : ℕ) → length ring ≡ n * 2560 → b < n → base b + 2352 ≤ length ring
within ring n b e h = omega arith

module _ (ring s : List ℕ) (n b : ℕ) (whole : length ring ≡ n * 2560) (b_in : b < n) (size : length s ≡ 2352) where
  pub length_stored : length (stored ring b s) ≡ length ring
  length_stored = length_put (base b) 2352 ring s (within ring n b whole b_in) size

  pub block_stored : block (stored ring b s) b ≡ s
  block_stored = window_put (base b) 2352 ring s (within ring n b whole b_in) size

  pub block_other : (k : ℕ) → k ≢ b → block (stored ring b s) k ≡ block ring k
  block_other k ne =
      ⊎_elim (λ (h : k < b). before_put (base b) 2352 ring s (within ring n b whole b_in) size (base k) 2352 (omega arith))
      (λ (h : b ≤ k). ap (take 2352) (after_put (base b) 2352 ring s (within ring n b whole b_in) size (base k) (omega (arith, ne))))
      (lt_or_ge k b)
