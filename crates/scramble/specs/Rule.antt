-- The rule of the scrambler's bits (ECMA-130, Annex B; paper 01, "Sectors"). Assumes nothing.
use Rattle.std.specs.Prelude.{◌≡◌, List, ℕ, ◌+◌, ◌/◌, ◌%◌, ◌^◌, ◌<◌, get_or}
use Rattle.std.specs.Int.Bits.{differ}

-- bit n of a list of bytes, the lowest bit of each byte first
unfoldable pub bit_at : List ℕ → ℕ → ℕ
bit_at t n = get_or t (n / 8) 0 / 2 ^ (n % 8) % 2

-- s(0) = 1, s(1) to s(14) = 0, s(n+15) = s(n) xor s(n+1), over so many bits of t
pub record Scrambler (t : List ℕ) (bits : ℕ) : Type 0 where
  pub first : bit_at t 0 ≡ 1
  pub zeros : (n : ℕ) → n < 14 → bit_at t (n + 1) ≡ 0
  pub rule : (n : ℕ) → n + 15 < bits → bit_at t (n + 15) ≡ differ (bit_at t n) (bit_at t (n + 1))
