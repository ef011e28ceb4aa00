-- What is claimed of the table and of scrambling; proofs/Claims.antt proves it. Assumes nothing.
use Rattle.std.specs.Prelude.{◌≡◌, List, ℕ, length, take}
use Rattle.laws.specs.Bytes.{Bytes}
use Rattle.scramble.specs.Table.{table}
use Rattle.scramble.specs.Rule.{Scrambler}
use Rattle.scramble.specs.Scramble.{scrambled}

-- the table is the scrambler's run: 2,340 bytes, whose 18,720 bits keep the rule
pub record TableClaim : Type 0 where
  pub count : length table ≡ 2340
  pub bytes : Bytes table
  pub run : Scrambler table 18720

-- scrambling a sector twice gives it back; it stays a sector of bytes, and its sync bytes stay
pub record ScrambledClaim (s : List ℕ) : Type 0 where
  pub undone : scrambled (scrambled s) ≡ s
  pub count : length (scrambled s) ≡ 2352
  pub bytes : Bytes s → Bytes (scrambled s)
  pub sync : take 12 (scrambled s) ≡ take 12 s

abbrev pub ScramblingClaim : Type 0
ScramblingClaim = (s : List ℕ) → length s ≡ 2352 → ScrambledClaim s
