-- The claims of specs/Claims.antt are proved. Assumes nothing.
use Rattle.scramble.specs.Claims.{TableClaim, ScramblingClaim}
use Rattle.scramble.proofs.Rule.{scrambler}
use Rattle.scramble.proofs.Scrambled.{length_table, bytes_table, scrambled_twice, length_scrambled, bytes_scrambled, sync_scrambled}

pub table_holds : TableClaim
table_holds = record { count = length_table; bytes = bytes_table; run = scrambler }

pub scrambling_holds : ScramblingClaim
scrambling_holds s full = record {
  undone = scrambled_twice s full;
  count = length_scrambled s full;
  bytes = bytes_scrambled s;
  sync = sync_scrambled s full;
}
