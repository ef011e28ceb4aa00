-- What holds in the loop of `scramble::scramble_into`: the sync bytes are those of `src`, and the i bytes behind them are the xored ones. Assumes nothing.
use Rattle.std.proofs.Common.{◌≡◌, length, ℕ, ◌+◌, ◌<◌, get_or, bit_xor}
use Rattle.scramble.specs.Table.{table}
use Rattle.scramble.proofs.scramble_into.Given as goal

abbrev pub invariant-loop-i : goal.invariant-loop-i
invariant-loop-i l = record {
  size : length l.dst ≡ 2352;
  sync : (k : ℕ) → k < 12 → get_or l.dst k 0 ≡ get_or l.src k 0;
  done : (k : ℕ) → k < l.i → get_or l.dst (12 + k) 0 ≡ bit_xor (get_or l.src (12 + k) 0) (get_or table k 0);
}
