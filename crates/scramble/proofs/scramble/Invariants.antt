-- What holds in the loop of `scramble::scramble`: the sync bytes are as they were, the i bytes behind them are the xored ones, and the others are as they
-- were. Assumes nothing.
use Rattle.std.proofs.Common.{◌≡◌, length, ℕ, ◌+◌, ◌<◌, ◌≤◌, get_or, bit_xor}
use Rattle.scramble.specs.Table.{table}
use Rattle.scramble.proofs.scramble.Given as goal

abbrev pub invariant-loop-i : goal.invariant-loop-i
invariant-loop-i l = record {
  size : length l.sector ≡ 2352;
  sync : (k : ℕ) → k < 12 → get_or l.sector k 0 ≡ get_or l.initial.sector k 0;
  done : (k : ℕ) → k < l.i → get_or l.sector (12 + k) 0 ≡ bit_xor (get_or l.initial.sector (12 + k) 0) (get_or table k 0);
  rest : (k : ℕ) → l.i ≤ k → get_or l.sector (12 + k) 0 ≡ get_or l.initial.sector (12 + k) 0;
}
