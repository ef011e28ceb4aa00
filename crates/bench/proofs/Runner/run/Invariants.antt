-- The loop of `bench::Runner::run`: of a line with no end yet at most 81 bytes are kept. Assumes nothing.
use Rattle.std.proofs.Common.{◌≤◌}
use Rattle.bench.proofs.Runner.run.Given as goal

abbrev pub invariant-loop : goal.invariant-loop
invariant-loop g l = l.kept ≤ 81
