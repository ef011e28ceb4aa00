-- The loop of `parity::tables::multiples`: the entries before `k` are there. Assumes nothing.
use lib.ListN.{replicate}
use Rattle.laws.proofs.Mapped.{Mapped}
use Rattle.parity.specs.Field.{product}
use Rattle.parity.proofs.tables.multiples.Given as goal

abbrev pub invariant-loop-k : goal.invariant-loop-k
invariant-loop-k l = Mapped (product l.c) (replicate 16 0) l.k l.t
