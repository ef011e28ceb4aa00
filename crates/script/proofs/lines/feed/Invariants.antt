-- What holds in the loop of `script::lines::feed`: the bench, the memory and the buffers stand for the progress of the lines so far (`Stands`).
-- Assumes nothing.
use Rattle.std.proofs.Common.{◌≡◌, ◌-◌, ◌≤◌, length}
use Rattle.script.specs.Feed.{begun}
use Rattle.script.proofs.Feeding.{Stands}
use Rattle.script.proofs.lines.feed.Given as goal

abbrev pub invariant-loop-out : goal.invariant-loop-out
invariant-loop-out l =
    record {
      stands : Stands (length l.initial.out) (begun l.initial.bench l.initial.memory l.initial.sector) l.text l.initial.out l.bench l.memory l.sector l.out l.size l.taken;
      taken : l.taken ≤ length l.text;
      size : l.size ≤ length l.out;
      memory : length l.memory ≡ length l.initial.memory;
      sector : length l.sector ≡ length l.initial.sector;
      out : length l.out ≡ length l.initial.out;
    }

abbrev pub decreases-loop-out : goal.decreases-loop-out
decreases-loop-out l = length l.text - l.taken
