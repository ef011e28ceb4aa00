-- The loop of `burst::host_words`: the run so far (`Standing`), and no refusal yet. Assumes nothing.
use Rattle.std.proofs.Common.{◌≡◌, ◌-◌, None, length}
use Rattle.burst.proofs.Turns.{Standing}
use Rattle.burst.proofs.host_words.Given as goal

abbrev pub invariant-loop-burst : goal.invariant-loop-burst
invariant-loop-burst l = record { standing : Standing l.ring l.initial.out l.fn.chip l.out l.burst.chip l.burst.handed; none : l.burst.refusal ≡ None }

abbrev pub decreases-loop-burst : goal.decreases-loop-burst
decreases-loop-burst l = length l.initial.out - l.burst.handed
