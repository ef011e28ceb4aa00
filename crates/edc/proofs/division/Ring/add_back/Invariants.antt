-- The loop of `edc::division::Ring::add_back`: the words below `i` have theirs xored in. Assumes nothing.
use Rattle.edc.proofs.Ring.{Back}
use Rattle.edc.proofs.division.Ring.add_back.Given as goal

abbrev pub invariant-loop-i : goal.invariant-loop-i
invariant-loop-i l = Back l.back l.initial.self.words l.self.words l.i
