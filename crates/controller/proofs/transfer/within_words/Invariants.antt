-- The loop of `controller::transfer::within_words`: the lesser of what is left and the bound is that of what was asked for. Assumes nothing.
use mathlib.Core.Path.{◌≡◌}
use Prim.Native.Nat.{◌*◌, ◌/◌, min}
use Rattle.controller.proofs.transfer.within_words.Given as goal

abbrev pub invariant-loop-total : goal.invariant-loop-total
invariant-loop-total l = (l.total ≡ l.blocks * l.words) × (min l.blocks (32767 / l.words) ≡ min l.asked (32767 / l.words))

abbrev pub decreases-loop-total : goal.decreases-loop-total
decreases-loop-total l = l.blocks
