-- The loop of `edc::words::pad`: what is written, and then what is left of the bytes, gives the code, and zeros follow. Assumes nothing.
use mathlib.Core.Path.{◌≡◌}
use Prim.Native.Nat.{ℕ, ◌+◌, ◌≤◌}
use lib.ListN.{length, get_or, take, drop}
use Rattle.edc.specs.Edc.{edc}
use Rattle.edc.proofs.words.pad.Given as goal

abbrev pub invariant-loop-i : goal.invariant-loop-i
invariant-loop-i l =
    record {
      long : length l.run ≡ 256;
      zeros : (k : ℕ) → l.start + l.i ≤ k → get_or l.run k 0 ≡ 0;
      total : edc (edc 0 (take (l.start + l.i) l.run)) (drop l.i l.bytes) ≡ edc 0 l.bytes;
    }
