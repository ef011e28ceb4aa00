-- The conditions of Pins are met: a sector, and a run of the row machine, and so of the chip. Assumes nothing.
use Prim.Native.Nat.{ℕ}
use mathlib.Core.Path.{◌≡◌}
use mathlib.Core.Bool.{true}
use mathlib.Core.List.{List, [], ◌∷◌}
use native.Mathlib.Omega.{arith}
use lib.ListN.{length, replicate, length-replicate}
use Rattle.laws.proofs.Bytes.{bytes_replicate}
use Rattle.parity.specs.Parity.{with_parity}
use Rattle.sector.specs.Sector.{body, framed}
use Rattle.sector.specs.Sector as sectors
use Rattle.controller.specs.Calls.{stepped}
use Rattle.controller.specs.Named as named
use Rattle.controller.specs.Transfer.{settled, concluded}
use Rattle.outcomes.specs.Row.{Row, row_step, the_row}
use Rattle.chip.specs.Sound.{sound}
use Rattle.chip.specs.Machine.{State, the_chip}
use Rattle.claims.specs.Pins.{GivenLook, GivenCode, PinsMet}
use Rattle.claims.specs.Refinement.{Refines, Simulation}
use Rattle.claims.specs.Runs.{set_window}
use Rattle.claims.proofs.Reached.{Follows, reached}
use Rattle.claims.proofs.Runs.{calls, ◌then◌, first}

-- of a sector of zeros the first user byte is not 1
zeros_given : GivenCode (replicate 2352 0) 16 1
unfolding sectors.encoded with_parity framed body
zeros_given =
    record {
      size = length-replicate {A = ℕ} 2352 0;
      bytes = bytes_replicate 2352 0 (omega arith);
      behind = omega arith;
      before = omega arith;
      byte = omega arith;
      other = λ e. let z : ◌≡◌ {A = ℕ} 1 0 = e in omega arith;
    }

module _ (S : Simulation the_chip the_row) (refines : Follows S) (refines_sound : (s : State) (r : Row) → Refines s r → sound s.chip ≡ true) where
  module _ (u : List ℕ) (size : length u ≡ 2352) where
    pins_met_by : PinsMet
    unfolding row_step stepped concluded settled named.set_window
    pins_met_by =
        record {
          reach_code = (replicate 2352 0, 16, 1, zeros_given);
          reach_look =
              reached S refines 3 (omega arith) (omega arith) (λ s. GivenLook s.chip s.ring)
              (first u size then calls (set_window 16 1024 ∷ []) _) λ s h.
              record {
                sound_record = refines_sound s _ h;
                whole = h.represents.whole;
                one = simp h.controller;
                offset = simp h.controller;
                words = simp h.controller;
              };
        }

  pub pins_met : PinsMet
  pins_met = pins_met_by (replicate 2352 0) (length-replicate {A = ℕ} 2352 0)
