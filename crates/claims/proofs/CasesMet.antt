-- The conditions of the bench cases are met: a run of the row machine for each, with three blocks and sealed sectors, and so one of the chip
-- that refines it. Assumes nothing.
use Prim.Native.Nat.{ℕ}
use mathlib.Core.Path.{◌≡◌, refl}
use mathlib.Core.Bool.{true}
use mathlib.Core.List.{List, [], ◌∷◌}
use native.Mathlib.Omega.{arith}
use lib.ListN.{length, replicate, length-replicate}
use Rattle.calls.specs.declared.Call.TheVariants.{SetExpected}
use Rattle.controller.specs.Calls.{stepped}
use Rattle.controller.specs.Host.{host_command}
use Rattle.controller.specs.Named.{set_window, set_expected}
use Rattle.controller.specs.Transfer.{settled, concluded}
use Rattle.controller.specs.Write as registers
use Rattle.outcomes.specs.Machine.{plain}
use Rattle.outcomes.specs.Row.{Row, row_step, the_row}
use Rattle.ring.proofs.Represents.{represents_full}
use Rattle.chip.specs.Sound.{sound}
use Rattle.chip.specs.Machine.{State, the_chip}
use Rattle.claims.specs.Cases.{Given4, Given7, Given8, GivenStart, with_ttc, Given10, CasesMet}
use Rattle.claims.specs.Refinement.{Refines, Simulation}
use Rattle.claims.specs.Runs.{sealed, write, set_window as window, command}
use Rattle.claims.proofs.Reached.{Follows, reached}
use Rattle.claims.proofs.Starts.{given}
use Rattle.claims.proofs.Runs.{calls, ◌then◌, opened, frame, first, second}
use Rattle.claims.proofs.Mode1.{judged_own, length_sealed, received_sealed}

module _ (S : Simulation the_chip the_row) (refines : Follows S) (refines_sound : (s : State) (r : Row) → Refines s r → sound s.chip ≡ true) where
  module _ (u : List ℕ) (size : length u ≡ 2352) where
    cases_met_by : CasesMet
    unfolding row_step stepped concluded settled registers.write registers.write_bicctl registers.write_acctl registers.write_ctrl0 registers.write_asctrl registers.write_ttc host_command set_window set_expected
    cases_met_by =
        record {
          reach4 =
              reached S refines 3 (omega arith) (omega arith) (λ s. Given4 s.chip) (calls [] (opened 3)) λ s h.
              record { sound_record = refines_sound s _ h; idle = simp h.controller };
          -- DECEN is taken low
          reach7 =
              reached S refines 3 (omega arith) (omega arith) (λ s. Given7 s.chip) (first u size then second u size then calls (write 0x0A 0x00 ∷ []) _) λ s h.
              record { sound_record = refines_sound s _ h; idle = simp h.controller; decen = simp h.controller; two = simp h.controller };
          reach8 =
              reached S refines 3 (omega arith) (omega arith) (λ s. Given8 s.chip) (first u size then second u size) λ s h.
              record { sound_record = refines_sound s _ h; idle = simp h.controller; acmen = simp h.controller; two = simp h.controller };
          -- a window, ADCEN and STWCEN, BSY, TTC
          reach9 =
              reached S refines 3 (omega arith) (omega arith) (λ s. GivenStart s.chip (with_ttc 2 5 0 1024 true 0))
              (first u size then second u size then calls (window 16 1024 ∷ write 0x18 0x48 ∷ command 0 ∷ write 0x9F 5 ∷ []) _) λ s h.
              given s.chip (with_ttc 2 5 0 1024 true 0) _ (refines_sound s _ h) h.controller
              (record {
                idle = refl;
                unreceiving = refl;
                acmen = refl;
                adcen = refl;
                bsy = refl;
                tcc = refl;
                ttc = refl;
                mbc = refl;
                atlim = refl;
                words = refl;
                stwcen = refl;
              });
          -- the expected address is set before DECEN; a sector sealed at it is good
          reach10 =
              reached S refines 3 (omega arith) (omega arith) (λ s. (x : List ℕ) × Given10 s.chip s.ring x)
              (calls (write 0x9A 0x20 ∷ write 0x9C 0x60 ∷ plain (SetExpected (frame 74)) ∷ write 0x0A 0x80 ∷ []) (opened 3)) λ s h. (
                sealed (frame 74) u,
                record {
                  sound_record = refines_sound s _ h;
                  whole = h.represents.whole;
                  decen = simp h.controller;
                  unheld = simp h.controller;
                  room = simp (h.controller, represents_full h.represents) (simp h.blocks);
                  expected = simp h.controller;
                  size = length_sealed (frame 74) u size;
                  fine = simp (received_sealed (frame 74) u size (frame 74), judged_own (frame 74) u size);
                },
              );
        }

  pub cases_met : CasesMet
  cases_met = cases_met_by (replicate 2352 0) (length-replicate {A = ℕ} 2352 0)
