-- The runs of Met: of the row machine, and so of a machine that simulates it. Assumes nothing.
use Prim.Native.Nat.{ℕ}
use mathlib.Core.Path.{◌≡◌, refl, ap}
use mathlib.Core.List.{List, [], ◌∷◌, ◌++◌}
use native.Mathlib.Omega.{arith}
use lib.ListN.{length}
use Rattle.sector.specs.Address.{next}
use Rattle.parity.specs.Parity.{with_parity}
use Rattle.sector.specs.Sector.{body, framed}
use Rattle.sector.specs.Sector as sectors
use Rattle.sector.specs.declared.Address.{Address}
use Rattle.controller.specs.Calls.{stepped}
use Rattle.controller.specs.Decoder.{admission, counted}
use Rattle.controller.specs.Host.{host_word, host_command, ended, data_ended}
use Rattle.controller.specs.Named.{set_window}
use Rattle.controller.specs.Read as reading
use Rattle.controller.specs.Transfer.{byte_count, start, settled, concluded}
use Rattle.controller.specs.Write as registers
use Rattle.outcomes.specs.Machine.{word, replied}
use Rattle.outcomes.specs.Row.{row_answer, row_step, the_row}
use Rattle.chip.specs.Machine.{the_chip}
use Rattle.claims.specs.Refinement.{Simulation}
use Rattle.claims.specs.Runs.{encoded, write, read, command, srst, disc, set_up, restart, transfer, ok, Met, MetClaim}
use Rattle.claims.proofs.Runs.{frame, Ran, calls, ◌then◌, opened, by_row, decoded, filled, own, first, second, by_simulation}
use Rattle.claims.proofs.Mode1.{judged_other}

module _ (u : List ℕ) (size : length u ≡ 2352) where
  other_frame : frame 1 ≡ frame 5 → ⊥
  other_frame e = let z : ◌≡◌ {A = ℕ} 1 5 = ap (λ (a : Address). a.frame) e in omega arith

  -- a bad sector, one that is refused, a restart, and the good one
  restarted :
      Ran the_row (disc u 5 ∷ disc u 1 ∷ restart ++ disc u 1 ∷ []) (filled 1 (encoded (frame 0) u ∷ []))
      (replied 0 1 ∷ replied 8 0 ∷ ok ∷ ok ∷ ok ∷ []) (filled 2 (encoded (frame 0) u ∷ encoded (frame 1) u ∷ []))
  unfolding row_answer row_step stepped concluded settled admission counted next registers.write registers.write_ctrl0
  restarted =
      decoded u size 5 (filled 1 (encoded (frame 0) u ∷ [])) _ (judged_other (frame 5) u size (frame 1) refl refl other_frame)
      then decoded u size 1 _ _ (own u size 1) then calls restart _ then decoded u size 1 _ _ (own u size 1)

  pub row_met : Met the_row u
  unfolding row_answer row_step stepped concluded settled admission counted next byte_count start reading.read registers.write registers.write_bicctl registers.write_acctl registers.write_ctrl0 registers.write_asctrl registers.write_astrg set_window host_word host_command ended data_ended sectors.encoded with_parity framed body
  row_met =
      record {
        words_handed = by_row (first u size then calls (transfer 12 2 ++ word ∷ word ∷ []) _);
        bad_then_restarted = by_row (first u size then restarted then calls (read 0x9D ∷ transfer 14 1 ++ word ∷ write 0x17 0x04 ∷ word ∷ []) _);
        aborted_in_block =
            by_row (first u size then second u size then calls (transfer 14 2 ++ word ∷ srst ∷ command 0 ∷ write 0x17 0x04 ∷ word ∷ []) _);
        smaller_stops = by_row (first u size then second u size then decoded u size 2 _ _ (own u size 2));
        larger_stores =
            by_row (calls set_up (opened 4) then decoded u size 0 _ _ (own u size 0) then decoded u size 1 _ _ (own u size 1)
            then decoded u size 2 _ _ (own u size 2));
      }

module _ (S : Simulation the_chip the_row) where
  pub met : MetClaim
  met u size =
      let m = row_met u size in
      record {
        words_handed = by_simulation S (omega arith) (omega arith) refl m.words_handed;
        bad_then_restarted = by_simulation S (omega arith) (omega arith) refl m.bad_then_restarted;
        aborted_in_block = by_simulation S (omega arith) (omega arith) refl m.aborted_in_block;
        smaller_stops = by_simulation S (omega arith) (omega arith) refl m.smaller_stops;
        larger_stores = by_simulation S (omega arith) (omega arith) refl m.larger_stores;
      }
