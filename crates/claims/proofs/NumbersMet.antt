-- The run of NumbersMet: of the row machine, and so of the chip. Assumes nothing.
use Prim.Native.Nat.{ℕ}
use mathlib.Core.Path.{◌≡◌, refl, ap}
use mathlib.Core.List.{List, [], ◌∷◌, ◌++◌}
use native.Mathlib.Omega.{arith}
use lib.ListN.{length}
use Rattle.calls.specs.declared.Call.TheVariants.{PacketByte}
use Rattle.sector.specs.Address.{next}
use Rattle.parity.specs.Parity.{with_parity}
use Rattle.sector.specs.Sector.{body, framed}
use Rattle.sector.specs.Sector as sectors
use Rattle.sector.specs.declared.Address.{Address}
use Rattle.controller.specs.Calls.{stepped}
use Rattle.controller.specs.Decoder.{admission, counted}
use Rattle.controller.specs.Host.{host_word, host_command}
use Rattle.controller.specs.Named.{set_window, packet_byte}
use Rattle.controller.specs.Read as reading
use Rattle.controller.specs.Transfer.{settled, concluded}
use Rattle.controller.specs.Write as registers
use Rattle.outcomes.specs.Machine.{plain, sector, look, word, replied, refused}
use Rattle.outcomes.specs.Row.{row_answer, row_step, the_row}
use Rattle.claims.specs.NumbersMet.{NumbersMet, NumbersMetClaim}
use Rattle.claims.specs.Runs.{encoded, write, read, set_window as window, command, disc, restart, ok, Gives}
use Rattle.claims.proofs.Refines.{chip_simulates}
use Rattle.claims.proofs.Runs.{frame, Ran, calls, ◌then◌, opened, by_row, decoded, filled, own, first, by_simulation}
use Rattle.claims.proofs.Mode1.{judged_other}

module _ (u : List ℕ) (size : length u ≡ 2352) where
  other_frame : frame 1 ≡ frame 5 → ⊥
  other_frame e = let z : ◌≡◌ {A = ℕ} 1 5 = ap (λ (a : Address). a.frame) e in omega arith

  refusing : Gives the_row 3 (sector [] ∷ read 0x00 ∷ write 0x12 32 ∷ command 0 ∷ command 0 ∷ word ∷ plain (PacketByte 0) ∷ disc u 0 ∷ [])
      (replied 1 0 ∷ replied 2 0 ∷ replied 3 0 ∷ ok ∷ replied 4 0 ∷ refused 5 ∷ replied 6 0 ∷ replied 7 0 ∷ [])
  unfolding row_answer row_step stepped concluded settled admission reading.read registers.write registers.write_mbtc0 packet_byte host_word host_command
  refusing =
      by_row
      (calls (sector [] ∷ read 0x00 ∷ write 0x12 32 ∷ command 0 ∷ command 0 ∷ word ∷ plain (PacketByte 0) ∷ []) (opened 3)
      then decoded u size 0 _ _ (own u size 0))

  -- a bad sector, the counts, one that is refused, a restart, the good one, and one at the stop
  held :
      Ran the_row (disc u 5 ∷ read 0x9B ∷ read 0x9D ∷ disc u 1 ∷ restart ++ disc u 1 ∷ disc u 2 ∷ []) (filled 1 (encoded (frame 0) u ∷ []))
      (replied 0 1 ∷ replied 0 2 ∷ replied 0 1 ∷ replied 8 0 ∷ ok ∷ ok ∷ ok ∷ replied 9 0 ∷ []) (filled 2 (encoded (frame 0) u ∷ encoded (frame 1) u ∷ []))
  unfolding row_answer row_step stepped concluded settled admission counted next reading.read registers.write registers.write_ctrl0
  held =
      decoded u size 5 (filled 1 (encoded (frame 0) u ∷ [])) _ (judged_other (frame 5) u size (frame 1) refl refl other_frame)
      then calls (read 0x9B ∷ read 0x9D ∷ []) _ then decoded u size 1 _ _ (own u size 1) then calls restart _ then decoded u size 1 _ _ (own u size 1)
      then decoded u size 2 _ _ (own u size 2)

  row_numbers : NumbersMet the_row u
  unfolding row_answer row_step stepped concluded settled set_window sectors.encoded with_parity framed body
  row_numbers =
      record {
        one_to_seven = refusing;
        eight_and_nine = by_row (first u size then held then calls (window 12 2 ∷ look ∷ []) _);
      }

pub numbers_met : NumbersMetClaim
numbers_met u size =
    let rows = row_numbers u size in
    record {
      one_to_seven = by_simulation chip_simulates (omega arith) (omega arith) refl rows.one_to_seven;
      eight_and_nine = by_simulation chip_simulates (omega arith) (omega arith) refl rows.eight_and_nine;
    }
