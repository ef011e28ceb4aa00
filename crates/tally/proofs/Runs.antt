-- The run of TallyMet: of the row machine, and so of the chip. Assumes nothing.
use Prim.Native.Nat.{ℕ, zero, suc, ◌+◌}
use mathlib.Core.Path.{◌≡◌, refl, ap, ◌∙◌}
use mathlib.Core.Bool.{true, false}
use mathlib.Core.List.{List, [], ◌∷◌, ◌++◌}
use native.Mathlib.Omega.{arith}
use lib.Dec.{eqb, ltb}
use lib.ListN.{length}
use Rattle.sector.specs.Address.{next}
use Rattle.sector.specs.Claims.{address_alone}
use Rattle.sector.specs.Judge.{judgement, no_facts}
use Rattle.parity.specs.Parity.{with_parity}
use Rattle.sector.specs.Sector.{body, framed}
use Rattle.sector.specs.Sector as sectors
use Rattle.sector.specs.declared.Address.{Address}
use Rattle.controller.specs.Calls.{stepped}
use Rattle.controller.specs.Decoder.{admission, counted}
use Rattle.controller.specs.Fields.{◌▹◌, bufc≔, held≔, judgement≔}
use Rattle.controller.specs.Host.{host_word, host_command, ended, data_ended}
use Rattle.controller.specs.Named.{set_window}
use Rattle.controller.specs.Read as bytes
use Rattle.controller.specs.Transfer.{byte_count, start, settled, concluded}
use Rattle.controller.specs.Write as registers
use Rattle.outcomes.specs.Machine.{Answer, replied, after}
use Rattle.outcomes.specs.Row.{Row, row_answer, row_step, the_row}
use Rattle.claims.specs.Runs.{encoded, read, disc, set_up, ok}
use Rattle.tally.specs.Runs.{filling, filling_answers, reading, reading_answers, lowering, lowering_answers, TallyMet, TallyMetClaim}
use Rattle.claims.proofs.Refines.{chip_simulates}
use Rattle.claims.proofs.Runs.{frame, Ran, calls, ◌then◌, opened, by_row, taken_answer, taken_row, decoded, decoding, own, by_simulation}
use Rattle.claims.proofs.Mode1.{judged_other}

module _ (u : List ℕ) (size : length u ≡ 2352) where
  -- frame 9 where frame 7 is expected
  other : judgement (frame 7) (encoded (frame 9) u) ≡ address_alone
  other = judged_other (frame 9) u size (frame 7) refl refl (λ e. let z : ◌≡◌ {A = ℕ} 7 9 = ap (λ (a : Address). a.frame) e in omega arith)

  -- the first k sectors, and nine blocks with them decoded
  abbrev e : ℕ → List ℕ
  e f = encoded (frame f) u

  abbrev sectors_of : ℕ → List (List ℕ)
  sectors_of zero = []
  sectors_of (suc k) = sectors_of k ++ e k ∷ []

  abbrev stage : ℕ → List (List ℕ) → Row
  stage k row = record { controller = decoding k; blocks = 9; row = row }

  -- a bad one is held
  abbrev holding : Row
  holding = record { controller = decoding 7 ▹ bufc≔ 8 ▹ judgement≔ address_alone ▹ held≔ true; blocks = 9; row = sectors_of 7 }

  first : Ran the_row set_up (opened 9) (ok ∷ ok ∷ ok ∷ []) (stage 0 [])
  unfolding row_answer row_step stepped concluded settled registers.write registers.write_bicctl registers.write_acctl registers.write_ctrl0
  first = calls set_up (opened 9)

  -- one good sector more
  module _ (k : ℕ) (row : List (List ℕ)) (free : eqb (k + 1) 9 ≡ false) (early : ltb k 74 ≡ true) where
    accepted : taken_answer no_facts (stage k row) ≡ ok
    unfolding concluded settled admission counted
    accepted = simp free

    joined : taken_row no_facts (e k) (stage k row) ≡ stage (k + 1) (row ++ e k ∷ [])
    unfolding concluded settled admission counted next
    joined = simp (free, early)

    more : Ran the_row (disc u k ∷ []) (stage k row) (ok ∷ []) (stage (k + 1) (row ++ e k ∷ []))
    more =
        let d = decoded u size k (stage k row) no_facts (own u size k) in
        record { told = d.told ∙ ap (λ (r : Answer). r ∷ []) accepted; left = d.left ∙ joined }

  bad : Ran the_row (disc u 9 ∷ []) (stage 7 (sectors_of 7)) (replied 0 1 ∷ []) holding
  unfolding concluded settled admission counted
  bad = decoded u size 9 (stage 7 (sectors_of 7)) _ other

  refused : Ran the_row (disc u 7 ∷ []) holding (replied 8 0 ∷ []) holding
  unfolding admission
  refused = decoded u size 7 holding _ (own u size 7)

  counters : Ran the_row (read 0x9B ∷ read 0x9D ∷ []) holding (replied 0 8 ∷ replied 0 7 ∷ []) holding
  unfolding row_answer row_step stepped concluded settled bytes.read
  counters = calls (read 0x9B ∷ read 0x9D ∷ []) holding

  filled_run : Ran the_row (filling u) (opened 9) filling_answers holding
  filled_run =
      first then more 0 [] refl refl then more 1 (sectors_of 1) refl refl then more 2 (sectors_of 2) refl refl then more 3 (sectors_of 3) refl refl
      then more 4 (sectors_of 4) refl refl then more 5 (sectors_of 5) refl refl then more 6 (sectors_of 6) refl refl then bad then refused then counters

  last_run : Ran the_row (reading ++ lowering) holding (reading_answers ++ lowering_answers) (after the_row (reading ++ lowering) holding)
  unfolding row_answer row_step stepped concluded settled byte_count start bytes.read registers.write registers.write_acctl registers.write_ctrl0 registers.write_asctrl registers.write_astrg registers.write_tcc registers.write_skipc set_window host_word host_command ended data_ended sectors.encoded with_parity framed body
  last_run = calls (reading ++ lowering) holding

  row_met : TallyMet the_row u
  row_met = record { run = by_row (filled_run then last_run); filled = refl; filled_held = refl; read_whole = refl; read_held = refl; lowered = refl }

pub tally_met : TallyMetClaim
tally_met u size =
    let m = row_met u size in
    record {
      run = by_simulation chip_simulates (omega arith) (omega arith) refl m.run;
      filled = m.filled;
      filled_held = m.filled_held;
      read_whole = m.read_whole;
      read_held = m.read_held;
      lowered = m.lowered;
    }
