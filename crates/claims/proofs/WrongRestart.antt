-- A machine that does not take B back at a restart is shut out: the bad block stays at T, and is served for the good one. Assumes nothing.
use Prim.Native.Nat.{ℕ, ◌*◌}
use mathlib.Core.Path.{◌≡◌, refl}
use mathlib.Core.Bool.{true}
use mathlib.Core.List.{List, [], ◌∷◌, ◌++◌}
use native.Mathlib.Omega.{arith}
use lib.ListN.{length, replicate, length-replicate}
use Rattle.sector.specs.Address.{next}
use Rattle.sector.specs.Claims.{address_alone}
use Rattle.parity.specs.Parity.{with_parity}
use Rattle.sector.specs.Sector.{body, framed}
use Rattle.sector.specs.Sector as sectors
use Rattle.controller.specs.Calls.{stepped}
use Rattle.controller.specs.Decoder.{admission, counted}
use Rattle.controller.specs.Fields.{◌▹◌, bufc≔, held≔, judgement≔, window≔, adcen≔, bsy≔}
use Rattle.controller.specs.Host.{host_word, host_command}
use Rattle.controller.specs.Named.{set_window}
use Rattle.controller.specs.Transfer.{byte_count, started, start, settled, concluded}
use Rattle.controller.specs.Write as registers
use Rattle.controller.specs.declared.state.Controller.{Controller}
use Rattle.outcomes.specs.Machine.{word, replied, handed, answers}
use Rattle.outcomes.specs.Row.{row_answer, row_step, the_row}
use Rattle.ring.specs.Memory.{stored}
use Rattle.ring.specs.Place.{at}
use Rattle.ring.specs.Represents.{Represents}
use Rattle.ring.proofs.Represents.{represents_word}
use Rattle.chip.specs.Chip as chip
use Rattle.chip.specs.Calls.{called}
use Rattle.chip.specs.Sound.{sound}
use Rattle.chip.specs.Machine.{over, chip_answer, chip_step}
use Rattle.claims.specs.Demand3.{Demand3}
use Rattle.claims.specs.Runs.{encoded, disc, set_up, restart, transfer, ok, Gives}
use Rattle.claims.specs.Wrong.{ShutOut, restart_step, bad_restart}
use Rattle.claims.proofs.OneBook.{shut_out}
use Rattle.claims.proofs.Runs.{calls, ◌then◌, opened, by_row, decoded, frame, decoding, filled, own, not_expected}
use Rattle.claims.proofs.Stages.{chip_with, on_disc, on_word, one_stored, two_stored}
use Rattle.claims.proofs.Mode1.{length_encoded}

-- the controller when the transfer has started
abbrev moving : Controller
moving = started (decoding 1 ▹ window≔ (record { offset = 14; words = 1 }) ▹ adcen≔ true ▹ bsy≔ true)

module _ (x u : List ℕ) (fits : length x ≡ 3 * 2560) (size : length u ≡ 2352) where
  abbrev bad : List ℕ
  bad = encoded (frame 5) u

  abbrev best : List ℕ
  best = encoded (frame 0) u

  abbrev ring1 : List ℕ
  ring1 = stored x 0 bad

  abbrev ring2 : List ℕ
  ring2 = stored ring1 1 best

  one : Represents (at 3 0 1 0) 1 1 ring1 (bad ∷ [])
  one = one_stored x bad best fits (length_encoded (frame 5) u size) (length_encoded (frame 0) u size)

  -- the memory, whatever the chip takes it for
  two : Represents (at 3 0 2 1) 2 2 ring2 (bad ∷ best ∷ [])
  two = two_stored x bad best fits (length_encoded (frame 5) u size) (length_encoded (frame 0) u size)

  run :
      answers bad_restart (set_up ++ disc u 5 ∷ restart ++ disc u 0 ∷ transfer 14 1 ++ word ∷ []) (bad_restart.opened 3 x)
      ≡ ok ∷ ok ∷ ok ∷ replied 0 1 ∷ ok ∷ ok ∷ ok ∷ ok ∷ ok ∷ ok ∷ ok ∷ handed 261 ∷ []
  unfolding restart_step chip_answer chip_step chip.opened called sound stepped concluded settled admission counted next byte_count start registers.write registers.write_bicctl registers.write_acctl registers.write_ctrl0 registers.write_asctrl registers.write_astrg set_window host_word host_command sectors.encoded with_parity framed body
  run =
      (calls set_up (bad_restart.opened 3 x)
      then on_disc restart_step (λ _ _. refl) (λ _. refl) (decoding 0) (at 3 0 0 0) x refl fits u size 5 _ refl (not_expected u size)
      then calls restart (over (chip_with (decoding 0 ▹ bufc≔ 1 ▹ judgement≔ address_alone ▹ held≔ true) (at 3 0 1 0)) ring1)
      then on_disc restart_step (λ _ _. refl) (λ _. refl) (decoding 0 ▹ judgement≔ address_alone) (at 3 0 1 0) ring1 refl one.whole u size 0 _ refl (own u size 0)
      then calls (transfer 14 1) (over (chip_with (decoding 1) (at 3 0 2 1)) ring2)
      then on_word restart_step (λ _ _. refl) (λ _. refl) moving (at 3 0 2 1) ring2 refl two.whole 261 refl
      (represents_word two 14 (omega arith) (omega arith))).told

module _ (u : List ℕ) (size : length u ≡ 2352) where
  right :
      Gives the_row 3 (set_up ++ disc u 5 ∷ restart ++ disc u 0 ∷ transfer 14 1 ++ word ∷ [])
      (ok ∷ ok ∷ ok ∷ replied 0 1 ∷ ok ∷ ok ∷ ok ∷ ok ∷ ok ∷ ok ∷ ok ∷ handed 256 ∷ [])
  unfolding row_answer row_step stepped concluded settled admission counted next byte_count start registers.write registers.write_bicctl registers.write_acctl registers.write_ctrl0 registers.write_asctrl registers.write_astrg set_window host_word host_command sectors.encoded with_parity framed body
  right =
      by_row (calls set_up (opened 3) then decoded u size 5 (filled 0 []) _ (not_expected u size) then calls restart _
      then decoded u size 0 _ _ (own u size 0) then calls (transfer 14 1 ++ word ∷ []) (filled 1 (encoded (frame 0) u ∷ [])))

module _ (D : Demand3 the_row) where
  by : (u : List ℕ) → length u ≡ 2352 → ShutOut bad_restart
  by u size =
      shut_out bad_restart the_row D (right u size) (record { given = λ x fits. run x u fits size }) refl
      (λ e. let z : ◌≡◌ {A = ℕ} 261 256 = cc in omega arith)

  pub bad_restart_fails : ShutOut bad_restart
  bad_restart_fails = by (replicate 2352 0) (length-replicate {A = ℕ} 2352 0)
