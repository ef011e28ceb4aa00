-- Two machines whose counters are not the tally's: SRST takes a half-read block, and a skip with ACMEN low skips. Of one sector counted in TCC is then 0, and
-- the tally has none that left. Assumes nothing.
use Prim.Native.Nat.{ℕ, ◌*◌}
use mathlib.Core.Path.{◌≡◌, refl, ap, subst, ◌∙◌}
use mathlib.Core.Bool.{true}
use mathlib.Core.List.{List, [], ◌∷◌, ◌++◌}
use native.Mathlib.Omega.{arith}
use lib.ListN.{length, replicate, length-replicate}
use Rattle.sector.specs.Address.{next}
use Rattle.parity.specs.Parity.{with_parity}
use Rattle.sector.specs.Sector.{body, framed}
use Rattle.sector.specs.Sector as sectors
use Rattle.calls.specs.declared.Call.TheVariants.{Read}
use Rattle.controller.specs.Calls.{stepped}
use Rattle.controller.specs.Decoder.{admission, counted}
use Rattle.controller.specs.Fields.{◌▹◌, tcc≔, bufc≔, acctl≔, window≔, adcen≔, bsy≔, position≔}
use Rattle.controller.specs.Host.{host_word, host_command, host_srst}
use Rattle.controller.specs.Named.{set_window}
use Rattle.controller.specs.Read as reading
use Rattle.controller.specs.Transfer.{byte_count, started, start, settled, concluded}
use Rattle.controller.specs.Write as registers
use Rattle.controller.specs.declared.state.Controller.{Controller}
use Rattle.outcomes.specs.Machine.{Call, plain, word, Answer, replied, handed, Machine}
use Rattle.ring.specs.Memory.{stored}
use Rattle.ring.specs.Place.{at}
use Rattle.ring.specs.Represents.{Represents}
use Rattle.ring.proofs.Represents.{represents_word}
use Rattle.chip.specs.Chip.{opened}
use Rattle.chip.specs.Calls.{called}
use Rattle.chip.specs.Sound.{sound}
use Rattle.chip.specs.Machine.{over, chip_answer, chip_step}
use Rattle.claims.specs.Runs.{encoded, write, srst, disc, set_up, transfer, ok}
use Rattle.tally.specs.Tally.{entries, tally, AddsUp}
use Rattle.tally.specs.Wrong.{Untallied, skip_without_acmen_step, skipping_without_acmen, RefutedClaim}
use Rattle.claims.specs.Wrong.{abort_step, taking_abort}
use Rattle.claims.proofs.Runs.{Ran, calls, ◌then◌, frame, decoding, own}
use Rattle.claims.proofs.Stages.{chip_with, on_disc, on_word, one_stored}
use Rattle.claims.proofs.Mode1.{length_encoded}

-- after a run of three blocks 9Dh answers v, which the run's tally does not account for
untallied :
    (M : Machine) (x : List ℕ) → length x ≡ 3 * 2560 → {cs : List Call} {rs : List Answer} {t : M.State} → Ran M cs (M.opened 3 x) rs t
    → (v : ℕ) → M.answer (plain (Read 0x9D)) t ≡ replied 0 v → (AddsUp v (tally (entries cs rs)) → ⊥) → Untallied M
untallied M x fits {cs} run v e differs T =
    differs
    (subst (λ (rs : List Answer). AddsUp v (tally (entries cs rs))) run.told
    (T.tcc 3 (omega arith) (omega arith) x fits cs v (ap (M.answer (plain (Read 0x9D))) run.left ∙ e)))

-- the controller when the transfer has started, and after an abort that takes the half-read block; and after a skip with ACMEN low
abbrev moving : Controller
moving = started (decoding 1 ▹ window≔ (record { offset = 14; words = 2 }) ▹ adcen≔ true ▹ bsy≔ true)

abbrev aborted : Controller
aborted = (host_srst (moving ▹ position≔ 1)).controller ▹ tcc≔ 0 ▹ bufc≔ 0

abbrev skipped : Controller
skipped = decoding 1 ▹ acctl≔ (registers.acctl_of 0x20) ▹ tcc≔ 0 ▹ bufc≔ 0

module _ (x u : List ℕ) (fits : length x ≡ 3 * 2560) (size : length u ≡ 2352) where
  abbrev ring1 : List ℕ
  ring1 = stored x 0 (encoded (frame 0) u)

  stored_one : Represents (at 3 0 1 0) 1 1 ring1 (encoded (frame 0) u ∷ [])
  stored_one = one_stored x (encoded (frame 0) u) (encoded (frame 0) u) fits (length_encoded (frame 0) u size) (length_encoded (frame 0) u size)

  abort_run :
      Ran taking_abort (set_up ++ disc u 0 ∷ transfer 14 2 ++ word ∷ srst ∷ []) (taking_abort.opened 3 x)
      (ok ∷ ok ∷ ok ∷ ok ∷ ok ∷ ok ∷ ok ∷ ok ∷ handed 256 ∷ ok ∷ []) (over (chip_with aborted (at 3 1 1 0)) ring1)
  unfolding abort_step chip_answer chip_step opened called sound stepped concluded settled admission counted next byte_count start registers.write registers.write_bicctl registers.write_acctl registers.write_ctrl0 registers.write_asctrl registers.write_astrg set_window host_word host_command sectors.encoded with_parity framed body
  abort_run =
      calls set_up (taking_abort.opened 3 x)
      then on_disc abort_step (λ _ _. refl) (λ _. refl) (decoding 0) (at 3 0 0 0) x refl fits u size 0 _ refl (own u size 0)
      then calls (transfer 14 2) (over (chip_with (decoding 1) (at 3 0 1 0)) ring1)
      then on_word abort_step (λ _ _. refl) (λ _. refl) moving (at 3 0 1 0) ring1 refl stored_one.whole 256 refl (represents_word stored_one 14 (omega arith) (omega arith))
      then calls (srst ∷ []) (over (chip_with (moving ▹ position≔ 1) (at 3 0 1 0)) ring1)

  abort_read : chip_answer (plain (Read 0x9D)) (over (chip_with aborted (at 3 1 1 0)) ring1) ≡ replied 0 0
  unfolding chip_answer called sound stepped concluded reading.read byte_count
  abort_read = refl

  skip_run :
      Ran skipping_without_acmen (set_up ++ disc u 0 ∷ write 0x9C 0x20 ∷ write 0x9E 1 ∷ []) (skipping_without_acmen.opened 3 x)
      (ok ∷ ok ∷ ok ∷ ok ∷ ok ∷ ok ∷ []) (over (chip_with skipped (at 3 1 1 0)) ring1)
  unfolding skip_without_acmen_step chip_answer chip_step opened called sound stepped concluded settled admission counted next registers.write registers.write_bicctl registers.write_acctl registers.write_ctrl0 registers.write_skipc
  skip_run =
      calls set_up (skipping_without_acmen.opened 3 x)
      then on_disc skip_without_acmen_step (λ _ _. refl) (λ _. refl) (decoding 0) (at 3 0 0 0) x refl fits u size 0 _ refl (own u size 0)
      then calls (write 0x9C 0x20 ∷ write 0x9E 1 ∷ []) (over (chip_with (decoding 1) (at 3 0 1 0)) ring1)

  skip_read : chip_answer (plain (Read 0x9D)) (over (chip_with skipped (at 3 1 1 0)) ring1) ≡ replied 0 0
  unfolding chip_answer called sound stepped concluded reading.read
  skip_read = refl

  by_abort : Untallied taking_abort
  by_abort = untallied taking_abort x fits abort_run 0 abort_read (λ e. omega arith)

  by_skip : Untallied skipping_without_acmen
  by_skip = untallied skipping_without_acmen x fits skip_run 0 skip_read (λ e. omega arith)

-- any memory and any user bytes do
pub refuted : RefutedClaim
refuted =
    let x = length-replicate {A = ℕ} 7680 0 in
    let u = length-replicate {A = ℕ} 2352 0 in
    record { half_read_taken = by_abort (replicate 7680 0) (replicate 2352 0) x u; skip_without_acmen = by_skip (replicate 7680 0) (replicate 2352 0) x u }
