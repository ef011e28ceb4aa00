-- What every call that touches no memory, and the host's word, leaves of held and of a transfer, in any controller: held stays, but for 0Ah = 00h and a
-- chip reset, and where a transfer runs, it ran before or a start began it. Assumes nothing.
use Prim.Native.Nat.{ℕ, ◌+◌}
use mathlib.Core.Path.{◌≡◌, refl, sym, ap, ◌∙◌}
use mathlib.Core.Bool.{Bool, true, false, ◌&&◌, ◌||◌, not}
use mathlib.Core.List.{[], ◌∷◌}
use mathlib.Core.Logic.{◌⊎◌, inl, inr}
use lib.Dec.{eqb, leb, ltb}
use Rattle.std.specs.Prelude.{if◌then◌else◌}
use Rattle.laws.proofs.Choice.{if_case, both_true}
use Rattle.laws.proofs.Tests.{clash}
use Rattle.calls.specs.declared.Call.{Call as Plain}
use Rattle.calls.specs.declared.Call.TheVariants.{Write, Read, SetBlock, SetWindow, SetExpected, PacketByte, Reset, Command, PacketWord, Status, Srst}
use Rattle.sector.specs.Address.{valid}
use Rattle.sector.specs.declared.Address.{Address}
use Rattle.controller.specs.Step.{Step}
use Rattle.controller.specs.Bits.{bit, only, differs}
use Rattle.controller.specs.Calls.{stepped}
use Rattle.controller.specs.Fields.{◌▹◌, running≔, received≔, receiving≔, fpkt≔}
use Rattle.controller.specs.Host.{data_ended, ended, block_taken, host_word, host_command, packet_more, packet_word}
use Rattle.controller.specs.Named.{set_block, window_fits, set_window, set_expected, packet_byte}
use Rattle.controller.specs.Read.{read}
use Rattle.controller.specs.Transfer.{engaged, start, completed}
use Rattle.controller.specs.Write.{write_tack, write_ctrl0, write_mbtc0, write_astrg, write_asctrl, write_task, write_atsta, write_apksta, write_ascsta, write_bicctl, write_buflim, write_acctl, write_tcc, write_skipc, write_ttc, write}
use Rattle.controller.specs.declared.state.Controller.{Controller}
use Rattle.controller.specs.declared.step.RingFacts.{RingFacts}
use Rattle.outcomes.proofs.Starts.{split_start, started_same}
use Rattle.claims.specs.Starts.{Begun}
use Rattle.claims.proofs.Begun.{started_begun}

pub record Keeps (c : Controller) (off : Bool) (s : Step) : Type 0 where
  pub held : off ≡ false → s.controller.counts.held ≡ c.counts.held
  pub begins : s.controller.transfer.running ≡ true → (c.transfer.running ≡ true) ⊎ Begun s.controller

-- held, and whether a transfer runs
abbrev pub kept : Controller → Bool × Bool
kept c = (c.counts.held, c.transfer.running)

-- the end steps leave both
pub ends : (d : Controller) → kept (ended d) ≡ kept d
unfolding ended data_ended
ends d =
    let halfway : kept (data_ended d) ≡ kept d =
    if_case (λ (x : Controller). kept x ≡ kept d) d.asctrl.adcen _ _ (λ _. refl) (λ _. refl) in
    if_case (λ (x : Controller). kept x ≡ kept d) d.asctrl.ascen (completed (data_ended d)) (data_ended d) (λ _. halfway) (λ _. halfway)

module _ (c : Controller) (off : Bool) where
  same : {s : Step} → kept s.controller ≡ kept c → Keeps c off s
  same e = record { held = λ _. ap (λ (k : Bool × Bool). k.0) e; begins = λ r. inl (sym (ap (λ (k : Bool × Bool). k.1) e) ∙ r) }

  stops : {s : Step} → kept s.controller ≡ (c.counts.held, false) → Keeps c off s
  stops {s} e =
      record {
        held = λ _. ap (λ (k : Bool × Bool). k.0) e;
        begins = λ r. clash s.controller.transfer.running (ap (λ (k : Bool × Bool). k.1) e) r;
      }

  either : (b : Bool) {x y : Step} → Keeps c off x → Keeps c off y → Keeps c off (if b then x else y)
  either true p q = p
  either false p q = q

  tack : (v : ℕ) → Keeps c off (write_tack c v)
  unfolding write_tack
  tack v = either (ltb 255 v) (same refl) (same refl)

  ctrl0 : (v : ℕ) → (eqb v 0x00 ≡ true → off ≡ true) → Keeps c off (write_ctrl0 c v)
  unfolding write_ctrl0
  ctrl0 v e =
      if_case (Keeps c off) (eqb v 0) _ _ (λ z. record { held = λ f. clash off f (e z); begins = inl }) (λ _.
      either (not (eqb v 0x80)) (same refl) (either (not (c.buffering.blimen && c.acctl.tcincen)) (same refl) (same refl)))

  mbtc0 : (v : ℕ) → Keeps c off (write_mbtc0 c v)
  unfolding write_mbtc0
  mbtc0 v = either (ltb 31 v) (same refl) (either c.transfer.running (same refl) (same refl))

  starts : Keeps c off (start c)
  starts =
      split_start (Keeps c off) c (λ _. same refl) (λ _ _. same refl)
      (λ s b. record { held = λ _. ap (λ (x : Controller). x.counts.held) (started_same c); begins = λ _. inr (started_begun c s b) })

  astrg : (v : ℕ) → Keeps c off (write_astrg c v)
  unfolding write_astrg
  astrg v =
      either (not (eqb v 0x01 || eqb v 0x04 || eqb v 0x10)) (same refl)
      (either (engaged c) (same refl)
      (either (eqb v 0x01) (same refl) (either (eqb v 0x04) starts (same refl))))

  asctrl : (v : ℕ) → Keeps c off (write_asctrl c v)
  unfolding write_asctrl
  asctrl v = either (not (only (7 ∷ 6 ∷ 5 ∷ 4 ∷ 3 ∷ 0 ∷ []) v && (bit v 6 || not (bit v 5)))) (same refl) (either (engaged c) (same refl) (same refl))

  task : (reg v : ℕ) → Keeps c off (write_task c reg v)
  unfolding write_task
  task reg v = either (ltb 255 v) (same refl) (same refl)

  atsta : (v : ℕ) → Keeps c off (write_atsta c v)
  unfolding write_atsta
  atsta v = either (not (only (7 ∷ 6 ∷ 4 ∷ 2 ∷ 0 ∷ []) v)) (same refl) (either (engaged c) (same refl) (same refl))

  apksta : (v : ℕ) → Keeps c off (write_apksta c v)
  unfolding write_apksta
  apksta v = either (not (only (4 ∷ []) v)) (same refl) (same refl)

  ascsta : (v : ℕ) → Keeps c off (write_ascsta c v)
  unfolding write_ascsta
  ascsta v = either (not (only (6 ∷ 2 ∷ 0 ∷ []) v)) (same refl) (same refl)

  bicctl : (v : ℕ) → Keeps c off (write_bicctl c v)
  unfolding write_bicctl
  bicctl v = either (not (only (5 ∷ 4 ∷ []) v)) (same refl) (either c.buffering.decen (same refl) (same refl))

  buflim : (v n : ℕ) → Keeps c off (write_buflim c v n)
  unfolding write_buflim
  buflim v n = either (ltb n (v + 2)) (same refl) (either c.buffering.decen (same refl) (same refl))

  acctl : (v : ℕ) → Keeps c off (write_acctl c v)
  unfolding write_acctl
  acctl v =
      either (ltb 255 v) (same refl)
      (either c.transfer.running (same refl)
      (either (c.buffering.decen && differs (bit v 5) c.acctl.tcincen) (same refl)
      (either (bit v 6) (same refl) (same refl))))

  lowered : (v : ℕ) → Keeps c off (write_tcc c v)
  unfolding write_tcc
  lowered v =
      either (ltb 255 v) (same refl)
      (either c.transfer.running (same refl)
      (either c.buffering.decen (same refl)
      (either (ltb c.counts.tcc v) (same refl) (same refl))))

  skipc : (v : ℕ) → Keeps c off (write_skipc c v)
  unfolding write_skipc
  skipc v =
      either (ltb 255 v) (same refl)
      (either c.transfer.running (same refl)
      (either (not c.acctl.acmen) (same refl)
      (either (ltb c.counts.tcc v) (same refl) (same refl))))

  ttc : (v : ℕ) → Keeps c off (write_ttc c v)
  unfolding write_ttc
  ttc v =
      either (ltb 255 v) (same refl)
      (either c.transfer.running (same refl)
      (either (not c.acctl.acmen) (same refl) (same refl)))

  written : (reg v n : ℕ) → ((eqb reg 0x0A && eqb v 0x00) ≡ true → off ≡ true) → Keeps c off (write c reg v n)
  unfolding write
  written reg v n f =
      either (eqb reg 0x07) (tack v)
      (if_case (Keeps c off) (eqb reg 0x0A) _ _ (λ e. ctrl0 v (λ z. f (both_true (eqb reg 0x0A) (eqb v 0x00) e z))) λ _.
      either (eqb reg 0x12) (mbtc0 v)
      (either (eqb reg 0x17) (astrg v)
      (either (eqb reg 0x18) (asctrl v)
      (either (eqb reg 0x31) (task reg v)
      (either (eqb reg 0x32) (task reg v)
      (either (eqb reg 0x34) (task reg v)
      (either (eqb reg 0x35) (task reg v)
      (either (eqb reg 0x37) (atsta v)
      (either (eqb reg 0x3D) (apksta v)
      (either (eqb reg 0x3E) (ascsta v)
      (either (eqb reg 0x9A) (bicctl v)
      (either (eqb reg 0x9B) (buflim v n)
      (either (eqb reg 0x9C) (acctl v)
      (either (eqb reg 0x9D) (lowered v)
      (either (eqb reg 0x9E) (skipc v)
      (either (eqb reg 0x9F) (ttc v) (same refl)))))))))))))))))

  reads : (reg : ℕ) (ring : RingFacts) → Keeps c off (read c reg ring)
  unfolding read
  reads reg ring =
      either (eqb reg 0x12) (same refl) (either (eqb reg 0x18) (same refl) (either (eqb reg 0x24) (same refl) (either (eqb reg 0x25) (same refl)
      (either (eqb reg 0x30) (same refl) (either (eqb reg 0x31) (same refl) (either (eqb reg 0x32) (same refl) (either (eqb reg 0x34) (same refl)
      (either (eqb reg 0x35) (same refl) (either (eqb reg 0x37) (same refl) (either (eqb reg 0x38) (same refl) (either (eqb reg 0x3A) (same refl)
      (either (eqb reg 0x3B) (same refl) (either (eqb reg 0x80) (same refl) (either (eqb reg 0x9A) (same refl) (either (eqb reg 0x9B) (same refl)
      (either (eqb reg 0x9C) (same refl) (either (eqb reg 0x9D) (same refl) (either (eqb reg 0x9F) (same refl) (same refl)))))))))))))))))))

  block_set : (t n : ℕ) → Keeps c off (set_block c t n)
  unfolding set_block
  block_set t n =
      either (leb n t) (same refl)
      (either c.transfer.running (same refl)
      (either (c.buffering.decen || not (eqb c.counts.tcc 0)) (same refl) (same refl)))

  window_set : (o w : ℕ) → Keeps c off (set_window c o w)
  unfolding set_window
  window_set o w = either (not (window_fits o w)) (same refl) (either c.transfer.running (same refl) (same refl))

  expected_set : (a : Address) → Keeps c off (set_expected c a)
  unfolding set_expected
  expected_set a = either (not (valid a)) (same refl) (either c.buffering.decen (same refl) (same refl))

  packet_read : (i : ℕ) → Keeps c off (packet_byte c i)
  unfolding packet_byte
  packet_read i = either (ltb 11 i) (same refl) (either (not c.packet.fpkt) (same refl) (same refl))

  commanded : (v : ℕ) → Keeps c off (host_command c v)
  unfolding host_command
  commanded v =
      either (ltb 255 v) (same refl)
      (either (c.atsta.bsy || engaged c) (same refl)
      (either (eqb v 0xA0 && c.asctrl.apkten) (same refl) (same refl)))

  packet_given : (w : ℕ) → Keeps c off (packet_word c w)
  unfolding packet_word
  packet_given w =
      either (not c.packet.receiving) (same refl)
      (either (ltb c.packet.received 5) (same refl)
      (same (ends (packet_more c w ▹ received≔ 0 ▹ receiving≔ false ▹ fpkt≔ true))))

  pub word_given : Keeps c off (host_word c)
  unfolding host_word
  word_given =
      either (not c.transfer.running) (same refl)
      (either (ltb (c.transfer.position + 1) c.window.words) (same refl)
      (either (ltb 1 c.transfer.left) (same refl)
      (stops (ends (block_taken c ▹ running≔ false)))))

-- 0Ah = 00h and a chip reset
abbrev pub clears : Plain → Bool
clears (Write reg v) = eqb reg 0x0A && eqb v 0x00
clears Reset = true
clears (Read reg) = false
clears (SetBlock t) = false
clears (SetWindow o w) = false
clears (SetExpected a) = false
clears (PacketByte i) = false
clears (Command v) = false
clears (PacketWord w) = false
clears Status = false
clears Srst = false

pub keeps : (c : Controller) (call : Plain) (ring : RingFacts) → Keeps c (clears call) (stepped c call ring)
unfolding stepped
keeps c (Write reg v) ring = written c (eqb reg 0x0A && eqb v 0x00) reg v ring.n (λ e. e)
keeps c (Read reg) ring = reads c false reg ring
keeps c (SetBlock t) ring = block_set c false t ring.n
keeps c (SetWindow o w) ring = window_set c false o w
keeps c (SetExpected a) ring = expected_set c false a
keeps c (PacketByte i) ring = packet_read c false i
keeps c Reset ring = record { held = λ (e : true ≡ false). clash true e refl; begins = λ (e : false ≡ true). clash false refl e }
keeps c (Command v) ring = commanded c false v
keeps c (PacketWord w) ring = packet_given c false w
keeps c Status ring = same c false refl
keeps c Srst ring = stops c false refl
