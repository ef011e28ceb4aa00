-- Demand 1 of the chip's definitions: each is taken apart once, at its tests. Assumes nothing.
use Prim.Native.Nat.{ℕ, suc, zero, ◌+◌, ◌-◌, ◌*◌, ◌≤◌}
use mathlib.Core.Path.{◌≡◌, refl, sym, ap, ap₂, subst, ◌∙◌}
use mathlib.Core.Bool.{Bool, true, false, ◌&&◌, ◌||◌, not, false≢true}
use mathlib.Core.List.{List, [], ◌∷◌}
use mathlib.Core.Logic.{inl, inr, ⊎_elim}
use native.Mathlib.Omega.{arith}
use lib.Dec.{ltb, leb, eqb}
use lib.ListN.{length, replicate, length-replicate}
use borrow.Author.Tests.{leb-true, le-leb, eqb-true, ne_eqb}
use Rattle.std.specs.Prelude.{if◌then◌else◌}
use Rattle.laws.proofs.Choice.{if_case, if_true, if_false, both_true, left_true, right_true}
use Rattle.laws.proofs.Tests.{clash}
use Rattle.calls.specs.declared.Call.{Call as Plain}
use Rattle.calls.specs.declared.Call.TheVariants.{Write, Read, SetBlock, SetWindow, SetExpected, PacketByte, Reset, Command, PacketWord, Status, Srst}
use Rattle.reply.specs.Reply.{Reply, refusal, answer}
use Rattle.sector.specs.Address.{valid}
use Rattle.sector.specs.Calls.{whole, seal_reply, seal_sector, open_reply, open_sector, Judged, refused as unjudged, judge_answer, parity_reply}
use Rattle.sector.specs.Judge.{good, judgement}
use Rattle.sector.specs.declared.Address.{Address}
use Rattle.sector.specs.declared.Subheader.{Subheader}
use Rattle.sector.specs.Claims.{form_bit}
use Rattle.sector.specs.Layout.{agrees, layout}
use Rattle.sector.specs.Sector.{sealed}
use Rattle.sector.specs.declared.Judgement.{Judgement}
use Rattle.controller.specs.Bits.{bit, only, differs}
use Rattle.controller.specs.Calls.{stepped}
use Rattle.controller.specs.Decoder.{at_stop, admission, counted}
use Rattle.controller.specs.Fields.{◌▹◌, tcc≔, bufc≔, decen≔}
use Rattle.controller.specs.Host.{host_word, host_command, packet_word}
use Rattle.controller.specs.Named.{set_block, set_window, set_expected, packet_byte}
use Rattle.controller.specs.Read.{read}
use Rattle.controller.specs.Step.{Step, refused, replied, done, guarded}
use Rattle.controller.specs.Transfer.{engaged, start_switches, blocks_lacking, started, start, completed, signed, concluded}
use Rattle.controller.specs.Write.{write_tack, decoder_off, write_ctrl0, write_mbtc0, write_astrg, write_asctrl, write_task, write_atsta, write_apksta, write_ascsta, write_bicctl, write_buflim, write_acctl, write_tcc, write_skipc, write_ttc, write}
use Rattle.controller.specs.declared.state.Controller.{Controller}
use Rattle.controller.specs.declared.step.RingFacts.{RingFacts}
use Rattle.controller.specs.declared.step.Event.{Event}
use Rattle.controller.specs.declared.step.Event.TheVariants.{Stay, Advance}
use Rattle.ring.specs.Memory.{stored}
use Rattle.ring.specs.Place.{full, ring_facts}
use Rattle.outcomes.specs.Machine.{Call, plain, sector, look, word, seen, number}
use Rattle.outcomes.proofs.Outcome.{concluded_refused}
use Rattle.outcomes.proofs.Rows.{concluded_reply}
use Rattle.chip.specs.Told as told
use Rattle.chip.specs.Chip.{opened, ring_fits, finished}
use Rattle.chip.specs.Calls.{called, sector_number, received_by, sector_told, sector_ring, next_word, word_by, word_told}
use Rattle.chip.specs.Machine.{State, over, of_word, chip_answer, chip_step}
use Rattle.chip.specs.Sound.{sound}
use Rattle.chip.specs.declared.Chip.{Chip}
use Rattle.chip.specs.Told.{Told, Handed, Refused, WordTold}
use Rattle.chip.proofs.Answers.{looked_is}
use Rattle.claims.specs.Demand1.{Reasons, Applies, Lowest, ordered, one_of, read_registers, write_reasons, plain_reasons, reasons, Resultless, Refusal, judging_reasons, known_kind, other_form, sealing_reasons, Demand1}
use Rattle.claims.proofs.Refines.{refined_sound, refines_opened}

-- Reasons in the order of their numbers

at_least : (low high : ℕ) (rs : Reasons) → ordered low high rs ≡ true → (j : ℕ) → Applies rs j → low ≤ j
at_least low high [] o j a = absurd a
at_least low high (r ∷ rs) o j (inl a) =
    let l = leb-true low r.1 (left_true (leb low r.1) (leb r.1 high && ordered r.1 high rs) o) in
    let e = a.1 in
    omega arith
at_least low high (r ∷ rs) o j (inr a) =
    let l = leb-true low r.1 (left_true (leb low r.1) (leb r.1 high && ordered r.1 high rs) o) in
    let m = right_true (leb low r.1) (leb r.1 high && ordered r.1 high rs) o in
    let k = at_least r.1 high rs (right_true (leb r.1 high) (ordered r.1 high rs) m) j a in
    omega arith

-- the first that holds gives the number, and one that does not hold is passed over

lowest_none : (k : ℕ) → k ≡ 0 → Lowest [] k
lowest_none k z = record { applies = λ some. absurd (some z); lowest = λ j a. absurd a }

lowest_hit : (high : ℕ) (r : Bool × ℕ) (rs : Reasons) → r.0 ≡ true → ordered 1 high (r ∷ rs) ≡ true → Lowest (r ∷ rs) r.1
lowest_hit high r rs e o =
    let l = leb-true 1 r.1 (left_true (leb 1 r.1) (leb r.1 high && ordered r.1 high rs) o) in
    let m = right_true (leb 1 r.1) (leb r.1 high && ordered r.1 high rs) o in
    record {
      applies = λ _. inl (e, refl);
      lowest = λ j a. (omega arith, ⊎_elim (λ (h : (r.0 ≡ true) × (r.1 ≡ j)). let q = h.1 in omega arith) (at_least r.1 high rs (right_true (leb r.1 high) (ordered r.1 high rs) m) j) a);
    }

lowest_miss : (r : Bool × ℕ) (rs : Reasons) (k : ℕ) → r.0 ≡ false → Lowest rs k → Lowest (r ∷ rs) k
lowest_miss r rs k e l =
    record {
      applies = λ some. inr (l.applies some);
      lowest = λ j a. ⊎_elim (λ (h : (r.0 ≡ true) × (r.1 ≡ j)). clash r.0 e h.0) (l.lowest j) a;
    }

-- the number of the first that holds
abbrev first : Reasons → ℕ
first [] = 0
first (r ∷ rs) = if r.0 then r.1 else first rs

record Numbered (rs : Reasons) (k : ℕ) : Type 0 where
  lowest : Lowest rs k
  most : k ≤ 9

lower : (low from high : ℕ) (rs : Reasons) → from ≤ low → ordered low high rs ≡ true → ordered from high rs ≡ true
lower low from high [] le o = refl
lower low from high (r ∷ rs) le o =
    let l = leb-true low r.1 (left_true (leb low r.1) (leb r.1 high && ordered r.1 high rs) o) in
    both_true (leb from r.1) (leb r.1 high && ordered r.1 high rs) (le-leb from r.1 (omega arith))
    (right_true (leb low r.1) (leb r.1 high && ordered r.1 high rs) o)

rest : (high : ℕ) (r : Bool × ℕ) (rs : Reasons) → ordered 1 high (r ∷ rs) ≡ true → ordered 1 high rs ≡ true
rest high r rs o =
    let l = leb-true 1 r.1 (left_true (leb 1 r.1) (leb r.1 high && ordered r.1 high rs) o) in
    let m = right_true (leb 1 r.1) (leb r.1 high && ordered r.1 high rs) o in
    lower r.1 1 high rs l (right_true (leb r.1 high) (ordered r.1 high rs) m)

bounded : (high : ℕ) (r : Bool × ℕ) (rs : Reasons) → ordered 1 high (r ∷ rs) ≡ true → r.1 ≤ high
bounded high r rs o =
    let m = right_true (leb 1 r.1) (leb r.1 high && ordered r.1 high rs) o in
    leb-true r.1 high (left_true (leb r.1 high) (ordered r.1 high rs) m)

numbered : (rs : Reasons) → ordered 1 9 rs ≡ true → Numbered rs (first rs)
numbered [] o = record { lowest = lowest_none 0 refl; most = omega arith }
numbered (r ∷ rs) o =
    let n = numbered rs (rest 9 r rs o) in
    if_case (Numbered (r ∷ rs)) r.0 r.1 (first rs)
    (λ e. record { lowest = lowest_hit 9 r rs e o; most = bounded 9 r rs o })
    (λ e. record { lowest = lowest_miss r rs (first rs) e n.lowest; most = n.most })

-- 1 is the lowest of all
lowest_one : (rs : Reasons) (k : ℕ) → Lowest rs k → Lowest ((true, 1) ∷ rs) 1
lowest_one rs k l =
    record {
      applies = λ _. inl (refl, refl);
      lowest = λ j a. (
        omega arith,
        ⊎_elim (λ (h : (true ≡ true) × (1 ≡ j)). let e = h.1 in omega arith)
            (λ (h : Applies rs j). let m = l.lowest j h in let some = m.0 in let le = m.1 in omega arith) a,
      );
    }

-- What a controller's step answers, of any controller

record Answers (c : Controller) (rs : Reasons) (s : Step) : Type 0 where
  lowest : Lowest rs s.reply.number
  most : s.reply.number ≤ 6
  refusal : (s.reply.number ≡ 0 → ⊥) → s ≡ refused c s.reply.number

module _ (c : Controller) where
  accepted : (d : Controller) (e : Event) (v : ℕ) → Answers c [] (replied d e v)
  accepted d e v = record { lowest = lowest_none 0 refl; most = omega arith; refusal = λ some. absurd (some refl) }

  hit : (r : Bool × ℕ) (rs : Reasons) → r.0 ≡ true → ordered 1 6 (r ∷ rs) ≡ true → Answers c (r ∷ rs) (refused c r.1)
  hit r rs e o =
      record { lowest = lowest_hit 6 r rs e o; most = bounded 6 r rs o; refusal = λ _. refl }

  miss : (r : Bool × ℕ) (rs : Reasons) (s : Step) → r.0 ≡ false → Answers c rs s → Answers c (r ∷ rs) s
  miss r rs s e a = record { lowest = lowest_miss r rs s.reply.number e a.lowest; most = a.most; refusal = a.refusal }

  -- a test that refuses, before a step with the reasons that are left
  tested : (r : Bool × ℕ) (rs : Reasons) → ordered 1 6 (r ∷ rs) ≡ true → (s : Step) → (r.0 ≡ false → Answers c rs s) → Answers c (r ∷ rs) (if r.0 then refused c r.1 else s)
  tested r rs o s f = if_case (Answers c (r ∷ rs)) r.0 (refused c r.1) s (λ e. hit r rs e o) (λ e. miss r rs s e (f e))

  -- a list of tests, and a step that is done
  guards : (rs : Reasons) → ordered 1 6 rs ≡ true → (s : Step) → s.reply.number ≡ 0 → Answers c rs (guarded c rs s)
  guards [] o s z = record { lowest = lowest_none s.reply.number z; most = omega arith; refusal = λ some. absurd (some z) }
  guards (r ∷ rs) o s z = tested r rs o (guarded c rs s) (λ _. guards rs (rest 6 r rs o) s z)

  done_both : (b : Bool) (x y : Step) → x.reply.number ≡ 0 → y.reply.number ≡ 0 → (if b then x else y).reply.number ≡ 0
  done_both b x y p q = if_case (λ (s : Step). s.reply.number ≡ 0) b x y (λ _. p) (λ _. q)

  -- registers

  tack : (v : ℕ) → Answers c ((ltb 255 v, 3) ∷ []) (write_tack c v)
  unfolding write_tack
  tack v = guards ((ltb 255 v, 3) ∷ []) refl _ refl

  ctrl0 : (v : ℕ) → Answers c ((not (eqb v 0x00 || eqb v 0x80), 3) ∷ (eqb v 0x80 && not (c.buffering.blimen && c.acctl.tcincen), 5) ∷ []) (write_ctrl0 c v)
  unfolding write_ctrl0
  ctrl0 v =
      by (eqb v 0x00) (eqb v 0x80) (c.buffering.blimen && c.acctl.tcincen)
      (λ e. let z = eqb-true v 0 e in ne_eqb v 0x80 (omega arith))
    where
      by : (a b d : Bool) → (a ≡ true → b ≡ false)
          → Answers c ((not (a || b), 3) ∷ (b && not d, 5) ∷ [])
          (if a then decoder_off c else if not b then refused c 3 else if not d then refused c 5 else done (c ▹ decen≔ true))
      by true true d h = absurd (false≢true (sym (h refl)))
      by true false d h = miss (false, 3) ((false, 5) ∷ []) _ refl (miss (false, 5) [] _ refl (accepted _ _ _))
      by false false d h = hit (true, 3) ((false, 5) ∷ []) refl refl
      by false true false h = miss (false, 3) ((true, 5) ∷ []) _ refl (hit (true, 5) [] refl refl)
      by false true true h = miss (false, 3) ((false, 5) ∷ []) _ refl (miss (false, 5) [] _ refl (accepted _ _ _))

  mbtc0 : (v : ℕ) → Answers c ((ltb 31 v, 3) ∷ (c.transfer.running, 4) ∷ []) (write_mbtc0 c v)
  unfolding write_mbtc0
  mbtc0 v = guards ((ltb 31 v, 3) ∷ (c.transfer.running, 4) ∷ []) refl _ refl

  astrg : (v : ℕ)
      → Answers c
      ((not (eqb v 0x01 || eqb v 0x04 || eqb v 0x10), 3) ∷ (engaged c, 4)
      ∷ (eqb v 0x04 && not (start_switches c), 5) ∷ (eqb v 0x04 && blocks_lacking c, 6) ∷ [])
      (write_astrg c v)
  unfolding write_astrg start
  astrg v =
      tested (not (eqb v 0x01 || eqb v 0x04 || eqb v 0x10), 3) _ refl _ λ _.
      tested (engaged c, 4) _ refl _ λ _.
      by (eqb v 0x01) (eqb v 0x04) (start_switches c) (blocks_lacking c)
      (λ e. let z = eqb-true v 1 e in ne_eqb v 0x04 (omega arith))
    where
      by : (a b w l : Bool) → (a ≡ true → b ≡ false)
          → Answers c ((b && not w, 5) ∷ (b && l, 6) ∷ [])
          (if a then done (completed c)
          else if b then guarded c ((not w, 5) ∷ (l, 6) ∷ []) (done (started c))
          else done (signed c))
      by true true w l h = absurd (false≢true (sym (h refl)))
      by true false w l h = miss (false, 5) ((false, 6) ∷ []) _ refl (miss (false, 6) [] _ refl (accepted _ _ _))
      by false true w l h = guards ((not w, 5) ∷ (l, 6) ∷ []) refl _ refl
      by false false w l h = miss (false, 5) ((false, 6) ∷ []) _ refl (miss (false, 6) [] _ refl (accepted _ _ _))

  asctrl : (v : ℕ) → Answers c ((not (only (7 ∷ 6 ∷ 5 ∷ 4 ∷ 3 ∷ 0 ∷ []) v && (bit v 6 || not (bit v 5))), 3) ∷ (engaged c, 4) ∷ []) (write_asctrl c v)
  unfolding write_asctrl
  asctrl v = guards ((not (only (7 ∷ 6 ∷ 5 ∷ 4 ∷ 3 ∷ 0 ∷ []) v && (bit v 6 || not (bit v 5))), 3) ∷ (engaged c, 4) ∷ []) refl _ refl

  task : (reg v : ℕ) → Answers c ((ltb 255 v, 3) ∷ []) (write_task c reg v)
  unfolding write_task
  task reg v = guards ((ltb 255 v, 3) ∷ []) refl _ refl

  atsta : (v : ℕ) → Answers c ((not (only (7 ∷ 6 ∷ 4 ∷ 2 ∷ 0 ∷ []) v), 3) ∷ (engaged c, 4) ∷ []) (write_atsta c v)
  unfolding write_atsta
  atsta v = guards ((not (only (7 ∷ 6 ∷ 4 ∷ 2 ∷ 0 ∷ []) v), 3) ∷ (engaged c, 4) ∷ []) refl _ refl

  apksta : (v : ℕ) → Answers c ((not (only (4 ∷ []) v), 3) ∷ []) (write_apksta c v)
  unfolding write_apksta
  apksta v = guards ((not (only (4 ∷ []) v), 3) ∷ []) refl _ refl

  ascsta : (v : ℕ) → Answers c ((not (only (6 ∷ 2 ∷ 0 ∷ []) v), 3) ∷ []) (write_ascsta c v)
  unfolding write_ascsta
  ascsta v = guards ((not (only (6 ∷ 2 ∷ 0 ∷ []) v), 3) ∷ []) refl _ refl

  bicctl : (v : ℕ) → Answers c ((not (only (5 ∷ 4 ∷ []) v), 3) ∷ (c.buffering.decen, 5) ∷ []) (write_bicctl c v)
  unfolding write_bicctl
  bicctl v = guards ((not (only (5 ∷ 4 ∷ []) v), 3) ∷ (c.buffering.decen, 5) ∷ []) refl _ refl

  buflim : (v n : ℕ) → Answers c ((ltb n (v + 2), 3) ∷ (c.buffering.decen, 5) ∷ []) (write_buflim c v n)
  unfolding write_buflim
  buflim v n = guards ((ltb n (v + 2), 3) ∷ (c.buffering.decen, 5) ∷ []) refl _ refl

  acctl : (v : ℕ)
      → Answers c ((ltb 255 v, 3) ∷ (c.transfer.running, 4) ∷ (c.buffering.decen && differs (bit v 5) c.acctl.tcincen, 5) ∷ []) (write_acctl c v)
  unfolding write_acctl
  acctl v =
      guards ((ltb 255 v, 3) ∷ (c.transfer.running, 4) ∷ (c.buffering.decen && differs (bit v 5) c.acctl.tcincen, 5) ∷ []) refl _
      (done_both (bit v 6) _ _ refl refl)

  lowered : (v : ℕ) → Answers c ((ltb 255 v, 3) ∷ (c.transfer.running, 4) ∷ (c.buffering.decen, 5) ∷ (ltb c.counts.tcc v, 6) ∷ []) (write_tcc c v)
  unfolding write_tcc
  lowered v = guards ((ltb 255 v, 3) ∷ (c.transfer.running, 4) ∷ (c.buffering.decen, 5) ∷ (ltb c.counts.tcc v, 6) ∷ []) refl _ refl

  skipc : (v : ℕ) → Answers c ((ltb 255 v, 3) ∷ (c.transfer.running, 4) ∷ (c.acctl.acmen && ltb c.counts.tcc v, 6) ∷ []) (write_skipc c v)
  unfolding write_skipc
  skipc v =
      tested (ltb 255 v, 3) _ refl _ λ _.
      tested (c.transfer.running, 4) _ refl _ λ _.
      by c.acctl.acmen (ltb c.counts.tcc v)
    where
      by : (a l : Bool)
          → Answers c ((a && l, 6) ∷ [])
          (if not a then done c else if l then refused c 6
          else replied (c ▹ tcc≔ (c.counts.tcc - v) ▹ bufc≔ (c.counts.bufc - v)) (Advance v) 0)
      by false l = miss (false, 6) [] _ refl (accepted _ _ _)
      by true l = guards ((l, 6) ∷ []) refl _ refl

  ttc : (v : ℕ) → Answers c ((ltb 255 v, 3) ∷ (c.transfer.running, 4) ∷ []) (write_ttc c v)
  unfolding write_ttc
  ttc v = guards ((ltb 255 v, 3) ∷ (c.transfer.running, 4) ∷ []) refl _ (done_both (not c.acctl.acmen) _ _ refl refl)

  abbrev also : (b : Bool) {x y : Reasons} {p q : Step} → (b ≡ true → Answers c x p) → (b ≡ false → Answers c y q) → Answers c (if b then x else y) (if b then p else q)
  also true f g = f refl
  also false f g = g refl

  written : (reg v n : ℕ) → Answers c (write_reasons c reg v n) (write c reg v n)
  unfolding write
  written reg v n =
      also (eqb reg 0x07) (λ _. tack v) λ _.
      also (eqb reg 0x0A) (λ _. ctrl0 v) λ _.
      also (eqb reg 0x12) (λ _. mbtc0 v) λ _.
      also (eqb reg 0x17) (λ _. astrg v) λ _.
      also (eqb reg 0x18) (λ _. asctrl v) λ _.
      also (eqb reg 0x31) (λ _. task reg v) λ _.
      also (eqb reg 0x32) (λ _. task reg v) λ _.
      also (eqb reg 0x34) (λ _. task reg v) λ _.
      also (eqb reg 0x35) (λ _. task reg v) λ _.
      also (eqb reg 0x37) (λ _. atsta v) λ _.
      also (eqb reg 0x3D) (λ _. apksta v) λ _.
      also (eqb reg 0x3E) (λ _. ascsta v) λ _.
      also (eqb reg 0x9A) (λ _. bicctl v) λ _.
      also (eqb reg 0x9B) (λ _. buflim v n) λ _.
      also (eqb reg 0x9C) (λ _. acctl v) λ _.
      also (eqb reg 0x9D) (λ _. lowered v) λ _.
      also (eqb reg 0x9E) (λ _. skipc v) λ _.
      also (eqb reg 0x9F) (λ _. ttc v) (λ _. hit (true, 2) [] refl refl)

  -- a register is read where it is one of the list
  module _ (reg : ℕ) where
    record ReadOf (b : Bool) (s : Step) : Type 0 where
      found : Answers c ((not b, 2) ∷ []) s

    abbrev or_read : (b : Bool) (v : ℕ) {x : Bool} {s : Step} → ReadOf x s → ReadOf (if b then true else x) (if b then replied c Stay v else s)
    or_read true v f = record { found = miss (false, 2) [] _ refl (accepted c Stay v) }
    or_read false v f = f

    reads : (ring : RingFacts) → ReadOf (one_of reg read_registers) (read c reg ring)
    unfolding read
    reads ring =
        or_read (eqb reg 0x12) _ (or_read (eqb reg 0x18) _ (or_read (eqb reg 0x24) _ (or_read (eqb reg 0x25) _ (or_read (eqb reg 0x30) _
        (or_read (eqb reg 0x31) _ (or_read (eqb reg 0x32) _ (or_read (eqb reg 0x34) _ (or_read (eqb reg 0x35) _ (or_read (eqb reg 0x37) _
        (or_read (eqb reg 0x38) _ (or_read (eqb reg 0x3A) _ (or_read (eqb reg 0x3B) _ (or_read (eqb reg 0x80) _ (or_read (eqb reg 0x9A) _
        (or_read (eqb reg 0x9B) _ (or_read (eqb reg 0x9C) _ (or_read (eqb reg 0x9D) _ (or_read (eqb reg 0x9F) _
        (record { found = hit (true, 2) [] refl refl })))))))))))))))))))

  -- named calls and the host's

  block_set : (t n : ℕ) → Answers c (plain_reasons c (SetBlock t) n) (set_block c t n)
  unfolding set_block
  block_set t n = guards (plain_reasons c (SetBlock t) n) refl _ refl

  window_set : (o w n : ℕ) → Answers c (plain_reasons c (SetWindow o w) n) (set_window c o w)
  unfolding set_window
  window_set o w n = guards (plain_reasons c (SetWindow o w) n) refl _ refl

  expected_set : (a : Address) (n : ℕ) → Answers c (plain_reasons c (SetExpected a) n) (set_expected c a)
  unfolding set_expected
  expected_set a n = guards (plain_reasons c (SetExpected a) n) refl _ refl

  packet_read : (i n : ℕ) → Answers c (plain_reasons c (PacketByte i) n) (packet_byte c i)
  unfolding packet_byte
  packet_read i n = guards (plain_reasons c (PacketByte i) n) refl _ refl

  commanded : (v n : ℕ) → Answers c (plain_reasons c (Command v) n) (host_command c v)
  unfolding host_command
  commanded v n = guards (plain_reasons c (Command v) n) refl _ (done_both (eqb v 0xA0 && c.asctrl.apkten) _ _ refl refl)

  packet_given : (w n : ℕ) → Answers c (plain_reasons c (PacketWord w) n) (packet_word c w)
  unfolding packet_word
  packet_given w n = guards (plain_reasons c (PacketWord w) n) refl _ (done_both (ltb c.packet.received 5) _ _ refl refl)

  word_given : Answers c ((not c.transfer.running, 5) ∷ []) (host_word c)
  unfolding host_word
  word_given =
      guards ((not c.transfer.running, 5) ∷ []) refl _
      (done_both (ltb (c.transfer.position + 1) c.window.words) _ _ refl (done_both (ltb 1 c.transfer.left) _ _ refl refl))

  steps : (call : Plain) (ring : RingFacts) → Answers c (plain_reasons c call ring.n) (stepped c call ring)
  unfolding stepped
  steps (Write reg v) ring = written reg v ring.n
  steps (Read reg) ring = (reads reg ring).found
  steps (SetBlock t) ring = block_set t ring.n
  steps (SetWindow o w) ring = window_set o w ring.n
  steps (SetExpected a) ring = expected_set a ring.n
  steps (PacketByte i) ring = packet_read i ring.n
  steps Reset ring = accepted _ _ _
  steps (Command v) ring = commanded v ring.n
  steps (PacketWord w) ring = packet_given w ring.n
  steps Status ring = accepted _ _ _
  steps Srst ring = accepted _ _ _

-- What a chip's call answers

record Replies (c : Chip) (rs : Reasons) (t : Told) : Type 0 where
  lowest : Lowest rs t.reply.number
  most : t.reply.number ≤ 9
  refusal : (t.reply.number ≡ 0 → ⊥) → t ≡ told.refused c t.reply.number

module _ (c : Chip) where
  -- a controller's step, concluded: no start follows a refusal
  concludes : (rs : Reasons) (s : Step) → Answers c.controller rs s → Replies c rs (finished c.place (concluded s))
  concludes rs s a =
      let same : (concluded s).reply.number ≡ s.reply.number = ap (λ (r : Reply). r.number) (concluded_reply s) in
      record {
        lowest = subst (Lowest rs) (sym same) a.lowest;
        most = let m = a.most in omega arith;
        refusal = λ some.
            let k = s.reply.number in
            let nonzero : k ≡ 0 → ⊥ = λ z. some (same ∙ z) in
            let is = a.refusal nonzero in
            let kept : concluded s ≡ refused c.controller k = ap concluded is ∙ concluded_refused c.controller k nonzero in
            ap (finished c.place) kept ∙ ap (told.refused c) (sym same);
      }

  called_replies : (call : Plain) → Replies c ((not (sound c), 1) ∷ plain_reasons c.controller call c.place.n) (called c call)
  unfolding called
  called_replies call = by (sound c)
    where
      by : (b : Bool) → Replies c ((not b, 1) ∷ plain_reasons c.controller call c.place.n)
          (if b then finished c.place (concluded (stepped c.controller call (ring_facts c.place))) else told.refused c 1)
      by true =
          let r = concludes _ _ (steps c.controller call (ring_facts c.place)) in
          record { lowest = lowest_miss (false, 1) _ _ refl r.lowest; most = r.most; refusal = r.refusal }
      by false =
          record {
            lowest = lowest_one _ _ (steps c.controller call (ring_facts c.place)).lowest;
            most = omega arith;
            refusal = λ _. refl;
          }

  -- a sector: its number first
  module _ (ring x : List ℕ) where
    abbrev sector_reasons : Reasons
    sector_reasons =
        (not (sound c && ring_fits c ring && eqb (length x) 2352), 1)
        ∷ (not c.controller.buffering.decen, 7)
        ∷ (c.controller.counts.held, 8)
        ∷ (at_stop c.controller (full c.place), 9)
        ∷ []

    sector_numbered : Numbered sector_reasons (sector_number c ring x)
    unfolding sector_number admission
    sector_numbered = numbered sector_reasons refl

    counted_number : (j : Judgement) → (concluded (counted c.controller j)).reply.number ≡ 0
    unfolding counted
    counted_number j =
        ap (λ (r : Reply). r.number) (concluded_reply (counted c.controller j))
        ∙ if_case (λ (s : Step). s.reply.number ≡ 0) (good j) _ _ (λ _. refl) (λ _. refl)

    record Lends (t : Told) (y : List ℕ) : Type 0 where
      replies : Replies c sector_reasons t
      kept : (t.reply.number ≡ 0 → ⊥) → y ≡ ring

    sector_lends : Lends (sector_told c ring x) (sector_ring c ring x)
    unfolding sector_told sector_ring
    sector_lends = by (sector_number c ring x) (eqb (sector_number c ring x) 0) refl sector_numbered
      where
        by : (k : ℕ) (e : Bool) → eqb k 0 ≡ e → Numbered sector_reasons k
            → Lends (if e then finished c.place (concluded (counted c.controller (received_by c x).judgement)) else told.refused c k)
            (if e then stored ring c.place.b (received_by c x).bytes else ring)
        by k true e n =
            let z = counted_number (received_by c x).judgement in
            record {
              replies = record {
                lowest = subst (Lowest sector_reasons) (eqb-true k 0 e ∙ sym z) n.lowest;
                most = omega arith;
                refusal = λ some. absurd (some z);
              };
              kept = λ some. absurd (some z);
            }
        by k false e n = record { replies = record { lowest = n.lowest; most = n.most; refusal = λ _. refl }; kept = λ _. refl }

  -- a word is handed over or refused
  module _ (ring : List ℕ) where
    record Words (rs : Reasons) (t : WordTold) : Type 0 where
      lowest : Lowest rs (number (of_word t.word))
      most : number (of_word t.word) ≤ 9
      refusal : (number (of_word t.word) ≡ 0 → ⊥) → Resultless (of_word t.word) × (t.chip ≡ c)

    word_number : (k w : ℕ) → number (of_word (word_by k w)) ≡ k
    word_number k w = by (eqb k 0) refl
      where
        by : (e : Bool) → eqb k 0 ≡ e → number (of_word (if e then Handed w else Refused k)) ≡ k
        by true e = sym (eqb-true k 0 e)
        by false e = refl

    word_resultless : (k w : ℕ) → (k ≡ 0 → ⊥) → Resultless (of_word (word_by k w))
    word_resultless k w some = rw (ne_eqb k 0 some) tt

    word_words : Words ((not (sound c && ring_fits c ring), 1) ∷ (not c.controller.transfer.running, 5) ∷ []) (word_told c ring)
    unfolding word_told
    word_words = by (sound c && ring_fits c ring)
      where
        by : (b : Bool) → Words ((not b, 1) ∷ (not c.controller.transfer.running, 5) ∷ [])
            (if b then record {
              chip = (finished c.place (concluded (host_word c.controller))).chip;
              word = word_by (host_word c.controller).reply.number (next_word c ring);
            }
            else record { chip = c; word = Refused 1 })
        by true =
            let a = word_given c.controller in
            let k = (host_word c.controller).reply.number in
            let n = word_number k (next_word c ring) in
            let r = concludes _ _ a in
            let same : (concluded (host_word c.controller)).reply.number ≡ k = ap (λ (q : Reply). q.number) (concluded_reply (host_word c.controller)) in
            record {
              lowest = lowest_miss (false, 1) _ _ refl (subst (Lowest ((not c.controller.transfer.running, 5) ∷ [])) (sym n) a.lowest);
              most = let m = a.most in omega arith;
              refusal = λ some.
                  let nonzero : k ≡ 0 → ⊥ = λ z. some (n ∙ z) in
                  (word_resultless k (next_word c ring) nonzero, ap (λ (t : Told). t.chip) (r.refusal (λ z. nonzero (sym same ∙ z))));
            }
        by false =
            record { lowest = lowest_one _ _ (word_given c.controller).lowest; most = omega arith; refusal = λ _. (tt, refl) }

-- Every call of any chip over any ring

lowest_answer : (call : Call) (s : State) → Lowest (reasons call s) (number (chip_answer call s))
unfolding chip_answer
lowest_answer (plain c) s = (called_replies s.chip c).lowest
lowest_answer (sector x) s = (sector_lends s.chip s.ring x).replies.lowest
lowest_answer look s = lowest_none 0 refl
lowest_answer word s = (word_words s.chip s.ring).lowest

refusals : (call : Call) (s : State) → (number (chip_answer call s) ≡ 0 → ⊥) → Refusal call s
unfolding chip_answer chip_step
refusals (plain c) s some =
    let r = called_replies s.chip c in
    let is = r.refusal some in
    let most = r.most in
    record {
      listed = (omega arith, most);
      resultless = ap (λ (t : Told). t.reply.result) is;
      unchanged = ap (λ (t : Told). over t.chip s.ring) is;
    }
refusals (sector x) s some =
    let l = sector_lends s.chip s.ring x in
    let is = l.replies.refusal some in
    let most = l.replies.most in
    record {
      listed = (omega arith, most);
      resultless = ap (λ (t : Told). t.reply.result) is;
      unchanged = ap₂ over (ap (λ (t : Told). t.chip) is) (l.kept some);
    }
refusals look s some = absurd (some refl)
refusals word s some =
    let w = word_words s.chip s.ring in
    let both = w.refusal some in
    let most = w.most in
    record { listed = (omega arith, most); resultless = both.0; unchanged = ap (λ (k : Chip). over k s.ring) both.1 }

look_keeps : (s : State) → chip_step look s ≡ s
unfolding chip_step
look_keeps s = refl

unseen : (s : State)
    → (sound s.chip && ring_fits s.chip s.ring && not (eqb s.chip.controller.counts.tcc 0) && not (eqb s.chip.controller.window.words 0)) ≡ false
    → chip_answer look s ≡ seen []
unfolding chip_answer
unseen s e = ap seen (looked_is s.chip s.ring ∙ if_false (sound s.chip && ring_fits s.chip s.ring && not (eqb s.chip.controller.counts.tcc 0) && not (eqb s.chip.controller.window.words 0)) _ [] e)

-- Opening

open_true : (n : ℕ) → 3 ≤ n → n ≤ 255 → (leb 3 n && leb n 255) ≡ true
open_true n low high = both_true (leb 3 n) (leb n 255) (le-leb _ _ low) (le-leb _ _ high)

open_false : (n : ℕ) → (3 ≤ n → n ≤ 255 → ⊥) → (leb 3 n && leb n 255) ≡ false
open_false n out = by (leb 3 n && leb n 255) refl
  where
    by : (b : Bool) → (leb 3 n && leb n 255) ≡ b → b ≡ false
    by true e = absurd (out (leb-true 3 n (left_true (leb 3 n) (leb n 255) e)) (leb-true n 255 (right_true (leb 3 n) (leb n 255) e)))
    by false e = refl

opening : (n : ℕ) → 3 ≤ n → n ≤ 255 → ((opened n).reply ≡ answer 0) × ((opened n).chip.place.n ≡ n) × (sound (opened n).chip ≡ true)
unfolding opened
opening n low high =
    let e = open_true n low high in (
      ap (λ (t : Told). t.reply) (if_true (leb 3 n && leb n 255) _ _ e),
      ap (λ (t : Told). t.chip.place.n) (if_true (leb 3 n && leb n 255) _ _ e),
      refined_sound _ _ (refines_opened n low high (replicate (n * 2560) 0) (length-replicate {A = ℕ} (n * 2560) 0)),
    )

-- a record with no blocks
unsound : (c : Chip) → c.place.n ≡ 0 → sound c ≡ false
unfolding sound
unsound c e = rw e refl

unopened : (n : ℕ) → (3 ≤ n → n ≤ 255 → ⊥) → ((opened n).reply ≡ refusal 1) × ((opened n).chip.place.n ≡ 0) × (sound (opened n).chip ≡ false)
unfolding opened
unopened n out =
    let e = if_false (leb 3 n && leb n 255) _ _ (open_false n out) in
    let zero = ap (λ (t : Told). t.chip.place.n) e in
    (ap (λ (t : Told). t.reply) e, zero, unsound _ zero)

-- Sectors alone

-- a kind is sealed where it is known and the form is its own
agrees_is : (k : ℕ) (b : Bool) → (eqb k 1 || eqb k (if b then 3 else 2)) ≡ ((eqb k 1 || (eqb k 2 || eqb k 3)) && not ((eqb k 2 && b) || (eqb k 3 && not b)))
agrees_is zero true = refl
agrees_is zero false = refl
agrees_is (suc zero) true = refl
agrees_is (suc zero) false = refl
agrees_is (suc (suc zero)) true = refl
agrees_is (suc (suc zero)) false = refl
agrees_is (suc (suc (suc zero))) true = refl
agrees_is (suc (suc (suc zero))) false = refl
agrees_is (suc (suc (suc (suc n)))) b =
    let k = suc (suc (suc (suc n))) in
    simp (ne_eqb k 1 (λ (e : k ≡ 1). omega arith), ne_eqb k 2 (λ (e : k ≡ 2). omega arith), ne_eqb k 3 (λ (e : k ≡ 3). omega arith), above b)
  where
    above : (b : Bool) → eqb (suc (suc (suc (suc n)))) (if b then 3 else 2) ≡ false
    above true = ne_eqb (suc (suc (suc (suc n)))) 3 (λ (e : suc (suc (suc (suc n))) ≡ 3). omega arith)
    above false = ne_eqb (suc (suc (suc (suc n)))) 2 (λ (e : suc (suc (suc (suc n))) ≡ 2). omega arith)

module _ (s : List ℕ) (a : Address) where
  record Alone (f v : Bool) (k : ℕ) : Type 0 where
    lowest : Lowest ((not f, 1) ∷ (not v, 3) ∷ []) k

  -- by the length, then by the address
  alone : (f v : Bool) → Alone f v (if f then (if v then 0 else 3) else 1)
  alone false v = record { lowest = lowest_one _ _ (numbered ((not v, 3) ∷ []) refl).lowest }
  alone true false = record { lowest = (numbered ((false, 1) ∷ (true, 3) ∷ []) refl).lowest }
  alone true true = record { lowest = (numbered ((false, 1) ∷ (false, 3) ∷ []) refl).lowest }

  module _ (k : ℕ) (h : Subheader) where
    -- then by the kind, and by its form
    record Sealable (f v n w : Bool) (j : ℕ) : Type 0 where
      lowest : Lowest ((not f, 1) ∷ (not v, 3) ∷ (not n, 3) ∷ (w, 3) ∷ []) j

    sealable : (f v n w : Bool) → Sealable f v n w (if f then (if v && (n && not w) then 0 else 3) else 1)
    sealable false v n w = record { lowest = lowest_one _ _ (numbered ((not v, 3) ∷ (not n, 3) ∷ (w, 3) ∷ []) refl).lowest }
    sealable true false n w = record { lowest = (numbered ((false, 1) ∷ (true, 3) ∷ (not n, 3) ∷ (w, 3) ∷ []) refl).lowest }
    sealable true true false w = record { lowest = (numbered ((false, 1) ∷ (false, 3) ∷ (true, 3) ∷ (w, 3) ∷ []) refl).lowest }
    sealable true true true true = record { lowest = (numbered ((false, 1) ∷ (false, 3) ∷ (false, 3) ∷ (true, 3) ∷ []) refl).lowest }
    sealable true true true false = record { lowest = (numbered ((false, 1) ∷ (false, 3) ∷ (false, 3) ∷ (false, 3) ∷ []) refl).lowest }

    record Seals (f v : Bool) (r : Reply) (t : List ℕ) : Type 0 where
      number_is : r.number ≡ (if f then (if v then 0 else 3) else 1)
      refusal : (r.number ≡ 0 → ⊥) → (r.result ≡ 0) × (t ≡ s)

    seals : Seals (whole s) (valid a && agrees k h) (seal_reply s a k h) (seal_sector s a k h)
    unfolding seal_reply seal_sector
    seals = by (whole s) (valid a && agrees k h)
      where
        by : (f v : Bool) → Seals f v (if f then (if v then answer 0 else refusal 3) else refusal 1) (if f then (if v then sealed (layout k) a h s else s) else s)
        by false v = record { number_is = refl; refusal = λ _. (refl, refl) }
        by true false = record { number_is = refl; refusal = λ _. (refl, refl) }
        by true true = record { number_is = refl; refusal = λ some. absurd (some refl) }

    lowest_seal : Lowest (sealing_reasons s a k h) (seal_reply s a k h).number
    lowest_seal =
        subst (Lowest (sealing_reasons s a k h))
        (sym (seals.number_is ∙ ap (λ (b : Bool). if whole s then (if valid a && b then 0 else 3) else 1) (agrees_is k (form_bit h))))
        (sealable (whole s) (valid a) (known_kind k) (other_form k h)).lowest

  record Judges (f v : Bool) (j : Judged) : Type 0 where
    number_is : j.number ≡ (if f then (if v then 0 else 3) else 1)
    refusal : (j.number ≡ 0 → ⊥) → j ≡ unjudged j.number

  judges : Judges (whole s) (valid a) (judge_answer s a)
  unfolding judge_answer
  judges = by (whole s) (valid a)
    where
      by : (f v : Bool) → Judges f v (if f then (if v then record { number = 0; judgement = judgement a s } else unjudged 3) else unjudged 1)
      by false v = record { number_is = refl; refusal = λ _. refl }
      by true false = record { number_is = refl; refusal = λ _. refl }
      by true true = record { number_is = refl; refusal = λ some. absurd (some refl) }

module _ (s : List ℕ) where
  record Opens (f : Bool) (r : Reply) (t : List ℕ) : Type 0 where
    lowest : Lowest ((not f, 1) ∷ []) r.number
    refusal : (r.number ≡ 0 → ⊥) → (r.result ≡ 0) × (t ≡ s)

  opens : Opens (whole s) (open_reply s) (open_sector s)
  unfolding open_reply open_sector
  opens = by (whole s) _
    where
      by : (f : Bool) (t : List ℕ) → Opens f (if f then answer 0 else refusal 1) (if f then t else s)
      by false t = record { lowest = (numbered ((true, 1) ∷ []) refl).lowest; refusal = λ _. (refl, refl) }
      by true t = record { lowest = (numbered ((false, 1) ∷ []) refl).lowest; refusal = λ some. absurd (some refl) }

  record Checks (f : Bool) (r : Reply) : Type 0 where
    lowest : Lowest ((not f, 1) ∷ []) r.number
    refusal : (r.number ≡ 0 → ⊥) → r.result ≡ 0

  checks : Checks (whole s) (parity_reply s)
  unfolding parity_reply
  checks = by (whole s) _
    where
      by : (f : Bool) (x : ℕ) → Checks f (if f then answer x else refusal 1)
      by false x = record { lowest = (numbered ((true, 1) ∷ []) refl).lowest; refusal = λ _. refl }
      by true x = record { lowest = (numbered ((false, 1) ∷ []) refl).lowest; refusal = λ some. absurd (some refl) }

pub demand1 : Demand1
demand1 = record {
  tested = λ c rs o s z. (guards c rs o s z).lowest;
  answered = lowest_answer;
  refused = refusals;
  looked = look_keeps;
  unseen = unseen;
  opening = opening;
  unopened = unopened;
  sealing = lowest_seal;
  unsealed = λ s a k h. (seals s a k h).refusal;
  descrambling = λ s. (opens s).lowest;
  unchanged = λ s. (opens s).refusal;
  judging = λ s a. subst (Lowest (judging_reasons s a)) (sym (judges s a).number_is) (alone s a (whole s) (valid a)).lowest;
  no_fact = λ s a. (judges s a).refusal;
  checking = λ s. (checks s).lowest;
  unchecked = λ s. (checks s).refusal;
}
