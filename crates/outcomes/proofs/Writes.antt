-- The outcome of a register's write, register by register. Assumes nothing.
use Prim.Native.Nat.{ℕ, ◌+◌, ◌-◌, ◌%◌, ◌≤◌}
use mathlib.Core.Path.{◌≡◌, refl, sym, ap}
use mathlib.Core.Bool.{Bool, true, false, ◌&&◌, ◌||◌, not, true≢false, false≢true}
use mathlib.Core.List.{List, [], ◌∷◌}
use native.Mathlib.Nat.{le_of_eq}
use native.Mathlib.Omega.{arith}
use lib.Dec.{eqb, ltb}
use lib.ListN.{drop}
use lib.Seq.{take_all}
use borrow.Author.Tests.{ltb-false, eqb-true, not-false}
use Rattle.laws.proofs.Choice.{if_case, left_true, right_true}
use Rattle.laws.proofs.Tests.{clash, contra, if_not, weightless}
use Rattle.calls.specs.declared.Call.TheVariants.{Write}
use Rattle.controller.specs.Bits.{bit, only, differs}
use Rattle.controller.specs.Fields.{◌▹◌, task≔}
use Rattle.controller.specs.Step.{Step, guarded}
use Rattle.controller.specs.Transfer.{engaged, start_switches, blocks_lacking, started, start}
use Rattle.controller.specs.Write.{write_tack, decoder_off, write_ctrl0, write_mbtc0, write_astrg, write_asctrl, with_task, write_task, write_atsta, write_apksta, write_ascsta, write_bicctl, write_buflim, acctl_of, write_acctl, write_tcc, write_skipc, write_ttc, write}
use Rattle.controller.specs.declared.state.Controller.{Controller}
use Rattle.controller.specs.declared.step.Event.TheVariants.{Advance, Rewind}
use Rattle.outcomes.specs.Book.{Book, book_of, fed, limited}
use Rattle.outcomes.specs.Invariant.{Consistent}
use Rattle.outcomes.specs.Machine.{plain}
use Rattle.outcomes.proofs.Consistent.{consistent_decoder, consistent_idle}
use Rattle.outcomes.proofs.Outcome.{Outcome, numbered, Passed, by_tests, no, stays, free, quiet, moves_blocks}
use Rattle.outcomes.proofs.Starts.{consistent_started, started_same, started_book}

-- TCINCEN stays high with DECEN
same_switch : (d x t : Bool) → (d && differs x t) ≡ false → d ≡ true → t ≡ true → x ≡ true
same_switch d true t e p q = refl
same_switch true false true e p q = absurd (true≢false e)
same_switch true false false e p q = absurd (false≢true q)
same_switch false false t e p q = absurd (false≢true p)

module _ (n : ℕ) (c : Controller) (h : Consistent c) (limit : c.buffering.buflim + 2 ≤ n) (v : ℕ) where
  abbrev By : ℕ → Step → Type 0
  By reg s = Outcome n (plain (Write reg v)) c s

  -- refused by one of the tests, or done
  tested : (reg : ℕ) (tests : List (Bool × ℕ)) → numbered tests ≡ true → (s : Step) → Passed tests (By reg s) → By reg (guarded c tests s)
  tested reg tests positive s f = by_tests n (plain (Write reg v)) c tests positive s f

  tack : By 0x07 (write_tack c v)
  unfolding write_tack
  tack = tested 0x07 ((ltb 255 v, 3) ∷ []) refl _ λ _. free n c h limit _ _ 0 refl refl (λ _. refl) refl limit

  decoder_low : By 0x0A (decoder_off c)
  decoder_low =
      moves_blocks n c h limit _ _ (Rewind c.counts.tcc)
      (consistent_decoder c c.counts.tcc c.counts.tcc false c.expected
      (record { decen = false; blimen = c.buffering.blimen; blims = c.buffering.blims; buflim = c.buffering.buflim }) c.judgement
      (omega arith) (omega arith) h.expected (λ (e : false ≡ true). clash false refl e) (λ (e : false ≡ true). clash false refl e) h)
      (omega arith, refl, refl)
      (λ row size. ap (book_of c) (take_all c.counts.tcc row (le_of_eq size))) refl refl tt

  ctrl0 : By 0x0A (write_ctrl0 c v)
  unfolding write_ctrl0
  ctrl0 =
      if_case (By 0x0A) (eqb v 0) _ _ (λ _. decoder_low) λ _.
      tested 0x0A ((not (eqb v 0x80), 3) ∷ (not (c.buffering.blimen && c.acctl.tcincen), 5) ∷ []) refl _ λ _ off.
      let on = not-false (c.buffering.blimen && c.acctl.tcincen) off in
      stays n c h limit _ _ 0
      (consistent_decoder c c.counts.tcc c.counts.bufc c.counts.held c.expected
      (record { decen = true; blimen = c.buffering.blimen; blims = c.buffering.blims; buflim = c.buffering.buflim }) c.judgement
      (omega arith) h.buffered h.expected (λ _. refl)
      (λ _. (left_true c.buffering.blimen c.acctl.tcincen on, right_true c.buffering.blimen c.acctl.tcincen on)) h)
      refl refl (λ _. refl) refl limit

  mbtc0 : By 0x12 (write_mbtc0 c v)
  unfolding write_mbtc0
  mbtc0 =
      tested 0x12 ((ltb 31 v, 3) ∷ (c.transfer.running, 4) ∷ []) refl _ λ e off.
      stays n c h limit _ _ 0
      (consistent_idle c c.counts c.acctl v c.window off
      h.buffered h.held h.ttc h.uncached h.atlim h.decen (ltb-false _ _ e) h.window h)
      refl refl (λ _. refl) refl limit

  starts : engaged c ≡ false → By 0x17 (start c)
  unfolding start
  starts q =
      tested 0x17 ((not (start_switches c), 5) ∷ (blocks_lacking c, 6) ∷ []) refl _ λ s b.
      let same = started_same c in
      stays n c h limit _ (started c) 0 (consistent_started c q (not-false (start_switches c) s) b h)
      (ap (λ (x : Controller). x.counts.tcc) same) (ap (λ (x : Controller). x.counts.bufc) same)
      (λ row. started_book c row q h)
      (ap (λ (x : Controller). x.buffering.blims) same)
      (rw (ap (λ (x : Controller). x.buffering.buflim) same) limit)

  astrg : By 0x17 (write_astrg c v)
  unfolding write_astrg
  astrg =
      tested 0x17 ((not (eqb v 0x01 || eqb v 0x04 || eqb v 0x10), 3) ∷ (engaged c, 4) ∷ []) refl _ λ _ q.
      if_case (By 0x17) (eqb v 0x01) _ _ (λ _. quiet n c h limit _ _ q refl refl (λ _. refl) refl refl) λ _.
      if_case (By 0x17) (eqb v 0x04) _ _ (λ _. starts q) (λ _. quiet n c h limit _ _ q refl refl (λ _. refl) refl refl)

  asctrl : By 0x18 (write_asctrl c v)
  unfolding write_asctrl
  asctrl =
      tested 0x18 ((not (only (7 ∷ 6 ∷ 5 ∷ 4 ∷ 3 ∷ 0 ∷ []) v && (bit v 6 || not (bit v 5))), 3) ∷ (engaged c, 4) ∷ []) refl _ λ _ q.
      quiet n c h limit _ _ q refl refl (λ _. refl) refl refl

  -- 31h, 32h, 34h, 35h, of which the book takes no note
  task :
      (reg : ℕ) → ((b : Book) → fed (plain (Write reg v)) b ≡ b) → ((l : Bool) → limited (plain (Write reg v)) 0 l ≡ l)
      → By reg (write_task c reg v)
  unfolding write_task
  task reg unread unlimited =
      tested reg ((ltb 255 v, 3) ∷ []) refl _ λ _.
      free n c h limit _ (c ▹ task≔ (with_task c.task reg v)) 0 refl refl (λ row. sym (unread (book_of c row))) (sym (unlimited c.buffering.blims)) limit

  atsta : By 0x37 (write_atsta c v)
  unfolding write_atsta
  atsta =
      tested 0x37 ((not (only (7 ∷ 6 ∷ 4 ∷ 2 ∷ 0 ∷ []) v), 3) ∷ (engaged c, 4) ∷ []) refl _ λ _ q.
      quiet n c h limit _ _ q refl refl (λ _. refl) refl refl

  apksta : By 0x3D (write_apksta c v)
  unfolding write_apksta
  apksta = tested 0x3D ((not (only (4 ∷ []) v), 3) ∷ []) refl _ λ _. free n c h limit _ _ 0 refl refl (λ _. refl) refl limit

  ascsta : By 0x3E (write_ascsta c v)
  unfolding write_ascsta
  ascsta = tested 0x3E ((not (only (6 ∷ 2 ∷ 0 ∷ []) v), 3) ∷ []) refl _ λ _. free n c h limit _ _ 0 refl refl (λ _. refl) refl limit

  bicctl : By 0x9A (write_bicctl c v)
  unfolding write_bicctl
  bicctl =
      tested 0x9A ((not (only (5 ∷ 4 ∷ []) v), 3) ∷ (c.buffering.decen, 5) ∷ []) refl _ λ _ low.
      stays n c h limit _ _ 0
      (consistent_decoder c c.counts.tcc c.counts.bufc c.counts.held c.expected
      (record { decen = c.buffering.decen; blimen = bit v 5; blims = bit v 4; buflim = c.buffering.buflim }) c.judgement
      (omega arith) h.buffered h.expected h.held (λ e. clash c.buffering.decen low e) h)
      refl refl (λ _. refl) refl limit

  buflim : By 0x9B (write_buflim c v n)
  unfolding write_buflim
  buflim =
      tested 0x9B ((ltb n (v + 2), 3) ∷ (c.buffering.decen, 5) ∷ []) refl _ λ e _.
      free n c h limit _ _ 0 refl refl (λ _. refl) refl (ltb-false _ _ e)

  acctl : By 0x9C (write_acctl c v)
  unfolding write_acctl
  acctl =
      let low : v % 32 ≤ 31 = omega arith in
      tested 0x9C ((ltb 255 v, 3) ∷ (c.transfer.running, 4) ∷ (c.buffering.decen && differs (bit v 5) c.acctl.tcincen, 5) ∷ []) refl _ λ _ off e.
      if_case (By 0x9C) (bit v 6) _ _
      (λ high. stays n c h limit _ _ 0
      (consistent_idle c c.counts (acctl_of v) c.mbc c.window off
      h.buffered h.held h.ttc (λ l. clash (bit v 6) l high) low
      (λ d. ((h.decen d).0, same_switch c.buffering.decen (bit v 5) c.acctl.tcincen e d (h.decen d).1)) h.mbc h.window h)
      refl refl (λ _. refl) refl limit)
      (λ _. stays n c h limit _ _ 0
      (consistent_idle c (record { tcc = c.counts.tcc; bufc = c.counts.bufc; ttc = 0; held = c.counts.held }) (acctl_of v) c.mbc c.window off
      h.buffered h.held (omega arith) (λ _. refl) low
      (λ d. ((h.decen d).0, same_switch c.buffering.decen (bit v 5) c.acctl.tcincen e d (h.decen d).1)) h.mbc h.window h)
      refl refl (λ _. refl) refl limit)

  lowered : By 0x9D (write_tcc c v)
  unfolding write_tcc
  lowered =
      tested 0x9D ((ltb 255 v, 3) ∷ (c.transfer.running, 4) ∷ (c.buffering.decen, 5) ∷ (ltb c.counts.tcc v, 6) ∷ []) refl _ λ _ off low e.
      let w = weightless c.counts.held 1 (contra c.counts.held c.buffering.decen h.held low) in
      moves_blocks n c h limit _ _ (Rewind v)
      (consistent_idle c (record { tcc = v; bufc = v; ttc = c.counts.ttc; held = c.counts.held }) c.acctl c.mbc c.window off
      (omega arith) h.held h.ttc h.uncached h.atlim h.decen h.mbc h.window h)
      (ltb-false _ _ e, refl, refl) (λ _ _. refl) refl refl tt

  -- the book's ACMEN is the controller's
  acmen_low : c.acctl.acmen ≡ false → (row : List (List ℕ)) → book_of c row ≡ fed (plain (Write 0x9E v)) (book_of c row)
  acmen_low low row = rw low refl

  acmen_high : c.acctl.acmen ≡ true → (row : List (List ℕ)) → book_of c (drop v row) ≡ fed (plain (Write 0x9E v)) (book_of c row)
  acmen_high high row = rw high refl

  skipc : By 0x9E (write_skipc c v)
  unfolding write_skipc
  skipc =
      tested 0x9E ((ltb 255 v, 3) ∷ (c.transfer.running, 4) ∷ []) refl _ λ _ off.
      if_not (By 0x9E) c.acctl.acmen _ _ (λ low. stays n c h limit _ c 0 h refl refl (acmen_low low) refl limit) λ high.
      tested 0x9E ((ltb c.counts.tcc v, 6) ∷ []) refl _ λ e.
      let b = h.buffered in
      let l : v ≤ c.counts.tcc = ltb-false _ _ e in
      moves_blocks n c h limit _ _ (Advance v)
      (consistent_idle c (record { tcc = c.counts.tcc - v; bufc = c.counts.bufc - v; ttc = c.counts.ttc; held = c.counts.held }) c.acctl c.mbc c.window off
      (omega arith) h.held h.ttc h.uncached h.atlim h.decen h.mbc h.window h)
      (l, refl, refl) (λ row _. acmen_high high row) refl refl tt

  ttc : By 0x9F (write_ttc c v)
  unfolding write_ttc
  ttc =
      tested 0x9F ((ltb 255 v, 3) ∷ (c.transfer.running, 4) ∷ []) refl _ λ e off.
      if_not (By 0x9F) c.acctl.acmen _ _ (λ _. stays n c h limit _ c 0 h refl refl (λ _. refl) refl limit) λ high.
      stays n c h limit _ _ 0
      (consistent_idle c (record { tcc = c.counts.tcc; bufc = c.counts.bufc; ttc = v; held = c.counts.held }) c.acctl c.mbc c.window off
      h.buffered h.held (ltb-false _ _ e) (λ l. clash c.acctl.acmen l high) h.atlim h.decen h.mbc h.window h)
      refl refl (λ _. refl) refl limit

  pub written : (reg : ℕ) → By reg (write c reg v n)
  unfolding write
  written reg =
      if_case (By reg) (eqb reg 0x07) _ _ (λ e. rw (eqb-true reg 0x07 e) tack) λ _.
      if_case (By reg) (eqb reg 0x0A) _ _ (λ e. rw (eqb-true reg 0x0A e) ctrl0) λ _.
      if_case (By reg) (eqb reg 0x12) _ _ (λ e. rw (eqb-true reg 0x12 e) mbtc0) λ _.
      if_case (By reg) (eqb reg 0x17) _ _ (λ e. rw (eqb-true reg 0x17 e) astrg) λ _.
      if_case (By reg) (eqb reg 0x18) _ _ (λ e. rw (eqb-true reg 0x18 e) asctrl) λ _.
      if_case (By reg) (eqb reg 0x31) _ _ (λ e. rw (eqb-true reg 0x31 e) (task 0x31 (λ _. refl) (λ _. refl))) λ _.
      if_case (By reg) (eqb reg 0x32) _ _ (λ e. rw (eqb-true reg 0x32 e) (task 0x32 (λ _. refl) (λ _. refl))) λ _.
      if_case (By reg) (eqb reg 0x34) _ _ (λ e. rw (eqb-true reg 0x34 e) (task 0x34 (λ _. refl) (λ _. refl))) λ _.
      if_case (By reg) (eqb reg 0x35) _ _ (λ e. rw (eqb-true reg 0x35 e) (task 0x35 (λ _. refl) (λ _. refl))) λ _.
      if_case (By reg) (eqb reg 0x37) _ _ (λ e. rw (eqb-true reg 0x37 e) atsta) λ _.
      if_case (By reg) (eqb reg 0x3D) _ _ (λ e. rw (eqb-true reg 0x3D e) apksta) λ _.
      if_case (By reg) (eqb reg 0x3E) _ _ (λ e. rw (eqb-true reg 0x3E e) ascsta) λ _.
      if_case (By reg) (eqb reg 0x9A) _ _ (λ e. rw (eqb-true reg 0x9A e) bicctl) λ _.
      if_case (By reg) (eqb reg 0x9B) _ _ (λ e. rw (eqb-true reg 0x9B e) buflim) λ _.
      if_case (By reg) (eqb reg 0x9C) _ _ (λ e. rw (eqb-true reg 0x9C e) acctl) λ _.
      if_case (By reg) (eqb reg 0x9D) _ _ (λ e. rw (eqb-true reg 0x9D e) lowered) λ _.
      if_case (By reg) (eqb reg 0x9E) _ _ (λ e. rw (eqb-true reg 0x9E e) skipc) λ _.
      if_case (By reg) (eqb reg 0x9F) _ _ (λ e. rw (eqb-true reg 0x9F e) ttc) (λ _. no n c h limit (plain (Write reg v)) 2 refl)
