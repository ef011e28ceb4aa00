-- The outcome of every other call that touches no memory, and of the host's word. Assumes nothing.
use Prim.Native.Nat.{ℕ, ◌+◌, ◌-◌, ◌*◌, ◌/◌, ◌%◌, ◌<◌, ◌≤◌}
use mathlib.Core.Path.{◌≡◌, refl, sym, ap, ◌∙◌}
use mathlib.Core.Bool.{Bool, true, false, ◌&&◌, ◌||◌, not}
use mathlib.Core.List.{List, [], ◌∷◌}
use mathlib.Core.Logic.{◌⊎◌, inl, inr}
use native.Mathlib.Nat.{le_of_eq}
use native.Mathlib.Omega.{arith}
use lib.Dec.{eqb, leb, ltb}
use lib.ListN.{length, set, length-set, drop, drop_of_length-le}
use borrow.Author.Tests.{leb-false, ltb-true, ltb-false, eqb-true, not-false, eq-eqb, ne_eqb}
use Rattle.laws.specs.Numbers.{weight}
use Rattle.laws.proofs.Choice.{if_case, if_true, if_false}
use Rattle.laws.proofs.Tests.{both_false, clash, contra, unless, or_false, if_not, weightless}
use Rattle.calls.specs.declared.Call.{Call as Plain}
use Rattle.calls.specs.declared.Call.TheVariants.{Write, Read, SetBlock, SetWindow, SetExpected, PacketByte, Reset, Command, PacketWord, Status, Srst}
use Rattle.sector.specs.Address.{valid}
use Rattle.sector.specs.declared.Address.{Address}
use Rattle.controller.specs.Calls.{stepped}
use Rattle.controller.specs.Fields.{◌▹◌, atcmd≔, hirq≔, packet≔, running≔, position≔, received≔, receiving≔, fpkt≔}
use Rattle.controller.specs.Host.{data_ended, ended, block_taken, host_word, packet_begun, host_command, packet_more, packet_word, host_srst}
use Rattle.controller.specs.Named.{set_block, window_fits, set_window, set_expected, packet_byte, reset}
use Rattle.controller.specs.Read.{read}
use Rattle.controller.specs.State.{initial}
use Rattle.controller.specs.Step.{Step, replied, guarded}
use Rattle.controller.specs.Transfer.{engaged, completed}
use Rattle.controller.specs.declared.state.Controller.{Controller}
use Rattle.controller.specs.declared.step.Event.TheVariants.{Stay, Advance, Move, Clear}
use Rattle.controller.specs.declared.step.RingFacts.{RingFacts}
use Rattle.outcomes.specs.Book.{book_of, fed, row≔, k≔}
use Rattle.outcomes.specs.Invariant.{Running, Consistent}
use Rattle.outcomes.specs.Machine.{plain, word}
use Rattle.outcomes.proofs.Consistent.{statusless, consistent_quiet, consistent_decoder, consistent_idle, consistent_packet, consistent_initial}
use Rattle.outcomes.proofs.Outcome.{Outcome, done, numbered, Passed, by_tests, no, stays, free, quiet, moves_blocks}
use Rattle.outcomes.proofs.Writes.{written}

-- the end steps change only ASCTRL, the status, the task registers and HIRQ
ended_same : (c : Controller) → statusless (ended c) ≡ statusless c
unfolding ended data_ended
ended_same c =
    let halfway : statusless (data_ended c) ≡ statusless c =
    if_case (λ (x : Controller). statusless x ≡ statusless c) c.asctrl.adcen _ _ (λ _. refl) (λ _. refl) in
    if_case (λ (x : Controller). statusless x ≡ statusless c) c.asctrl.ascen (completed (data_ended c)) (data_ended c) (λ _. halfway) (λ _. halfway)

consistent_ended : (c : Controller) → engaged c ≡ false → Consistent c → Consistent (ended c)
consistent_ended c q h = consistent_quiet c (ended c) q (sym (ended_same c)) h

ended_book : (c : Controller) (row : List (List ℕ)) → book_of (ended c) row ≡ book_of c row
ended_book c row = ap (λ (x : Controller). book_of x row) (ended_same c)

no_row : (row : List (List ℕ)) → length row ≡ 0 → row ≡ []
no_row row e = drop_of_length-le row (le_of_eq e)

-- A word inside a block, a block that is not the last, the last block.

module _ (c : Controller) (on : c.transfer.running ≡ true) (h : Consistent c) where
  abbrev r : Running c
  r = h.running on

  -- with a transfer TCC is not 0, and BUFC is above 0 with it
  taken : 1 ≤ c.counts.tcc
  taken = omega (arith, r.some, r.good)

  buffered_taken : c.counts.bufc - 1 ≡ c.counts.tcc - 1 + weight c.counts.held 1
  buffered_taken = let b = h.buffered in let t = taken in omega arith

  unreceiving : c.packet.receiving ≡ false
  unreceiving = unless c.packet.receiving c.transfer.running (λ e. (h.receiving e).1) on

  consistent_word : c.transfer.position + 1 < c.window.words → Consistent (c ▹ position≔ (c.transfer.position + 1))
  consistent_word inside =
      record {
        ttc = h.ttc;
        mbc = h.mbc;
        atlim = h.atlim;
        received = h.received;
        expected = h.expected;
        window = h.window;
        packet = h.packet;
        buffered = h.buffered;
        held = h.held;
        decen = h.decen;
        running = λ _. record { some = r.some; good = r.good; inside = inside; acmen = r.acmen; adcen = r.adcen; drq = r.drq; bsy = r.bsy; blocks = r.blocks; total = r.total };
        idle = λ off. clash c.transfer.running off on;
        receiving = h.receiving;
        uncached = h.uncached;
      }

  total_taken : (left ttc : ℕ) → (ttc ≡ 0) ⊎ (left ≤ ttc) → (ttc - 1 ≡ 0) ⊎ (left - 1 ≤ ttc - 1)
  total_taken left ttc (inl e) = inl (omega arith)
  total_taken left ttc (inr e) = inr (omega arith)

  consistent_block : 1 < c.transfer.left → Consistent (block_taken c)
  consistent_block more =
      let good = r.good in
      let inside = r.inside in
      let blocks = r.blocks in
      let ttc = h.ttc in
      record {
        ttc = omega arith;
        mbc = h.mbc;
        atlim = h.atlim;
        received = h.received;
        expected = h.expected;
        window = h.window;
        packet = h.packet;
        buffered = buffered_taken;
        held = h.held;
        decen = h.decen;
        running = λ _. record {
          some = omega arith;
          good = omega arith;
          inside = omega arith;
          acmen = r.acmen;
          adcen = r.adcen;
          drq = r.drq;
          bsy = r.bsy;
          blocks = omega arith;
          total = total_taken c.transfer.left c.counts.ttc r.total;
        };
        idle = λ off. clash c.transfer.running off on;
        receiving = h.receiving;
        uncached = λ low. clash c.acctl.acmen low r.acmen;
      }

  consistent_last : c.transfer.left ≤ 1 → Consistent (block_taken c ▹ running≔ false)
  consistent_last last =
      let ttc = h.ttc in
      record {
        ttc = omega arith;
        mbc = h.mbc;
        atlim = h.atlim;
        received = h.received;
        expected = h.expected;
        window = h.window;
        packet = h.packet;
        buffered = buffered_taken;
        held = h.held;
        decen = h.decen;
        running = λ (e : false ≡ true). clash false refl e;
        idle = λ _. (omega arith, refl);
        receiving = λ e. clash c.packet.receiving unreceiving e;
        uncached = λ low. clash c.acctl.acmen low r.acmen;
      }

  -- the book's word: k is the position
  fed_inside : (row : List (List ℕ)) → c.transfer.position + 1 < c.window.words
      → book_of (c ▹ position≔ (c.transfer.position + 1)) row ≡ fed word (book_of c row)
  fed_inside row inside =
      sym (if_false (eqb (c.transfer.position + 1) c.window.words) (book_of c row ▹ row≔ (drop 1 row) ▹ k≔ 0) (book_of c row ▹ k≔ (c.transfer.position + 1))
      (ne_eqb (c.transfer.position + 1) c.window.words (omega arith)))

  fed_last : (row : List (List ℕ)) → c.window.words ≤ c.transfer.position + 1
      → book_of (block_taken c) (drop 1 row) ≡ fed word (book_of c row)
  fed_last row past =
      let inside = r.inside in
      sym (if_true (eqb (c.transfer.position + 1) c.window.words) (book_of c row ▹ row≔ (drop 1 row) ▹ k≔ 0) (book_of c row ▹ k≔ (c.transfer.position + 1))
      (eq-eqb (c.transfer.position + 1) c.window.words (omega arith)))

-- a word is handed over only in a transfer
pub word_running : (c : Controller) → (host_word c).reply.number ≡ 0 → c.transfer.running ≡ true
unfolding host_word
word_running c =
    if_not (λ (s : Step). s.reply.number ≡ 0 → c.transfer.running ≡ true) c.transfer.running _ _ (λ _ e. absurd (omega arith)) (λ on _. on)

module _ (n : ℕ) (c : Controller) (h : Consistent c) (limit : c.buffering.buflim + 2 ≤ n) where
  pub host_words : Outcome n word c (host_word c)
  unfolding host_word
  host_words =
      by_tests n word c ((not c.transfer.running, 5) ∷ []) refl _ λ idle.
      let on = not-false c.transfer.running idle in
      if_case (Outcome n word c) (ltb (c.transfer.position + 1) c.window.words) _ _
      (λ e. let l = ltb-true _ _ e in
      stays n c h limit word _ 0 (consistent_word c on h l) refl refl (λ row. fed_inside c on h row l) refl limit)
      λ e.
      let l = ltb-false _ _ e in
      if_case (Outcome n word c) (ltb 1 c.transfer.left) _ _
      (λ f. moves_blocks n c h limit word (block_taken c) (Advance 1) (consistent_block c on h (ltb-true _ _ f)) (taken c on h, refl, refl) (λ row _. fed_last c on h row l) refl refl tt)
      (λ f.
      let x = block_taken c ▹ running≔ false in
      moves_blocks n c h limit word (ended x) (Advance 1)
      (consistent_ended x (both_false false c.packet.receiving refl (unreceiving c on h)) (consistent_last c on h (ltb-false _ _ f)))
      (taken c on h, ap (λ (y : Controller). y.counts.tcc) (ended_same x), ap (λ (y : Controller). y.counts.bufc) (ended_same x))
      (λ row _. ended_book x (drop 1 row) ∙ fed_last c on h row l)
      (ap (λ (y : Controller). y.buffering.blims) (ended_same x)) (ap (λ (y : Controller). y.buffering.buflim) (ended_same x)) tt)

  abbrev By : Plain → Step → Type 0
  By call s = Outcome n (plain call) c s

  tested : (call : Plain) (tests : List (Bool × ℕ)) → numbered tests ≡ true → (s : Step) → Passed tests (By call s) → By call (guarded c tests s)
  tested call tests positive s f = by_tests n (plain call) c tests positive s f

  -- a register is read
  value : (reg v : ℕ) → By (Read reg) (replied c Stay v)
  value reg v = stays n c h limit _ c v h refl refl (λ _. refl) refl limit

  reads : (reg : ℕ) (ring : RingFacts) → By (Read reg) (read c reg ring)
  unfolding read
  reads reg ring =
      if_case (By (Read reg)) (eqb reg 0x12) _ _ (λ _. value reg _) λ _.
      if_case (By (Read reg)) (eqb reg 0x18) _ _ (λ _. value reg _) λ _.
      if_case (By (Read reg)) (eqb reg 0x24) _ _ (λ _. value reg _) λ _.
      if_case (By (Read reg)) (eqb reg 0x25) _ _ (λ _. value reg _) λ _.
      if_case (By (Read reg)) (eqb reg 0x30) _ _ (λ _. value reg _) λ _.
      if_case (By (Read reg)) (eqb reg 0x31) _ _ (λ _. value reg _) λ _.
      if_case (By (Read reg)) (eqb reg 0x32) _ _ (λ _. value reg _) λ _.
      if_case (By (Read reg)) (eqb reg 0x34) _ _ (λ _. value reg _) λ _.
      if_case (By (Read reg)) (eqb reg 0x35) _ _ (λ _. value reg _) λ _.
      if_case (By (Read reg)) (eqb reg 0x37) _ _ (λ _. value reg _) λ _.
      if_case (By (Read reg)) (eqb reg 0x38) _ _ (λ _. value reg _) λ _.
      if_case (By (Read reg)) (eqb reg 0x3A) _ _ (λ _. value reg _) λ _.
      if_case (By (Read reg)) (eqb reg 0x3B) _ _ (λ _. value reg _) λ _.
      if_case (By (Read reg)) (eqb reg 0x80) _ _ (λ _. value reg _) λ _.
      if_case (By (Read reg)) (eqb reg 0x9A) _ _ (λ _. value reg _) λ _.
      if_case (By (Read reg)) (eqb reg 0x9B) _ _ (λ _. value reg _) λ _.
      if_case (By (Read reg)) (eqb reg 0x9C) _ _ (λ _. value reg _) λ _.
      if_case (By (Read reg)) (eqb reg 0x9D) _ _ (λ _. value reg _) λ _.
      if_case (By (Read reg)) (eqb reg 0x9F) _ _ (λ _. value reg _) (λ _. no n c h limit (plain (Read reg)) 2 refl)

  -- named calls
  block_set : (t : ℕ) → By (SetBlock t) (set_block c t n)
  unfolding set_block
  block_set t =
      tested (SetBlock t) ((leb n t, 3) ∷ (c.transfer.running, 4) ∷ (c.buffering.decen || not (eqb c.counts.tcc 0), 5) ∷ []) refl _ λ below _ e.
      let f = or_false c.buffering.decen (not (eqb c.counts.tcc 0)) e in
      let tcc : c.counts.tcc ≡ 0 = eqb-true _ _ (not-false _ f.1) in
      let w = weightless c.counts.held 1 (contra c.counts.held c.buffering.decen h.held f.0) in
      let b = h.buffered in
      let bufc : c.counts.bufc ≡ 0 = omega arith in
      moves_blocks n c h limit _ c (Move t) h (tcc, bufc, tcc, bufc) (λ row size. ap (book_of c) (sym (no_row row (size ∙ tcc)))) refl refl (leb-false _ _ below)

  window_set : (o w : ℕ) → By (SetWindow o w) (set_window c o w)
  unfolding set_window
  window_set o w =
      tested (SetWindow o w) ((not (window_fits o w), 3) ∷ (c.transfer.running, 4) ∷ []) refl _ λ e off.
      stays n c h limit _ _ 0
      (consistent_idle c c.counts c.acctl c.mbc (record { offset = o; words = w }) off
      h.buffered h.held h.ttc h.uncached h.atlim h.decen h.mbc (inr (not-false (window_fits o w) e)) h)
      refl refl (λ _. refl) refl limit

  expected_set : (a : Address) → By (SetExpected a) (set_expected c a)
  unfolding set_expected
  expected_set a =
      tested (SetExpected a) ((not (valid a), 3) ∷ (c.buffering.decen, 5) ∷ []) refl _ λ e _.
      stays n c h limit _ _ 0
      (consistent_decoder c c.counts.tcc c.counts.bufc c.counts.held a c.buffering c.judgement
      (omega arith) h.buffered (not-false (valid a) e) h.held h.decen h)
      refl refl (λ _. refl) refl limit

  packet_read : (i : ℕ) → By (PacketByte i) (packet_byte c i)
  unfolding packet_byte
  packet_read i =
      tested (PacketByte i) ((ltb 11 i, 3) ∷ (not c.packet.fpkt, 6) ∷ []) refl _ λ _ _.
      stays n c h limit _ c _ h refl refl (λ _. refl) refl limit

  resets : 3 ≤ n → By Reset (reset c)
  resets least =
      done initial Clear 0 (record { consistent = consistent_initial; moves = (refl, refl); shows = λ _ _. refl; limits = refl; buflim = omega arith; lands = tt })

  -- the host's side
  commands : (v : ℕ) → By (Command v) (host_command c v)
  unfolding host_command
  commands v =
      tested (Command v) ((ltb 255 v, 3) ∷ (c.atsta.bsy || engaged c, 4) ∷ []) refl _ λ _ e.
      let q = (or_false c.atsta.bsy (engaged c) e).1 in
      let off = (or_false c.transfer.running c.packet.receiving q).0 in
      if_case (By (Command v)) (eqb v 0xA0 && c.asctrl.apkten) _ _
      (λ _.
      let d = packet_begun (c ▹ hirq≔ false ▹ atcmd≔ v) in
      let old = d ▹ packet≔ c.packet in
      stays n c h limit _ d 0 (consistent_packet old d.packet off (omega arith) refl (λ _. refl) (consistent_quiet c old q refl h)) refl refl (λ _. refl) refl limit)
      (λ _. quiet n c h limit _ _ q refl refl (λ _. refl) refl refl)

  length_two : (l : List ℕ) (i j a b : ℕ) → length (set (set l i a) j b) ≡ length l
  length_two l i j a b = length-set (set l i a) j b ∙ length-set l i a

  packets : (w : ℕ) → By (PacketWord w) (packet_word c w)
  unfolding packet_word
  packets w =
      let size : length (packet_more c w).packet.bytes ≡ 12 =
      length_two c.packet.bytes (2 * c.packet.received) (2 * c.packet.received + 1) (w % 256) (w / 256) ∙ h.packet in
      tested (PacketWord w) ((not c.packet.receiving, 5) ∷ []) refl _ λ idle.
      let rec = h.receiving (not-false c.packet.receiving idle) in
      if_case (By (PacketWord w)) (ltb c.packet.received 5) _ _
      (λ e.
      let l = ltb-true c.packet.received 5 e in
      stays n c h limit _ (packet_more c w) 0 (consistent_packet c (packet_more c w).packet rec.1 (omega arith) size (λ _. rec.0) h) refl refl (λ _. refl) refl limit)
      (λ _.
      let x = packet_more c w ▹ received≔ 0 ▹ receiving≔ false ▹ fpkt≔ true in
      stays n c h limit _ (ended x) 0
      (consistent_ended x (both_false c.transfer.running false rec.1 refl) (consistent_packet c x.packet rec.1 (omega arith) size (λ _. rec.0) h))
      (ap (λ (y : Controller). y.counts.tcc) (ended_same x)) (ap (λ (y : Controller). y.counts.bufc) (ended_same x))
      (λ row. ended_book x row)
      (ap (λ (y : Controller). y.buffering.blims) (ended_same x)) (rw (ap (λ (y : Controller). y.buffering.buflim) (ended_same x)) limit))

  srsts : By Srst (host_srst c)
  srsts =
      stays n c h limit _ (host_srst c).controller 0
      (record {
        ttc = omega arith;
        mbc = h.mbc;
        atlim = h.atlim;
        received = omega arith;
        expected = h.expected;
        window = h.window;
        packet = h.packet;
        buffered = h.buffered;
        held = h.held;
        decen = h.decen;
        running = λ (e : false ≡ true). clash false refl e;
        idle = λ _. (refl, refl);
        receiving = λ (e : false ≡ true). clash false refl e;
        uncached = λ _. refl;
      })
      refl refl (λ _. refl) refl limit

  -- every call that touches no memory, told N by its ring
  pub outcome : 3 ≤ n → (call : Plain) (t last : ℕ) → By call (stepped c call (record { n = n; t = t; last = last }))
  unfolding stepped
  outcome least (Write reg v) t last = written n c h limit v reg
  outcome least (Read reg) t last = reads reg (record { n = n; t = t; last = last })
  outcome least (SetBlock b) t last = block_set b
  outcome least (SetWindow o w) t last = window_set o w
  outcome least (SetExpected a) t last = expected_set a
  outcome least (PacketByte i) t last = packet_read i
  outcome least Reset t last = resets least
  outcome least (Command v) t last = commands v
  outcome least (PacketWord w) t last = packets w
  outcome least Status t last = free n c h limit _ _ _ refl refl (λ _. refl) refl limit
  outcome least Srst t last = srsts
