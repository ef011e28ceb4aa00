-- The chip simulates the row machine: every call is answered alike, but for the results of 24h and 3Ah, and the chip goes on refining the row.
-- Assumes nothing.
use Prim.Native.Nat.{ℕ, ◌+◌, ◌*◌, ◌≤◌}
use mathlib.Core.Path.{◌≡◌, refl, sym, ap, ap₂, subst, ◌∙◌}
use mathlib.Core.Bool.{Bool, true, false, ◌&&◌}
use mathlib.Core.List.{List, []}
use native.Mathlib.Omega.{arith}
use lib.Dec.{eqb, leb}
use lib.ListN.{length, get_or}
use borrow.Author.Tests.{le-leb, eqb-true, eq-eqb}
use Rattle.reply.specs.Reply.{Reply}
use Rattle.laws.specs.Bytes.{word_at}
use Rattle.std.specs.Prelude.{if◌then◌else◌}
use Rattle.laws.proofs.Choice.{if_case, if_true, both_true}
use Rattle.calls.specs.declared.Call.{Call as Plain}
use Rattle.calls.specs.declared.Call.TheVariants.{Write, Read, SetBlock, SetWindow, SetExpected, PacketByte, Reset, Command, PacketWord, Status, Srst}
use Rattle.controller.specs.Step.{Step}
use Rattle.controller.specs.Calls.{stepped}
use Rattle.controller.specs.Host.{host_word}
use Rattle.controller.specs.Read.{read}
use Rattle.controller.specs.State.{initial}
use Rattle.controller.specs.Transfer.{settled, concluded}
use Rattle.controller.specs.declared.state.Controller.{Controller}
use Rattle.controller.specs.declared.step.Event.{Event}
use Rattle.controller.specs.declared.step.RingFacts.{RingFacts}
use Rattle.ring.specs.Memory.{stored}
use Rattle.ring.specs.Place as ring
use Rattle.ring.specs.Place.{place_step, ring_facts}
use Rattle.ring.specs.Represents.{Represents}
use Rattle.ring.specs.declared.Place.{Place}
use Rattle.ring.proofs.Represents.{represents_opened, represents_full}
use Rattle.outcomes.specs.Book.{facts_of}
use Rattle.outcomes.specs.Invariant.{moved}
use Rattle.outcomes.specs.Machine.{Call, plain, sector, look, word, replied, handed, refused, seen}
use Rattle.outcomes.specs.Row.{Row, Valid, plain_step, word_step, sector_number, sector_step, grown, left_by, answered, row_answer, row_step, the_row}
use Rattle.outcomes.proofs.Calls.{word_running}
use Rattle.outcomes.proofs.Rows.{concluded_reply, kept, plain_ended, word_ended, taken, sector_stored, valid_opened}
use Rattle.chip.specs.Chip as chip
use Rattle.chip.specs.Told as told
use Rattle.chip.specs.Chip.{ring_fits, finished}
use Rattle.chip.specs.Calls as calls
use Rattle.chip.specs.Calls.{called, received_by, sector_told, sector_ring, next_word, word_by, word_told}
use Rattle.chip.specs.Machine.{State, over, of_told, of_word, chip_answer, chip_step, the_chip}
use Rattle.chip.specs.Sound.{sound}
use Rattle.chip.specs.declared.Chip.{Chip}
use Rattle.chip.specs.Told.{Told, Handed, Refused, WordTold}
use Rattle.chip.proofs.Answers.{looked_is}
use Rattle.chip.proofs.Sounds.{facts_sound}
use Rattle.claims.specs.Demand3.{masked}
use Rattle.claims.specs.Refinement.{Refines, Simulation}
use Rattle.claims.proofs.Represented.{step_n, represents_outcome, represents_stored, represented_word, represented_look}

-- Told the ring's block numbers or 0, a step differs only in the result of reading 24h or 3Ah.

record Matches (call : Plain) (s r : Step) : Type 0 where
  controller : s.controller ≡ r.controller
  event : s.event ≡ r.event
  number : s.reply.number ≡ r.reply.number
  answer : masked (plain call) (answered s) ≡ masked (plain call) (answered r)

same : (call : Plain) (s r : Step) → s ≡ r → Matches call s r
same call s r e =
    record {
      controller = ap (λ (x : Step). x.controller) e;
      event = ap (λ (x : Step). x.event) e;
      number = ap (λ (x : Step). x.reply.number) e;
      answer = ap (λ (x : Step). masked (plain call) (answered x)) e;
    }

module _ (c : Controller) (n t last : ℕ) where
  abbrev facts : RingFacts
  facts = record { n = n; t = t; last = last }

  abbrev none : RingFacts
  none = record { n = n; t = 0; last = 0 }

  matches_24 : Matches (Read 0x24) (read c 0x24 facts) (read c 0x24 none)
  unfolding read
  matches_24 = record { controller = refl; event = refl; number = refl; answer = refl }

  matches_3A : Matches (Read 0x3A) (read c 0x3A facts) (read c 0x3A none)
  unfolding read
  matches_3A = record { controller = refl; event = refl; number = refl; answer = refl }

  read_other : (reg : ℕ) → eqb reg 0x24 ≡ false → eqb reg 0x3A ≡ false → read c reg facts ≡ read c reg none
  unfolding read
  read_other reg e f = simp (e, f)

  matches_read : (reg : ℕ) → Matches (Read reg) (read c reg facts) (read c reg none)
  matches_read reg = by (eqb reg 0x24) (eqb reg 0x3A) refl refl
    where
      by : (e f : Bool) → eqb reg 0x24 ≡ e → eqb reg 0x3A ≡ f → Matches (Read reg) (read c reg facts) (read c reg none)
      by true f p q = rw (eqb-true reg 0x24 p) matches_24
      by false true p q = rw (eqb-true reg 0x3A q) matches_3A
      by false false p q = same (Read reg) _ _ (read_other reg p q)

  matches_step : (call : Plain) → Matches call (stepped c call facts) (stepped c call none)
  unfolding stepped
  matches_step (Read reg) = matches_read reg
  matches_step (Write reg v) = same (Write reg v) _ _ refl
  matches_step (SetBlock b) = same (SetBlock b) _ _ refl
  matches_step (SetWindow o w) = same (SetWindow o w) _ _ refl
  matches_step (SetExpected a) = same (SetExpected a) _ _ refl
  matches_step (PacketByte i) = same (PacketByte i) _ _ refl
  matches_step Reset = same Reset _ _ refl
  matches_step (Command v) = same (Command v) _ _ refl
  matches_step (PacketWord w) = same (PacketWord w) _ _ refl
  matches_step Status = same Status _ _ refl
  matches_step Srst = same Srst _ _ refl

-- the start that may follow is the same
concluded_controller : (s : Step) → (concluded s).controller ≡ (if eqb s.reply.number 0 then settled s.controller else s.controller)
unfolding concluded
concluded_controller s = by (eqb s.reply.number 0)
  where
    by : (e : Bool) → (if e then record { controller = settled s.controller; event = s.event; reply = s.reply } else s).controller ≡ (if e then settled s.controller else s.controller)
    by true = refl
    by false = refl

concluded_event : (s : Step) → (concluded s).event ≡ s.event
unfolding concluded
concluded_event s = if_case (λ (x : Step). x.event ≡ s.event) (eqb s.reply.number 0) _ _ (λ _. refl) (λ _. refl)

matches_concluded : (call : Plain) (s r : Step) → Matches call s r → Matches call (concluded s) (concluded r)
matches_concluded call s r a =
    record {
      controller =
          concluded_controller s
          ∙ ap₂ (λ (k : ℕ) (c : Controller). if eqb k 0 then settled c else c) a.number a.controller
          ∙ sym (concluded_controller r);
      event = concluded_event s ∙ a.event ∙ sym (concluded_event r);
      number = ap (λ (x : Reply). x.number) (concluded_reply s) ∙ a.number ∙ sym (ap (λ (x : Reply). x.number) (concluded_reply r));
      answer =
          ap (λ (x : Reply). masked (plain call) (replied x.number x.result)) (concluded_reply s)
          ∙ a.answer
          ∙ sym (ap (λ (x : Reply). masked (plain call) (replied x.number x.result)) (concluded_reply r));
    }

-- A chip over a ring, and the row that it refines, with one controller.
module _ (c : Controller) (p : Place) (x : List ℕ) (w : List (List ℕ))
    (h : Valid (record { controller = c; blocks = p.n; row = w }))
    (rep : Represents p c.counts.tcc c.counts.bufc x w)
  where
    abbrev K : Chip
    K = record { controller = c; place = p }

    abbrev S : State
    S = over K x

    abbrev R : Row
    R = record { controller = c; blocks = p.n; row = w }

    pub chip_sound : sound K ≡ true
    chip_sound =
        let k = h.invariant.consistent in
        facts_sound K
        (record {
          place = rep.place;
          tcc_in = omega (arith, rep.filled, rep.room);
          bufc_in = rep.room;
          window = k.window;
          expected = k.expected;
          running = λ on. let r = k.running on in record { some_left = r.some; left_in = r.good; position_in = r.inside };
          buflim_in = h.buflim;
          ttc_in = k.ttc;
          mbc_in = k.mbc;
          atlim_in = k.atlim;
          received_in = k.received;
        })

    pub chip_fits : ring_fits K x ≡ true
    chip_fits = eq-eqb _ _ rep.whole

    -- a step of the row's that the chip takes too
    refines_left : (call : Call) (s r : Step) → s.controller ≡ r.controller → s.event ≡ r.event → Valid (left_by r R)
        → Represents (place_step p r.event) r.controller.counts.tcc r.controller.counts.bufc x (moved r.event w)
        → Refines (over (finished p s).chip x) (left_by r R)
    refines_left call s r e f v q =
        record {
          valid = v;
          controller = e;
          blocks = ap (λ (y : Event). (place_step p y).n) f ∙ step_n p r.event;
          represents = subst (λ (y : Event). Represents (place_step p y) r.controller.counts.tcc r.controller.counts.bufc x (moved r.event w)) (sym f) q;
        }

    -- a call that touches no memory
    called_is : (call : Plain) → called K call ≡ finished p (concluded (stepped c call (ring_facts p)))
    unfolding called
    called_is call = if_true (sound K) _ _ chip_sound

    matches_called : (call : Plain) → Matches call (concluded (stepped c call (ring_facts p))) (plain_step call R)
    matches_called call = matches_concluded call _ _ (matches_step c p.n p.t p.last call)

    answer_plain : (call : Plain) → masked (plain call) (chip_answer (plain call) S) ≡ masked (plain call) (row_answer (plain call) R)
    unfolding chip_answer row_answer
    answer_plain call = ap (λ (t : Told). masked (plain call) (of_told t)) (called_is call) ∙ (matches_called call).answer

    step_plain : (call : Plain) → Refines (chip_step (plain call) S) (row_step (plain call) R)
    unfolding chip_step row_step row_answer
    step_plain call =
        let a = matches_called call in
        subst (λ (t : Told). Refines (over t.chip x) (left_by (plain_step call R) R)) (sym (called_is call))
        (refines_left (plain call) (concluded (stepped c call (ring_facts p))) (plain_step call R) a.controller a.event (kept (plain call) R h).valid
        (represents_outcome (plain call) c p x w rep (plain_step call R) (plain_ended call R h).outcome))

    -- a sector
    same_number : (s : List ℕ) → calls.sector_number K x s ≡ sector_number s R
    unfolding calls.sector_number
    same_number s = rw (chip_sound, chip_fits, represents_full rep) refl

    pub told_is : (s : List ℕ) → sector_told K x s ≡ (if eqb (sector_number s R) 0 then finished p (sector_step s R) else told.refused K (sector_number s R))
    unfolding sector_told
    told_is s = ap (λ (k : ℕ). if eqb k 0 then finished p (sector_step s R) else told.refused K k) (same_number s)

    ring_is : (s : List ℕ) → sector_ring K x s ≡ (if eqb (sector_number s R) 0 then stored x p.b (received_by K s).bytes else x)
    unfolding sector_ring
    ring_is s = ap (λ (k : ℕ). if eqb k 0 then stored x p.b (received_by K s).bytes else x) (same_number s)

    answer_sector : (s : List ℕ) → chip_answer (sector s) S ≡ row_answer (sector s) R
    unfolding chip_answer row_answer
    answer_sector s = ap of_told (told_is s) ∙ by (eqb (sector_number s R) 0)
      where
        by : (e : Bool)
            → of_told (if e then finished p (sector_step s R) else told.refused K (sector_number s R))
            ≡ (if e then answered (sector_step s R) else replied (sector_number s R) 0)
        by true = refl
        by false = refl

    step_sector : (s : List ℕ) → Refines (chip_step (sector s) S) (row_step (sector s) R)
    unfolding chip_step row_step
    step_sector s =
        rw (told_is s, ring_is s)
        (by (eqb (sector_number s R) 0) refl (kept (sector s) R h).valid)
      where
        by : (e : Bool) → eqb (sector_number s R) 0 ≡ e
            → Valid (if e then record { controller = (sector_step s R).controller; blocks = p.n; row = grown c s w } else R)
            → Refines
            (over (if e then finished p (sector_step s R) else told.refused K (sector_number s R)).chip (if e then stored x p.b (received_by K s).bytes else x))
            (if e then record { controller = (sector_step s R).controller; blocks = p.n; row = grown c s w } else R)
        by true e v =
            let t = taken s R (eqb-true _ _ e) in
            let ev = (sector_stored s R h t).event in
            record {
              valid = v;
              controller = refl;
              blocks = step_n p (sector_step s R).event;
              represents = rw ev (represents_stored s R h t p refl x rep);
            }
        by false e v = record { valid = v; controller = refl; blocks = refl; represents = rep }

    -- the oldest block
    pub answer_look : chip_answer look S ≡ row_answer look R
    unfolding chip_answer row_answer
    answer_look = ap seen (looked_is K x ∙ rw (chip_sound, chip_fits) (represented_look R h p x rep))

    pub word_is : word_told K x ≡ record { chip = (finished p (word_step R)).chip; word = word_by (host_word c).reply.number (next_word K x) }
    unfolding word_told
    word_is = if_true (sound K && ring_fits K x) _ _ (both_true (sound K) (ring_fits K x) chip_sound chip_fits)

    pub answer_word : chip_answer word S ≡ row_answer word R
    unfolding chip_answer row_answer
    answer_word =
        ap (λ (t : WordTold). of_word t.word) word_is
        ∙ by (eqb (host_word c).reply.number 0) refl
        ∙ sym (ap (λ (y : Reply). if eqb y.number 0 then handed (word_of) else refused y.number) (concluded_reply (host_word c)))
      where
        word_of : ℕ
        word_of = word_at (get_or w 0 []) (c.window.offset + 2 * c.transfer.position)

        by : (e : Bool) → eqb (host_word c).reply.number 0 ≡ e
            → of_word (if e then Handed (next_word K x) else Refused (host_word c).reply.number)
            ≡ (if e then handed word_of else refused (host_word c).reply.number)
        by true e = ap handed (represented_word R h p x rep (word_running c (eqb-true _ _ e)))
        by false e = refl

    step_word : Refines (chip_step word S) (row_step word R)
    unfolding chip_step row_step row_answer
    step_word =
        subst (λ (t : WordTold). Refines (over t.chip x) (left_by (word_step R) R)) (sym word_is)
        (refines_left word (word_step R) (word_step R) refl refl (kept word R h).valid
        (represents_outcome word c p x w rep (word_step R) (word_ended R h).outcome))

    answers : (call : Call) → masked call (chip_answer call S) ≡ masked call (row_answer call R)
    answers (plain call) = answer_plain call
    answers (sector s) = answer_sector s
    answers look = answer_look
    answers word = answer_word

    steps : (call : Call) → Refines (chip_step call S) (row_step call R)
    unfolding chip_step row_step
    steps (plain call) = step_plain call
    steps (sector s) = step_sector s
    steps look = record { valid = h; controller = refl; blocks = refl; represents = rep }
    steps word = step_word

-- related states share the controller and the number of blocks
module _ (s : State) (r : Row) (f : Refines s r) where
  pub same_row : record { controller = s.chip.controller; blocks = s.chip.place.n; row = r.row } ≡ r
  same_row = ap₂ (λ (c : Controller) (n : ℕ). record { controller = c; blocks = n; row = r.row }) f.controller f.blocks

  pub valid_own : Valid (record { controller = s.chip.controller; blocks = s.chip.place.n; row = r.row })
  valid_own = subst Valid (sym same_row) f.valid

  pub represents_own : Represents s.chip.place s.chip.controller.counts.tcc s.chip.controller.counts.bufc s.ring r.row
  represents_own = rw f.controller f.represents

  pub refined_sound : sound s.chip ≡ true
  refined_sound = chip_sound s.chip.controller s.chip.place s.ring r.row valid_own represents_own

  pub refined_answer : (call : Call) → masked call (chip_answer call s) ≡ masked call (row_answer call r)
  refined_answer call =
      answers s.chip.controller s.chip.place s.ring r.row valid_own represents_own call
      ∙ ap (λ (q : Row). masked call (row_answer call q)) same_row

  pub refined_step : (call : Call) → Refines (chip_step call s) (row_step call r)
  refined_step call =
      subst (λ (q : Row). Refines (chip_step call s) (row_step call q)) same_row
      (steps s.chip.controller s.chip.place s.ring r.row valid_own represents_own call)

pub opened_chip : (n : ℕ) → 3 ≤ n → n ≤ 255 → (chip.opened n).chip ≡ record { controller = initial; place = ring.opened n }
unfolding chip.opened
opened_chip n low high =
    ap (λ (t : Told). t.chip) (if_true (leb 3 n && leb n 255) _ _ (both_true (leb 3 n) (leb n 255) (le-leb _ _ low) (le-leb _ _ high)))

pub refines_opened : (n : ℕ) → 3 ≤ n → n ≤ 255 → (x : List ℕ) → length x ≡ n * 2560 → Refines (the_chip.opened n x) (the_row.opened n x)
refines_opened n low high x size =
    subst (λ (c : Chip). Refines (over c x) (record { controller = initial; blocks = n; row = [] })) (sym (opened_chip n low high))
    (record { valid = valid_opened n low; controller = refl; blocks = refl; represents = represents_opened n x low high size })

abbrev pub chip_simulates : Simulation the_chip the_row
chip_simulates = record {
  Related = Refines;
  opened = refines_opened;
  answer = λ c s r h. refined_answer s r h c;
  facts = λ s r h. ap facts_of h.controller;
  step = λ c s r h. refined_step s r h c;
}
