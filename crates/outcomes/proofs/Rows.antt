-- Every call keeps a row valid, and moves the book that the row shows as the book itself goes. Assumes nothing.
use Prim.Native.Nat.{ℕ, ◌+◌, ◌-◌, ◌<◌, ◌≤◌}
use mathlib.Core.Path.{◌≡◌, refl, sym, ap, ◌∙◌}
use mathlib.Core.Bool.{Bool, true, false, ◌&&◌}
use mathlib.Core.List.{List, [], ◌∷◌, ◌++◌}
use native.Mathlib.Omega.{arith}
use lib.Dec.{eqb, leb}
use lib.ListN.{length, length-append, length-drop}
use lib.Seq.{length-take-le}
use borrow.Author.Tests.{leb-false, eqb-true, eqb-false, ne_eqb}
use Rattle.std.specs.Prelude.{if◌then◌else◌}
use Rattle.laws.proofs.Choice.{if_case, if_false, right_false}
use Rattle.laws.proofs.Tests.{if_not}
use Rattle.calls.specs.declared.Call.{Call as Plain}
use Rattle.calls.specs.declared.Call.TheVariants.{Write, Read, SetBlock, SetWindow, SetExpected, PacketByte, Reset, Command, PacketWord, Status, Srst}
use Rattle.sector.specs.Judge.{good}
use Rattle.sector.specs.Receive.{received}
use Rattle.controller.specs.Step.{Step}
use Rattle.controller.specs.Bits.{bit}
use Rattle.controller.specs.Decoder.{admission}
use Rattle.controller.specs.State.{initial}
use Rattle.controller.specs.Transfer.{concluded}
use Rattle.controller.specs.declared.state.Controller.{Controller}
use Rattle.controller.specs.declared.step.Event.{Event}
use Rattle.controller.specs.declared.step.Event.TheVariants.{Stay, Store, Advance, Rewind, Move, Clear}
use Rattle.outcomes.specs.Book.{Book, fed, feed, limited}
use Rattle.outcomes.specs.Invariant.{Consistent, Invariant, Moves, moved, Lands}
use Rattle.outcomes.specs.Machine.{Call, plain, sector, look, word, Answer, replied, number}
use Rattle.outcomes.specs.Row.{Row, Valid, shown, plain_step, word_step, sector_number, sector_step, grown, left_by, answered, word_answered, row_answer, row_step}
use Rattle.outcomes.proofs.Calls.{host_words, outcome}
use Rattle.outcomes.proofs.Outcome.{Outcome, refusal, done, Ended, ended}
use Rattle.outcomes.proofs.Starts.{invariant_initial}
use Rattle.outcomes.proofs.Stored.{Admitted, admitted, Stored, stored}

-- A refusal changes neither the book nor what is known of BLIMS.

pub feed_refused : (call : Call) (k : ℕ) (b : Book) → (k ≡ 0 → ⊥) → feed call k b ≡ b
unfolding feed
feed_refused call k b h = if_false (eqb k 0) (fed call b) b (ne_eqb k 0 h)

pub feed_done : (call : Call) (b : Book) → feed call 0 b ≡ fed call b
unfolding feed
feed_done call b = refl

limited_plain : (c : Plain) (k : ℕ) (l : Bool) → (k ≡ 0 → ⊥) → limited (plain c) k l ≡ l
limited_plain (Write reg v) k l h = if_false (eqb reg 0x9A && eqb k 0) (bit v 4) l (right_false (eqb reg 0x9A) (eqb k 0) (ne_eqb k 0 h))
limited_plain Reset k l h = if_false (eqb k 0) false l (ne_eqb k 0 h)
limited_plain (Read reg) k l h = refl
limited_plain (SetBlock t) k l h = refl
limited_plain (SetWindow o w) k l h = refl
limited_plain (SetExpected a) k l h = refl
limited_plain (PacketByte i) k l h = refl
limited_plain (Command v) k l h = refl
limited_plain (PacketWord w) k l h = refl
limited_plain Status k l h = refl
limited_plain Srst k l h = refl

limited_refused : (call : Call) (k : ℕ) (l : Bool) → (k ≡ 0 → ⊥) → limited call k l ≡ l
limited_refused (plain c) k l h = limited_plain c k l h
limited_refused (sector x) k l h = refl
limited_refused look k l h = refl
limited_refused word k l h = refl

-- the start that may follow leaves the reply
pub concluded_reply : (s : Step) → (concluded s).reply ≡ s.reply
unfolding concluded
concluded_reply s = if_case (λ (x : Step). x.reply ≡ s.reply) (eqb s.reply.number 0) _ _ (λ _. refl) (λ _. refl)

-- How the counts of a row go with an event other than Store.

module _ (n : ℕ) (c d : Controller) (least : 3 ≤ n) (h : Consistent c) (room : c.counts.bufc < n) where
  moved_room : (e : Event) → Moves e c d → Lands n e → d.counts.bufc < n
  moved_room Stay m l = omega (arith, m.1)
  moved_room Store m l = absurd l
  moved_room (Advance k) m l = omega (arith, m.2)
  moved_room (Rewind k) m l = omega (arith, m.0, m.2, h.buffered)
  moved_room (Move t) m l = omega (arith, m.3)
  moved_room Clear m l = omega (arith, m.1)

  moved_good : (e : Event) → Moves e c d → Lands n e → (row : List (List ℕ)) → length row ≡ c.counts.tcc → length (moved e row) ≡ d.counts.tcc
  moved_good Stay m l row size = size ∙ sym m.0
  moved_good Store m l row size = absurd l
  moved_good (Advance k) m l row size = length-drop k row ∙ ap (λ (x : ℕ). x - k) size ∙ sym m.1
  moved_good (Rewind k) m l row size = length-take-le k row (omega (arith, m.0)) ∙ sym m.1
  moved_good (Move t) m l row size = sym m.2
  moved_good Clear m l row size = sym m.0

-- what a call keeps
pub record Kept (call : Call) (s : Row) (k : ℕ) (t : Row) : Type 0 where
  pub valid : Valid t
  pub book : shown t ≡ feed call k (shown s)
  pub blims : t.controller.buffering.blims ≡ limited call k s.controller.buffering.blims
  pub blocks : t.blocks ≡ s.blocks

unchanged : (call : Call) (s : Row) → Valid s → (k : ℕ) → (k ≡ 0 → ⊥) → Kept call s k s
unchanged call s h k nonzero =
    record {
      valid = h;
      book = sym (feed_refused call k (shown s) nonzero);
      blims = sym (limited_refused call k s.controller.buffering.blims nonzero);
      blocks = refl;
    }

pub left : (call : Call) (s : Row) → Valid s → (r : Step) → Outcome s.blocks call s.controller r → Invariant r.controller → Kept call s r.reply.number (left_by r s)
left call s h r (refusal k nonzero) i = unchanged call s h k nonzero
left call s h r (done d e v f) i =
    record {
      valid = record {
        invariant = i;
        buflim = f.buflim;
        room = moved_room s.blocks s.controller d h.least h.invariant.consistent h.room e f.moves f.lands;
        least = h.least;
        good = moved_good s.blocks s.controller d h.least h.invariant.consistent h.room e f.moves f.lands s.row h.good;
      };
      book = f.shows s.row h.good ∙ sym (feed_done call (shown s));
      blims = f.limits;
      blocks = refl;
    }

kept_ended : (call : Call) (s : Row) → Valid s → (r : Step) → Ended s.blocks call s.controller r → Kept call s r.reply.number (left_by r s)
kept_ended call s h r e = left call s h r e.outcome e.invariant

-- the steps of a valid row

pub plain_ended : (c : Plain) (s : Row) → Valid s → Ended s.blocks (plain c) s.controller (plain_step c s)
plain_ended c s h =
    ended s.blocks (plain c) s.controller h.invariant _
    (outcome s.blocks s.controller h.invariant.consistent h.buflim h.least c 0 0)

pub word_ended : (s : Row) → Valid s → Ended s.blocks word s.controller (word_step s)
word_ended s h =
    ended s.blocks word s.controller h.invariant _ (host_words s.blocks s.controller h.invariant.consistent h.buflim)

-- A sector.

-- where it is admitted, a block beside B is free
room_of : (b : Bool) (limit bufc n : ℕ) → (if b then leb limit bufc else eqb (bufc + 1) n) ≡ false → bufc < n → limit + 2 ≤ n → bufc + 1 < n
room_of true limit bufc n e below fits = let past = leb-false limit bufc e in omega arith
room_of false limit bufc n e below fits = let free = eqb-false (bufc + 1) n e in omega arith

-- an admitted sector has 2,352 bytes
pub record Taken (x : List ℕ) (s : Row) : Type 0 where
  pub size : length x ≡ 2352
  pub admitted : Admitted s.controller (eqb (s.controller.counts.bufc + 1) s.blocks)

pub taken : (x : List ℕ) (s : Row) → sector_number x s ≡ 0 → Taken x s
taken x s =
    if_not (λ (k : ℕ). k ≡ 0 → Taken x s) (eqb (length x) 2352) 1 (admission s.controller (eqb (s.controller.counts.bufc + 1) s.blocks))
    (λ _ z. absurd (omega arith))
    (λ e z. record { size = eqb-true _ _ e; admitted = admitted s.controller (eqb (s.controller.counts.bufc + 1) s.blocks) z })

module _ (x : List ℕ) (s : Row) (h : Valid s) (t : Taken x s) where
  pub sector_stored : Stored s.controller x (sector_step x s)
  sector_stored = stored s.controller h.invariant.consistent _ t.admitted x

  pub sector_room : s.controller.counts.bufc + 1 < s.blocks
  sector_room =
      room_of s.controller.buffering.blims s.controller.buffering.buflim s.controller.counts.bufc s.blocks t.admitted.room h.room h.buflim

  grown_good : length (grown s.controller x s.row) ≡ (sector_step x s).controller.counts.tcc
  grown_good =
      let j = (received s.controller.expected x).judgement in
      let b = (received s.controller.expected x).bytes in
      by (good j) refl ∙ sym sector_stored.tcc
    where
      by : (e : Bool) → good (received s.controller.expected x).judgement ≡ e
          → length (if e then s.row ++ (received s.controller.expected x).bytes ∷ [] else s.row)
          ≡ (if e then s.controller.counts.tcc + 1 else s.controller.counts.tcc)
      by true _ = length-append s.row _ ∙ ap (λ (z : ℕ). z + 1) h.good
      by false _ = h.good

  sector_kept : Kept (sector x) s 0 (record { controller = (sector_step x s).controller; blocks = s.blocks; row = grown s.controller x s.row })
  sector_kept =
      record {
        valid = record {
          invariant = sector_stored.invariant;
          buflim = rw sector_stored.buffering h.buflim;
          room = rw sector_stored.bufc sector_room;
          least = h.least;
          good = grown_good;
        };
        book = sector_stored.shows s.row ∙ sym (feed_done (sector x) (shown s));
        blims = rw sector_stored.buffering refl;
        blocks = refl;
      }

-- Every call.

pub kept_sector : (x : List ℕ) (s : Row) → Valid s → Kept (sector x) s (number (row_answer (sector x) s)) (row_step (sector x) s)
unfolding row_answer row_step
kept_sector x s h = by (eqb (sector_number x s) 0) refl
  where
    by : (e : Bool) → eqb (sector_number x s) 0 ≡ e
        → Kept (sector x) s (number (if e then answered (sector_step x s) else replied (sector_number x s) 0))
        (if e then record { controller = (sector_step x s).controller; blocks = s.blocks; row = grown s.controller x s.row } else s)
    by true e =
        let t = taken x s (eqb-true _ _ e) in
        rw (sector_stored x s h t).number (sector_kept x s h t)
    by false e = unchanged (sector x) s h (sector_number x s) (eqb-false _ _ e)

pub number_word : (r : Step) (s : Row) → number (word_answered r s) ≡ r.reply.number
number_word r s = if_case (λ (a : Answer). number a ≡ r.reply.number) (eqb r.reply.number 0) _ _ (λ e. sym (eqb-true _ _ e)) (λ _. refl)

pub kept : (call : Call) (s : Row) → Valid s → Kept call s (number (row_answer call s)) (row_step call s)
unfolding row_answer row_step
kept (plain c) s h = kept_ended (plain c) s h (plain_step c s) (plain_ended c s h)
kept (sector x) s h = kept_sector x s h
kept look s h = record { valid = h; book = sym (feed_done look (shown s)); blims = refl; blocks = refl }
kept word s h = rw (number_word (word_step s) s) (kept_ended word s h (word_step s) (word_ended s h))

-- The row as opened.
pub valid_opened : (n : ℕ) → 3 ≤ n → Valid (record { controller = initial; blocks = n; row = [] })
valid_opened n least =
    record { invariant = invariant_initial; buflim = omega arith; room = omega arith; least = least; good = refl }
