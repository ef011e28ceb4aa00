-- What the answers show of the book: of the row machine, and of a machine that simulates it. Assumes nothing.
use Prim.Native.Nat.{ℕ, ◌+◌, ◌*◌}
use mathlib.Core.Path.{◌≡◌, refl, sym, ap, subst, ◌∙◌}
use mathlib.Core.Bool.{Bool, true, false, ◌&&◌, ◌||◌, not}
use mathlib.Core.List.{List, [], ◌∷◌}
use lib.Dec.{eqb}
use lib.ListN.{length, take, drop, get_or}
use borrow.Author.Tests.{eqb-true, eqb-false}
use Rattle.reply.specs.Reply.{Reply}
use Rattle.std.specs.Prelude.{if◌then◌else◌}
use Rattle.laws.specs.Numbers.{weight}
use Rattle.laws.proofs.Choice.{if_case, if_true, if_false, left_true, right_true}
use Rattle.calls.specs.declared.Call.{Call as Plain}
use Rattle.calls.specs.declared.Call.TheVariants.{Write, Read, SetBlock, SetWindow, SetExpected, PacketByte, Reset, Command, PacketWord, Status, Srst}
use Rattle.sector.specs.Judge.{good, tarsta_byte}
use Rattle.sector.specs.Receive.{received}
use Rattle.sector.specs.declared.Judgement.{Judgement}
use Rattle.sector.proofs.Claims.{facts_hold}
use Rattle.controller.specs.Step.{Step}
use Rattle.controller.specs.Calls.{stepped}
use Rattle.controller.specs.Decoder.{counted}
use Rattle.controller.specs.Host.{host_word}
use Rattle.controller.specs.Read.{read}
use Rattle.controller.specs.Transfer.{concluded}
use Rattle.controller.specs.Write.{write_ctrl0, write}
use Rattle.controller.specs.declared.state.Controller.{Controller}
use Rattle.controller.specs.declared.state.Counts.{Counts}
use Rattle.controller.specs.declared.step.RingFacts.{RingFacts}
use Rattle.outcomes.specs.Book.{Book, feed}
use Rattle.outcomes.specs.Machine.{Call, plain, sector, look, word, Answer, replied, seen, number, Machine}
use Rattle.outcomes.specs.Row.{Row, Valid, shown, row_facts, word_step, sector_number, sector_step, grown, answered, word_answered, row_answer, row_step, the_row}
use Rattle.outcomes.proofs.Outcome.{settled_counts}
use Rattle.outcomes.proofs.Rows.{concluded_reply, kept, valid_opened}
use Rattle.chip.specs.Machine.{the_chip}
use Rattle.claims.specs.Demand3.{masked}
use Rattle.claims.specs.Refinement.{Simulation}
use Rattle.claims.specs.Shown.{window_of, holding, held_after, Shows, ShowsRun, Shown}
use Rattle.claims.proofs.Kept.{clears, keeps, word_given}
use Rattle.claims.proofs.Refines.{chip_simulates}
use Rattle.claims.proofs.Simulated.{same_number}

-- Held after a call, in any controller

-- a step's held, as the call and the reply number have it
abbrev By : Controller → Plain → Step → Type 0
By c call s = s.controller.counts.held ≡ (if eqb s.reply.number 0 then holding (plain call) 0 c.counts.held else c.counts.held)

kept_by : (c : Controller) (call : Plain) (ring : RingFacts) → clears call ≡ false → holding (plain call) 0 c.counts.held ≡ c.counts.held
    → By c call (stepped c call ring)
kept_by c call ring off e = (keeps c call ring).held off ∙ by (eqb (stepped c call ring).reply.number 0)
  where
    by : (b : Bool) → c.counts.held ≡ (if b then holding (plain call) 0 c.counts.held else c.counts.held)
    by true = sym e
    by false = refl

module _ (c : Controller) where
  decoder_off : (n : ℕ) → By c (Write 0x0A 0x00) (write c 0x0A 0x00 n)
  unfolding write write_ctrl0
  decoder_off n = refl

  write_held : (reg v : ℕ) (ring : RingFacts) → By c (Write reg v) (stepped c (Write reg v) ring)
  unfolding stepped
  write_held reg v ring = by (eqb reg 0x0A && eqb v 0x00) refl
    where
      by : (b : Bool) → (eqb reg 0x0A && eqb v 0x00) ≡ b → By c (Write reg v) (stepped c (Write reg v) ring)
      by true e = rw (eqb-true reg 0x0A (left_true (eqb reg 0x0A) (eqb v 0x00) e), eqb-true v 0x00 (right_true (eqb reg 0x0A) (eqb v 0x00) e)) (decoder_off ring.n)
      by false e = kept_by c (Write reg v) ring e (rw e refl)

  steps_held : (call : Plain) (ring : RingFacts) → By c call (stepped c call ring)
  unfolding stepped
  steps_held (Write reg v) ring = write_held reg v ring
  steps_held (Read reg) ring = kept_by c (Read reg) ring refl refl
  steps_held (SetBlock t) ring = kept_by c (SetBlock t) ring refl refl
  steps_held (SetWindow o w) ring = kept_by c (SetWindow o w) ring refl refl
  steps_held (SetExpected a) ring = kept_by c (SetExpected a) ring refl refl
  steps_held (PacketByte i) ring = kept_by c (PacketByte i) ring refl refl
  steps_held Reset ring = refl
  steps_held (Command v) ring = kept_by c (Command v) ring refl refl
  steps_held (PacketWord w) ring = kept_by c (PacketWord w) ring refl refl
  steps_held Status ring = refl
  steps_held Srst ring = refl

-- the start that may follow leaves the counts
concluded_counts : (s : Step) → (concluded s).controller.counts ≡ s.controller.counts
unfolding concluded
concluded_counts s = if_case (λ (x : Step). x.controller.counts ≡ s.controller.counts) (eqb s.reply.number 0) _ _ (λ _. settled_counts s.controller) (λ _. refl)

pub concluded_number : (s : Step) → (concluded s).reply.number ≡ s.reply.number
concluded_number s = ap (λ (r : Reply). r.number) (concluded_reply s)

-- held of the row machine goes by its calls, reply numbers and results

-- a sector's result is 0 where it is good
pub good_result : (j : Judgement) (b : Bool) → good j ≡ b → eqb (tarsta_byte j) 0 ≡ b
good_result j b e = sym (facts_hold.tarsta_good j) ∙ e

counted_held : (c : Controller) (j : Judgement)
    → ((counted c j).reply.number ≡ 0) × ((counted c j).controller.counts.held ≡ (if eqb (counted c j).reply.result 0 then c.counts.held else true))
unfolding counted
counted_held c j =
    if_case
    (λ (s : Step). (s.reply.number ≡ 0) × (s.controller.counts.held ≡ (if eqb s.reply.result 0 then c.counts.held else true)))
    (good j) _ _
    (λ g. (refl, sym (if_true (eqb (tarsta_byte j) 0) c.counts.held true (good_result j true g))))
    (λ g. (refl, sym (if_false (eqb (tarsta_byte j) 0) c.counts.held true (good_result j false g))))

sector_held : (x : List ℕ) (s : Row)
    → (row_step (sector x) s).controller.counts.held ≡ held_after (sector x) (row_answer (sector x) s) s.controller.counts.held
unfolding row_answer row_step
sector_held x s = by (sector_number x s) (eqb (sector_number x s) 0) refl
  where
    by : (k : ℕ) (e : Bool) → eqb k 0 ≡ e
        → (if e then record { controller = (sector_step x s).controller; blocks = s.blocks; row = grown s.controller x s.row } else s).controller.counts.held
        ≡ held_after (sector x) (if e then answered (sector_step x s) else replied k 0) s.controller.counts.held
    by k true e =
        let j = (received s.controller.expected x).judgement in
        let r = counted s.controller j in
        let c = counted_held s.controller j in
        ap (λ (k : Counts). k.held) (concluded_counts r)
        ∙ c.1
        ∙ sym (if_true (eqb r.reply.number 0) (if eqb r.reply.result 0 then s.controller.counts.held else true) s.controller.counts.held (rw c.0 refl))
        ∙ ap (λ (q : Reply). if eqb q.number 0 then (if eqb q.result 0 then s.controller.counts.held else true) else s.controller.counts.held) (sym (concluded_reply r))
    by k false e = sym (if_false (eqb k 0) (holding (sector x) 0 s.controller.counts.held) s.controller.counts.held e)

same_held : (n : ℕ) (h : Bool) → h ≡ (if eqb n 0 then h else h)
same_held n h = by (eqb n 0)
  where
    by : (e : Bool) → h ≡ (if e then h else h)
    by true = refl
    by false = refl

pub row_held : (call : Call) (s : Row) → (row_step call s).controller.counts.held ≡ held_after call (row_answer call s) s.controller.counts.held
unfolding row_answer row_step
row_held (plain c) s =
    let r = stepped s.controller c (row_facts s) in
    ap (λ (k : Counts). k.held) (concluded_counts r)
    ∙ steps_held s.controller c (row_facts s)
    ∙ ap (λ (k : ℕ). if eqb k 0 then holding (plain c) 0 s.controller.counts.held else s.controller.counts.held) (sym (concluded_number r))
row_held (sector x) s = sector_held x s
row_held look s = refl
row_held word s =
    ap (λ (k : Counts). k.held) (concluded_counts (host_word s.controller)) ∙ (word_given s.controller false).held refl ∙ same_held (number (word_answered (word_step s) s)) s.controller.counts.held

-- The answers of a valid row

if_either : (a b : Bool) (x y : List ℕ) → (if not a && not b then x else y) ≡ (if a || b then y else x)
if_either true b x y = refl
if_either false true x y = refl
if_either false false x y = refl

pub look_shows : (s : Row) → Valid s → row_answer look s ≡ seen (window_of (shown s))
unfolding row_answer
look_shows s h =
    ap seen
    (if_either (eqb s.controller.counts.tcc 0) (eqb s.controller.window.words 0) _ _
    ∙ ap (λ (k : ℕ). if eqb k 0 || eqb s.controller.window.words 0 then [] else take (2 * s.controller.window.words) (drop s.controller.window.offset (get_or s.row 0 [])))
    (sym h.good))

tcc_shows : (s : Row) → Valid s → row_answer (plain (Read 0x9D)) s ≡ replied 0 (length s.row)
unfolding row_answer stepped read concluded
tcc_shows s h = ap (replied 0) (sym h.good)

bufc_shows : (s : Row) → Valid s → row_answer (plain (Read 0x9B)) s ≡ replied 0 (length s.row + weight s.controller.counts.held 1)
unfolding row_answer stepped read concluded
bufc_shows s h =
    ap (replied 0)
    (h.invariant.consistent.buffered ∙ ap (λ (k : ℕ). k + weight s.controller.counts.held 1) (sym h.good))

-- a sector that is stored is answered by the byte of its judgement
counted_reply : (c : Controller) (j : Judgement) → (counted c j).reply ≡ record { number = 0; result = tarsta_byte j }
unfolding counted
counted_reply c j = if_case (λ (s : Step). s.reply ≡ record { number = 0; result = tarsta_byte j }) (good j) _ _ (λ _. refl) (λ _. refl)

stored_shows : (x : List ℕ) (s : Row) → number (row_answer (sector x) s) ≡ 0
    → row_answer (sector x) s ≡ replied 0 (tarsta_byte (received s.controller.expected x).judgement)
unfolding row_answer
stored_shows x s z = by (sector_number x s) (eqb (sector_number x s) 0) refl z
  where
    by : (k : ℕ) (e : Bool) → eqb k 0 ≡ e → number (if e then answered (sector_step x s) else replied k 0) ≡ 0
        → (if e then answered (sector_step x s) else replied k 0) ≡ replied 0 (tarsta_byte (received s.controller.expected x).judgement)
    by k true e _ =
        let j = (received s.controller.expected x).judgement in
        ap (λ (r : Reply). replied r.number r.result) (concluded_reply (counted s.controller j) ∙ counted_reply s.controller j)
    by k false e w = absurd (eqb-false k 0 e w)

tarsta_shows : (s : Row) → row_answer (plain (Read 0x80)) s ≡ replied 0 (tarsta_byte s.controller.judgement)
unfolding row_answer stepped read concluded
tarsta_shows s = refl

pub row_shows : (c : Call) (s : Row) → Valid s → Shows c (row_answer c s) (shown s) s.controller.counts.held
row_shows c s h =
    record {
      looked = λ e. rw e (look_shows s h);
      tcc = λ e. rw e (tcc_shows s h);
      bufc = λ e. rw e (bufc_shows s h);
      stored = λ x e z. rw e (stored_shows x s (rw e at z));
      tarsta = λ e. rw e (tarsta_shows s);
    }

row_run : (cs : List Call) (s : Row) (b : Book) (held : Bool) → Valid s → shown s ≡ b → s.controller.counts.held ≡ held → ShowsRun the_row cs s b held
row_run [] s b held h e f = tt
row_run (c ∷ cs) s b held h e f =
    let k = kept c s h in (
      subst (λ (x : Bool). Shows c (row_answer c s) b x) f (subst (λ (x : Book). Shows c (row_answer c s) x s.controller.counts.held) e (row_shows c s h)),
      row_run cs (row_step c s) (feed c (number (row_answer c s)) b) (held_after c (row_answer c s) held) k.valid
          (k.book ∙ ap (feed c (number (row_answer c s))) e) (row_held c s ∙ ap (held_after c (row_answer c s)) f),
    )

pub row_shown : Shown the_row
row_shown n low high x size cs = row_run cs _ _ false (valid_opened n low) refl refl

-- A machine that simulates one shows the same

pub held_over : (c : Call) (a b : Answer) (held : Bool) → masked c a ≡ masked c b → held_after c a held ≡ held_after c b held
held_over (plain c) a b held e = ap (λ (n : ℕ). if eqb n 0 then holding (plain c) 0 held else held) (same_number (plain c) a b e)
held_over (sector x) a b held e = ap (λ (r : Answer). held_after (sector x) r held) e
held_over look a b held e = ap (λ (r : Answer). held_after look r held) e
held_over word a b held e = ap (λ (r : Answer). held_after word r held) e

shows_over : (c : Call) (a r : Answer) (b : Book) (held : Bool) → masked c a ≡ masked c r → Shows c r b held → Shows c a b held
shows_over c a r b held e s =
    record {
      looked = λ i. subst (λ (d : Call). masked d a ≡ masked d r) i e ∙ s.looked i;
      tcc = λ i. subst (λ (d : Call). masked d a ≡ masked d r) i e ∙ s.tcc i;
      bufc = λ i. subst (λ (d : Call). masked d a ≡ masked d r) i e ∙ s.bufc i;
      stored = λ x i z. subst (λ (d : Call). masked d a ≡ masked d r) i e ∙ s.stored x i (sym (same_number c a r e) ∙ z);
      tarsta = λ i. subst (λ (d : Call). masked d a ≡ masked d r) i e ∙ s.tarsta i;
    }

module _ (M R : Machine) (S : Simulation M R) where
  run_over : (cs : List Call) (s : M.State) (r : R.State) (b : Book) (held : Bool) → S.Related s r → ShowsRun R cs r b held → ShowsRun M cs s b held
  run_over [] s r b held h f = tt
  run_over (c ∷ cs) s r b held h f =
      let e = S.answer c s r h in
      let n = same_number c (M.answer c s) (R.answer c r) e in (
        shows_over c (M.answer c s) (R.answer c r) b held e f.0,
        run_over cs _ _ _ _ (S.step c s r h)
            (subst (λ (x : Bool). ShowsRun R cs (R.step c r) (feed c (number (M.answer c s)) b) x) (sym (held_over c (M.answer c s) (R.answer c r) held e))
            (subst (λ (k : ℕ). ShowsRun R cs (R.step c r) (feed c k b) (held_after c (R.answer c r) held)) (sym n) f.1)),
      )

  pub shown_over : Shown R → Shown M
  shown_over d n low high x size cs = run_over cs _ _ _ false (S.opened n low high x size) (d n low high x size cs)

pub chip_shown : Shown the_chip
chip_shown = shown_over the_chip the_row chip_simulates row_shown
