-- The tally goes with the book: of any machine that the book and its answers describe and that skips no more than there is. Assumes nothing.
use Prim.Native.Nat.{ℕ, ◌+◌, ◌≤◌}
use mathlib.Core.Path.{◌≡◌, refl, sym, ap, ap₂, subst, ◌∙◌}
use mathlib.Core.Bool.{Bool, true, false}
use mathlib.Core.List.{List, [], ◌∷◌, ◌++◌}
use native.Mathlib.Omega.{arith}
use lib.Dec.{eqb, ltb}
use lib.ListN.{length, length-append, length-drop}
use borrow.Author.Tests.{eqb-true, ltb-false}
use Rattle.laws.proofs.Choice.{if_case, if_both}
use Rattle.laws.proofs.Tests.{clash, if_not}
use Rattle.laws.proofs.Lengths.{length_parts, length_some}
use Rattle.calls.specs.declared.Call.TheVariants.{Write, Read, SetBlock, SetWindow, SetExpected, PacketByte, Reset, Command, PacketWord, Status, Srst}
use Rattle.sector.specs.Receive.{received}
use Rattle.controller.specs.Step.{Step}
use Rattle.controller.specs.Calls.{stepped}
use Rattle.controller.specs.Write.{write_skipc, write}
use Rattle.controller.specs.declared.state.Controller.{Controller}
use Rattle.outcomes.specs.Book.{Book, takes, fed_write, fed, feed, first_book}
use Rattle.outcomes.specs.Machine.{Call, plain, sector, look, word, Answer, replied, handed, refused, seen, number, Machine, after}
use Rattle.outcomes.specs.Row.{Row, Valid, shown, row_answer, row_step, the_row}
use Rattle.outcomes.proofs.Rows.{kept, valid_opened}
use Rattle.chip.specs.Machine.{the_chip}
use Rattle.claims.specs.Counted.{book_after}
use Rattle.claims.specs.Demand3.{Right, Faithful}
use Rattle.claims.specs.Refinement.{Simulation}
use Rattle.claims.specs.Shown.{result, held_after, Shows, ShowsRun, Shown}
use Rattle.tally.specs.Tally.{Tally, first_tally, noted_write, noted, note, fold_entries, AddsUp, Entry}
use Rattle.tally.specs.Claims.{call_history, Tallied, ByBook, SkipsWithinRowRun, SkipsWithinRow, MachinesClaim, AnewClaim}
use Rattle.claims.proofs.Demand3.{demand3}
use Rattle.claims.proofs.Refines.{chip_simulates}
use Rattle.claims.proofs.RowWords.{right}
use Rattle.claims.proofs.Shown.{concluded_number, good_result, row_shows, chip_shown}
use Rattle.claims.proofs.Simulated.{same_number}

-- The tally beside the book

pub record Keeps (t : Tally) (b : Book) : Type 0 where
  pub words : t.words ≡ b.words
  pub k : t.k ≡ b.k
  pub acmen : t.acmen ≡ b.acmen
  pub accounts : AddsUp (length b.row) t

-- what the tally has to know of an answer: a sector's result is 0 where the book finds it good, a word is of a row that is not empty, and a skip is
-- of no more than the row
pub record Follows (c : Call) (a : Answer) (b : Book) : Type 0 where
  pub sectors : (s : List ℕ) → c ≡ sector s → number a ≡ 0 → eqb (result a) 0 ≡ takes b s
  pub words : c ≡ word → number a ≡ 0 → b.row ≡ [] → ⊥
  pub skips : (v : ℕ) → c ≡ plain (Write 0x9E v) → number a ≡ 0 → b.acmen ≡ true → v ≤ length b.row

module _ (t : Tally) (b : Book) (h : Keeps t b) where
  switches : (v : ℕ) → Keeps (noted_write 0x9C v t) (fed_write 0x9C v b)
  switches v = record { words = h.words; k = h.k; acmen = refl; accounts = h.accounts }

  withdraws : (v : ℕ) → Keeps (noted_write 0x9D v t) (fed_write 0x9D v b)
  withdraws v =
      let a = h.accounts in
      let e = length_parts v b.row in
      record { words = h.words; k = h.k; acmen = h.acmen; accounts = omega arith }

  skips : (v : ℕ) → (b.acmen ≡ true → v ≤ length b.row) → Keeps (noted_write 0x9E v t) (fed_write 0x9E v b)
  skips v within = by b.acmen h.acmen refl
    where
      by : (x : Bool) → t.acmen ≡ x → b.acmen ≡ x → Keeps (noted_write 0x9E v t) (fed_write 0x9E v b)
      by true p q =
          let l = within q in
          let a = h.accounts in
          let e = length-drop v b.row in
          simp (p, q) (record { words = h.words; k = h.k; acmen = refl; accounts = omega arith })
      by false p q = simp (p, q) h

  -- 9Ch, 9Dh, 9Eh; the others leave both
  writes : (reg v : ℕ) → (reg ≡ 0x9E → b.acmen ≡ true → v ≤ length b.row) → Keeps (noted_write reg v t) (fed_write reg v b)
  writes reg v within = by (eqb reg 0x9C) (eqb reg 0x9D) (eqb reg 0x9E) refl refl refl
    where
      by : (x y z : Bool) → eqb reg 0x9C ≡ x → eqb reg 0x9D ≡ y → eqb reg 0x9E ≡ z → Keeps (noted_write reg v t) (fed_write reg v b)
      by true y z p q r = rw (eqb-true reg 0x9C p) (switches v)
      by false true z p q r = rw (eqb-true reg 0x9D q) (withdraws v)
      by false false true p q r = rw (eqb-true reg 0x9E r) (skips v (within (eqb-true reg 0x9E r)))
      by false false false p q r = rw (p, q, r) h

  stores : (s : List ℕ) (v : ℕ) → eqb v 0 ≡ takes b s → Keeps (noted (sector s) v t) (fed (sector s) b)
  stores s v e =
      if_both Keeps (eqb v 0) (takes b s) _ _ _ _ e
      (λ _.
      let a = h.accounts in
      let l = length-append b.row ((received b.expected s).bytes ∷ []) in
      record { words = h.words; k = h.k; acmen = h.acmen; accounts = omega arith })
      (λ _. record { words = h.words; k = h.k; acmen = h.acmen; accounts = h.accounts })

  takes_word : (v : ℕ) → (b.row ≡ [] → ⊥) → Keeps (noted word v t) (fed word b)
  takes_word v full =
      if_both Keeps (eqb (t.k + 1) t.words) (eqb (b.k + 1) b.words) _ _ _ _ (ap₂ (λ (k w : ℕ). eqb (k + 1) w) h.k h.words)
      (λ _.
      let a = h.accounts in
      let e = length-drop 1 b.row in
      let l = length_some b.row full in
      record { words = h.words; k = refl; acmen = h.acmen; accounts = omega arith })
      (λ _. record { words = h.words; k = ap (λ (k : ℕ). k + 1) h.k; acmen = h.acmen; accounts = h.accounts })

  -- an accepted call
  accepted : (c : Call) (a : Answer) → number a ≡ 0 → Follows c a b → Keeps (noted c (result a) t) (fed c b)
  accepted (plain (Write reg v)) a z f = writes reg v (λ e. f.skips v (ap (λ (r : ℕ). plain (Write r v)) e) z)
  accepted (plain (SetWindow o w)) a z f = record { words = refl; k = h.k; acmen = h.acmen; accounts = h.accounts }
  accepted (plain Reset) a z f = record { words = refl; k = refl; acmen = refl; accounts = refl }
  accepted (plain Srst) a z f = record { words = h.words; k = refl; acmen = h.acmen; accounts = h.accounts }
  accepted (plain (SetExpected e)) a z f = record { words = h.words; k = h.k; acmen = h.acmen; accounts = h.accounts }
  accepted (plain (Read reg)) a z f = h
  accepted (plain (SetBlock n)) a z f = h
  accepted (plain (PacketByte i)) a z f = h
  accepted (plain (Command v)) a z f = h
  accepted (plain (PacketWord w)) a z f = h
  accepted (plain Status) a z f = h
  accepted (sector s) a z f = stores s (result a) (f.sectors s refl z)
  accepted look a z f = h
  accepted word a z f = takes_word (result a) (f.words refl z)

  pub keeps_on : (c : Call) (a : Answer) → Follows c a b → Keeps (note c a t) (feed c (number a) b)
  unfolding feed
  keeps_on c a f = if_both Keeps (eqb (number a) 0) (eqb (number a) 0) _ _ _ _ refl (λ e. accepted c a (eqb-true _ _ e) f) (λ _. h)

-- as opened
pub keeps_first : Keeps first_tally first_book
keeps_first = record { words = refl; k = refl; acmen = refl; accounts = refl }

-- What demand 3 and Shown say of an answer is what the tally has to know

served_some : (a : Answer) (b : Book) → Right word a b → number a ≡ 0 → b.row ≡ [] → ⊥
served_some (handed w) b r z = r.0
served_some (refused n) b r z = absurd (r z)
served_some (replied n v) b r z = absurd r
served_some (seen bytes) b r z = absurd r

-- a skip of no more than the row
abbrev pub Skips : Call → Answer → Book → Type 0
Skips c a b = (v : ℕ) → c ≡ plain (Write 0x9E v) → number a ≡ 0 → b.acmen ≡ true → v ≤ length b.row

pub follows : (c : Call) (a : Answer) (b : Book) (held : Bool) → Right c a b → Shows c a b held → Skips c a b → Follows c a b
unfolding takes
follows c a b held r s w =
    record {
      sectors = λ x e z.
          let j = (received b.expected x).judgement in
          ap (λ (y : Answer). eqb (result y) 0) (s.stored x e z) ∙ good_result j _ refl;
      words = λ e z. served_some a b (subst (λ (d : Call). Right d a b) e r) z;
      skips = w;
    }

-- Any such machine

module _ (M : Machine) where
  over_list :
      (d : Call) (cs : List Call) (s : M.State) (b : Book) (held : Bool) (t : Tally)
      → Faithful M cs s b → ShowsRun M (cs ++ d ∷ []) s b held → SkipsWithinRowRun M cs s b → Keeps t b
      → Keeps (fold_entries note (call_history M cs s) t) (book_after M cs s b)
      × Shows d (M.answer d (after M cs s)) (book_after M cs s b) (fold_entries held_after (call_history M cs s) held)
  over_list d [] s b held t f w i h = (h, w.0)
  over_list d (c ∷ cs) s b held t f w i h =
      over_list d cs (M.step c s) _ _ _ f.2 w.1 i.1
      (keeps_on t b h c (M.answer c s) (follows c (M.answer c s) b held f.0 w.0 i.0))

  same_value : (a : Answer) (u v : ℕ) → a ≡ replied 0 u → a ≡ replied 0 v → u ≡ v
  same_value a u v p q = ap result (sym p ∙ q)

  tallied_by : ByBook M → Shown M → SkipsWithinRow M → Tallied M
  tallied_by D S W =
      record {
        tcc = λ n low high x size cs v e.
            let s = M.opened n x in
            let r = over_list (plain (Read 0x9D)) cs s first_book false first_tally (D n low high x size cs) (S n low high x size (cs ++ plain (Read 0x9D) ∷ [])) (W n low high x size cs) keeps_first in
            let a = r.0.accounts in
            let l = same_value (M.answer (plain (Read 0x9D)) (after M cs s)) v (length (book_after M cs s first_book).row) e (r.1.tcc refl) in
            rw l a;
        bufc = λ n low high x size cs u e.
            let s = M.opened n x in
            let r = over_list (plain (Read 0x9B)) cs s first_book false first_tally (D n low high x size cs) (S n low high x size (cs ++ plain (Read 0x9B) ∷ [])) (W n low high x size cs) keeps_first in (
              length (book_after M cs s first_book).row,
              r.0.accounts,
              same_value (M.answer (plain (Read 0x9B)) (after M cs s)) u _ e (r.1.bufc refl),
            );
      }

-- The row machine

skip_within : (c : Controller) (v : ℕ) → (write_skipc c v).reply.number ≡ 0 → c.acctl.acmen ≡ true → v ≤ c.counts.tcc
unfolding write_skipc
skip_within c v =
    if_case P (ltb 255 v) _ _ (λ _ z. absurd (omega arith)) λ _.
    if_case P c.transfer.running _ _ (λ _ z. absurd (omega arith)) λ _.
    if_not P c.acctl.acmen _ _ (λ low z high. clash c.acctl.acmen low high) λ _.
    if_case P (ltb c.counts.tcc v) _ _ (λ _ z. absurd (omega arith)) (λ e z _. ltb-false _ _ e)
  where
    P : Step → Type 0
    P s = s.reply.number ≡ 0 → c.acctl.acmen ≡ true → v ≤ c.counts.tcc

row_skips : (c : Call) (s : Row) → Valid s → Skips c (row_answer c s) (shown s)
unfolding row_answer stepped write
row_skips c s h v e z high =
    let l = skip_within s.controller v (sym (concluded_number (write_skipc s.controller v)) ∙ subst (λ (d : Call). number (row_answer d s) ≡ 0) e z) high in
    rw h.good l

pub row_follows : (c : Call) (s : Row) → Valid s → Follows c (row_answer c s) (shown s)
row_follows c s h = follows c (row_answer c s) (shown s) s.controller.counts.held (right c s h) (row_shows c s h) (row_skips c s h)

row_within : (cs : List Call) (s : Row) (b : Book) → Valid s → shown s ≡ b → SkipsWithinRowRun the_row cs s b
row_within [] s b h e = tt
row_within (c ∷ cs) s b h e =
    let k = kept c s h in (
      subst (Skips c (row_answer c s)) e (row_skips c s h),
      row_within cs (row_step c s) _ k.valid (k.book ∙ ap (feed c (number (row_answer c s))) e),
    )

-- A machine that simulates it

module _ (M R : Machine) (S : Simulation M R) where
  within_run : (cs : List Call) (s : M.State) (r : R.State) (b : Book) → S.Related s r → SkipsWithinRowRun R cs r b → SkipsWithinRowRun M cs s b
  within_run [] s r b h w = tt
  within_run (c ∷ cs) s r b h w =
      let n = same_number c (M.answer c s) (R.answer c r) (S.answer c s r h) in (
        λ v e z. w.0 v e (sym n ∙ z),
        within_run cs (M.step c s) (R.step c r) _ (S.step c s r h) (subst (λ (k : ℕ). SkipsWithinRowRun R cs (R.step c r) (feed c k b)) (sym n) w.1),
      )

  within_over : SkipsWithinRow R → SkipsWithinRow M
  within_over w n low high x size cs = within_run cs _ _ _ (S.opened n low high x size) (w n low high x size cs)

row_is_within : SkipsWithinRow the_row
row_is_within n low high x size cs = row_within cs _ _ (valid_opened n low) refl

-- The chip

pub machines : MachinesClaim
machines =
    let book : ByBook the_chip = demand3.words in
    let skips : SkipsWithinRow the_chip = within_over the_chip the_row chip_simulates row_is_within in
    record { any = tallied_by; book = book; shown = chip_shown; skips = skips; chip = tallied_by the_chip book chip_shown skips }

-- A chip reset

folded_on : {A : Type 0} (f : Call → Answer → A → A) (h g : List Entry) (x : A) → fold_entries f (h ++ g) x ≡ fold_entries f g (fold_entries f h x)
folded_on f [] g x = refl
folded_on f (e ∷ h) g x = folded_on f h g (f e.call e.answer x)

pub anew : AnewClaim
anew =
    record {
      tally = λ h g. folded_on note h (record { call = plain Reset; answer = replied 0 0 } ∷ g) first_tally;
      held = λ h g. folded_on held_after h (record { call = plain Reset; answer = replied 0 0 } ∷ g) false;
    }
