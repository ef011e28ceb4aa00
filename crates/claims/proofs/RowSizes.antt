-- Two rows with the same controller and the same sectors, the second with no fewer blocks: a call that is not the first one's stop is answered
-- alike by both, and leaves them so. Assumes nothing.
use Prim.Native.Nat.{ℕ, ◌+◌, ◌<◌, ◌≤◌}
use mathlib.Core.Path.{◌≡◌, refl, sym, ap, ap₂, subst, ◌∙◌}
use mathlib.Core.Bool.{Bool, true, false, ◌&&◌, not, true≢false}
use mathlib.Core.List.{List, [], ◌∷◌}
use native.Mathlib.Omega.{arith}
use lib.Dec.{eqb, leb, ltb}
use lib.ListN.{length}
use borrow.Author.Tests.{leb-false, ltb-false, le-ltb, lt-leb, eqb-true, eqb-false, ne_eqb}
use Rattle.reply.specs.Reply.{Reply}
use Rattle.std.specs.Prelude.{if◌then◌else◌}
use Rattle.calls.specs.declared.Call.{Call as Plain}
use Rattle.calls.specs.declared.Call.TheVariants.{Write, Read, SetBlock, SetWindow, SetExpected, PacketByte, Reset, Command, PacketWord, Status, Srst}
use Rattle.controller.specs.Calls.{stepped}
use Rattle.controller.specs.Decoder.{admission}
use Rattle.controller.specs.Named.{set_block}
use Rattle.controller.specs.Read.{read}
use Rattle.controller.specs.Step.{Step, refused}
use Rattle.controller.specs.Transfer.{concluded}
use Rattle.controller.specs.Write.{write_buflim, write}
use Rattle.controller.specs.declared.state.Controller.{Controller}
use Rattle.controller.specs.declared.step.RingFacts.{RingFacts}
use Rattle.outcomes.specs.Book.{facts_of, limited}
use Rattle.outcomes.specs.Invariant.{moved}
use Rattle.outcomes.specs.Machine.{Call, plain, sector, look, word, replied, number}
use Rattle.outcomes.specs.Row.{Row, Valid, row_facts, sector_number, sector_step, grown, answered, row_answer, row_step, the_row}
use Rattle.outcomes.proofs.Rows.{concluded_reply, kept, taken, sector_stored}
use Rattle.claims.specs.Demand3.{stops, unless, masked, Agree}

-- a first test that refuses with 3, told apart by the two sizes only where it does
narrowed :
    (c : Controller) (y : Step) (e f : Bool) → (e ≡ false → f ≡ false) → eqb (if e then refused c 3 else y).reply.number 3 ≡ false
    → (if e then refused c 3 else y) ≡ (if f then refused c 3 else y)
narrowed c y true f up stop = absurd (true≢false stop)
narrowed c y false true up stop = absurd (true≢false (up refl))
narrowed c y false false up stop = refl

module _ (c : Controller) (n m : ℕ) (le : n ≤ m) where
  abbrev told : ℕ → RingFacts
  told k = record { n = k; t = 0; last = 0 }

  up_ltb : (a : ℕ) → ltb n a ≡ false → ltb m a ≡ false
  up_ltb a e = let h = ltb-false n a e in le-ltb m a (omega arith)

  up_leb : (a : ℕ) → leb n a ≡ false → leb m a ≡ false
  up_leb a e = let h = leb-false n a e in lt-leb m a (omega arith)

  same_buflim : (v : ℕ) → eqb (write_buflim c v n).reply.number 3 ≡ false → write_buflim c v n ≡ write_buflim c v m
  unfolding write_buflim
  same_buflim v stop = narrowed c _ (ltb n (v + 2)) (ltb m (v + 2)) (up_ltb (v + 2)) stop

  same_block : (t : ℕ) → eqb (set_block c t n).reply.number 3 ≡ false → set_block c t n ≡ set_block c t m
  unfolding set_block
  same_block t stop = narrowed c _ (leb n t) (leb m t) (up_leb t) stop

  -- only 9Bh looks at the ring's size
  write_other : (reg v : ℕ) → eqb reg 0x9B ≡ false → write c reg v n ≡ write c reg v m
  unfolding write
  write_other reg v e = simp e

  same_9B : (v : ℕ) → eqb (write c 0x9B v n).reply.number 3 ≡ false → write c 0x9B v n ≡ write c 0x9B v m
  unfolding write
  same_9B v stop = same_buflim v stop

  same_write : (reg v : ℕ) → (eqb reg 0x9B && eqb (write c reg v n).reply.number 3) ≡ false → write c reg v n ≡ write c reg v m
  same_write reg v stop = by (eqb reg 0x9B) refl stop
    where
      by : (e : Bool) → eqb reg 0x9B ≡ e → (e && eqb (write c reg v n).reply.number 3) ≡ false → write c reg v n ≡ write c reg v m
      by true e st =
          let is = eqb-true reg 0x9B e in
          rw is (same_9B v (rw is at st))
      by false e st = write_other reg v e

  same_step :
      (call : Plain) (l : Bool) → stops (plain call) (stepped c call (told n)).reply.number l ≡ false → stepped c call (told n) ≡ stepped c call (told m)
  unfolding stepped read
  same_step (Write reg v) l stop = same_write reg v stop
  same_step (SetBlock t) l stop = same_block t stop
  same_step (Read reg) l stop = refl
  same_step (SetWindow o w) l stop = refl
  same_step (SetExpected a) l stop = refl
  same_step (PacketByte i) l stop = refl
  same_step Reset l stop = refl
  same_step (Command v) l stop = refl
  same_step (PacketWord w) l stop = refl
  same_step Status l stop = refl
  same_step Srst l stop = refl

-- A sector's number: where BLIMS is low and the smaller ring is full, it is the smaller one's stop.

abbrev admits : Bool → Bool → Bool → Bool → Bool → ℕ
admits decen held blims limit full =
    if not decen then 7 else if held then 8 else if (if blims then limit else full) then 9 else 0

admits_same : (d h b x : Bool) → (eqb (admits d h b x true) 9 && not b) ≡ false → admits d h b x true ≡ admits d h b x false
admits_same true true b x stop = refl
admits_same true false true x stop = refl
admits_same true false false x stop = absurd (true≢false stop)
admits_same false h b x stop = refl

same_admission :
    (c : Controller) (f g : Bool) → (f ≡ false → g ≡ false) → (eqb (admission c f) 9 && not c.buffering.blims) ≡ false → admission c f ≡ admission c g
unfolding admission
same_admission c true true up stop = refl
same_admission c true false up stop =
    admits_same c.buffering.decen c.counts.held c.buffering.blims (leb c.buffering.buflim c.counts.bufc) stop
same_admission c false g up stop = ap (admission c) (sym (up refl))

-- the number of a sector's answer
pub number_sector : (x : List ℕ) (s : Row) → Valid s → number (row_answer (sector x) s) ≡ sector_number x s
unfolding row_answer
number_sector x s h = by (eqb (sector_number x s) 0) refl
  where
    by : (e : Bool) → eqb (sector_number x s) 0 ≡ e → number (if e then answered (sector_step x s) else replied (sector_number x s) 0) ≡ sector_number x s
    by true e = let z = eqb-true _ _ e in (sector_stored x s h (taken x s z)).number ∙ sym z
    by false e = refl

module _ (c : Controller) (row : List (List ℕ)) (n m : ℕ) (le : n ≤ m) where
  abbrev S : Row
  S = record { controller = c; blocks = n; row = row }

  abbrev T : Row
  T = record { controller = c; blocks = m; row = row }

  -- a ring of m blocks is not full where one of n blocks is not
  still_room : c.counts.bufc < n → eqb (c.counts.bufc + 1) n ≡ false → eqb (c.counts.bufc + 1) m ≡ false
  still_room room e = let h = eqb-false (c.counts.bufc + 1) n e in ne_eqb (c.counts.bufc + 1) m (omega arith)

  same_number : (x : List ℕ) → Valid S → stops (sector x) (sector_number x S) c.buffering.blims ≡ false → sector_number x S ≡ sector_number x T
  same_number x h stop = by (eqb (length x) 2352) stop
    where
      by : (e : Bool) → (eqb (if not e then 1 else admission c (eqb (c.counts.bufc + 1) n)) 9 && not c.buffering.blims) ≡ false
          → (if not e then 1 else admission c (eqb (c.counts.bufc + 1) n)) ≡ (if not e then 1 else admission c (eqb (c.counts.bufc + 1) m))
      by true st = same_admission c _ _ (still_room h.room) st
      by false st = refl

  -- the same answer, and the same controller and row after it
  record Agreed (call : Call) : Type 0 where
    answer : row_answer call S ≡ row_answer call T
    controller : (row_step call S).controller ≡ (row_step call T).controller
    sectors : (row_step call S).row ≡ (row_step call T).row

  agreed_plain : (call : Plain) → stops (plain call) (number (row_answer (plain call) S)) c.buffering.blims ≡ false → Agreed (plain call)
  unfolding row_answer row_step
  agreed_plain call stop =
      let st = rw (ap (λ (r : Reply). r.number) (concluded_reply (stepped c call (row_facts S)))) at stop in
      let e = ap concluded (same_step c n m le call c.buffering.blims st) in
      record {
        answer = ap answered e;
        controller = ap (λ (r : Step). r.controller) e;
        sectors = ap (λ (r : Step). moved r.event row) e;
      }

  agreed_sector : (x : List ℕ) → Valid S → stops (sector x) (number (row_answer (sector x) S)) c.buffering.blims ≡ false → Agreed (sector x)
  unfolding row_answer row_step
  agreed_sector x h stop =
      let e = same_number x h (rw (number_sector x S h) at stop) in
      record {
        answer = ap (λ (k : ℕ). if eqb k 0 then answered (sector_step x S) else replied k 0) e;
        controller = ap (λ (k : ℕ). (if eqb k 0 then record { controller = (sector_step x S).controller; blocks = n; row = grown c x row } else S).controller) e ∙ (same_end (eqb (sector_number x T) 0)).0;
        sectors = ap (λ (k : ℕ). (if eqb k 0 then record { controller = (sector_step x S).controller; blocks = n; row = grown c x row } else S).row) e ∙ (same_end (eqb (sector_number x T) 0)).1;
      }
    where
      same_end : (b : Bool)
          → ((if b then record { controller = (sector_step x S).controller; blocks = n; row = grown c x row } else S).controller
          ≡ (if b then record { controller = (sector_step x T).controller; blocks = m; row = grown c x row } else T).controller)
          × ((if b then record { controller = (sector_step x S).controller; blocks = n; row = grown c x row } else S).row
          ≡ (if b then record { controller = (sector_step x T).controller; blocks = m; row = grown c x row } else T).row)
      same_end true = (refl, refl)
      same_end false = (refl, refl)

  agreed : (call : Call) → Valid S → stops call (number (row_answer call S)) c.buffering.blims ≡ false → Agreed call
  unfolding row_answer row_step
  agreed (plain call) h stop = agreed_plain call stop
  agreed (sector x) h stop = agreed_sector x h stop
  agreed look h stop = record { answer = refl; controller = refl; sectors = refl }
  agreed word h stop = record { answer = refl; controller = refl; sectors = refl }

-- Over a whole list.

pub record Pair (s t : Row) (l : Bool) : Type 0 where
  pub small : Valid s
  pub large : Valid t
  pub controller : s.controller ≡ t.controller
  pub row : s.row ≡ t.row
  pub size : s.blocks ≤ t.blocks
  pub blims : s.controller.buffering.blims ≡ l

pair_agreed : (s t : Row) (l : Bool) → Pair s t l → (call : Call) → stops call (number (row_answer call s)) l ≡ false
    → (row_answer call s ≡ row_answer call t) × ((row_step call s).controller ≡ (row_step call t).controller) × ((row_step call s).row ≡ (row_step call t).row)
pair_agreed s t l p call stop =
    let a = agreed s.controller s.row s.blocks t.blocks p.size call p.small
    (subst (λ (b : Bool). stops call (number (row_answer call s)) b ≡ false) (sym p.blims) stop) in
    subst
    (λ (q : Row). (row_answer call s ≡ row_answer call q) × ((row_step call s).controller ≡ (row_step call q).controller) × ((row_step call s).row ≡ (row_step call q).row))
    same_row (a.answer, a.controller, a.sectors)
  where
    same_row : record { controller = s.controller; blocks = t.blocks; row = s.row } ≡ t
    same_row = ap₂ (λ (c : Controller) (w : List (List ℕ)). record { controller = c; blocks = t.blocks; row = w }) p.controller p.row

pair_step :
    (s t : Row) (l : Bool) → Pair s t l → (c : Call) → stops c (number (row_answer c s)) l ≡ false
    → Pair (row_step c s) (row_step c t) (limited c (number (row_answer c s)) l)
pair_step s t l p c e =
    let a = pair_agreed s t l p c e in
    let ks = kept c s p.small in
    let kt = kept c t p.large in
    record {
      small = ks.valid;
      large = kt.valid;
      controller = a.1;
      row = a.2;
      size = rw (ks.blocks, kt.blocks) p.size;
      blims = ks.blims ∙ ap (limited c (number (row_answer c s))) p.blims;
    }

-- one call, given what follows of the rest of the list
agree_call :
    (c : Call) (cs : List Call) (s t : Row) (l : Bool) → Pair s t l
    → (Pair (row_step c s) (row_step c t) (limited c (number (row_answer c s)) l)
    → Agree the_row cs (row_step c s) (row_step c t) (limited c (number (row_answer c s)) l))
    → (e : Bool) → stops c (number (row_answer c s)) l ≡ e
    → unless e
    ((masked c (row_answer c s) ≡ masked c (row_answer c t)) × (the_row.facts (row_step c s) ≡ the_row.facts (row_step c t))
    × Agree the_row cs (row_step c s) (row_step c t) (limited c (number (row_answer c s)) l))
agree_call c cs s t l p rest true e = tt
agree_call c cs s t l p rest false e = (ap (masked c) (pair_agreed s t l p c e).0, ap facts_of (pair_agreed s t l p c e).1, rest (pair_step s t l p c e))

pub agree : (cs : List Call) (s t : Row) (l : Bool) → Pair s t l → Agree the_row cs s t l
agree [] s t l p = tt
agree (c ∷ cs) s t l p = agree_call c cs s t l p (λ rest. agree cs _ _ _ rest) (stops c (number (row_answer c s)) l) refl
