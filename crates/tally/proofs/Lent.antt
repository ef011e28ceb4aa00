-- The chip's counters are the tally's, whatever memory is lent to each call: of the memory a call's number and what it makes of the record depend on the
-- length alone. So the chip goes as it would over a memory of its own, which represents the book's row. Assumes nothing.
use Prim.Native.Nat.{ℕ, ◌+◌, ◌*◌, ◌≤◌}
use mathlib.Core.Path.{◌≡◌, refl, sym, ap, ap₂, subst, ◌∙◌}
use mathlib.Core.Bool.{Bool, true, false, ◌&&◌, not}
use mathlib.Core.List.{List, [], ◌∷◌}
use mathlib.Core.Logic.{◌⊎◌, inl, inr, ⊎_elim}
use native.Mathlib.Omega.{arith}
use lib.Dec.{eqb}
use lib.ListN.{length, replicate, length-replicate}
use borrow.Author.Tests.{eq-eqb}
use Rattle.std.specs.Prelude.{if◌then◌else◌}
use Rattle.laws.specs.Numbers.{weight}
use Rattle.laws.proofs.Choice.{if_true}
use Rattle.calls.specs.declared.Call.TheVariants.{Read}
use Rattle.controller.specs.Calls.{stepped}
use Rattle.controller.specs.Decoder.{admission, counted}
use Rattle.controller.specs.Host.{host_word}
use Rattle.controller.specs.Read.{read}
use Rattle.controller.specs.Transfer.{concluded}
use Rattle.ring.specs.Place.{full}
use Rattle.outcomes.specs.Machine.{Call, plain, sector, look, word, Answer, replied, number}
use Rattle.outcomes.specs.Row.{Row, shown, row_answer, row_step, the_row}
use Rattle.outcomes.proofs.Rows.{kept}
use Rattle.chip.specs.Chip.{opened, ring_fits, finished}
use Rattle.chip.specs.Told.{refused, Told, Handed, Refused, WordTold}
use Rattle.chip.specs.Calls as calls
use Rattle.chip.specs.Calls.{called, received_by, sector_told, next_word, word_by, word_told}
use Rattle.chip.specs.Machine.{over, of_told, of_word, chip_answer, chip_step}
use Rattle.chip.specs.Sound.{sound}
use Rattle.chip.specs.declared.Chip.{Chip}
use Rattle.claims.specs.Demand3.{masked}
use Rattle.claims.specs.Refinement.{Refines}
use Rattle.claims.specs.Shown.{result, holding, held_after}
use Rattle.tally.specs.Tally.{Tally, first_tally, noted, note, tally, fold_entries, AddsUp}
use Rattle.tally.specs.Claims.{LentCall, lent_after, lent_history, TallyClaim}
use Rattle.claims.proofs.Refines.{refined_sound, refined_answer, refined_step, refines_opened}
use Rattle.claims.proofs.Shown.{row_held, held_over}
use Rattle.claims.proofs.Simulated.{same_number}
use Rattle.tally.proofs.Book.{Keeps, keeps_on, keeps_first, row_follows}

-- Two answers are alike to the tally

pub record Alike (a b : Answer) : Type 0 where
  pub numbers : number a ≡ number b
  pub results : result a ≡ result b

note_alike : (c : Call) (a b : Answer) (t : Tally) → Alike a b → note c a t ≡ note c b t
note_alike c a b t e = ap₂ (λ (n v : ℕ). if eqb n 0 then noted c v t else t) e.numbers e.results

held_alike : (c : Call) (a b : Answer) (h : Bool) → Alike a b → held_after c a h ≡ held_after c b h
held_alike c a b h e = ap₂ (λ (n v : ℕ). if eqb n 0 then holding c v h else h) e.numbers e.results

-- masked alike, too: the results of 24h and 3Ah are not the tally's
note_over : (c : Call) (a b : Answer) (t : Tally) → masked c a ≡ masked c b → note c a t ≡ note c b t
note_over (plain c) a b t e = ap (λ (n : ℕ). if eqb n 0 then noted (plain c) 0 t else t) (same_number (plain c) a b e)
note_over (sector x) a b t e = ap (λ (r : Answer). note (sector x) r t) e
note_over look a b t e = ap (λ (r : Answer). note look r t) e
note_over word a b t e = ap (λ (r : Answer). note word r t) e

note_refused : (c : Call) (a : Answer) (t : Tally) → number a ≡ 1 → note c a t ≡ t
note_refused c a t e = ap (λ (n : ℕ). if eqb n 0 then noted c (result a) t else t) e

held_refused : (c : Call) (a : Answer) (h : Bool) → number a ≡ 1 → held_after c a h ≡ h
held_refused c a h e = ap (λ (n : ℕ). if eqb n 0 then holding c (result a) h else h) e

-- Of the memory the length counts alone

-- lent y, a chip goes as it does lent x
record Same (call : Call) (c : Chip) (x y : List ℕ) : Type 0 where
  chip : (chip_step call (over c y)).chip ≡ (chip_step call (over c x)).chip
  alike : Alike (chip_answer call (over c y)) (chip_answer call (over c x))

-- or it answers 1
record Unlent (call : Call) (c : Chip) (y : List ℕ) : Type 0 where
  chip : (chip_step call (over c y)).chip ≡ c
  one : number (chip_answer call (over c y)) ≡ 1

module _ (c : Chip) (x y : List ℕ) (safe : sound c ≡ true) (fits : ring_fits c x ≡ true) where
  -- a sector, by whether the memory fits
  abbrev sector_number : List ℕ → Bool → ℕ
  sector_number s z = if not (true && z && eqb (length s) 2352) then 1 else admission c.controller (full c.place)

  abbrev told : List ℕ → Bool → Told
  told s z =
      if eqb (sector_number s z) 0 then finished c.place (concluded (counted c.controller (received_by c s).judgement))
      else refused c (sector_number s z)

  told_is : (s m : List ℕ) → sector_told c m s ≡ told s (ring_fits c m)
  unfolding sector_told calls.sector_number
  told_is s m = rw safe refl

  sectors : (s : List ℕ) → Same (sector s) c x y ⊎ Unlent (sector s) c y
  unfolding chip_answer chip_step
  sectors s = by (ring_fits c y) refl
    where
      by : (z : Bool) → ring_fits c y ≡ z → Same (sector s) c x y ⊎ Unlent (sector s) c y
      by true e =
          let q : sector_told c y s ≡ sector_told c x s = told_is s y ∙ ap (told s) (e ∙ sym fits) ∙ sym (told_is s x) in
          inl (record {
            chip = ap (λ (t : Told). t.chip) q;
            alike = record { numbers = ap (λ (t : Told). t.reply.number) q; results = ap (λ (t : Told). t.reply.result) q };
          })
      by false e =
          let q : sector_told c y s ≡ refused c 1 = told_is s y ∙ ap (told s) e in
          inr (record { chip = ap (λ (t : Told). t.chip) q; one = ap (λ (t : Told). t.reply.number) q })

  -- a word, whose value the tally does not see
  abbrev word_of : ℕ → Bool → WordTold
  word_of w z =
      if true && z
      then record { chip = (finished c.place (concluded (host_word c.controller))).chip; word = word_by (host_word c.controller).reply.number w }
      else record { chip = c; word = Refused 1 }

  word_is : (m : List ℕ) → word_told c m ≡ word_of (next_word c m) (ring_fits c m)
  unfolding word_told
  word_is m = rw safe refl

  alike_words : (k w v : ℕ) → Alike (of_word (word_by k w)) (of_word (word_by k v))
  alike_words k w v = by (eqb k 0)
    where
      by : (z : Bool) → Alike (of_word (if z then Handed w else Refused k)) (of_word (if z then Handed v else Refused k))
      by true = record { numbers = refl; results = refl }
      by false = record { numbers = refl; results = refl }

  words : Same word c x y ⊎ Unlent word c y
  unfolding chip_answer chip_step
  words = by (ring_fits c y) refl
    where
      by : (z : Bool) → ring_fits c y ≡ z → Same word c x y ⊎ Unlent word c y
      by true e =
          let p : word_told c y ≡ word_of (next_word c y) true = word_is y ∙ ap (word_of (next_word c y)) e in
          let q : word_told c x ≡ word_of (next_word c x) true = word_is x ∙ ap (word_of (next_word c x)) fits in
          inl (record {
            chip = ap (λ (t : WordTold). t.chip) p ∙ sym (ap (λ (t : WordTold). t.chip) q);
            alike = rw (p, q) (alike_words (host_word c.controller).reply.number (next_word c y) (next_word c x));
          })
      by false e =
          let p : word_told c y ≡ word_of (next_word c y) false = word_is y ∙ ap (word_of (next_word c y)) e in
          inr (record { chip = ap (λ (t : WordTold). t.chip) p; one = ap (λ (t : WordTold). number (of_word t.word)) p })

  by_length : (call : Call) → Same call c x y ⊎ Unlent call c y
  unfolding chip_answer chip_step
  by_length (plain call) = inl (record { chip = refl; alike = record { numbers = refl; results = refl } })
  by_length (sector s) = sectors s
  by_length look = inl (record { chip = refl; alike = record { numbers = refl; results = refl } })
  by_length word = words

-- A chip that refines a row over some memory, beside the tally and held

record Going (c : Chip) (t : Tally) (held : Bool) : Type 0 where
  memory : List ℕ
  row : Row
  refines : Refines (over c memory) row
  keeps : Keeps t (shown row)
  holds : row.controller.counts.held ≡ held

module _ (c : Chip) (t : Tally) (held : Bool) (g : Going c t held) where
  fitting : ring_fits c g.memory ≡ true
  fitting = eq-eqb _ _ g.refines.represents.whole

  -- lent its own memory
  own : (call : Call)
      → Going (chip_step call (over c g.memory)).chip (note call (chip_answer call (over c g.memory)) t) (held_after call (chip_answer call (over c g.memory)) held)
  own call =
      let s = over c g.memory in
      let r = g.row in
      let a = refined_answer s r g.refines call in
      let v = g.refines.valid in
      record {
        memory = (chip_step call s).ring;
        row = row_step call r;
        refines = refined_step s r g.refines call;
        keeps =
            subst (λ (u : Tally). Keeps u (shown (row_step call r))) (sym (note_over call (chip_answer call s) (row_answer call r) t a))
            (rw (kept call r v).book (keeps_on t (shown r) g.keeps call (row_answer call r) (row_follows call r v)));
        holds = row_held call r ∙ ap (held_after call (row_answer call r)) g.holds ∙ sym (held_over call (chip_answer call s) (row_answer call r) held a);
      }

  -- lent any
  step : (call : Call) (y : List ℕ)
      → Going (chip_step call (over c y)).chip (note call (chip_answer call (over c y)) t) (held_after call (chip_answer call (over c y)) held)
  step call y =
      ⊎_elim
      (λ (s : Same call c g.memory y).
      rw (s.chip, note_alike call _ _ t s.alike, held_alike call _ _ held s.alike) (own call))
      (λ (u : Unlent call c y). rw (u.chip, note_refused call _ t u.one, held_refused call _ held u.one) g)
      (by_length c g.memory y (refined_sound (over c g.memory) g.row g.refines) fitting call)

over_list : (ls : List LentCall) (c : Chip) (t : Tally) (held : Bool) → Going c t held
    → Going (lent_after ls c) (fold_entries note (lent_history ls c) t) (fold_entries held_after (lent_history ls c) held)
over_list [] c t held g = g
over_list (l ∷ ls) c t held g = over_list ls _ _ _ (step c t held g l.call l.memory)

-- as opened, over a memory of zeros
first : (n : ℕ) → 3 ≤ n → n ≤ 255 → Going (opened n).chip first_tally false
first n low high =
    let x : List ℕ = replicate (n * 2560) 0 in
    record {
      memory = x;
      row = the_row.opened n x;
      refines = refines_opened n low high x (length-replicate {A = ℕ} (n * 2560) 0);
      keeps = keeps_first;
      holds = refl;
    }

-- a read of a sound record
read_tcc : (c : Chip) (x : List ℕ) → sound c ≡ true → chip_answer (plain (Read 0x9D)) (over c x) ≡ replied 0 c.controller.counts.tcc
unfolding chip_answer called stepped read concluded
read_tcc c x e = ap of_told (if_true (sound c) _ _ e)

read_bufc : (c : Chip) (x : List ℕ) → sound c ≡ true → chip_answer (plain (Read 0x9B)) (over c x) ≡ replied 0 c.controller.counts.bufc
unfolding chip_answer called stepped read concluded
read_bufc c x e = ap of_told (if_true (sound c) _ _ e)

pub tally_holds : TallyClaim
tally_holds n low high ls =
    let c = lent_after ls (opened n).chip in
    let g = over_list ls (opened n).chip first_tally false (first n low high) in
    let f = g.refines in
    let same : c.controller ≡ g.row.controller = f.controller in
    let safe = refined_sound (over c g.memory) g.row f in
    let accounts : AddsUp c.controller.counts.tcc (tally (lent_history ls (opened n).chip)) =
    rw (same, sym f.valid.good) g.keeps.accounts in
    record {
      tcc = accounts;
      balanced = omega (arith, accounts);
      bufc = rw same (f.valid.invariant.consistent.buffered ∙ ap (λ (h : Bool). g.row.controller.counts.tcc + weight h 1) g.holds);
      tcc_read = λ x. read_tcc c x safe;
      bufc_read = λ x. read_bufc c x safe;
    }
