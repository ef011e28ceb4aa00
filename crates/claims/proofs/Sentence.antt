-- The regulator's sentence: every sector of the book's row came by an accepted sector call and was checked, and the blocks that count hold the row.
-- Assumes nothing.
use Prim.Native.Nat.{ℕ, zero, suc, ◌+◌, ◌*◌, ◌<◌, ◌≤◌}
use mathlib.Core.Path.{◌≡◌, refl, sym, ap, subst, ◌∙◌}
use mathlib.Core.Bool.{Bool, true, false, ◌&&◌, ◌||◌, not, false≢true}
use mathlib.Core.List.{List, [], ◌∷◌, ◌++◌}
use mathlib.Core.Logic.{◌⊎◌, inl, inr}
use native.Mathlib.Nat.{le_of_suc-le-suc, not-suc-le-zero}
use native.Mathlib.Omega.{arith}
use lib.Dec.{eqb}
use lib.ListN.{length, take, drop, get_or}
use borrow.Author.Tests.{eqb-true, eqb-false}
use Rattle.reply.specs.Reply.{Reply}
use Rattle.laws.specs.Bytes.{word_at}
use Rattle.std.specs.Prelude.{if◌then◌else◌}
use Rattle.laws.proofs.Choice.{if_case, right_false, not_of_false}
use Rattle.laws.proofs.Tests.{or_false}
use Rattle.calls.specs.declared.Call.TheVariants.{Write, Read, SetBlock, SetWindow, SetExpected, PacketByte, Reset, Command, PacketWord, Status, Srst}
use Rattle.sector.specs.Judge.{sync_holds, mode_holds, edc_holds, address_holds, judgement, good}
use Rattle.sector.specs.Receive.{received}
use Rattle.sector.proofs.Changes.{mode_cases}
use Rattle.sector.proofs.Damage.{edc_cases}
use Rattle.sector.specs.declared.Address.{Address}
use Rattle.controller.specs.Bits.{bit}
use Rattle.controller.specs.Fields.{◌▹◌}
use Rattle.controller.specs.Host.{host_word}
use Rattle.outcomes.specs.Book.{Book, row≔, acmen≔, book_of, first_book, takes, judged, joined, fed, feed}
use Rattle.outcomes.specs.Machine.{Call, plain, sector, look, word, Answer, replied, handed, refused, seen, number, Machine, after}
use Rattle.outcomes.specs.Row.{Row, Valid, shown, word_step, row_answer}
use Rattle.outcomes.proofs.Calls.{word_running}
use Rattle.outcomes.proofs.Consistent.{window_end}
use Rattle.outcomes.proofs.Rows.{concluded_reply, number_word}
use Rattle.chip.specs.Chip.{ring_fits}
use Rattle.chip.specs.Machine.{State, chip_answer, the_chip}
use Rattle.chip.specs.Sound.{sound}
use Rattle.claims.specs.Counted.{book_after, Counted}
use Rattle.claims.specs.Demand3.{Right}
use Rattle.claims.specs.Sentence.{Arrival, brought, bring, arrivals, Checked, Among, ReadAndChecked, RowChecked, tcc, block_at, Sentence}
use Rattle.claims.specs.Shown.{window_of}
use Rattle.claims.proofs.Counted.{counted_holds}
use Rattle.claims.proofs.Demand1.{demand1}
use Rattle.claims.proofs.Refines.{refined_answer}
use Rattle.claims.proofs.RowWords.{right}
use Rattle.claims.proofs.Shown.{look_shows}

-- Lists of sectors

abbrev Every : (List ℕ → Type 0) → List (List ℕ) → Type 0
Every P [] = Unit {0}
Every P (x ∷ xs) = P x × Every P xs

every_take : (P : List ℕ → Type 0) (v : ℕ) (xs : List (List ℕ)) → Every P xs → Every P (take v xs)
every_take P zero xs e = tt
every_take P (suc v) [] e = tt
every_take P (suc v) (x ∷ xs) e = (e.0, every_take P v xs e.1)

every_drop : (P : List ℕ → Type 0) (v : ℕ) (xs : List (List ℕ)) → Every P xs → Every P (drop v xs)
every_drop P zero xs e = e
every_drop P (suc v) [] e = tt
every_drop P (suc v) (x ∷ xs) e = every_drop P v xs e.1

every_join : (P : List ℕ → Type 0) (xs : List (List ℕ)) (y : List ℕ) → Every P xs → P y → Every P (xs ++ y ∷ [])
every_join P [] y e p = (p, tt)
every_join P (x ∷ xs) y e p = (e.0, every_join P xs y e.1 p)

every_map : (P Q : List ℕ → Type 0) → ((x : List ℕ) → P x → Q x) → (xs : List (List ℕ)) → Every P xs → Every Q xs
every_map P Q f [] e = tt
every_map P Q f (x ∷ xs) e = (f x e.0, every_map P Q f xs e.1)

every_at : (P : List ℕ → Type 0) (xs : List (List ℕ)) → Every P xs → (i : ℕ) → i < length xs → P (get_or xs i [])
every_at P [] e i less = absurd (not-suc-le-zero less)
every_at P (x ∷ xs) e zero less = e.0
every_at P (x ∷ xs) e (suc i) less = every_at P xs e.1 i (le_of_suc-le-suc less)

-- What came, and one more

among_more : (v w : Arrival) (came : List Arrival) → Among v came → Among v (came ++ w ∷ [])
among_more v w [] a = absurd a
among_more v w (u ∷ us) (inl e) = inl e
among_more v w (u ∷ us) (inr a) = inr (among_more v w us a)

among_last : (w : Arrival) (came : List Arrival) → Among w (came ++ w ∷ [])
among_last w [] = inl refl
among_last w (u ∷ us) = inr (among_last w us)

more : (w : Arrival) (came : List Arrival) (x : List ℕ) → ReadAndChecked came x → ReadAndChecked (came ++ w ∷ []) x
more w came x r = record { arrival = r.arrival; among = among_more r.arrival w came r.among; whole = r.whole; bytes = r.bytes; checked = r.checked }

-- a good sector was checked

neither : (s m e a : Bool) → not ((not s || (not m || not e)) || not a) ≡ true → (s ≡ true) × (m ≡ true) × (e ≡ true) × (a ≡ true)
neither true true true true h = (refl, refl, refl, refl)
neither true true true false h = absurd (false≢true h)
neither true true false a h = absurd (false≢true h)
neither true false e a h = absurd (false≢true h)
neither false m e a h = absurd (false≢true h)

checked : (a : Address) (s : List ℕ) → good (received a s).judgement ≡ true → Checked a (received a s).bytes
unfolding received judgement
checked a s h =
    let x = (received a s).bytes in
    let b = neither (sync_holds x) (mode_holds x) (edc_holds x) (address_holds a x) h in
    record { sync = b.0; mode = mode_cases x b.1; edc = edc_cases x b.2; address = b.3 }

-- The book's row, call by call

abbrev GoodRow : List Arrival → Book → Type 0
GoodRow came b = Every (ReadAndChecked came) b.row

module _ (b : Book) (came : List Arrival) (e : GoodRow came b) where
  good_write : (reg v : ℕ) → GoodRow came (fed (plain (Write reg v)) b)
  good_write reg v = by (eqb reg 0x9C) (eqb reg 0x9D) (eqb reg 0x9E && b.acmen)
    where
      by : (p q r : Bool)
          → GoodRow came
          (if p then b ▹ acmen≔ (bit v 6)
          else if q then b ▹ row≔ (take v b.row)
          else if r then b ▹ row≔ (drop v b.row)
          else b)
      by true q r = e
      by false true r = every_take (ReadAndChecked came) v b.row e
      by false false true = every_drop (ReadAndChecked came) v b.row e
      by false false false = e

  good_sector : (s : List ℕ) → length s ≡ 2352 → GoodRow (brought (sector s) b came) (fed (sector s) b)
  unfolding takes
  good_sector s size =
      let w : Arrival = record { expected = b.expected; lent = s } in
      let old = every_map (ReadAndChecked came) (ReadAndChecked (came ++ w ∷ [])) (more w came) b.row e in
      if_case (GoodRow (came ++ w ∷ [])) (takes b s) (joined s (judged s b)) (judged s b)
      (λ t.
      every_join (ReadAndChecked (came ++ w ∷ [])) b.row (received b.expected s).bytes old
      (record { arrival = w; among = among_last w came; whole = size; bytes = refl; checked = checked b.expected s t }))
      (λ _. old)

  good_fed : (c : Call) → ((s : List ℕ) → c ≡ sector s → length s ≡ 2352) → GoodRow (brought c b came) (fed c b)
  good_fed (plain (Write reg v)) size = good_write reg v
  good_fed (plain Reset) size = tt
  good_fed (plain (Read reg)) size = e
  good_fed (plain (SetBlock n)) size = e
  good_fed (plain (SetWindow o w)) size = e
  good_fed (plain (SetExpected a)) size = e
  good_fed (plain (PacketByte i)) size = e
  good_fed (plain (Command v)) size = e
  good_fed (plain (PacketWord w)) size = e
  good_fed (plain Status) size = e
  good_fed (plain Srst) size = e
  good_fed (sector s) size = good_sector s (size s refl)
  good_fed look size = e
  good_fed word size =
      if_case (GoodRow came) (eqb (b.k + 1) b.words) _ _ (λ _. every_drop (ReadAndChecked came) 1 b.row e) (λ _. e)

  good_feed : (c : Call) (n : ℕ) → (n ≡ 0 → (s : List ℕ) → c ≡ sector s → length s ≡ 2352) → GoodRow (bring c n b came) (feed c n b)
  unfolding feed
  good_feed c n size = by (eqb n 0) refl
    where
      by : (z : Bool) → eqb n 0 ≡ z → GoodRow (if z then brought c b came else came) (if z then fed c b else b)
      by true z = good_fed c (size (eqb-true n 0 z))
      by false z = e

-- Over a list of calls, of a machine that accepts whole sectors alone

abbrev WholeOnly : Machine → Type 0
WholeOnly M = (x : List ℕ) (s : M.State) → number (M.answer (sector x) s) ≡ 0 → length x ≡ 2352

module _ (M : Machine) (only : WholeOnly M) where
  good_run : (cs : List Call) (s : M.State) (b : Book) (came : List Arrival) → GoodRow came b → GoodRow (arrivals M cs s b came) (book_after M cs s b)
  good_run [] s b came e = e
  good_run (c ∷ cs) s b came e =
      good_run cs (M.step c s) _ _
      (good_feed b came e c (number (M.answer c s))
      (λ z x is. only x s (subst (λ (d : Call). number (M.answer d s) ≡ 0) is z)))

  pub row_checked_by : RowChecked M
  row_checked_by n low high x size cs i less =
      every_at (ReadAndChecked (arrivals M cs (M.opened n x) first_book [])) (book_after M cs (M.opened n x) first_book).row
      (good_run cs (M.opened n x) first_book [] tt) i less

-- the chip refuses any other length, whatever its record
chip_whole : WholeOnly the_chip
chip_whole x s z = by (eqb (length x) 2352) refl
  where
    by : (e : Bool) → eqb (length x) 2352 ≡ e → length x ≡ 2352
    by true e = eqb-true (length x) 2352 e
    by false e =
        let t = sound s.chip && ring_fits s.chip s.ring in
        absurd (((demand1.answered (sector x) s).lowest 1 (inl (not_of_false _ (right_false t (eqb (length x) 2352) e), refl))).0 z)

pub row_checked : RowChecked the_chip
row_checked = row_checked_by the_chip chip_whole

-- The chip's blocks, words and looks

abbrev bytes_of : Answer → List ℕ
bytes_of (seen bytes) = bytes
bytes_of (replied n v) = []
bytes_of (handed w) = []
bytes_of (refused n) = []

module _ (s : State) (b : Book) (k : Counted s b) where
  abbrev R : Row
  R = record { controller = s.chip.controller; blocks = s.chip.place.n; row = b.row }

  abbrev v : Valid R
  v = k.refines.valid

  block_is : (i : ℕ) → i < tcc s → block_at s i ≡ get_or b.row i []
  block_is i less = k.refines.represents.blocks i less

  some : (b.row ≡ [] → ⊥) → 0 < tcc s
  some filled = by b.row k.tcc filled
    where
      by : (row : List (List ℕ)) → tcc s ≡ length row → (row ≡ [] → ⊥) → 0 < tcc s
      by [] e f = absurd (f refl)
      by (x ∷ xs) e f = omega arith

  words_of : (w : ℕ) → chip_answer word s ≡ handed w → (0 < tcc s) × ((p : ℕ) × (p + 1 < 2352) × (w ≡ word_at (block_at s 0) p))
  unfolding row_answer
  words_of w e =
      let is : row_answer word R ≡ handed w = sym (refined_answer s R k.refines word) ∙ e in
      let served = subst (λ (a : Answer). Right word a (shown R)) is (right word R v) in
      let c = s.chip.controller in
      let zero : (host_word c).reply.number ≡ 0 =
      sym (ap (λ (r : Reply). r.number) (concluded_reply (host_word c))) ∙ sym (number_word (word_step R) R) ∙ ap number is in
      let m = v.invariant.consistent.running (word_running c zero) in
      let inside = m.inside in
      let end = window_end c.window.offset c.window.words v.invariant.consistent.window (omega arith) in
      let counts = some served.0 in (
        counts,
        (
          c.window.offset + 2 * c.transfer.position,
          omega arith,
          served.1 ∙ ap (λ (x : List ℕ). word_at x (c.window.offset + 2 * c.transfer.position)) (sym (block_is 0 counts)),
        ),
      )

  looks_of : (shown : List ℕ) → chip_answer look s ≡ seen shown
      → (shown ≡ []) ⊎ ((0 < tcc s) × ((o m : ℕ) × (o + m ≤ 2352) × (shown ≡ take m (drop o (block_at s 0)))))
  looks_of shown e =
      let c = s.chip.controller in
      let is : shown ≡ window_of (book_of c b.row) =
      ap bytes_of (sym e ∙ refined_answer s R k.refines look ∙ look_shows R v) in
      subst
      (λ (z : List ℕ). (z ≡ []) ⊎ ((0 < tcc s) × ((o m : ℕ) × (o + m ≤ 2352) × (z ≡ take m (drop o (block_at s 0)))))) (sym is)
      (if_case
      (λ (z : List ℕ). (z ≡ []) ⊎ ((0 < tcc s) × ((o m : ℕ) × (o + m ≤ 2352) × (z ≡ take m (drop o (block_at s 0))))))
      (eqb (length b.row) 0 || eqb c.window.words 0) [] (take (2 * c.window.words) (drop c.window.offset (get_or b.row 0 [])))
      (λ _. inl refl)
      (λ f.
      let g = or_false (eqb (length b.row) 0) (eqb c.window.words 0) f in
      let rows = eqb-false (length b.row) 0 g.0 in
      let t = k.tcc in
      let counts : 0 < tcc s = omega arith in
      let end = window_end c.window.offset c.window.words v.invariant.consistent.window (eqb-false _ _ g.1) in
      inr (
        counts,
        (
          c.window.offset,
          2 * c.window.words,
          end,
          ap (λ (x : List ℕ). take (2 * c.window.words) (drop c.window.offset x)) (sym (block_is 0 counts)),
        ),
      )))

pub sentence : Sentence
sentence n low high x size cs =
    let s = after the_chip cs (the_chip.opened n x) in
    let b = book_after the_chip cs (the_chip.opened n x) first_book in
    let k = counted_holds n low high x size cs in
    record {
      counts = λ i less.
          subst (ReadAndChecked (arrivals the_chip cs (the_chip.opened n x) first_book [])) (sym (block_is s b k i less))
          (row_checked n low high x size cs i (subst (λ (t : ℕ). i < t) k.tcc less));
      words = words_of s b k;
      looks = looks_of s b k;
    }
