-- Before an accepted opening a line leaves the bench closed and shows zeros; a refused line changes no byte; an open bench runs the machine of
-- demand 3. Assumes nothing.
use Rattle.std.proofs.Common.{◌≡◌, ℕ, zero, suc, ◌+◌, ◌-◌, ◌%◌, ◌≤◌, Bool, true, false, not, ◌&&◌, ◌||◌, eqb, ltb, leb, List, [], ◌∷◌, ◌++◌, length, take, drop, replicate, sym, refl, ap, ◌∙◌, true≢false, arith, take-append-drop, eq-eqb, ne_eqb, eqb-true}
use lib.ListN.{length-replicate}
use borrow.Author.Tests.{lt-leb}
use Rattle.std.specs.Prelude.{if◌then◌else◌, Option, Some, None, Result, Ok, Err}
use Rattle.laws.proofs.Bytes.{complement_bits, bytes_replicate}
use Rattle.laws.proofs.Fill.{take_replicate, drop_replicate}
use Rattle.laws.proofs.Choice.{if_case, if_true, if_false, right_false}
use Rattle.laws.proofs.Tests.{both_false}
use Rattle.sector.specs.Address.{valid}
use Rattle.sector.specs.Calls.{seal_sector}
use Rattle.sector.specs.Layout.{agrees, layout}
use Rattle.sector.specs.Sector.{user}
use Rattle.sector.specs.declared.Address.{Address}
use Rattle.sector.proofs.Claims.{seal_holds}
use Rattle.sector.proofs.Layouts.{fits}
use Rattle.sector.proofs.Sealed.{count}
use Rattle.sector.specs.Judge.{good}
use Rattle.sector.specs.declared.Judgement.{Judgement}
use Rattle.controller.specs.Step.{Step}
use Rattle.controller.specs.Decoder.{admission, counted}
use Rattle.controller.specs.Transfer.{concluded}
use Rattle.controller.specs.declared.state.Controller.{Controller}
use Rattle.ring.specs.Place.{full}
use Rattle.outcomes.specs.Machine.{sector, number}
use Rattle.chip.specs.Calls as calls
use Rattle.chip.specs.Calls.{received_by}
use Rattle.chip.specs.Chip as chip
use Rattle.chip.specs.Chip.{opened, ring_fits}
use Rattle.chip.specs.Sound.{sound}
use Rattle.chip.specs.Told.{Told, Word, Handed, Refused}
use Rattle.chip.specs.Machine.{of_word, chip_answer, chip_step}
use Rattle.chip.specs.declared.Chip.{Chip}
use Rattle.syntax.specs.Grammar.{form, onward, bare, disc as disc_line, several, named, parse}
use Rattle.syntax.specs.declared.line.Line.{Line}
use Rattle.syntax.specs.declared.line.Line.TheVariants.{Open, Plain, Look, Take, Disc, Scratch, SetKind, SetSubheader}
use Rattle.script.specs.Answers.{Answer, Answered, unchanged, answered, refused, of_told, opening, disc_number, brought, disc, said, word, called, closed, is_open, size, shown}
use Rattle.script.specs.Disc.{known, unsealed, arriving, carried_on, carried_after}
use Rattle.script.specs.Bench as bench
use Rattle.script.specs.Bench.{started, reply}
use Rattle.script.proofs.Answering.{number_chip, number_other, admitted, length_scratched, scratched_none, scratched_byte}
use Rattle.script.specs.Claims.{Closed, ClosedClaim, RefusalClaim, out_of, Runs, MachineClaim, DiscClaim}
use Rattle.script.specs.declared.disc.Carried.{Carried}

-- an answer that opens nothing is a refusal
Refusal : Answer → Type 0
Refusal a = is_open a.chip ≡ false → (a ≡ refused (Err chip.closed) a.number) × (eqb a.number 0 ≡ false)

opening_cases : (n : ℕ) (t u : Bool) → Refusal (if t then refused (Err chip.closed) 1 else if u then of_told (opened n) else refused (Err chip.closed) 1)
unfolding Refusal
opening_cases n true u e = (refl, refl)
opening_cases n false true e = absurd (true≢false e)
opening_cases n false false e = (refl, refl)

closed_refuses : (line : Line) → Refusal (closed chip.closed line)
unfolding Refusal closed opening
closed_refuses (Open n) e = opening_cases n (ltb 25 n) (eqb (opened n).reply.number 0) e
closed_refuses (Plain call) e = (refl, refl)
closed_refuses Look e = (refl, refl)
closed_refuses Take e = (refl, refl)
closed_refuses (Disc a byte) e = (refl, refl)
closed_refuses (Scratch from count) e = (refl, refl)
closed_refuses (SetKind k) e = (refl, refl)
closed_refuses (SetSubheader f h m i) e = (refl, refl)

-- a refused line leaves what sectors carry
carried_stays : (d : Carried) (line : Option Line) (n : ℕ) → eqb n 0 ≡ false → carried_after d line n ≡ d
unfolding carried_after
carried_stays d line n e = if_false (eqb n 0) (carried_on d line) d e

none_refuses : (d : Carried) (m s : List ℕ) (line : Option Line) → Refusal (answered (Err chip.closed) d m s line).answer
unfolding Refusal answered
none_refuses d m s None e = (refl, refl)
none_refuses d m s (Some line) e = closed_refuses line e

pub closed_claim : ClosedClaim
unfolding Refusal
closed_claim b m s line k e =
    let q = ap (λ (o : Result Chip Chip). (answered o b.carried m s (parse line)).answer) k.0 in
    let a = (reply b m s line).answer in
    let f = none_refuses b.carried m s (parse line) (sym (ap (λ (x : Answer). is_open x.chip) q) ∙ e) in
    let r : a ≡ refused (Err chip.closed) a.number = q ∙ f.0 ∙ ap (λ (x : Answer). refused (Err chip.closed) x.number) (sym q) in
    let d = carried_stays b.carried (parse line) a.number (ap (λ (x : Answer). eqb x.number 0) q ∙ f.1) ∙ k.1 in
    ((ap (λ (x : Answer). x.chip) r, d), ap (λ (x : Answer). shown x (bench.count b)) r)

-- the claim's premises are met: a bench that was started is closed, and an empty line does not open it
pub closed_started : Closed started
closed_started = (refl, refl)

pub closed_empty : (m s : List ℕ) → is_open (reply started m s []).answer.chip ≡ false
unfolding answered closed parse named several disc_line bare form onward
closed_empty m s = refl

-- the number and the value of a word are those of its answer
word_number : (w : Word) → calls.word_number w ≡ number (of_word w)
word_number (Handed v) = refl
word_number (Refused k) = refl

word_out : (w : Word) → calls.word_value w ≡ out_of (of_word w)
word_out (Handed v) = refl
word_out (Refused k) = refl

-- a sector line in order, by the chip's number: the machine is given the sector that would be sealed, and answers by the same number
module _ (c : Chip) (d : Carried) (ring s : List ℕ) (a : Address) (byte : ℕ) (size : length s ≡ 2352) (low : byte ≤ 255) (v : valid a ≡ true)
    (fit : agrees d.kind d.subheader ≡ true) where
  made : List ℕ
  made = arriving d a byte

  made_size : length made ≡ 2352
  unfolding made arriving
  made_size =
      length_scratched d.damage (seal_sector (unsealed byte) a d.kind d.subheader)
      (count d.kind a d.subheader (unsealed byte) (length-replicate {A = ℕ} 2352 byte) v fit)

  its_number : disc_number c d ring s a byte ≡ calls.sector_number c ring made
  unfolding calls.sector_number
  its_number =
      sym (number_chip c d ring s a byte size low v fit)
      ∙ ap (λ (n : ℕ). if not (sound c && ring_fits c ring && eqb n 2352) then 1 else admission c.controller (full c.place)) (size ∙ sym made_size)

  by_number : ℕ → Answered
  by_number n = if eqb n 0 then brought c ring made else unchanged ring s (refused (Ok c) n)

  as_told : (b : Bool) → eqb (calls.sector_number c ring made) 0 ≡ b
      → (if b then brought c ring made else unchanged ring s (refused (Ok c) (calls.sector_number c ring made))).answer ≡ of_told (calls.sector_told c ring made)
  unfolding calls.sector_told
  as_told true e = refl
  as_told false e = ap (λ (t : Told). of_told t) (sym (if_false (eqb (calls.sector_number c ring made) 0) _ _ e))

  as_stored : (b : Bool) → eqb (calls.sector_number c ring made) 0 ≡ b
      → (if b then brought c ring made else unchanged ring s (refused (Ok c) (calls.sector_number c ring made))).memory ≡ calls.sector_ring c ring made
  unfolding calls.sector_ring
  as_stored true e = refl
  as_stored false e = sym (if_false (eqb (calls.sector_number c ring made) 0) _ _ e)

  line_is : called c d ring s (Disc a byte) ≡ by_number (calls.sector_number c ring made)
  unfolding called disc by_number made
  line_is = ap by_number its_number

  line_runs : Runs c d ring s (Disc a byte) (sector (arriving d a byte))
  unfolding chip_answer chip_step by_number made
  line_runs =
      let told = ap (λ (x : Answered). x.answer) line_is ∙ as_told _ refl in
      record {
        number_is = ap (λ (x : Answer). x.number) told;
        out_is = ap (λ (x : Answer). x.out) told;
        chip_is = ap (λ (x : Answer). x.chip) told;
        ring_is = ap (λ (x : Answered). x.memory) line_is ∙ as_stored _ refl;
      }

-- a sector that is counted is answered 0
either_zero : (b : Bool) (x y : Step) → x.reply.number ≡ 0 → y.reply.number ≡ 0 → (if b then x else y).reply.number ≡ 0
either_zero true x y p q = p
either_zero false x y p q = q

counted_zero : (k : Controller) (j : Judgement) → (counted k j).reply.number ≡ 0
unfolding counted
counted_zero k j = either_zero (good j) _ _ refl refl

concluded_zero : (t : Step) → t.reply.number ≡ 0 → (concluded t).reply.number ≡ 0
unfolding concluded
concluded_zero t e = either_zero (eqb t.reply.number 0) _ t e e

told_zero : (c : Chip) (ring x : List ℕ) → calls.sector_number c ring x ≡ 0 → (calls.sector_told c ring x).reply.number ≡ 0
unfolding calls.sector_told
told_zero c ring x z =
    ap (λ (t : Told). t.reply.number) (if_true (eqb (calls.sector_number c ring x) 0) _ _ (eq-eqb _ _ z))
    ∙ concluded_zero _ (counted_zero c.controller (received_by c x).judgement)

-- an answer that is a refusal leaves these bytes
Kept : List ℕ → List ℕ → Answered → Type 0
Kept m s a = (a.answer.number ≡ 0 → ⊥) → (a.memory ≡ m) × (a.sector ≡ s)

disc_kept : (c : Chip) (d : Carried) (ring s : List ℕ) (a : Address) (byte : ℕ) → Kept ring s (disc c d ring s a byte)
unfolding Kept disc made
disc_kept c d ring s a byte =
    if_case (Kept ring s) (eqb (disc_number c d ring s a byte) 0) (brought c ring (arriving d a byte)) (unchanged ring s (refused (Ok c) (disc_number c d ring s a byte)))
    (λ e k.
    let z = eqb-true _ _ e in
    let h = admitted c d ring s a byte z in
    absurd (k (told_zero c ring (arriving d a byte) (sym (its_number c d ring s a byte h.0 h.1.0 h.1.1.0 h.1.1.1) ∙ z))))
    (λ e k. (refl, refl))

called_kept : (c : Chip) (d : Carried) (ring s : List ℕ) (line : Line) → Kept ring s (called c d ring s line)
unfolding Kept called
called_kept c d ring s (Open n) k = (refl, refl)
called_kept c d ring s (Plain call) k = (refl, refl)
called_kept c d ring s Look k = (refl, refl)
called_kept c d ring s Take k = (refl, refl)
called_kept c d ring s (Disc a byte) k = disc_kept c d ring s a byte k
called_kept c d ring s (Scratch from count) k = (refl, refl)
called_kept c d ring s (SetKind n) k = (refl, refl)
called_kept c d ring s (SetSubheader f h m i) k = (refl, refl)

bytes_kept : (o : Result Chip Chip) (d : Carried) (m s : List ℕ) (line : Option Line) → Kept m s (answered o d m s line)
unfolding Kept answered
bytes_kept o d m s None k = (refl, refl)
bytes_kept (Err c) d m s (Some line) k = (refl, refl)
bytes_kept (Ok c) d m s (Some line) k =
    let h = called_kept c d (take (size c) m) s line k in
    (ap (λ (l : List ℕ). l ++ drop (size c) m) h.0 ∙ take-append-drop (size c) m, h.1)

pub refusal_claim : RefusalClaim
unfolding Kept
refusal_claim b m s line k =
    let h = bytes_kept b.chip b.carried m s (parse line) k in
    (h.0, h.1, carried_stays b.carried (parse line) (reply b m s line).answer.number (ne_eqb _ _ k))

-- the claim's premise is met: an empty line is refused
pub refused_empty : (m s : List ℕ) → (reply started m s []).answer.number ≡ 2
unfolding answered closed parse named several disc_line bare form onward
refused_empty m s = refl

-- a kind in range is one of three
known_is : (k : ℕ) → known k ≡ (eqb k 1 || (eqb k 2 || eqb k 3))
known_is zero = refl
known_is (suc zero) = refl
known_is (suc (suc zero)) = refl
known_is (suc (suc (suc zero))) = refl
known_is (suc (suc (suc (suc n)))) =
    let k = suc (suc (suc (suc n))) in
    right_false (leb 1 k) (leb k 3) (lt-leb k 3 (omega arith))
    ∙ sym
    (both_false (eqb k 1) (eqb k 2 || eqb k 3) (ne_eqb k 1 (λ (e : k ≡ 1). omega arith))
    (both_false (eqb k 2) (eqb k 3) (ne_eqb k 2 (λ (e : k ≡ 2). omega arith)) (ne_eqb k 3 (λ (e : k ≡ 3). omega arith))))

-- a sector line of the other form
other_form : (c : Chip) (d : Carried) (ring s : List ℕ) (a : Address) (byte : ℕ) → length s ≡ 2352 → agrees d.kind d.subheader ≡ false
    → disc c d ring s a byte ≡ unchanged ring s (refused (Ok c) 3)
unfolding disc
other_form c d ring s a byte full other =
    let three : disc_number c d ring s a byte ≡ 3 = number_other c d ring s a byte full other in
    if_false (eqb (disc_number c d ring s a byte) 0) _ _ (ap (λ (n : ℕ). eqb n 0) three) ∙ ap (λ (n : ℕ). unchanged ring s (refused (Ok c) n)) three

pub machine_claim : MachineClaim
unfolding called said word chip_answer chip_step
machine_claim = record {
  plain_runs = λ c d ring s call. record { number_is = refl; out_is = refl; chip_is = refl; ring_is = refl };
  look_runs = λ c d ring s. record { number_is = refl; out_is = refl; chip_is = refl; ring_is = refl };
  word_runs = λ c d ring s.
      record { number_is = word_number (calls.word_told c ring).word; out_is = word_out (calls.word_told c ring).word; chip_is = refl; ring_is = refl };
  sector_runs = line_runs;
  other_form = other_form;
  scratch_says = λ c d ring s from count. refl;
  kind_says = λ c d ring s k. ap (λ (b : Bool). unchanged ring s (record { chip = Ok c; number = if b then 0 else 3; out = 0 })) (known_is k);
  subheader_says = λ c d ring s f h m i. refl;
}

-- the user bytes of a buffer of fill
fill_user : (byte k : ℕ) → user (layout k) (unsealed byte) ≡ replicate ((layout k).code - (layout k).user) byte
fill_user byte k =
    let f = fits k in
    let u = f.user_before in
    let i = f.inside in
    let room : (layout k).user + (2352 - (layout k).user) ≡ 2352 = omega arith in
    ap (λ (n : ℕ). take ((layout k).code - (layout k).user) (drop (layout k).user (replicate n byte))) (sym room)
    ∙ ap (take ((layout k).code - (layout k).user)) (drop_replicate (layout k).user (2352 - (layout k).user) byte)
    ∙ take_replicate ((layout k).code - (layout k).user) (2352 - (layout k).user) byte (omega arith)

byte_of : (n : ℕ) → n ≤ 255 → n % 256 ≡ n
byte_of n h = omega arith

pub disc_claim : DiscClaim
unfolding carried_after
disc_claim = record {
  fills = λ a byte k h v fit. (seal_holds (unsealed byte) a k h (length-replicate {A = ℕ} 2352 byte) v fit).user_back ∙ fill_user byte k;
  parity = λ a byte k h low hh v fit. (seal_holds (unsealed byte) a k h (length-replicate {A = ℕ} 2352 byte) v fit).parity hh (bytes_replicate 2352 byte (omega arith));
  bits = λ x h. ap (λ (y : ℕ). y ∷ []) (complement_bits x h);
  as_long = length_scratched;
  none = scratched_none;
  byte = scratched_byte;
  scratch_said = λ d from count. refl;
  kind_said = λ d k. refl;
  subheader_said = λ d f h m i a b c e. simp (byte_of f a, byte_of h b, byte_of m c, byte_of i e);
  used_up = λ d a byte. refl;
  put_back = λ d n. refl;
  waited = λ d call number. let same = if_case (λ (x : Carried). x ≡ d) (eqb number 0) d d (λ _. refl) (λ _. refl) in (same, same, same, same);
  refusal = λ d line number nonzero. carried_stays d line number (ne_eqb _ _ nonzero);
}
