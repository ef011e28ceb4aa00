-- Demand 1 (paper 01, "Reply numbers"): every call answers, with the lowest number that applies, and a refusal has a zero result and changes
-- nothing. It is stated of every record, also one made by hand, and of lent memory and sectors of any length: nothing is asked of them. A call's
-- reasons stand here in a table of their own, in the words of the definitions (`engaged`, `start_switches`, `only`, ..), so that the claim says more than
-- that a definition refuses as it refuses. What it does not say: what an accepted call does (demand 2); that the code meets the definitions, which is
-- each function's contract; and what a line of the bench or an exported call answers, which are contracts too. Assumes nothing.
use Rattle.std.specs.Prelude.{ℕ, ◌+◌, ◌≤◌, ◌≡◌, Bool, true, false, ◌&&◌, ◌||◌, not, List, [], ◌∷◌, ◌⊎◌, ltb, leb, eqb, length, if◌then◌else◌}
use Rattle.calls.specs.declared.Call.{Call as Plain}
use Rattle.calls.specs.declared.Call.TheVariants.{Write, Read, SetBlock, SetWindow, SetExpected, PacketByte, Reset, Command, PacketWord, Status, Srst}
use Rattle.reply.specs.Reply.{refusal, answer}
use Rattle.sector.specs.Address.{valid}
use Rattle.sector.specs.Claims.{form_bit}
use Rattle.sector.specs.Calls.{whole, seal_reply, seal_sector, open_reply, open_sector, refused as unjudged, judge_answer, parity_reply}
use Rattle.sector.specs.declared.Address.{Address}
use Rattle.sector.specs.declared.Subheader.{Subheader}
use Rattle.controller.specs.Bits.{bit, only, differs}
use Rattle.controller.specs.Decoder.{at_stop}
use Rattle.controller.specs.Named.{window_fits}
use Rattle.controller.specs.Step.{Step, guarded}
use Rattle.controller.specs.Transfer.{engaged, start_switches, blocks_lacking}
use Rattle.controller.specs.declared.state.Controller.{Controller}
use Rattle.ring.specs.Place.{full}
use Rattle.outcomes.specs.Machine.{Call, plain, sector, look, word, Answer, replied, handed, refused, seen, number}
use Rattle.chip.specs.Chip.{opened, ring_fits}
use Rattle.chip.specs.Machine.{State, chip_answer, chip_step}
use Rattle.chip.specs.Sound.{sound}

-- 1. The lowest number that applies

-- reasons to refuse: each a test, and the number that it is given
abbrev pub Reasons : Type 0
Reasons = List (Bool × ℕ)

-- one of the reasons with number k holds
abbrev pub Applies : Reasons → ℕ → Type 0
Applies [] k = ⊥
Applies (r ∷ rs) k = ((r.0 ≡ true) × (r.1 ≡ k)) ⊎ Applies rs k

-- a number other than 0 applies; and where any applies, the number is not 0 and none is lower
pub record Lowest (rs : Reasons) (k : ℕ) : Type 0 where
  pub applies : (k ≡ 0 → ⊥) → Applies rs k
  pub lowest : (j : ℕ) → Applies rs j → (k ≡ 0 → ⊥) × (k ≤ j)

-- the numbers are from low to high, and none is below the one before it
abbrev pub ordered : ℕ → ℕ → Reasons → Bool
ordered low high [] = true
ordered low high (r ∷ rs) = leb low r.1 && (leb r.1 high && ordered r.1 high rs)

-- 2. The reasons of each call

-- the registers that are read
abbrev pub one_of : ℕ → List ℕ → Bool
one_of reg [] = false
one_of reg (r ∷ rs) = if eqb reg r then true else one_of reg rs

abbrev pub read_registers : List ℕ
read_registers =
    0x12 ∷ 0x18 ∷ 0x24 ∷ 0x25 ∷ 0x30 ∷ 0x31 ∷ 0x32 ∷ 0x34 ∷ 0x35 ∷ 0x37 ∷ 0x38 ∷ 0x3A ∷ 0x3B ∷ 0x80 ∷ 0x9A ∷ 0x9B ∷ 0x9C ∷ 0x9D ∷ 0x9F ∷ []

-- the registers that are written: 3 a value out of its range, 4 barred, 5 switches, 6 fewer good blocks; any other register 2
abbrev pub write_reasons : Controller → ℕ → ℕ → ℕ → Reasons
write_reasons c reg v n =
    if eqb reg 0x07 then (ltb 255 v, 3) ∷ []
    else if eqb reg 0x0A then (not (eqb v 0x00 || eqb v 0x80), 3) ∷ (eqb v 0x80 && not (c.buffering.blimen && c.acctl.tcincen), 5) ∷ []
    else if eqb reg 0x12 then (ltb 31 v, 3) ∷ (c.transfer.running, 4) ∷ []
    else if eqb reg 0x17 then
    (not (eqb v 0x01 || eqb v 0x04 || eqb v 0x10), 3) ∷ (engaged c, 4)
    ∷ (eqb v 0x04 && not (start_switches c), 5) ∷ (eqb v 0x04 && blocks_lacking c, 6) ∷ []
    else if eqb reg 0x18 then (not (only (7 ∷ 6 ∷ 5 ∷ 4 ∷ 3 ∷ 0 ∷ []) v && (bit v 6 || not (bit v 5))), 3) ∷ (engaged c, 4) ∷ []
    else if eqb reg 0x31 then (ltb 255 v, 3) ∷ []
    else if eqb reg 0x32 then (ltb 255 v, 3) ∷ []
    else if eqb reg 0x34 then (ltb 255 v, 3) ∷ []
    else if eqb reg 0x35 then (ltb 255 v, 3) ∷ []
    else if eqb reg 0x37 then (not (only (7 ∷ 6 ∷ 4 ∷ 2 ∷ 0 ∷ []) v), 3) ∷ (engaged c, 4) ∷ []
    else if eqb reg 0x3D then (not (only (4 ∷ []) v), 3) ∷ []
    else if eqb reg 0x3E then (not (only (6 ∷ 2 ∷ 0 ∷ []) v), 3) ∷ []
    else if eqb reg 0x9A then (not (only (5 ∷ 4 ∷ []) v), 3) ∷ (c.buffering.decen, 5) ∷ []
    else if eqb reg 0x9B then (ltb n (v + 2), 3) ∷ (c.buffering.decen, 5) ∷ []
    else if eqb reg 0x9C then (ltb 255 v, 3) ∷ (c.transfer.running, 4) ∷ (c.buffering.decen && differs (bit v 5) c.acctl.tcincen, 5) ∷ []
    else if eqb reg 0x9D then (ltb 255 v, 3) ∷ (c.transfer.running, 4) ∷ (c.buffering.decen, 5) ∷ (ltb c.counts.tcc v, 6) ∷ []
    else if eqb reg 0x9E then (ltb 255 v, 3) ∷ (c.transfer.running, 4) ∷ (c.acctl.acmen && ltb c.counts.tcc v, 6) ∷ []
    else if eqb reg 0x9F then (ltb 255 v, 3) ∷ (c.transfer.running, 4) ∷ []
    else (true, 2) ∷ []

-- the calls that touch no memory, of a sound record with n blocks; a chip reset, the host's status read and SRST are never refused
abbrev pub plain_reasons : Controller → Plain → ℕ → Reasons
plain_reasons c (Write reg v) n = write_reasons c reg v n
plain_reasons c (Read reg) n = (not (one_of reg read_registers), 2) ∷ []
plain_reasons c (SetBlock t) n = (leb n t, 3) ∷ (c.transfer.running, 4) ∷ (c.buffering.decen || not (eqb c.counts.tcc 0), 5) ∷ []
plain_reasons c (SetWindow o w) n = (not (window_fits o w), 3) ∷ (c.transfer.running, 4) ∷ []
plain_reasons c (SetExpected a) n = (not (valid a), 3) ∷ (c.buffering.decen, 5) ∷ []
plain_reasons c (PacketByte i) n = (ltb 11 i, 3) ∷ (not c.packet.fpkt, 6) ∷ []
plain_reasons c Reset n = []
plain_reasons c (Command v) n = (ltb 255 v, 3) ∷ (c.atsta.bsy || engaged c, 4) ∷ []
plain_reasons c (PacketWord w) n = (not c.packet.receiving, 5) ∷ []
plain_reasons c Status n = []
plain_reasons c Srst n = []

-- 1 an unsound record, or a lent ring or a sector of a wrong length; a sector with DECEN low 7, after a bad one 8, at the stop 9; a word without a
-- transfer 5; a look has no number
abbrev pub reasons : Call → State → Reasons
reasons (plain c) s = (not (sound s.chip), 1) ∷ plain_reasons s.chip.controller c s.chip.place.n
reasons (sector x) s =
    (not (sound s.chip && ring_fits s.chip s.ring && eqb (length x) 2352), 1)
    ∷ (not s.chip.controller.buffering.decen, 7)
    ∷ (s.chip.controller.counts.held, 8)
    ∷ (at_stop s.chip.controller (full s.chip.place), 9)
    ∷ []
reasons look s = []
reasons word s = (not (sound s.chip && ring_fits s.chip s.ring), 1) ∷ (not s.chip.controller.transfer.running, 5) ∷ []

-- 3. The claim

-- a refusal has a zero result, and hands no word over
abbrev pub Resultless : Answer → Type 0
Resultless (replied k v) = v ≡ 0
Resultless (refused k) = Unit {0}
Resultless (handed w) = ⊥
Resultless (seen bytes) = ⊥

-- a number of the table, a zero result, and chip and ring as they were
pub record Refusal (call : Call) (s : State) : Type 0 where
  pub listed : (1 ≤ number (chip_answer call s)) × (number (chip_answer call s) ≤ 9)
  pub resultless : Resultless (chip_answer call s)
  pub unchanged : chip_step call s ≡ s

-- sectors alone: 1 a wrong length, 3 a bad address; of sealing also 3 an unknown kind, and 3 a form bit that disagrees with the kind
abbrev pub judging_reasons : List ℕ → Address → Reasons
judging_reasons s a = (not (whole s), 1) ∷ (not (valid a), 3) ∷ []

abbrev pub known_kind : ℕ → Bool
known_kind k = eqb k 1 || (eqb k 2 || eqb k 3)

abbrev pub other_form : ℕ → Subheader → Bool
other_form k h = (eqb k 2 && form_bit h) || (eqb k 3 && not (form_bit h))

abbrev pub sealing_reasons : List ℕ → Address → ℕ → Subheader → Reasons
sealing_reasons s a k h = (not (whole s), 1) ∷ (not (valid a), 3) ∷ (not (known_kind k), 3) ∷ (other_form k h, 3) ∷ []

pub record Demand1 : Type 0 where
  -- a controller's definition by a list of tests in the order of their numbers gives the lowest that applies
  pub tested : (c : Controller) (rs : Reasons) → ordered 1 6 rs ≡ true → (s : Step) → s.reply.number ≡ 0 → Lowest rs (guarded c rs s).reply.number
  -- every call of any record over any ring
  pub answered : (call : Call) (s : State) → Lowest (reasons call s) (number (chip_answer call s))
  pub refused : (call : Call) (s : State) → (number (chip_answer call s) ≡ 0 → ⊥) → Refusal call s
  -- a look has no number and changes nothing; of an unsound record, over a ring of wrong size, with TCC 0 or without a window it shows no byte
  pub looked : (s : State) → chip_step look s ≡ s
  pub unseen : (s : State)
      → (sound s.chip && ring_fits s.chip s.ring && not (eqb s.chip.controller.counts.tcc 0) && not (eqb s.chip.controller.window.words 0)) ≡ false
      → chip_answer look s ≡ seen []
  -- opening: 3..255 is done and gives a sound record with that many blocks; any other is 1 and gives an unsound one with N = 0
  pub opening : (n : ℕ) → 3 ≤ n → n ≤ 255 → ((opened n).reply ≡ answer 0) × ((opened n).chip.place.n ≡ n) × (sound (opened n).chip ≡ true)
  pub unopened : (n : ℕ) → (3 ≤ n → n ≤ 255 → ⊥) → ((opened n).reply ≡ refusal 1) × ((opened n).chip.place.n ≡ 0) × (sound (opened n).chip ≡ false)
  -- a sector that is lent to be sealed, opened, judged or checked: a refusal changes no byte, and has a zero result or no fact
  pub sealing : (s : List ℕ) (a : Address) (k : ℕ) (h : Subheader) → Lowest (sealing_reasons s a k h) (seal_reply s a k h).number
  pub unsealed : (s : List ℕ) (a : Address) (k : ℕ) (h : Subheader) → ((seal_reply s a k h).number ≡ 0 → ⊥)
      → ((seal_reply s a k h).result ≡ 0) × (seal_sector s a k h ≡ s)
  pub descrambling : (s : List ℕ) → Lowest ((not (whole s), 1) ∷ []) (open_reply s).number
  pub unchanged : (s : List ℕ) → ((open_reply s).number ≡ 0 → ⊥) → ((open_reply s).result ≡ 0) × (open_sector s ≡ s)
  pub judging : (s : List ℕ) (a : Address) → Lowest (judging_reasons s a) (judge_answer s a).number
  pub no_fact : (s : List ℕ) (a : Address) → ((judge_answer s a).number ≡ 0 → ⊥) → judge_answer s a ≡ unjudged (judge_answer s a).number
  pub checking : (s : List ℕ) → Lowest ((not (whole s), 1) ∷ []) (parity_reply s).number
  pub unchecked : (s : List ℕ) → ((parity_reply s).number ≡ 0 → ⊥) → (parity_reply s).result ≡ 0
