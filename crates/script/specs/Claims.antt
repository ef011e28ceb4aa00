-- What holds before an accepted opening (paper 01, "Bench cases": 5 and nothing else); that a refusal changes no byte; that an open bench runs the
-- machine of demand 3; and the disc's side of it (paper 02, asks 1 and 4). Assumes nothing.
use Rattle.std.specs.Prelude.{◌≡◌, ℕ, ◌+◌, ◌-◌, ◌<◌, ◌≤◌, Bool, true, false, ◌&&◌, ◌||◌, leb, List, [], ◌∷◌, length, replicate, Option, None, Some, Ok, Err, ◌==◌, ◌≢◌, bit_xor, nat_le, nat_lt, slice_index, if◌then◌else◌}
use Rattle.laws.specs.Bytes.{Bytes, inverted}
use Rattle.calls.specs.declared.Call.{Call as LentNothing}
use Rattle.sector.specs.Address.{valid}
use Rattle.reply.specs.Reply.{answer}
use Rattle.sector.specs.Calls.{seal_sector, open_sector, parity_reply}
use Rattle.sector.specs.Layout.{subheader_bytes, agrees, layout}
use Rattle.sector.specs.Sector.{user}
use Rattle.sector.specs.declared.Address.{Address}
use Rattle.sector.specs.declared.Subheader.{Subheader}
use Rattle.outcomes.specs.Machine.{Call, plain, sector, look, word, Answer, replied, handed, refused, seen, number}
use Rattle.chip.specs.Chip.{closed}
use Rattle.chip.specs.Machine.{over, chip_answer, chip_step}
use Rattle.chip.specs.declared.Chip.{Chip}
use Rattle.syntax.specs.declared.line.Line.{Line}
use Rattle.syntax.specs.declared.line.Line.TheVariants.{Open, Plain, Look, Take, Disc, Scratch, SetKind, SetSubheader}
use Rattle.syntax.specs.declared.print.Shown.{Shown}
use Rattle.script.specs.Answers.{unchanged, called, is_open, shown}
use Rattle.script.specs.Bench.{reply, carried_left, count, after}
use Rattle.script.specs.Disc.{undamaged, at_first, scratched, unsealed, arriving, carried_after}
use Rattle.script.specs.declared.Bench.{Bench}
use Rattle.script.specs.declared.disc.Damage.{Damage}
use Rattle.script.specs.declared.disc.Carried.{Carried}

-- no chip is open, a record of no blocks is shown, and sectors carry what they do at first
abbrev pub Closed : Bench → Type 0
Closed b = (b.chip ≡ Err closed) × (b.carried ≡ at_first)

-- a line with a number and zeros
abbrev pub zeros : ℕ → ℕ → Shown
zeros n number = record { lines = n; number = number; out = 0; tcc = 0; bufc = 0; why = 0; irq = false }

-- a line that does not open a chip leaves the bench closed, and shows zeros behind its number
abbrev pub ClosedClaim : Type 0
ClosedClaim =
    (b : Bench) (m s line : List ℕ) → Closed b → is_open (reply b m s line).answer.chip ≡ false
    → Closed (after (reply b m s line).answer (carried_left b line (reply b m s line).answer.number) (count b))
    × (shown (reply b m s line).answer (count b) ≡ zeros (count b) (reply b m s line).answer.number)

-- a refused line changes no byte, of the memory or of the sector buffer, nor what sectors carry
abbrev pub RefusalClaim : Type 0
RefusalClaim =
    (b : Bench) (m s line : List ℕ) → ((reply b m s line).answer.number ≢ 0)
    → ((reply b m s line).memory ≡ m) × ((reply b m s line).sector ≡ s) × (carried_left b line (reply b m s line).answer.number ≡ b.carried)

-- what is printed of an answer as `out`
abbrev pub out_of : Answer → ℕ
out_of (replied n v) = v
out_of (handed w) = w
out_of (refused n) = 0
out_of (seen bytes) = length bytes

-- a line of the bench answers as the machine does to a call, and leaves the chip and the ring that the machine leaves
pub record Runs (c : Chip) (d : Carried) (ring s : List ℕ) (line : Line) (call : Call) : Type 0 where
  pub number_is : (called c d ring s line).answer.number ≡ number (chip_answer call (over c ring))
  pub out_is : (called c d ring s line).answer.out ≡ out_of (chip_answer call (over c ring))
  pub chip_is : (called c d ring s line).answer.chip ≡ Ok (chip_step call (over c ring)).chip
  pub ring_is : (called c d ring s line).memory ≡ (chip_step call (over c ring)).ring

-- a line that says something of the next sectors is none of the machine's: it is answered 0 or 3, and leaves chip, ring and buffer as they are
abbrev pub Says : Chip → Carried → List ℕ → List ℕ → Line → Bool → Type 0
Says c d ring s line in_range =
    called c d ring s line ≡ unchanged ring s (record { chip = Ok c; number = if in_range then 0 else 3; out = 0 })

pub record MachineClaim : Type 0 where
  pub plain_runs : (c : Chip) (d : Carried) (ring s : List ℕ) (call : LentNothing) → Runs c d ring s (Plain call) (plain call)
  pub look_runs : (c : Chip) (d : Carried) (ring s : List ℕ) → Runs c d ring s Look look
  pub word_runs : (c : Chip) (d : Carried) (ring s : List ℕ) → Runs c d ring s Take word
  -- a sector line whose buffer, fill, address and form are as they should be: the chip's refusals are the machine's too
  pub sector_runs : (c : Chip) (d : Carried) (ring s : List ℕ) (a : Address) (byte : ℕ)
      → length s ≡ 2352 → byte ≤ 255 → valid a ≡ true → agrees d.kind d.subheader ≡ true
      → Runs c d ring s (Disc a byte) (sector (arriving d a byte))
  -- one of the other form is answered 3, whatever the chip would say of a sector
  pub other_form : (c : Chip) (d : Carried) (ring s : List ℕ) (a : Address) (byte : ℕ) → length s ≡ 2352 → agrees d.kind d.subheader ≡ false
      → called c d ring s (Disc a byte) ≡ unchanged ring s (record { chip = Ok c; number = 3; out = 0 })
  pub scratch_says : (c : Chip) (d : Carried) (ring s : List ℕ) (from count : ℕ) → Says c d ring s (Scratch from count) (nat_le (from + count) 2352)
  pub kind_says : (c : Chip) (d : Carried) (ring s : List ℕ) (k : ℕ) → Says c d ring s (SetKind k) (k == 1 || (k == 2 || k == 3))
  pub subheader_says : (c : Chip) (d : Carried) (ring s : List ℕ) (f h m i : ℕ)
      → Says c d ring s (SetSubheader f h m i) (nat_le f 255 && (nat_le h 255 && (nat_le m 255 && nat_le i 255)))

-- the disc: what its sectors are, what a scratch does to one, and how long what was said holds
pub record DiscClaim : Type 0 where
  -- of each kind the user bytes are the fill, and the parity check says yes
  pub fills : (a : Address) (byte k : ℕ) (h : Subheader) → valid a ≡ true → agrees k h ≡ true
      → user (layout k) (open_sector (seal_sector (unsealed byte) a k h)) ≡ replicate ((layout k).code - (layout k).user) byte
  pub parity : (a : Address) (byte k : ℕ) (h : Subheader) → byte ≤ 255 → Bytes (subheader_bytes h) → valid a ≡ true → agrees k h ≡ true
      → parity_reply (open_sector (seal_sector (unsealed byte) a k h)) ≡ answer 1
  -- inverted is all eight bits of each byte turned round; the sector is as long as before; count 0 damages nothing
  pub bits : (x : ℕ) → x < 256 → inverted (x ∷ []) ≡ bit_xor x 0xFF ∷ []
  pub as_long : (d : Damage) (s : List ℕ) → length s ≡ 2352 → length (scratched d s) ≡ 2352
  pub none : (from : ℕ) (s : List ℕ) → scratched (record { from = from; count = 0 }) s ≡ s
  -- byte k is inverted exactly where it is one of them
  pub byte : (d : Damage) (s : List ℕ) (k : ℕ) → length s ≡ 2352 → d.from + d.count ≤ 2352 → k < 2352
      → slice_index (scratched d s) k ≡ (if leb d.from k && nat_lt k (d.from + d.count) then 255 - slice_index s k else slice_index s k)
  -- each of these lines, accepted, and what it leaves of the rest; any other leaves all, and so does a refused one
  pub scratch_said : (d : Carried) (from count : ℕ)
      → carried_after d (Some (Scratch from count)) 0 ≡ record { kind = d.kind; subheader = d.subheader; damage = record { from = from; count = count } }
  pub kind_said : (d : Carried) (k : ℕ) → carried_after d (Some (SetKind k)) 0 ≡ record { kind = k; subheader = d.subheader; damage = d.damage }
  pub subheader_said : (d : Carried) (f h m i : ℕ) → f ≤ 255 → h ≤ 255 → m ≤ 255 → i ≤ 255
      → carried_after d (Some (SetSubheader f h m i)) 0
      ≡ record { kind = d.kind; subheader = record { file = f; channel = h; submode = m; coding = i }; damage = d.damage }
  pub used_up : (d : Carried) (a : Address) (byte : ℕ) → carried_after d (Some (Disc a byte)) 0 ≡ record { kind = d.kind; subheader = d.subheader; damage = undamaged }
  pub put_back : (d : Carried) (n : ℕ)
      → carried_after d (Some (Open n)) 0 ≡ record { kind = 1; subheader = record { file = 0; channel = 0; submode = 0; coding = 0 }; damage = record { from = 0; count = 0 } }
  pub waited : (d : Carried) (call : LentNothing) (number : ℕ)
      → (carried_after d (Some (Plain call)) number ≡ d) × (carried_after d (Some Look) number ≡ d) × (carried_after d (Some Take) number ≡ d) × (carried_after d None number ≡ d)
  pub refusal : (d : Carried) (line : Option Line) (number : ℕ) → (number ≢ 0) → carried_after d line number ≡ d
