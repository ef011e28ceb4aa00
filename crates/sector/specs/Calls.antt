-- What each call answers and leaves, on every input (paper 01, "Reply numbers" and "Sectors"; paper 02). Assumes nothing.
use Rattle.std.specs.Prelude.{Bool, not, ◌&&◌, ◌||◌, List, ℕ, eqb, length, if◌then◌else◌, Result, Ok, Err}
use Rattle.laws.specs.Numbers.{weight}
use Rattle.parity.specs.Parity.{parity_holds}
use Rattle.reply.specs.Reply.{Reply, refusal, answer, number}
use Rattle.reply.specs.declared.Refusal.{Refusal}
use Rattle.scramble.specs.Scramble.{scrambled}
use Rattle.sector.specs.declared.Address.{Address}
use Rattle.sector.specs.declared.Judgement.{Judgement}
use Rattle.sector.specs.declared.Subheader.{Subheader}
use Rattle.sector.specs.declared.layout.Layout.{Layout}
use Rattle.sector.specs.Address.{valid}
use Rattle.sector.specs.Layout.{agrees, layout, layout_read}
use Rattle.sector.specs.Sector.{sealed}
use Rattle.sector.specs.Judge.{judgement, no_facts}

-- a sector has 2,352 bytes
abbrev pub whole : List ℕ → Bool
whole s = eqb (length s) 2352

-- 1 for a wrong length; 3 for a bad address, an unknown kind or a subheader of the other form; the lowest where several apply. There is no result, so it
-- is 0
unfoldable pub seal_reply : List ℕ → Address → ℕ → Subheader → Reply
seal_reply s a k h = if whole s then (if valid a && agrees k h then answer 0 else refusal 3) else refusal 1

-- a refusal changes no byte
unfoldable pub seal_sector : List ℕ → Address → ℕ → Subheader → List ℕ
seal_sector s a k h = if whole s then (if valid a && agrees k h then sealed (layout k) a h s else s) else s

-- mode 1 needs no subheader
abbrev pub no_subheader : Subheader
no_subheader = record { file = 0; channel = 0; submode = 0; coding = 0 }

unfoldable pub open_reply : List ℕ → Reply
open_reply s = if whole s then answer 0 else refusal 1

-- descrambling is scrambling again
unfoldable pub open_sector : List ℕ → List ℕ
open_sector s = if whole s then scrambled s else s

-- the answer to a judging: a number as in a reply, and the four facts
pub record Judged : Type 0 where
  pub number : ℕ
  pub judgement : Judgement

-- a refusal sets no fact
abbrev pub refused : ℕ → Judged
refused n = record { number = n; judgement = no_facts }

unfoldable pub judge_answer : List ℕ → Address → Judged
judge_answer s a = if whole s then (if valid a then record { number = 0; judgement = judgement a s } else refused 3) else refused 1

-- the answer that a judging's result stands for
abbrev pub judged_of : Result Judgement Refusal → Judged
judged_of (Ok j) = record { number = 0; judgement = j }
judged_of (Err r) = refused (number r)

-- the parity of a sector: every word holds, or there is none
unfoldable pub words_hold : Layout → List ℕ → Bool
words_hold l s = not l.parity || parity_holds l.masked s

-- the parity check of a descrambled sector (paper 02, asks 2 and 4), by the kind that is read: 1 if its parity holds, 0 if not
unfoldable pub parity_reply : List ℕ → Reply
parity_reply s = if whole s then answer (weight (words_hold (layout_read s) s) 1) else refusal 1

-- the reply that its result stands for
abbrev pub parity_of : Result Bool Refusal → Reply
parity_of (Ok b) = answer (weight b 1)
parity_of (Err r) = refusal (number r)
