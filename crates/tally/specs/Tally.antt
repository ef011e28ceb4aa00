-- The tally of good blocks (paper 02, ask 6), as shift staff keep it on paper: four numbers, read off the calls, their arguments and their answers and off
-- nothing else, as the type of `tally` shows. Assumes nothing.
use Rattle.std.specs.Prelude.{ℕ, ◌+◌, ◌-◌, ◌≡◌, Bool, false, ◌&&◌, List, [], ◌∷◌, eqb, if◌then◌else◌}
use Rattle.calls.specs.declared.Call.{Call as Plain}
use Rattle.calls.specs.declared.Call.TheVariants.{Write, Read, SetBlock, SetWindow, SetExpected, PacketByte, Reset, Command, PacketWord, Status, Srst}
use Rattle.controller.specs.Bits.{bit}
use Rattle.controller.specs.Fields.{◌▹◌}
use Rattle.outcomes.specs.Machine.{Call, plain, sector, look, word, Answer, number}
use Rattle.claims.specs.Shown.{result, held_after}

-- The history

pub record Entry : Type 0 where
  pub call : Call
  pub answer : Answer

-- each call beside its answer, the oldest first
abbrev pub entries : List Call → List Answer → List Entry
entries [] rs = []
entries (c ∷ cs) [] = []
entries (c ∷ cs) (r ∷ rs) = record { call = c; answer = r } ∷ entries cs rs

-- a fold over the history, the oldest entry first
abbrev pub fold_entries : {A : Type 0} → (Call → Answer → A → A) → List Entry → A → A
fold_entries f [] x = x
fold_entries f (e ∷ es) x = fold_entries f es (f e.call e.answer x)

-- The tally

-- sectors counted in, blocks taken whole, skipped and withdrawn; and what it takes to go on reading them off: the window's words, how many words of its
-- block the host has had, and ACMEN
pub record Tally : Type 0 where
  pub counted : ℕ
  pub taken : ℕ
  pub skipped : ℕ
  pub withdrawn : ℕ
  pub words : ℕ
  pub k : ℕ
  pub acmen : Bool

abbrev pub first_tally : Tally
first_tally = record { counted = 0; taken = 0; skipped = 0; withdrawn = 0; words = 0; k = 0; acmen = false }

-- setters, as the book has
abbrev pub counted≔ : ℕ → Tally → Tally
counted≔ v t = record { counted = v; taken = t.taken; skipped = t.skipped; withdrawn = t.withdrawn; words = t.words; k = t.k; acmen = t.acmen }

abbrev pub taken≔ : ℕ → Tally → Tally
taken≔ v t = record { counted = t.counted; taken = v; skipped = t.skipped; withdrawn = t.withdrawn; words = t.words; k = t.k; acmen = t.acmen }

abbrev pub skipped≔ : ℕ → Tally → Tally
skipped≔ v t = record { counted = t.counted; taken = t.taken; skipped = v; withdrawn = t.withdrawn; words = t.words; k = t.k; acmen = t.acmen }

abbrev pub withdrawn≔ : ℕ → Tally → Tally
withdrawn≔ v t = record { counted = t.counted; taken = t.taken; skipped = t.skipped; withdrawn = v; words = t.words; k = t.k; acmen = t.acmen }

abbrev pub words≔ : ℕ → Tally → Tally
words≔ v t = record { counted = t.counted; taken = t.taken; skipped = t.skipped; withdrawn = t.withdrawn; words = v; k = t.k; acmen = t.acmen }

abbrev pub k≔ : ℕ → Tally → Tally
k≔ v t = record { counted = t.counted; taken = t.taken; skipped = t.skipped; withdrawn = t.withdrawn; words = t.words; k = v; acmen = t.acmen }

abbrev pub acmen≔ : Bool → Tally → Tally
acmen≔ v t = record { counted = t.counted; taken = t.taken; skipped = t.skipped; withdrawn = t.withdrawn; words = t.words; k = t.k; acmen = v }

-- what has left
abbrev pub gone : Tally → ℕ
gone t = t.taken + t.skipped + t.withdrawn

-- what TCC must be
abbrev pub balance : Tally → ℕ
balance t = t.counted - gone t

-- 9Ch sets ACMEN; 9Dh n withdraws the balance less n; 9Eh n skips n with ACMEN high, and none with ACMEN low
abbrev pub noted_write : ℕ → ℕ → Tally → Tally
noted_write reg v t =
    if eqb reg 0x9C then t ▹ acmen≔ (bit v 6)
    else if eqb reg 0x9D then t ▹ withdrawn≔ (t.withdrawn + (balance t - v))
    else if eqb reg 0x9E && t.acmen then t ▹ skipped≔ (t.skipped + v)
    else t

-- a chip reset begins anew, and after SRST the block is read from its first word again; calls of which it takes no note leave it
abbrev pub noted_plain : Plain → Tally → Tally
noted_plain (Write reg v) t = noted_write reg v t
noted_plain (SetWindow o w) t = t ▹ words≔ w
noted_plain Reset t = first_tally
noted_plain Srst t = t ▹ k≔ 0
noted_plain (Read reg) t = t
noted_plain (SetBlock b) t = t
noted_plain (SetExpected a) t = t
noted_plain (PacketByte i) t = t
noted_plain (Command v) t = t
noted_plain (PacketWord w) t = t
noted_plain Status t = t

-- an accepted call with its result: a sector with result 0 is counted in; with the last word of the window a block is taken whole
abbrev pub noted : Call → ℕ → Tally → Tally
noted (plain c) v t = noted_plain c t
noted (sector s) v t = if eqb v 0 then t ▹ counted≔ (t.counted + 1) else t
noted look v t = t
noted word v t = if eqb (t.k + 1) t.words then t ▹ taken≔ (t.taken + 1) ▹ k≔ 0 else t ▹ k≔ (t.k + 1)

-- a refused call changes nothing
abbrev pub note : Call → Answer → Tally → Tally
note c a t = if eqb (number a) 0 then noted c (result a) t else t

abbrev pub tally : List Entry → Tally
tally h = fold_entries note h first_tally

-- held, by the same history: a bad sector is there that DECEN taken low will drop
abbrev pub held : List Entry → Bool
held h = fold_entries held_after h false

-- v blocks and those that have left are what was counted in
abbrev pub AddsUp : ℕ → Tally → Type 0
AddsUp v t = t.counted ≡ v + gone t
