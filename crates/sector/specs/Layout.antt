-- The kinds of a sector and their layout as data (ECMA-130, clause 14; paper 01, "Sectors"; paper 02, ask 4): kind 1 is mode 1, kind 2 is mode 2 form 1,
-- kind 3 is mode 2 form 2. Assumes nothing.
use Rattle.std.specs.Prelude.{◌≡◌, Bool, true, false, ◌||◌, List, [], ◌∷◌, ◌⊎◌, ℕ, ◌+◌, ◌/◌, ◌%◌, ◌<◌, ◌≤◌, eqb, get_or, if◌then◌else◌, Result, MatchResult}
use Rattle.reply.specs.declared.Refusal.{Refusal}
use Rattle.reply.specs.declared.Refusal.TheVariants.{OutOfRange}
use Rattle.sector.specs.declared.Subheader.{Subheader}
use Rattle.sector.specs.declared.layout.Kind.{Kind}
use Rattle.sector.specs.declared.layout.Kind.TheVariants.{Mode1, Form1, Form2}
use Rattle.sector.specs.declared.layout.Layout.{Layout}

-- the number of a kind
abbrev pub kind_number : Kind → ℕ
kind_number Mode1 = 1
kind_number Form1 = 2
kind_number Form2 = 3

-- the kind of a number; one that is none is out of range
abbrev pub KindOf : ℕ → Result Kind Refusal → Type 0
KindOf n r = MatchResult r (λ k. kind_number k ≡ n) (λ e. ((n ≡ 0) ⊎ (3 < n)) × (e ≡ OutOfRange))

-- the four bytes of a subheader
abbrev pub subheader_bytes : Subheader → List ℕ
subheader_bytes h = h.file ∷ h.channel ∷ h.submode ∷ h.coding ∷ []

-- the form that a submode byte names by its bit 5: kind 3 where it is set, else kind 2
abbrev pub form : ℕ → ℕ
form submode = if eqb (submode / 32 % 2) 1 then 3 else 2

-- what may be sealed: kind 1 with any subheader, or the form that the subheader names; no other kind is known
abbrev pub agrees : ℕ → Subheader → Bool
agrees k h = eqb k 1 || eqb k (form h.submode)

-- the kind that is read from a descrambled sector: with mode byte 2 the form of byte 18, with any other mode 1
unfoldable pub kind_read : List ℕ → ℕ
kind_read s = if eqb (get_or s 15 0) 2 then form (get_or s 18 0) else 1

-- A layout: the mode byte; where the user bytes begin, and where the code stands, before which they end; from where on the code covers the bytes before
-- it; how many zeros follow the code; whether a code of zero is none; whether parity follows, and whether it takes the header as zero.

-- user bytes 16 to 2,063, code 2,064 to 2,067 over 0 to 2,063, zeros to 2,075, parity
abbrev pub mode_1 : Layout
mode_1 = record { mode = 1; user = 16; covered = 0; code = 2064; zeros = 8; optional = false; parity = true; masked = false }

-- user bytes 24 to 2,071, code 2,072 to 2,075 over 16 to 2,071, parity with the header as zero
abbrev pub form_1 : Layout
form_1 = record { mode = 2; user = 24; covered = 16; code = 2072; zeros = 0; optional = false; parity = true; masked = true }

-- user bytes 24 to 2,347, code 2,348 to 2,351 over 16 to 2,347, or none
abbrev pub form_2 : Layout
form_2 = record { mode = 2; user = 24; covered = 16; code = 2348; zeros = 0; optional = true; parity = false; masked = false }

-- the layout of a kind; a number that is none has mode 1's, and no call asks for it
unfoldable pub layout : ℕ → Layout
layout k = if eqb k 2 then form_1 else if eqb k 3 then form_2 else mode_1

-- the same of a kind as the code has it
abbrev pub layout_of : Kind → Layout
layout_of k = layout (kind_number k)

-- the layout that a descrambled sector is judged by
abbrev pub layout_read : List ℕ → Layout
layout_read s = layout (kind_read s)

-- the subheader of a descrambled sector: its first copy
abbrev pub subheader_read : List ℕ → Subheader
subheader_read s = record { file = get_or s 16 0; channel = get_or s 17 0; submode = get_or s 18 0; coding = get_or s 19 0 }

-- where code and zeros end
abbrev pub end : Layout → ℕ
end l = l.code + (4 + l.zeros)

-- for private contracts: what the three layouts have in common
pub record Fits (l : Layout) : Type 0 where
  pub head : ((l.mode ≡ 1) × (l.user ≡ 16)) ⊎ ((l.mode ≡ 2) × (l.user ≡ 24))
  pub covered_from : l.covered ≤ 16
  pub covered_before : l.covered ≤ l.user
  pub user_before : l.user ≤ l.code
  pub zeros_are : (l.zeros ≡ 0) ⊎ (l.zeros ≡ 8)
  pub inside : end l ≤ 2352
  pub parity_from : l.parity ≡ true → end l ≡ 2076
  pub no_parity : l.parity ≡ false → end l ≡ 2352
