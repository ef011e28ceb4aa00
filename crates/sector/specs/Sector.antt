-- A sector and its sealing, by the layout of its kind (ECMA-130, clause 14; paper 01, "Sectors"; paper 02, asks 2 and 4). Assumes nothing.
use Rattle.std.specs.Prelude.{List, [], ◌∷◌, ◌++◌, ℕ, ◌-◌, ◌/◌, ◌%◌, take, drop, replicate, if◌then◌else◌}
use Rattle.edc.specs.Edc.{edc}
use Rattle.parity.specs.Parity.{with_parity}
use Rattle.scramble.specs.Scramble.{scrambled}
use Rattle.sector.specs.declared.Address.{Address}
use Rattle.sector.specs.declared.Subheader.{Subheader}
use Rattle.sector.specs.declared.layout.Layout.{Layout}
use Rattle.sector.specs.Address.{address_bytes}
use Rattle.sector.specs.Layout.{subheader_bytes}

-- bytes 0 to 11
abbrev pub sync : List ℕ
sync = 0 ∷ 255 ∷ 255 ∷ 255 ∷ 255 ∷ 255 ∷ 255 ∷ 255 ∷ 255 ∷ 255 ∷ 255 ∷ 0 ∷ []

-- sync, address, mode, and the subheader twice
abbrev pub full_head : ℕ → Address → Subheader → List ℕ
full_head mode a h = sync ++ address_bytes a ++ mode ∷ subheader_bytes h ++ subheader_bytes h

-- as much of it as stands before the user bytes: to byte 15 in mode 1, to byte 23 in mode 2
abbrev pub head : Layout → Address → Subheader → List ℕ
head l a h = take l.user (full_head l.mode a h)

abbrev pub user : Layout → List ℕ → List ℕ
user l s = take (l.code - l.user) (drop l.user s)

-- a code of 32 bits as four bytes, the lowest first
abbrev pub low4 : ℕ → List ℕ
low4 e = e % 256 ∷ e / 256 % 256 ∷ e / 65536 % 256 ∷ e / 16777216 % 256 ∷ []

-- the code's bytes, from all bytes b before them
abbrev pub code_of : Layout → List ℕ → List ℕ
code_of l b = low4 (edc 0 (drop l.covered b))

-- the bytes before the code
unfoldable pub body : Layout → Address → Subheader → List ℕ → List ℕ
body l a h s = head l a h ++ user l s

-- with code and zeros: a sector at the address with the user bytes of s, but for its parity
unfoldable pub framed : Layout → Address → Subheader → List ℕ → List ℕ
framed l a h s = body l a h s ++ (code_of l (body l a h s) ++ replicate l.zeros 0)

-- all of it: the parity, from byte 2,076 on, is that of the bytes before it (ECMA-130, Annex A); form 2 has none
unfoldable pub encoded : Layout → Address → Subheader → List ℕ → List ℕ
encoded l a h s = if l.parity then with_parity l.masked (framed l a h s) else framed l a h s

-- the sector as it goes to the disc
unfoldable pub sealed : Layout → Address → Subheader → List ℕ → List ℕ
sealed l a h s = scrambled (encoded l a h s)
