-- The judgement of a descrambled sector (paper 01, "Sectors": "Judging"; paper 02, asks 1 and 4): four facts, each of a test of its own, and what is
-- made of them. The bytes behind the code, zeros and parity, are not judged. Assumes nothing.
use Rattle.std.specs.Prelude.{Bool, false, not, ◌||◌, ◌&&◌, List, ℕ, ◌+◌, eqb, take, drop, get_or, replicate}
use Rattle.laws.specs.Numbers.{weight}
use Rattle.laws.specs.Same.{same}
use Rattle.sector.specs.declared.Address.{Address}
use Rattle.sector.specs.declared.Judgement.{Judgement}
use Rattle.sector.specs.declared.layout.Layout.{Layout}
use Rattle.sector.specs.Address.{address_bytes}
use Rattle.sector.specs.Layout.{layout_read}
use Rattle.sector.specs.Sector.{sync, code_of}

-- bytes 0 to 11 are the sync pattern
unfoldable pub sync_holds : List ℕ → Bool
sync_holds s = same (take 12 s) sync

-- byte 15 is mode 1; or it is mode 2, and the subheader's two copies are equal
unfoldable pub mode_holds : List ℕ → Bool
mode_holds s = eqb (get_or s 15 0) 1 || (eqb (get_or s 15 0) 2 && same (take 4 (drop 16 s)) (take 4 (drop 20 s)))

-- the code that stands in a sector is that of the bytes that it covers
unfoldable pub code_right : Layout → List ℕ → Bool
code_right l s = same (take 4 (drop l.code s)) (code_of l (take l.code s))

-- none was written: it is zero, in form 2
unfoldable pub unwritten : Layout → List ℕ → Bool
unwritten l s = l.optional && same (take 4 (drop l.code s)) (replicate 4 0)

-- the EDC, by the kind that is read: the code is right, or none was written
unfoldable pub edc_holds : List ℕ → Bool
edc_holds s = code_right (layout_read s) s || unwritten (layout_read s) s

-- bytes 12 to 14 are the address's
unfoldable pub address_holds : Address → List ℕ → Bool
address_holds a s = same (take 3 (drop 12 s)) (address_bytes a)

-- what failed of a sector that is expected at an address; each fact is its own test's, whatever the others say
unfoldable pub judgement : Address → List ℕ → Judgement
judgement a s =
    record { sync = not (sync_holds s); mode = not (mode_holds s); edc = not (edc_holds s); address = not (address_holds a s) }

-- nothing failed; so too where no sector was judged
abbrev pub no_facts : Judgement
no_facts = record { sync = false; mode = false; edc = false; address = false }

-- STAERR: sync, mode or EDC failed
abbrev pub staerr : Judgement → Bool
staerr j = j.sync || (j.mode || j.edc)

-- a good sector: nothing failed
abbrev pub good : Judgement → Bool
good j = not (staerr j || j.address)

-- TARSTA (80h): STAERR in bit 6; HCEI, that the address failed, in bit 0
abbrev pub tarsta_byte : Judgement → ℕ
tarsta_byte j = weight (staerr j) 0x40 + weight j.address 0x01

-- the four facts as one number: sync 8, mode 4, EDC 2, address 1
abbrev pub why : Judgement → ℕ
why j = weight j.sync 8 + weight j.mode 4 + weight j.edc 2 + weight j.address 1
