-- The bench cases hold. Assumes nothing.
use Prim.Native.Nat.{ℕ, ◌+◌, ◌*◌}
use mathlib.Core.Path.{◌≡◌, refl, ap}
use mathlib.Core.Bool.{Bool, true, false, ◌||◌, not, false≢true}
use mathlib.Core.List.{List}
use lib.ListN.{length}
use borrow.Author.Tests.{eq-eqb}
use Rattle.laws.specs.Numbers.{weight}
use Rattle.calls.specs.declared.Call.TheVariants.{Write, SetWindow}
use Rattle.sector.specs.Address.{next}
use Rattle.sector.specs.Receive.{received}
use Rattle.sector.specs.Judge.{good, staerr}
use Rattle.sector.specs.declared.Judgement.{Judgement}
use Rattle.reply.specs.Reply.{answer}
use Rattle.controller.specs.Calls.{stepped}
use Rattle.controller.specs.Decoder.{admission, counted}
use Rattle.controller.specs.Named.{window_fits, set_window}
use Rattle.controller.specs.Transfer.{settled, concluded}
use Rattle.controller.specs.Write.{write, write_buflim, write_tcc, write_skipc}
use Rattle.controller.specs.declared.state.Controller.{Controller}
use Rattle.outcomes.proofs.Starts.{settled_same}
use Rattle.outcomes.proofs.Outcome.{settled_counts}
use Rattle.chip.specs.Chip.{opened}
use Rattle.chip.specs.Told.{refused}
use Rattle.chip.specs.Calls.{called, sector_number, sector_told}
use Rattle.chip.specs.Sound.{sound}
use Rattle.chip.specs.declared.Chip.{Chip}
use Rattle.claims.specs.Cases.{number, afterwards, address, Given4, Given7, Given8, with_ttc, Given10, Cases}
use Rattle.claims.proofs.Starts.{starts}

p1 : (number (opened 2) ≡ 1) × (number (opened 256) ≡ 1)
unfolding opened
p1 = (refl, refl)

p2 : number (called (opened 3).chip (Write 0x9B 1)) ≡ 0
unfolding opened called sound stepped concluded write write_buflim
p2 = refl

p3 : number (called (opened 3).chip (Write 0x9B 2)) ≡ 3
unfolding opened called sound stepped concluded write write_buflim
p3 = refl

window_done : (c : Chip) (o w : ℕ) → window_fits o w ≡ true → Given4 c → number (called c (SetWindow o w)) ≡ 0
unfolding called stepped concluded set_window
window_done c o w fits h = simp (h.sound_record, fits, h.idle)

p6 : (c : Chip) → sound c ≡ true → number (called c (SetWindow 2351 1)) ≡ 3
unfolding called stepped concluded set_window
p6 c h = simp h

p7 : (c : Chip) → Given7 c
    → (called c (Write 0x9D 3) ≡ refused c 6)
    × (number (called c (Write 0x9D 1)) ≡ 0) × ((afterwards (called c (Write 0x9D 1))).counts.tcc ≡ 1)
unfolding called stepped concluded write write_tcc
p7 c h = (
  simp (h.sound_record, h.idle, h.decen, h.two),
  simp (h.sound_record, h.idle, h.decen, h.two),
  simp (h.sound_record, h.idle, h.decen, h.two, settled_counts),
)

p8 : (c : Chip) → Given8 c
    → (number (called c (Write 0x9E 2)) ≡ 0) × ((afterwards (called c (Write 0x9E 2))).counts.tcc ≡ 0)
    × (called c (Write 0x9E 3) ≡ refused c 6)
unfolding called stepped concluded write write_skipc
p8 c h = (
  simp (h.sound_record, h.idle, h.acmen, h.two),
  simp (h.sound_record, h.idle, h.acmen, h.two, settled_counts),
  simp (h.sound_record, h.idle, h.acmen, h.two),
)

-- a good sector has no bit of 80h
no_bits : (a b : Bool) → not (a || b) ≡ true → weight a 0x40 + weight b 0x01 ≡ 0
no_bits false false e = refl
no_bits false true e = absurd (false≢true e)
no_bits true b e = absurd (false≢true e)

admitted : (c : Chip) (ring s : List ℕ) → Given10 c ring s → sector_number c ring s ≡ 0
unfolding sector_number admission
admitted c ring s h =
    simp (h.sound_record, eq-eqb (length ring) (c.place.n * 2560) h.whole, eq-eqb (length s) 2352 h.size, h.decen, h.unheld, h.room)

settled_expected : (d : Controller) → (settled d).expected ≡ d.expected
settled_expected d = ap (λ (x : Controller). x.expected) (settled_same d)

-- a good sector is answered with 0, and the address goes up
module _ (k : Controller) (j : Judgement) (fine : good j ≡ true) where
  counted_reply : (concluded (counted k j)).reply ≡ answer 0
  unfolding counted concluded
  counted_reply = simp (fine, no_bits (staerr j) j.address)

  counted_expected : (concluded (counted k j)).controller.expected ≡ next k.expected
  unfolding counted concluded
  counted_expected = simp (fine, settled_expected)

p10 : (c : Chip) (ring s : List ℕ) → Given10 c ring s
    → (number (sector_told c ring s) ≡ 0) × ((sector_told c ring s).reply.result ≡ 0)
    × ((afterwards (sector_told c ring s)).expected ≡ address 0 3 0)
unfolding sector_told next
p10 c ring s h =
    let j = (received (address 0 2 74) s).judgement in (
      simp (admitted c ring s h, h.expected, counted_reply c.controller j h.fine),
      simp (admitted c ring s h, h.expected, counted_reply c.controller j h.fine),
      simp (admitted c ring s h, h.expected, counted_expected c.controller j h.fine),
    )

pub cases : Cases
cases =
    record {
      p1 = p1;
      p2 = p2;
      p3 = p3;
      p4 = λ c. window_done c 16 1024 refl;
      p5 = λ c. window_done c 2350 1 refl;
      p6 = p6;
      p7 = p7;
      p8 = p8;
      p9 = λ c m h. starts c (with_ttc 2 5 0 1024 true m) h refl refl refl;
      p10 = p10;
    }
