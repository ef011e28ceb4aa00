-- After a chip reset the chip is one newly opened over the memory that lies there. Assumes nothing.
use Prim.Native.Nat.{ℕ, ◌*◌, ◌≤◌}
use mathlib.Core.Path.{◌≡◌, refl, sym, ap, ◌∙◌}
use mathlib.Core.Bool.{true}
use mathlib.Core.List.{List, [], ◌∷◌}
use lib.ListN.{length}
use Rattle.laws.proofs.Choice.{if_true}
use Rattle.calls.specs.declared.Call.TheVariants.{Reset}
use Rattle.controller.specs.Calls.{stepped}
use Rattle.controller.specs.State.{initial}
use Rattle.controller.specs.Transfer.{settled, concluded}
use Rattle.ring.specs.Place as ring
use Rattle.outcomes.specs.Machine.{Call, plain, after, answers}
use Rattle.outcomes.specs.Row.{Row, row_step}
use Rattle.outcomes.proofs.Rows.{kept}
use Rattle.chip.specs.Calls.{called}
use Rattle.chip.specs.Machine.{State, over, of_told, chip_answer, chip_step, the_chip}
use Rattle.chip.specs.Sound.{sound}
use Rattle.chip.specs.declared.Chip.{Chip}
use Rattle.chip.specs.Told.{Told}
use Rattle.claims.specs.Refinement.{Refines}
use Rattle.claims.specs.Renewed.{Renewed}
use Rattle.claims.proofs.Memory.{memory_free}
use Rattle.claims.proofs.Refines.{refined_sound, refined_step, refines_opened, opened_chip}

-- over a list of calls the chip goes on refining a row with as many blocks
pub record Reached (n : ℕ) (s : State) : Type 0 where
  pub row : Row
  pub refines : Refines s row
  pub blocks : row.blocks ≡ n

reached : (cs : List Call) (n : ℕ) (s : State) (r : Row) → Refines s r → r.blocks ≡ n → Reached n (after the_chip cs s)
reached [] n s r f e = record { row = r; refines = f; blocks = e }
reached (c ∷ cs) n s r f e = reached cs n (chip_step c s) (row_step c r) (refined_step s r f c) ((kept c r f.valid).blocks ∙ e)

pub from_opening : (n : ℕ) → 3 ≤ n → n ≤ 255 → (x : List ℕ) → length x ≡ n * 2560 → (cs : List Call) → Reached n (after the_chip cs (the_chip.opened n x))
from_opening n low high x size cs = reached cs n _ _ (refines_opened n low high x size) refl

-- the reset of a sound record
reset_told : (c : Chip) → sound c ≡ true → called c Reset ≡ record { chip = record { controller = initial; place = ring.opened c.place.n }; reply = record { number = 0; result = 0 } }
unfolding called stepped concluded settled
reset_told c e = if_true (sound c) _ _ e

pub renewed : Renewed
unfolding chip_answer chip_step
renewed n low high x size cs =
    let s = after the_chip cs (the_chip.opened n x) in
    let h = from_opening n low high x size cs in
    let f = h.refines in
    let told = reset_told s.chip (refined_sound s h.row f) in
    let n_is : s.chip.place.n ≡ n = f.blocks ∙ h.blocks in
    let whole : length s.ring ≡ n * 2560 = f.represents.whole ∙ ap (λ (k : ℕ). k * 2560) n_is in
    let opened : chip_step (plain Reset) s ≡ the_chip.opened n s.ring =
    ap (λ (t : Told). over t.chip s.ring) told
    ∙ ap (λ (k : ℕ). over (record { controller = initial; place = ring.opened k }) s.ring) n_is
    ∙ ap (λ (c : Chip). over c s.ring) (sym (opened_chip n low high)) in
    record {
      done = ap of_told told;
      whole = whole;
      opened = opened;
      alike = λ y size_y ds. ap (answers the_chip ds) opened ∙ memory_free n low high s.ring y whole size_y ds;
    }
