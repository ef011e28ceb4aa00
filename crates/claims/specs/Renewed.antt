-- A chip reset starts the ring anew (paper 01, "Registers": all as opened). After any list of calls it is done, and leaves the chip that an opening
-- gives over the memory that lies there, so that what is claimed of every chip from its opening on holds from a reset on too; and no answer after it
-- depends on what the memory held. Of a record made by hand it says nothing: demand 1 has its refusal. Assumes nothing.
use Rattle.std.specs.Prelude.{ℕ, ◌*◌, ◌≤◌, ◌≡◌, List, length}
use Rattle.calls.specs.declared.Call.TheVariants.{Reset}
use Rattle.outcomes.specs.Machine.{Call, plain, replied, after, answers}
use Rattle.chip.specs.Machine.{State, chip_answer, chip_step, the_chip}

pub record Anew (n : ℕ) (s : State) : Type 0 where
  pub done : chip_answer (plain Reset) s ≡ replied 0 0
  pub whole : length s.ring ≡ n * 2560
  pub opened : chip_step (plain Reset) s ≡ the_chip.opened n s.ring
  -- from there on the answers are those from an opening over any other memory
  pub alike : (y : List ℕ) → length y ≡ n * 2560 → (cs : List Call)
      → answers the_chip cs (chip_step (plain Reset) s) ≡ answers the_chip cs (the_chip.opened n y)

abbrev pub Renewed : Type 0
Renewed =
    (n : ℕ) → 3 ≤ n → n ≤ 255 → (x : List ℕ) → length x ≡ n * 2560 → (cs : List Call) → Anew n (after the_chip cs (the_chip.opened n x))
