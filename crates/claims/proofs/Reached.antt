-- What a run of the row machine leads to, the chip reaches. Assumes nothing.
use Prim.Native.Nat.{ℕ, ◌*◌, ◌≤◌}
use mathlib.Core.Path.{◌≡◌, subst}
use mathlib.Core.List.{List}
use lib.ListN.{length, replicate, length-replicate}
use Rattle.outcomes.specs.Machine.{Call, Answer, after}
use Rattle.outcomes.specs.Row.{Row, the_row}
use Rattle.chip.specs.Machine.{State, the_chip}
use Rattle.claims.specs.Cases.{Reachable}
use Rattle.claims.specs.Refinement.{Refines, Simulation}
use Rattle.claims.proofs.Runs.{Ran, opened, same_state}

-- a simulation whose related states refine
abbrev pub Follows : Simulation the_chip the_row → Type 0
Follows S = (s : State) (r : Row) → S.Related s r → Refines s r

-- a state of the chip that refines the row after a run
module _ (S : Simulation the_chip the_row) (refines : Follows S) (n : ℕ) (low : 3 ≤ n) (high : n ≤ 255) where
  pub reached : (P : State → Type 0) {cs : List Call} {rs : List Answer} {t : Row} → Ran the_row cs (opened n) rs t → ((s : State) → Refines s t → P s) → Reachable P
  reached P {cs} run f =
      let x : List ℕ = replicate (n * 2560) 0 in
      let size : length x ≡ n * 2560 = length-replicate {A = ℕ} (n * 2560) 0 in
      let s : State = the_chip.opened n x in
      record {
        blocks = n;
        least = low;
        most = high;
        memory = x;
        whole = size;
        calls = cs;
        met = f (after the_chip cs s)
            (subst (Refines (after the_chip cs s)) run.left
            (refines (after the_chip cs s) (after the_row cs (opened n))
            (same_state S cs s (opened n) (S.opened n low high x size))));
      }
