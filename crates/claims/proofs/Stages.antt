-- Runs of a machine that answers as the chip, and goes on as the chip does after sectors and words: one sealed sector that is admitted, and one
-- word that is handed over. Assumes nothing.
use Prim.Native.Nat.{ℕ, ◌*◌}
use mathlib.Core.Path.{◌≡◌, refl, ◌∙◌}
use mathlib.Core.Bool.{true}
use mathlib.Core.List.{List, [], ◌∷◌}
use native.Mathlib.Omega.{arith}
use lib.ListN.{length}
use borrow.Author.Tests.{eq-eqb}
use Rattle.sector.specs.Judge.{judgement}
use Rattle.sector.specs.declared.Judgement.{Judgement}
use Rattle.controller.specs.Decoder.{admission, counted}
use Rattle.controller.specs.Host.{host_word}
use Rattle.controller.specs.Transfer.{concluded}
use Rattle.controller.specs.declared.state.Controller.{Controller}
use Rattle.outcomes.specs.Machine.{Call, sector, word, handed, Machine}
use Rattle.ring.specs.Memory.{stored}
use Rattle.ring.specs.Place.{at, full}
use Rattle.ring.specs.Represents.{Represents}
use Rattle.ring.specs.declared.Place.{Place}
use Rattle.ring.proofs.Represents.{represents_opened, represents_store_good}
use Rattle.chip.specs.Chip.{finished}
use Rattle.chip.specs.Calls.{sector_number, sector_told, sector_ring, next_word, word_told}
use Rattle.chip.specs.Sound.{sound}
use Rattle.chip.specs.Machine.{State, over, of_told, chip_answer, chip_step, the_chip}
use Rattle.chip.specs.declared.Chip.{Chip}
use Rattle.claims.specs.Runs.{encoded, sealed, disc}
use Rattle.claims.proofs.Runs.{Ran, frame}
use Rattle.claims.proofs.Mode1.{length_sealed, received_sealed}

abbrev pub chip_with : Controller → Place → Chip
chip_with k p = record { controller = k; place = p }

module _ (step : Call → State → State)
    (as_sector : (x : List ℕ) (s : State) → step (sector x) s ≡ chip_step (sector x) s)
    (as_word : (s : State) → step word s ≡ chip_step word s)
    (k : Controller) (p : Place) (ring : List ℕ) (is_sound : sound (chip_with k p) ≡ true) (fits : length ring ≡ p.n * 2560)
  where
    abbrev M : Machine
    M = record { State = State; opened = the_chip.opened; answer = chip_answer; step = step; facts = the_chip.facts }

    pub on_disc :
        (u : List ℕ) → length u ≡ 2352 → (f : ℕ) (j : Judgement) → admission k (full p) ≡ 0 → judgement k.expected (encoded (frame f) u) ≡ j
        → Ran M (disc u f ∷ []) (over (chip_with k p) ring) (of_told (finished p (concluded (counted k j))) ∷ [])
        (over (finished p (concluded (counted k j))).chip (stored ring p.b (encoded (frame f) u)))
    unfolding chip_answer chip_step sector_number sector_told sector_ring
    on_disc u size f j admitted e =
        let whole = eq-eqb (length ring) (p.n * 2560) fits in
        let long = eq-eqb (length (sealed (frame f) u)) 2352 (length_sealed (frame f) u size) in
        let r = received_sealed (frame f) u size k.expected in
        record { told = simp (is_sound, whole, long, admitted, r, e); left = as_sector _ _ ∙ simp (is_sound, whole, long, admitted, r, e) }

    pub on_word :
        (w : ℕ) → (host_word k).reply.number ≡ 0 → next_word (chip_with k p) ring ≡ w
        → Ran M (word ∷ []) (over (chip_with k p) ring) (handed w ∷ []) (over (finished p (concluded (host_word k))).chip ring)
    unfolding chip_answer chip_step word_told
    on_word w done e =
        let whole = eq-eqb (length ring) (p.n * 2560) fits in
        record { told = simp (is_sound, whole, done, e); left = as_word _ ∙ simp (is_sound, whole) }

-- a ring of three blocks with one or two sectors stored from block 0 on
module _ (ring a b : List ℕ) (whole_ring : length ring ≡ 3 * 2560) (size_a : length a ≡ 2352) (size_b : length b ≡ 2352) where
  pub one_stored : Represents (at 3 0 1 0) 1 1 (stored ring 0 a) (a ∷ [])
  one_stored = represents_store_good (represents_opened 3 ring (omega arith) (omega arith) whole_ring) a (omega arith) size_a refl

  pub two_stored : Represents (at 3 0 2 1) 2 2 (stored (stored ring 0 a) 1 b) (a ∷ b ∷ [])
  two_stored = represents_store_good one_stored b (omega arith) size_b refl
