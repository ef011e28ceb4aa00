-- A machine that keeps the facts of a refused sector is shut out: with DECEN low a sector of another place is answered 7, and the book takes no note
-- of it. Assumes nothing.
use Prim.Native.Nat.{ℕ, ◌*◌}
use mathlib.Core.Path.{◌≡◌, sym, ap, ◌∙◌}
use mathlib.Core.Bool.{true≢false}
use mathlib.Core.List.{List, [], ◌∷◌}
use native.Mathlib.Omega.{arith}
use lib.Dec.{eqb}
use lib.ListN.{length, replicate, length-replicate}
use borrow.Author.Tests.{eq-eqb}
use Rattle.std.specs.Prelude.{if◌then◌else◌}
use Rattle.sector.specs.Claims.{address_alone}
use Rattle.sector.specs.Receive.{Received, received}
use Rattle.sector.specs.declared.Judgement.{Judgement}
use Rattle.controller.specs.Decoder.{admission}
use Rattle.controller.specs.Fields.{◌▹◌, judgement≔}
use Rattle.outcomes.specs.Book.{facts_of, first_book, feed}
use Rattle.outcomes.specs.Machine.{Answer, replied, number, Facts}
use Rattle.chip.specs.Chip as chip
use Rattle.chip.specs.Calls.{sector_number, sector_told}
use Rattle.chip.specs.Sound.{sound}
use Rattle.chip.specs.Machine.{State, over, chip_answer, chip_step}
use Rattle.claims.specs.Runs.{sealed, disc}
use Rattle.claims.specs.Wrong.{ShutOut, refused_step, keeping_refused}
use Rattle.claims.proofs.Runs.{frame, not_expected}
use Rattle.claims.proofs.Mode1.{length_sealed, received_sealed}

module _ (u : List ℕ) (size : length u ≡ 2352) (x : List ℕ) (fits : length x ≡ 3 * 2560) where
  abbrev fresh : State
  fresh = keeping_refused.opened 3 x

  refused : chip_answer (disc u 5) fresh ≡ replied 7 0
  unfolding chip_answer chip.opened sector_told sector_number sound admission
  refused =
      let whole = eq-eqb (length x) (3 * 2560) fits in
      let long = eq-eqb (length (sealed (frame 5) u)) 2352 (length_sealed (frame 5) u size) in
      simp (whole, long)

  -- a sector of frame 5, where frame 0 is expected
  shows : keeping_refused.facts (refused_step (disc u 5) fresh) ≡ record { judgement = address_alone }
  unfolding refused_step chip.opened
  shows =
      ap (λ (r : Answer). facts_of (if eqb (number r) 0 then chip_step (disc u 5) fresh else over (record { controller = fresh.chip.controller ▹ judgement≔ (received fresh.chip.controller.expected (sealed (frame 5) u)).judgement; place = fresh.chip.place }) x).chip.controller) refused
      ∙ ap (λ (r : Received). record { judgement = r.judgement }) (received_sealed (frame 5) u size (frame 0))
      ∙ ap (λ (j : Judgement). record { judgement = j }) (not_expected u size)

  -- the book takes no note of it
  by : ShutOut keeping_refused
  unfolding feed
  by d =
      let f = (d.words 3 (omega arith) (omega arith) x fits (disc u 5 ∷ [])).2 in
      let g = sym shows ∙ f ∙ ap (λ (r : Answer). (feed (disc u 5) (number r) first_book).facts) refused in
      true≢false (ap (λ (k : Facts). k.judgement.address) g)

pub keeping_refused_fails : ShutOut keeping_refused
keeping_refused_fails = by (replicate 2352 0) (length-replicate {A = ℕ} 2352 0) (replicate 7680 0) (length-replicate {A = ℕ} 7680 0)
