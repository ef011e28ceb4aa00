-- The outcome of a sector that is admitted: it is counted, good or bad. Assumes nothing.
use Prim.Native.Nat.{ℕ, ◌+◌}
use mathlib.Core.Path.{◌≡◌, refl, ap, sym, subst, ◌∙◌}
use mathlib.Core.Bool.{Bool, true, false}
use mathlib.Core.List.{List, [], ◌∷◌, ◌++◌}
use native.Mathlib.Omega.{arith}
use lib.Dec.{eqb}
use Rattle.std.specs.Prelude.{if◌then◌else◌}
use Rattle.laws.proofs.Choice.{if_case, if_true, if_false}
use Rattle.laws.proofs.Tests.{if_not, weightless}
use Rattle.sector.specs.Address.{next}
use Rattle.sector.specs.Judge.{good}
use Rattle.sector.specs.Receive.{received}
use Rattle.sector.specs.declared.Judgement.{Judgement}
use Rattle.sector.proofs.Claims.{next_holds}
use Rattle.controller.specs.Step.{Step}
use Rattle.controller.specs.Decoder.{at_stop, admission, counted}
use Rattle.controller.specs.Fields.{◌▹◌}
use Rattle.controller.specs.Transfer.{concluded, settled}
use Rattle.controller.specs.declared.state.Controller.{Controller}
use Rattle.controller.specs.declared.step.Event.TheVariants.{Store}
use Rattle.outcomes.specs.Book.{book_of, row≔, takes, judged, joined, fed}
use Rattle.outcomes.specs.Invariant.{Consistent, Invariant}
use Rattle.outcomes.specs.Machine.{sector}
use Rattle.outcomes.specs.Row.{grown}
use Rattle.outcomes.proofs.Consistent.{consistent_decoder}
use Rattle.outcomes.proofs.Outcome.{settled_counts, settled_buffering}
use Rattle.outcomes.proofs.Starts.{settled_book, invariant_settled}

-- DECEN is high, nothing is held, and there is room
pub record Admitted (c : Controller) (full : Bool) : Type 0 where
  pub decen : c.buffering.decen ≡ true
  pub unheld : c.counts.held ≡ false
  pub room : at_stop c full ≡ false

pub admitted : (c : Controller) (full : Bool) → admission c full ≡ 0 → Admitted c full
unfolding admission
admitted c full =
    if_not (λ (n : ℕ). n ≡ 0 → Admitted c full) c.buffering.decen _ _ (λ _ z. absurd (omega arith)) λ d.
    if_case (λ (n : ℕ). n ≡ 0 → Admitted c full) c.counts.held _ _ (λ _ z. absurd (omega arith)) λ e.
    if_case (λ (n : ℕ). n ≡ 0 → Admitted c full) (at_stop c full) _ _ (λ _ z. absurd (omega arith)) (λ o _. record { decen = d; unheld = e; room = o })

-- what a stored sector leaves; by its tests on good, tcc goes up by 1 or stays
pub record Stored (c : Controller) (x : List ℕ) (s : Step) : Type 0 where
  pub number : s.reply.number ≡ 0
  pub event : s.event ≡ Store
  pub invariant : Invariant s.controller
  pub tcc : s.controller.counts.tcc ≡ (if good (received c.expected x).judgement then c.counts.tcc + 1 else c.counts.tcc)
  pub bufc : s.controller.counts.bufc ≡ c.counts.bufc + 1
  pub shows : (row : List (List ℕ)) → book_of s.controller (grown c x row) ≡ fed (sector x) (book_of c row)
  pub buffering : s.controller.buffering ≡ c.buffering

module _ (c : Controller) (h : Consistent c) (full : Bool) (a : Admitted c full) (x : List ℕ) where
  abbrev j : Judgement
  j = (received c.expected x).judgement

  -- before the start that may follow
  record Counted (s : Step) : Type 0 where
    number : s.reply.number ≡ 0
    event : s.event ≡ Store
    consistent : Consistent s.controller
    tcc : s.controller.counts.tcc ≡ (if good j then c.counts.tcc + 1 else c.counts.tcc)
    bufc : s.controller.counts.bufc ≡ c.counts.bufc + 1
    shows : (row : List (List ℕ)) → book_of s.controller (grown c x row) ≡ fed (sector x) (book_of c row)
    buffering : s.controller.buffering ≡ c.buffering

  counts : Counted (counted c j)
  unfolding counted takes
  counts =
      let w = weightless c.counts.held 1 a.unheld in
      let b = h.buffered in
      if_case Counted (good j) _ _
      (λ fine. record {
        number = refl;
        event = refl;
        consistent =
            consistent_decoder c (c.counts.tcc + 1) (c.counts.bufc + 1) c.counts.held (next c.expected) c.buffering j
            (omega arith) (omega arith) (next_holds c.expected h.expected) h.held h.decen h;
        tcc = sym (if_true (good j) (c.counts.tcc + 1) c.counts.tcc fine);
        bufc = refl;
        shows = λ row.
            ap (λ (z : List (List ℕ)). joined x (judged x (book_of c row)) ▹ row≔ z)
            (if_true (good j) (row ++ (received c.expected x).bytes ∷ []) row fine)
            ∙ sym (if_true (good j) (joined x (judged x (book_of c row))) (judged x (book_of c row)) fine);
        buffering = refl;
      })
      (λ bad. record {
        number = refl;
        event = refl;
        consistent =
            consistent_decoder c c.counts.tcc (c.counts.bufc + 1) true c.expected c.buffering j
            (omega arith) (omega arith) h.expected (λ _. a.decen) h.decen h;
        tcc = sym (if_false (good j) (c.counts.tcc + 1) c.counts.tcc bad);
        bufc = refl;
        shows = λ row.
            ap (λ (z : List (List ℕ)). judged x (book_of c z)) (if_false (good j) (row ++ (received c.expected x).bytes ∷ []) row bad)
            ∙ sym (if_false (good j) (joined x (judged x (book_of c row))) (judged x (book_of c row)) bad);
        buffering = refl;
      })

  settles : (s : Step) → Counted s → Stored c x (concluded s)
  unfolding concluded
  settles s k =
      let d = s.controller in
      subst (λ (b : Bool). Stored c x (if b then record { controller = settled d; event = s.event; reply = s.reply } else s))
      (sym (ap (λ (n : ℕ). eqb n 0) k.number))
      (record {
        number = k.number;
        event = k.event;
        invariant = invariant_settled d k.consistent;
        tcc = rw (settled_counts d) k.tcc;
        bufc = rw (settled_counts d) k.bufc;
        shows = λ row. settled_book d (grown c x row) k.consistent ∙ k.shows row;
        buffering = settled_buffering d ∙ k.buffering;
      })

  pub stored : Stored c x (concluded (counted c j))
  stored = settles (counted c j) counts
