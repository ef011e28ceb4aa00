-- The outcome of a call of the controller: refused, and nothing changed; or done, with all that the crates above have to know. Assumes nothing.
use Prim.Native.Nat.{ℕ, ◌+◌, ◌-◌, ◌≤◌}
use mathlib.Core.Path.{◌≡◌, sym, ap, subst, ◌∙◌}
use mathlib.Core.Bool.{Bool, true, false, ◌&&◌}
use mathlib.Core.List.{List, [], ◌∷◌}
use native.Mathlib.Omega.{arith}
use lib.Dec.{eqb, ltb}
use lib.ListN.{length}
use borrow.Author.Tests.{ltb-true, ne_eqb}
use Rattle.laws.specs.Numbers.{weight}
use Rattle.laws.proofs.Choice.{if_case, if_false, left_true, right_true}
use Rattle.controller.specs.Step.{Step, refused, replied, guarded}
use Rattle.controller.specs.Transfer.{engaged, settled, concluded}
use Rattle.controller.specs.declared.state.Controller.{Controller}
use Rattle.controller.specs.declared.state.Counts.{Counts}
use Rattle.controller.specs.declared.step.Event.{Event}
use Rattle.controller.specs.declared.step.Event.TheVariants.{Stay, Store, Advance, Rewind, Move, Clear}
use Rattle.outcomes.specs.Book.{book_of, fed, limited}
use Rattle.outcomes.specs.Invariant.{Consistent, Invariant, Moves, moved, Lands}
use Rattle.outcomes.specs.Machine.{Call}
use Rattle.outcomes.proofs.Consistent.{relevant, consistent_like, statusless, consistent_quiet}
use Rattle.outcomes.proofs.Starts.{settled_same, settled_book, invariant_settled}

-- what an accepted call on c, in a ring of n blocks, with the event e, leaves in d
pub record Done (n : ℕ) (call : Call) (e : Event) (c d : Controller) : Type 0 where
  pub consistent : Consistent d
  pub moves : Moves e c d
  -- the book of the good sectors goes as the call says
  pub shows : (row : List (List ℕ)) → length row ≡ c.counts.tcc → book_of d (moved e row) ≡ fed call (book_of c row)
  pub limits : d.buffering.blims ≡ limited call 0 c.buffering.blims
  -- BUFLIM fits the ring, and so does a block that T is moved to
  pub buflim : d.buffering.buflim + 2 ≤ n
  pub lands : Lands n e

pub data Outcome (n : ℕ) (call : Call) (c : Controller) : Step → Type 0 where
  refusal : (k : ℕ) → (k ≡ 0 → ⊥) → Outcome n call c (refused c k)
  done : (d : Controller) (e : Event) (v : ℕ) → Done n call e c d → Outcome n call c (replied d e v)

-- the start that follows by itself changes no count and shows nothing

moves_counts : (e : Event) (c d x : Controller) → d.counts ≡ x.counts → Moves e c d → Moves e c x
moves_counts Stay c d x p m = subst (λ (k : Counts). (k.tcc ≡ c.counts.tcc) × (k.bufc ≡ c.counts.bufc)) p m
moves_counts Store c d x p m =
    subst (λ (k : Counts). (k.tcc + weight k.held 1 ≡ c.counts.tcc + 1) × (k.bufc ≡ c.counts.bufc + 1)) p m
moves_counts (Advance n) c d x p m =
    subst (λ (k : Counts). (n ≤ c.counts.tcc) × (k.tcc ≡ c.counts.tcc - n) × (k.bufc ≡ c.counts.bufc - n)) p m
moves_counts (Rewind n) c d x p m = subst (λ (k : Counts). (n ≤ c.counts.tcc) × (k.tcc ≡ n) × (k.bufc ≡ n)) p m
moves_counts (Move t) c d x p m = subst (λ (k : Counts). (c.counts.tcc ≡ 0) × (c.counts.bufc ≡ 0) × (k.tcc ≡ 0) × (k.bufc ≡ 0)) p m
moves_counts Clear c d x p m = subst (λ (k : Counts). (k.tcc ≡ 0) × (k.bufc ≡ 0)) p m

pub settled_counts : (d : Controller) → (settled d).counts ≡ d.counts
settled_counts d = ap (λ (x : Controller). x.counts) (settled_same d)

pub settled_buffering : (d : Controller) → (settled d).buffering ≡ d.buffering
settled_buffering d = ap (λ (x : Controller). x.buffering) (settled_same d)

settled_done : (n : ℕ) (call : Call) (e : Event) (c d : Controller) → Done n call e c d → Done n call e c (settled d)
settled_done n call e c d h =
    record {
      consistent = (invariant_settled d h.consistent).consistent;
      moves = moves_counts e c d (settled d) (sym (settled_counts d)) h.moves;
      shows = λ row size. settled_book d (moved e row) h.consistent ∙ h.shows row size;
      limits = rw settled_buffering h.limits;
      buflim = rw settled_buffering h.buflim;
      lands = h.lands;
    }

pub concluded_refused : (c : Controller) (k : ℕ) → (k ≡ 0 → ⊥) → concluded (refused c k) ≡ refused c k
unfolding concluded
concluded_refused c k nonzero = if_false (eqb k 0) _ _ (ne_eqb k 0 nonzero)

-- the end of a call keeps its outcome, and the invariant holds again
pub record Ended (n : ℕ) (call : Call) (c : Controller) (s : Step) : Type 0 where
  pub outcome : Outcome n call c s
  pub invariant : Invariant s.controller

pub ended : (n : ℕ) (call : Call) (c : Controller) → Invariant c → (s : Step) → Outcome n call c s → Ended n call c (concluded s)
unfolding concluded
ended n call c i s (refusal k nonzero) =
    subst (Ended n call c) (sym (concluded_refused c k nonzero)) (record { outcome = refusal k nonzero; invariant = i })
ended n call c i s (done d e v h) =
    record { outcome = done (settled d) e v (settled_done n call e c d h); invariant = invariant_settled d h.consistent }

-- the numbers of a list of tests are none of them 0, and A where no test is true
abbrev pub numbered : List (Bool × ℕ) → Bool
numbered [] = true
numbered (t ∷ ts) = ltb 0 t.1 && numbered ts

abbrev pub Passed : List (Bool × ℕ) → Type 0 → Type 0
Passed [] A = A
Passed (t ∷ ts) A = t.0 ≡ false → Passed ts A

pub by_tests :
    (n : ℕ) (call : Call) (c : Controller) (tests : List (Bool × ℕ)) → numbered tests ≡ true → (s : Step)
    → Passed tests (Outcome n call c s) → Outcome n call c (guarded c tests s)
by_tests n call c [] positive s f = f
by_tests n call c (t ∷ ts) positive s f =
    if_case (Outcome n call c) t.0 (refused c t.1) (guarded c ts s)
    (λ _. refusal t.1 (omega (arith, ltb-true 0 t.1 (left_true (ltb 0 t.1) (numbered ts) positive))))
    (λ e. by_tests n call c ts (right_true (ltb 0 t.1) (numbered ts) positive) s (f e))

-- what is done, by the fields that a call changes
module _ (n : ℕ) (c : Controller) (h : Consistent c) (limit : c.buffering.buflim + 2 ≤ n) (call : Call) where
  pub no : (k : ℕ) → ltb 0 k ≡ true → Outcome n call c (refused c k)
  no k positive = refusal k (omega (arith, ltb-true 0 k positive))

  -- a call that moves no block
  pub stays :
      (d : Controller) (v : ℕ) → Consistent d → d.counts.tcc ≡ c.counts.tcc → d.counts.bufc ≡ c.counts.bufc
      → ((row : List (List ℕ)) → book_of d row ≡ fed call (book_of c row)) → d.buffering.blims ≡ limited call 0 c.buffering.blims
      → d.buffering.buflim + 2 ≤ n
      → Outcome n call c (replied d Stay v)
  stays d v consistent tcc bufc shows limits buflim =
      done d Stay v (record { consistent = consistent; moves = (tcc, bufc); shows = λ row _. shows row; limits = limits; buflim = buflim; lands = tt })

  -- a call that changes only what consistency does not look at
  pub free :
      (d : Controller) (v : ℕ) → relevant c ≡ relevant d → d.counts ≡ c.counts
      → ((row : List (List ℕ)) → book_of d row ≡ fed call (book_of c row)) → d.buffering.blims ≡ limited call 0 c.buffering.blims
      → d.buffering.buflim + 2 ≤ n
      → Outcome n call c (replied d Stay v)
  free d v same counts shows limits buflim =
      stays d v (consistent_like c d same h) (ap (λ (k : Counts). k.tcc) counts) (ap (λ (k : Counts). k.bufc) counts) shows limits buflim

  -- a call without a transfer and reception that changes only ASCTRL, the status, the task registers and HIRQ
  pub quiet :
      (d : Controller) → engaged c ≡ false → statusless c ≡ statusless d → d.counts ≡ c.counts
      → ((row : List (List ℕ)) → book_of d row ≡ fed call (book_of c row)) → d.buffering.blims ≡ limited call 0 c.buffering.blims
      → d.buffering.buflim ≡ c.buffering.buflim
      → Outcome n call c (replied d Stay 0)
  quiet d q same counts shows limits buflim =
      stays d 0 (consistent_quiet c d q same h) (ap (λ (k : Counts). k.tcc) counts) (ap (λ (k : Counts). k.bufc) counts) shows limits (rw buflim limit)

  -- a call that moves blocks and changes the counts alone
  pub moves_blocks :
      (d : Controller) (e : Event) → Consistent d → Moves e c d
      → ((row : List (List ℕ)) → length row ≡ c.counts.tcc → book_of d (moved e row) ≡ fed call (book_of c row))
      → d.buffering.blims ≡ limited call 0 c.buffering.blims → d.buffering.buflim ≡ c.buffering.buflim → Lands n e
      → Outcome n call c (replied d e 0)
  moves_blocks d e consistent moves shows limits buflim lands =
      done d e 0 (record { consistent = consistent; moves = moves; shows = shows; limits = limits; buflim = rw buflim limit; lands = lands })
