-- What the runs share: the row machine's answers and its state after a list of calls, sealed sectors among them; and that the chip's runs
-- are the row machine's. Assumes nothing.
use Prim.Native.Nat.{ℕ, ◌+◌, ◌≤◌}
use mathlib.Core.Path.{◌≡◌, refl, ap, ap₂, ◌∙◌}
use mathlib.Core.Bool.{Bool, true, ◌&&◌, not}
use mathlib.Core.List.{List, [], ◌∷◌, ◌++◌}
use native.Mathlib.Omega.{arith}
use lib.Dec.{eqb}
use lib.ListN.{length}
use borrow.Author.Tests.{eq-eqb, not-true}
use Rattle.std.specs.Prelude.{if◌then◌else◌}
use Rattle.laws.proofs.Choice.{left_true, right_true}
use Rattle.sector.specs.Claims.{address_alone}
use Rattle.sector.specs.Judge.{good, judgement, no_facts, why}
use Rattle.sector.specs.Receive.{received}
use Rattle.sector.specs.declared.Address.{Address}
use Rattle.sector.specs.declared.Judgement.{Judgement}
use Rattle.sector.specs.Address.{next}
use Rattle.controller.specs.Decoder.{admission, counted}
use Rattle.controller.specs.Calls.{stepped}
use Rattle.controller.specs.Fields.{◌▹◌, blimen≔, acctl≔, decen≔, tcc≔, bufc≔, expected≔}
use Rattle.controller.specs.State.{initial}
use Rattle.controller.specs.Transfer.{settled, concluded}
use Rattle.controller.specs.Write as registers
use Rattle.controller.specs.declared.state.Controller.{Controller}
use Rattle.outcomes.specs.Machine.{Call, sector, Answer, replied, Facts, Machine, after, answers}
use Rattle.outcomes.specs.Row.{Row, answered, row_answer, row_step, the_row}
use Rattle.claims.specs.Demand3.{hidden, masked}
use Rattle.claims.specs.Refinement.{Simulation}
use Rattle.claims.specs.Runs.{encoded, sealed, disc, set_up, ok, Gives, telling_why}
use Rattle.claims.proofs.Mode1.{judged_other, judged_own, length_sealed, received_sealed}

-- Runs

pub record Ran (M : Machine) (cs : List Call) (s : M.State) (rs : List Answer) (t : M.State) : Type 0 where
  pub told : answers M cs s ≡ rs
  pub left : after M cs s ≡ t

-- calls whose outcome computes
pub calls : {M : Machine} (cs : List Call) (s : M.State) → Ran M cs s (answers M cs s) (after M cs s)
calls cs s = record { told = refl; left = refl }

told_on : (M : Machine) (cs ds : List Call) (s : M.State) → answers M (cs ++ ds) s ≡ answers M cs s ++ answers M ds (after M cs s)
told_on M [] ds s = refl
told_on M (c ∷ cs) ds s = ap (λ (rs : List Answer). M.answer c s ∷ rs) (told_on M cs ds (M.step c s))

left_on : (M : Machine) (cs ds : List Call) (s : M.State) → after M (cs ++ ds) s ≡ after M ds (after M cs s)
left_on M [] ds s = refl
left_on M (c ∷ cs) ds s = left_on M cs ds (M.step c s)

infixr 30 ◌then◌
pub ◌then◌ : {M : Machine} {cs ds : List Call} {s t w : M.State} {rs ss : List Answer} → Ran M cs s rs t → Ran M ds t ss w → Ran M (cs ++ ds) s (rs ++ ss) w
◌then◌ {M} {cs} {ds} {s} {rs = rs} a b =
    record {
      told =
          told_on M cs ds s ∙ ap₂ (λ (x : List Answer) (y : M.State). x ++ answers M ds y) a.told a.left
          ∙ ap (λ (x : List Answer). rs ++ x) b.told;
      left = left_on M cs ds s ∙ ap (after M ds) a.left ∙ b.left;
    }

-- a call of a machine that tells why
pub telling : {M : Machine} {c : Call} {s t : M.State} {rs : List Answer} → Ran M (c ∷ []) s rs t
    → Ran (telling_why M) (c ∷ []) s (replied 0 (why (M.facts t).judgement) ∷ []) t
telling {M} r = record { told = ap (λ (x : M.State). replied 0 (why (M.facts x).judgement) ∷ []) r.left; left = r.left }

-- The row machine

abbrev pub opened : ℕ → Row
opened n = record { controller = initial; blocks = n; row = [] }

pub by_row : {n : ℕ} {cs : List Call} {rs : List Answer} {t : Row} → Ran the_row cs (opened n) rs t → Gives the_row n cs rs
by_row run = record { given = λ x size. run.told }

-- a sector of the right length that is judged j and has these bytes
abbrev taken_number : Row → ℕ
taken_number s = admission s.controller (eqb (s.controller.counts.bufc + 1) s.blocks)

abbrev pub taken_answer : Judgement → Row → Answer
taken_answer j s = if eqb (taken_number s) 0 then answered (concluded (counted s.controller j)) else replied (taken_number s) 0

abbrev pub taken_row : Judgement → List ℕ → Row → Row
taken_row j bytes s =
    if eqb (taken_number s) 0
    then record {
      controller = (concluded (counted s.controller j)).controller;
      blocks = s.blocks;
      row = if good j then s.row ++ bytes ∷ [] else s.row;
    }
    else s

abbrev pub frame : ℕ → Address
frame f = record { minute = 0; second = 2; frame = f }

-- a sector that is received so
module _ (x bytes : List ℕ) (s : Row) (j : Judgement) (size : length x ≡ 2352) (e : received s.controller.expected x ≡ record { bytes = bytes; judgement = j }) where
  pub taken : Ran the_row (sector x ∷ []) s (taken_answer j s ∷ []) (taken_row j bytes s)
  unfolding row_answer row_step
  taken = let fits = eq-eqb (length x) 2352 size in record { told = simp (fits, e); left = simp (fits, e) }

-- a sealed sector
module _ (u : List ℕ) (size : length u ≡ 2352) (f : ℕ) (s : Row) (j : Judgement) (e : judgement s.controller.expected (encoded (frame f) u) ≡ j) where
  pub decoded : Ran the_row (disc u f ∷ []) s (taken_answer j s ∷ []) (taken_row j (encoded (frame f) u) s)
  decoded =
      taken (sealed (frame f) u) (encoded (frame f) u) s j (length_sealed (frame f) u size)
      (received_sealed (frame f) u size s.controller.expected ∙ ap (λ (x : Judgement). record { bytes = encoded (frame f) u; judgement = x }) e)

-- Three blocks with k good sectors decoded, from frame 0 on

abbrev pub decoding : ℕ → Controller
decoding k = initial ▹ blimen≔ true ▹ acctl≔ (registers.acctl_of 0x60) ▹ decen≔ true ▹ tcc≔ k ▹ bufc≔ k ▹ expected≔ (frame k)

abbrev pub filled : ℕ → List (List ℕ) → Row
filled k row = record { controller = decoding k; blocks = 3; row = row }

module _ (u : List ℕ) (size : length u ≡ 2352) where
  pub own : (f : ℕ) → judgement (frame f) (encoded (frame f) u) ≡ no_facts
  own f = judged_own (frame f) u size

  -- frame 5 where frame 0 is expected
  pub not_expected : judgement (frame 0) (encoded (frame 5) u) ≡ address_alone
  not_expected =
      judged_other (frame 5) u size (frame 0) refl refl (λ e. let z : ◌≡◌ {A = ℕ} 0 5 = ap (λ (a : Address). a.frame) e in omega arith)

  pub first : Ran the_row (set_up ++ disc u 0 ∷ []) (opened 3) (ok ∷ ok ∷ ok ∷ ok ∷ []) (filled 1 (encoded (frame 0) u ∷ []))
  unfolding row_answer row_step stepped concluded settled admission counted next registers.write registers.write_bicctl registers.write_acctl registers.write_ctrl0
  first = calls set_up (opened 3) then decoded u size 0 (filled 0 []) _ (own 0)

  pub second : Ran the_row (disc u 1 ∷ []) (filled 1 (encoded (frame 0) u ∷ [])) (ok ∷ []) (filled 2 (encoded (frame 0) u ∷ encoded (frame 1) u ∷ []))
  unfolding concluded settled admission counted next
  second = decoded u size 1 (filled 1 (encoded (frame 0) u ∷ [])) _ (own 1)

-- machines that tell why simulate each other where they do
abbrev pub telling_simulates : {M R : Machine} → Simulation M R → Simulation (telling_why M) (telling_why R)
telling_simulates S = record {
  Related = S.Related;
  opened = S.opened;
  answer = λ c s r h. ap (λ (k : Facts). masked c (replied 0 (why k.judgement))) (S.facts _ _ (S.step c s r h));
  facts = S.facts;
  step = S.step;
}

-- Where no call is hidden, a simulation gives all answers

abbrev pub unhidden : List Call → Bool
unhidden [] = true
unhidden (c ∷ cs) = not (hidden c) && unhidden cs

module _ {M R : Machine} (S : Simulation M R) where
  pub same_answers : (cs : List Call) → unhidden cs ≡ true → (s : M.State) (r : R.State) → S.Related s r → answers M cs s ≡ answers R cs r
  same_answers [] plainly s r h = refl
  same_answers (c ∷ cs) plainly s r h =
      let shown = not-true (hidden c) (left_true (not (hidden c)) (unhidden cs) plainly) in
      ap₂ (λ (a : Answer) (rest : List Answer). a ∷ rest) (simp shown at (S.answer c s r h))
      (same_answers cs (right_true (not (hidden c)) (unhidden cs) plainly) (M.step c s) (R.step c r) (S.step c s r h))

  pub by_simulation : {n : ℕ} {cs : List Call} {rs : List Answer} → 3 ≤ n → n ≤ 255 → unhidden cs ≡ true → Gives R n cs rs → Gives M n cs rs
  by_simulation {n} {cs} low high plainly g =
      record { given = λ x size. same_answers cs plainly (M.opened n x) (R.opened n x) (S.opened n low high x size) ∙ g.given x size }

  pub same_state : (cs : List Call) (s : M.State) (r : R.State) → S.Related s r → S.Related (after M cs s) (after R cs r)
  same_state [] s r h = h
  same_state (c ∷ cs) s r h = same_state cs (M.step c s) (R.step c r) (S.step c s r h)
