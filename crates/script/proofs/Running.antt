-- A line that is run: what its steps leave, joined into the bench's definition. Assumes nothing.
use Rattle.std.proofs.Common.{◌≡◌, ℕ, ◌≤◌, List, length, sym, ap, ◌∙◌, ap₂, le-ltb}
use Rattle.std.specs.Prelude.{Option}
use Rattle.laws.proofs.Choice.{if_false}
use Rattle.syntax.specs.Grammar.{parse}
use Rattle.syntax.specs.Print.{printed, room, over}
use Rattle.syntax.specs.declared.line.Line.{Line}
use Rattle.syntax.specs.declared.print.Shown.{Shown}
use Rattle.script.specs.Answers.{Answer, Answered, answered, shown}
use Rattle.script.specs.Bench.{ran, reply, carried_left, count, told, after}
use Rattle.script.specs.Disc.{carried_after}
use Rattle.script.specs.declared.Bench.{Bench}

-- where there is room
pub ran_is : (b : Bench) (m s line out : List ℕ) → room ≤ length out → ran b m s line out ≡ told (reply b m s line) (carried_left b line (reply b m s line).answer.number) (count b) out
unfolding ran
ran_is b m s line out h = if_false _ _ _ (le-ltb _ _ h)

-- the steps of a line: read, answered, shown, printed
module _ (b : Bench) (m s line out : List ℕ) (h : room ≤ length out) (l : Option Line) (a : Answer) (b' : Bench) (m' s' out' : List ℕ) (size : ℕ) (t : Shown) where
  pub runs : l ≡ parse line → record { answer = a; memory = m'; sector = s' } ≡ answered b.chip b.carried m s l
      → b' ≡ after a (carried_after b.carried l a.number) (count b) → t ≡ shown a (count b) → size ≡ length (printed t) → out' ≡ over (printed t) out
      → record { result = record { bench = b'; size = size }; memory = m'; sector = s'; out = out' } ≡ ran b m s line out
  runs el ea eb et es eo =
      ap (λ (x : Bench). record { result = record { bench = x; size = size }; memory = m'; sector = s'; out = out' }) eb
      ∙ ap₂ (λ (k : ℕ) (o : List ℕ). record { result = record { bench = after a (carried_after b.carried l a.number) (count b); size = k }; memory = m'; sector = s'; out = o })
      (es ∙ ap (λ (u : Shown). length (printed u)) et) (eo ∙ ap (λ (u : Shown). over (printed u) out) et)
      ∙ ap (λ (x : Option Line). told (record { answer = a; memory = m'; sector = s' }) (carried_after b.carried x a.number) (count b) out) el
      ∙ ap (λ (x : Answered). told x (carried_left b line x.answer.number) (count b) out) (ea ∙ ap (answered b.chip b.carried m s) el)
      ∙ sym (ran_is b m s line out h)
