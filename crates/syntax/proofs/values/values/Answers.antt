-- `syntax::values::values` meets its contract. Assumes nothing.
use Rattle.std.proofs.Common.{sym, ◌∙◌, arith, drop}
use Rattle.std.specs.Prelude.{Some, ◌+◌}
use Rattle.syntax.proofs.Reading.{onward_step, onward_end, onward_none}
use Rattle.syntax.proofs.values.values.Goals as goal

pub loop-byte-preserved : goal.loop-byte-preserved
loop-byte-preserved c =
    let l = c.loop-byte in
    onward_step (Some l.numbers) c.args.line.now l.byte-index (omega arith) c.in_ok-numbers.ensures ∙ l.invariant

pub returns-in_err-numbers : goal.returns-in_err-numbers
returns-in_err-numbers c =
    let l = c.loop-byte in
    let x = c.args.line.now in
    c.from_residual.ensures ∙ sym (onward_none (drop (l.byte-index + 1) x))
    ∙ onward_step (Some l.numbers) x l.byte-index (omega arith) c.in_err-numbers.ensures ∙ l.invariant

pub returns : goal.returns
returns c =
    let l = c.loop-byte in
    let x = c.args.line.now in
    sym (onward_end (Some l.numbers) x l.byte-index (omega arith)) ∙ l.invariant
