-- `syntax::form::form` meets its contract. Assumes nothing.
use Rattle.std.proofs.Common.{add-zero, ◌≡◌, ◌<◌, ◌&&◌, length, take, sym, ◌∙◌, ap, Bool, ◌+◌, arith, length-set, append-nil}
use Rattle.std.specs.Prelude.{if◌then◌else◌}
use Rattle.syntax.proofs.Reading.{grows_le, form_step, form_end}
use Rattle.syntax.proofs.form.form.Goals as goal
use Rattle.syntax.proofs.form.form.Goals.{then-not-inside-digit, else-not-inside-digit}

pub loop-byte-preserved : goal.loop-byte-preserved
loop-byte-preserved c =
    let l = c.loop-byte in
    let j = c.if-not-inside-digit in
    let X = c.args.line.now in
    let d = c.is_ascii_digit-digit in
    let hi : l.byte-index < length X = omega arith in
    let hk : l.at < length l.space = omega arith in
    let e : j.at ≡ l.at + (if l.inside && d.result then 0 else 1) = elim j.branch [
      | then-not-inside-digit w ↦ w.at-is ∙ ap (λ (t : Bool). l.at + (if t then 0 else 1)) (sym w.if-not-inside-digit.true)
      | else-not-inside-digit w ↦ w.at-is ∙ sym (add-zero l.at) ∙ ap (λ (t : Bool). l.at + (if t then 0 else 1)) (sym w.if-not-inside-digit.false)
    ] in
    let q : j.inside ≡ d.result = elim j.branch [ then-not-inside-digit w ↦ w.inside-is | else-not-inside-digit w ↦ w.inside-is ] in
    let g = grows_le (l.inside && d.result) l.at e in record {
      at = omega (arith, g);
      long = length-set l.space l.at c.mark.result ∙ l.invariant.long;
      form = form_step l.inside l.byte-index l.at X l.space hi hk c.mark.ensures (q ∙ d.ensures.value) (e ∙ ap (λ (t : Bool). l.at + (if l.inside && t then 0 else 1)) (sym q)) ∙ l.invariant.form;
    }

pub returns : goal.returns
returns c =
    let l = c.loop-byte in
    let X = c.args.line.now in
    sym (append-nil _) ∙ sym (form_end l.inside X l.byte-index (take l.at l.space) (omega arith)) ∙ l.invariant.form
