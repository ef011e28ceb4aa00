-- `syntax::print::print` meets its contract. Assumes nothing.
use mathlib.Core.Path.{◌≡◌, refl, ◌∙◌}
use mathlib.Core.Bool.{Bool, true, false}
use mir.Val.{bool_byte}
use Prim.Native.Nat.{◌≤◌}
use native.Mathlib.Omega.{arith}
use Rattle.std.proofs.Common.{rules}
use Rattle.std.proofs.lemmas.Grind.{common_steps}
use Rattle.syntax.proofs.Digits.{digits_w8, digits_w16, digits_w64, digits_bit}
use Rattle.syntax.proofs.Written.{none, then, at_front}
use Rattle.syntax.specs.Print.{flag, printed, longest, over}
use Rattle.syntax.proofs.print.print.Goals as goal

flag_is : (b : Bool) → bool_byte b ≡ flag b
flag_is true = refl
flag_is false = refl

pub returns : goal.returns
unfolding printed
returns c =
    let rows = simp (c.into.ensures, c.into-2.ensures, c.into-3.ensures, c.into-4.ensures, c.into-5.ensures ∙ flag_is c.args.s.irq) at (
    then c.field.ensures.wrote.written
    (then c.field-2.ensures.wrote.written
    (then c.field-3.ensures.wrote.written
    (then c.field-4.ensures.wrote.written
    (then c.field-5.ensures.wrote.written
    (then c.field-6.ensures.wrote.written (then c.field-7.ensures.wrote.written none))))))
    ) in
    let short : c.text.new.self.at ≤ longest = grind (arith, common_steps, digits_w8, digits_w16, digits_w64, digits_bit) in
    let all = at_front {l = c.args.out.now} (omega arith) (then rows c.text.ensures.written) in
    let text : c.text.new.self.out.now ≡ over (printed c.args.s) c.args.out.now = all.1 in
    record { value = all.0; out_after = search rules; upper_bound = short }
