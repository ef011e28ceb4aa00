-- What holds in the loop of `syntax::form::form`: what is written, and behind it the form of what is left, is the line's form. Assumes nothing.
use Rattle.std.proofs.Common.{◌≡◌, ◌++◌, ◌≤◌, length, take, drop}
use Rattle.syntax.specs.Grammar.{form}
use Rattle.syntax.proofs.form.form.Given as goal

abbrev pub invariant-loop-byte : goal.invariant-loop-byte
invariant-loop-byte l =
    record {
      at : l.at ≤ l.byte-index;
      long : length l.space ≡ length l.initial.space;
      form : take l.at l.space ++ form l.inside (drop l.byte-index l.line) ≡ form l.initial.inside l.line;
    }
