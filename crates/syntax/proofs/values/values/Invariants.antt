-- What holds in the loop of `syntax::values::values`: the numbers so far, carried on over what is left, are the line's.
-- Assumes nothing.
use Rattle.std.proofs.Common.{◌≡◌, drop}
use Rattle.std.specs.Prelude.{Some}
use Rattle.syntax.specs.Grammar.{onward, none}
use Rattle.syntax.proofs.values.values.Given as goal

abbrev pub invariant-loop-byte : goal.invariant-loop-byte
invariant-loop-byte l = onward (Some l.numbers) (drop l.byte-index l.line) ≡ onward (Some none) l.line
