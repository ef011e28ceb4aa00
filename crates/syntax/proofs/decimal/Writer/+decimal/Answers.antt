-- `syntax::decimal::Writer::decimal` meets its contract. Assumes nothing.
use mathlib.Core.Path.{◌∙◌}
use Rattle.syntax.proofs.Written.{last_digit}
use Rattle.syntax.proofs.decimal.Writer.+decimal.Goals as goal

pub returns-else-n-lt10 : goal.returns-else-n-lt10
returns-else-n-lt10 t c = record {
  same = c.byte-else-n-lt10.ensures.same ∙ c.decimal.ensures.same;
  written = last_digit c.args.n c.if-n-lt10.false c.decimal.ensures.written c.byte-else-n-lt10.ensures.written;
}
