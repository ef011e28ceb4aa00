-- `syntax::decimal::Writer::field` meets its contract. Assumes nothing.
use mathlib.Core.Path.{◌∙◌}
use Rattle.syntax.proofs.Written.{same_length, then}
use Rattle.syntax.proofs.decimal.Writer.field.Goals as goal

pub returns-clause-wrote : goal.returns-clause-wrote
returns-clause-wrote c = record { same = c.decimal.ensures.same ∙ c.text.ensures.same; written = then c.text.ensures.written c.decimal.ensures.written }

pub returns-clause-len : goal.returns-clause-len
returns-clause-len c = same_length (then c.text.ensures.written c.decimal.ensures.written)
