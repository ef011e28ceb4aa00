-- `syntax::decimal::Writer::decimal` calls itself, and the measure is the number. Assumes nothing.
use Rattle.syntax.proofs.decimal.Writer.+decimal.Given as goal

abbrev pub decreases-decimal : goal.decreases-decimal
decreases-decimal l = l.n
