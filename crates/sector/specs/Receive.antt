-- A sector as it is received from the disc (paper 01, "The ring"). Assumes nothing.
use Rattle.std.specs.Prelude.{List, ℕ}
use Rattle.scramble.specs.Scramble.{scrambled}
use Rattle.sector.specs.declared.Address.{Address}
use Rattle.sector.specs.declared.Judgement.{Judgement}
use Rattle.sector.specs.Judge.{judgement}

pub record Received : Type 0 where
  pub bytes : List ℕ
  pub judgement : Judgement

-- descrambled, and judged against the address that is expected of it
unfoldable pub received : Address → List ℕ → Received
received a s = record { bytes = scrambled s; judgement = judgement a (scrambled s) }
