-- What is claimed of the replies; proofs/Claims.antt proves it. Assumes nothing.
use Rattle.std.specs.Prelude.{◌≡◌, ℕ, ◌<◌, ◌≤◌, Result}
use Rattle.reply.specs.Reply.{number, reply_of}
use Rattle.reply.specs.declared.Refusal.{Refusal}

-- a refusal has a number of the table and never that of a call that is done; a reply tells all of a call's result, so that an equation of replies fixes it
pub record ReplyClaim : Type 0 where
  pub numbered : (r : Refusal) → (0 < number r) × (number r ≤ 9)
  pub apart : (x y : Result ℕ Refusal) → reply_of x ≡ reply_of y → x ≡ y
