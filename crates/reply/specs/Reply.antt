-- The two kinds of reply (paper 01, "Reply numbers"). Assumes nothing.
use Rattle.std.specs.Prelude.{ℕ, Result, Ok, Err}
use Rattle.reply.specs.declared.Refusal.{Refusal}
use Rattle.reply.specs.declared.Refusal.TheVariants.{Unfit, Unlisted, OutOfRange, Barred, Unready, TooFew, DecoderOff, AfterBad, AtStop}

-- a number of the table, 0 where the call is done, and a result, 0 where it is refused or has none
pub record Reply : Type 0 where
  pub number : ℕ
  pub result : ℕ

-- refused with a number of the table: the result is 0
abbrev pub refusal : ℕ → Reply
refusal n = record { number = n; result = 0 }

-- done, with a result
abbrev pub answer : ℕ → Reply
answer x = record { number = 0; result = x }

-- the table: 1 what is lent, asked for or recorded is not of its size or not sound, 2 a register not listed, 3 out of range, 4 barred, 5 switches, 6 fewer
-- than asked, 7 DECEN low, 8 after a bad sector, 9 at the stop
abbrev pub number : Refusal → ℕ
number Unfit = 1
number Unlisted = 2
number OutOfRange = 3
number Barred = 4
number Unready = 5
number TooFew = 6
number DecoderOff = 7
number AfterBad = 8
number AtStop = 9

-- the number that a call answers: 0 where it is done
abbrev pub number_of : {A : Type 0} → Result A Refusal → ℕ
number_of (Ok x) = 0
number_of (Err r) = number r

-- the reply that a call's result stands for
abbrev pub reply_of : Result ℕ Refusal → Reply
reply_of (Ok x) = answer x
reply_of (Err r) = refusal (number r)

-- the same of a call that has no result
abbrev pub done_of : Result (Unit {0}) Refusal → Reply
done_of (Ok x) = answer 0
done_of (Err r) = refusal (number r)
