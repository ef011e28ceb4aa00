-- The claim of specs/Claims.antt is proved. Assumes nothing.
use Rattle.std.proofs.Common.{eqb, false, ◌≡◌, ℕ, ◌<◌, ◌≤◌, Result, Ok, Err, refl, sym, ap, ◌∙◌, zero, suc, arith}
use Rattle.reply.specs.Reply.{Reply, number, reply_of}
use Rattle.reply.specs.Claims.{ReplyClaim}
use Rattle.reply.specs.declared.Refusal.{Refusal}
use Rattle.reply.specs.declared.Refusal.TheVariants.{Unfit, Unlisted, OutOfRange, Barred, Unready, TooFew, DecoderOff, AfterBad, AtStop}

-- the result that a reply stands for
told : ℕ → ℕ → Result ℕ Refusal
told zero x = Ok x
told (suc zero) _ = Err Unfit
told (suc (suc zero)) _ = Err Unlisted
told (suc (suc (suc zero))) _ = Err OutOfRange
told (suc (suc (suc (suc zero)))) _ = Err Barred
told (suc (suc (suc (suc (suc zero))))) _ = Err Unready
told (suc (suc (suc (suc (suc (suc zero)))))) _ = Err TooFew
told (suc (suc (suc (suc (suc (suc (suc zero))))))) _ = Err DecoderOff
told (suc (suc (suc (suc (suc (suc (suc (suc zero)))))))) _ = Err AfterBad
told (suc (suc (suc (suc (suc (suc (suc (suc (suc _))))))))) _ = Err AtStop

told_again : (x : Result ℕ Refusal) → told (reply_of x).number (reply_of x).result ≡ x
unfolding told
told_again (Ok x) = refl
told_again (Err Unfit) = refl
told_again (Err Unlisted) = refl
told_again (Err OutOfRange) = refl
told_again (Err Barred) = refl
told_again (Err Unready) = refl
told_again (Err TooFew) = refl
told_again (Err DecoderOff) = refl
told_again (Err AfterBad) = refl
told_again (Err AtStop) = refl

numbered : (r : Refusal) → (0 < number r) × (number r ≤ 9)
numbered Unfit = (omega arith, omega arith)
numbered Unlisted = (omega arith, omega arith)
numbered OutOfRange = (omega arith, omega arith)
numbered Barred = (omega arith, omega arith)
numbered Unready = (omega arith, omega arith)
numbered TooFew = (omega arith, omega arith)
numbered DecoderOff = (omega arith, omega arith)
numbered AfterBad = (omega arith, omega arith)
numbered AtStop = (omega arith, omega arith)

pub reply_holds : ReplyClaim
reply_holds = record {
  numbered = numbered;
  apart = λ x y h. sym (told_again x) ∙ ap (λ (r : Reply). told r.number r.result) h ∙ told_again y;
}

-- a refusal's number is not that of a call that is done
pub nonzero : (r : Refusal) → eqb (number r) 0 ≡ false
nonzero Unfit = refl
nonzero Unlisted = refl
nonzero OutOfRange = refl
nonzero Barred = refl
nonzero Unready = refl
nonzero TooFew = refl
nonzero DecoderOff = refl
nonzero AfterBad = refl
nonzero AtStop = refl
