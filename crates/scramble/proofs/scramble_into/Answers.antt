-- `scramble::scramble_into` meets its contract. Assumes nothing.
use Rattle.std.proofs.Common.{arith, ◌≡◌, ◌∙◌, ap, length, length-append, length-drop, take, drop, get_or-take}
use Rattle.std.proofs.lemmas.List.{get_or_append_left, length-take-le}
use Rattle.scramble.proofs.Scrambled.{scrambled_is}
use Rattle.scramble.proofs.scramble_into.Goals as goal

pub loop-i-init : goal.loop-i-init
loop-i-init c =
    let y = c.copy_from_slice.new.self in
    let s = c.args.src.now in
    let sync : y ≡ take 12 s = c.copy_from_slice.ensures.after in
    let front : length (take 12 s) ≡ 12 = length-take-le 12 s (omega arith) in
    let size : length y ≡ 12 = ap length sync ∙ front in
    record {
      size = simp (length-append, length-drop) (omega (arith, size));
      sync = λ k h. rw sync (get_or_append_left (take 12 s) (drop 12 c.args.dst.now) 0 k (omega arith) ∙ get_or-take 12 s k 0 h);
      done = λ k h. absurd (omega arith);
    }

pub returns : goal.returns
returns c =
    let l = c.loop-i.invariant in
    scrambled_is _ _ c.told-src l.size l.sync (λ k h. l.done k (omega arith))
