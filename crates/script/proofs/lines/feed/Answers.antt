-- `script::lines::feed` meets its contract. Assumes nothing.
use Rattle.std.proofs.Common.{◌≡◌, ◌+◌, ◌-◌, ◌≤◌, ℕ, List, ap, eqb, length, take, drop, ◌∙◌, inl, inr, arith, length-drop}
use Rattle.std.specs.Prelude.{position}
use borrow.Rule.Slice.PartMut.{put_mid, mid_of}
use Rattle.laws.proofs.Ends.{put_length}
use Rattle.laws.proofs.Parts.{mid_rest}
use Rattle.script.specs.Feed.{begun}
use Rattle.script.specs.Bench.{ran}
use Rattle.script.proofs.Feeding.{line_end_is, turned, left}
use Rattle.script.proofs.lines.feed.Goals as goal

pub loop-out-preserved : goal.loop-out-preserved
loop-out-preserved c =
    let a = c.args in
    let l = c.loop-out in
    let r = c.run-ran in
    let o = r.new.out in
    let hr = c.loop-out-test.true in
    let he = line_end_is (drop l.taken a.text.now) (c.in-Some.ensures ∙ ap (λ (t : List ℕ). position (λ b. eqb b 10) t) (mid_rest l.taken a.text.now)) in
    let ld : length (drop l.taken a.text.now) ≡ length a.text.now - l.taken = length-drop l.taken a.text.now in
    let hz : l.size + r.result.size ≤ length l.out = omega (arith, r.ensures.within, hr) in
    let lo : length (put_mid l.size (length l.out - l.size) l.out o) ≡ length l.out = put_length l.out o l.size l.invariant.size r.auto.out in
    let d = begun a.start a.memory.now a.sector.now in record {
      stands = turned (length a.out.now) d a.text.now a.out.now l.bench l.memory l.sector l.out l.size l.taken c.in-Some.length l.invariant.stands
          l.invariant.out l.invariant.size hr he.1 he.0 _ r.result _ _ _ (mid_rest l.size l.out)
          (r.ensures.told ∙ ap (λ (t : List ℕ). ran l.bench l.memory l.sector (take c.in-Some.length t) (mid_of l.size (length l.out - l.size) l.out)) (mid_rest l.taken a.text.now));
      taken = omega (arith, ld, he.1);
      size = omega (arith, hz, lo);
      memory = r.auto.memory ∙ l.invariant.memory;
      sector = r.auto.sector ∙ l.invariant.sector;
      out = lo ∙ l.invariant.out;
    }

pub returns-after-loop-out-clause-told : goal.returns-after-loop-out-clause-told
returns-after-loop-out-clause-told c =
    let i = c.loop-out.invariant in
    left i.stands i.out i.size (inl (omega (arith, c.loop-out-test.false, i.out, i.size)))

pub returns-in_default-clause-told : goal.returns-in_default-clause-told
returns-in_default-clause-told c =
    let l = c.loop-out in
    let i = l.invariant in
    let t = c.args.text.now in
    left i.stands i.out i.size (inr (line_end_is (drop l.taken t) (c.in_default.ensures ∙ ap (λ (t : List ℕ). position (λ b. eqb b 10) t) (mid_rest l.taken t))))
