-- `sector::checks::code_right` meets its contract. Assumes nothing.
use Rattle.std.proofs.Common.{◌≡◌, ℕ, ◌+◌, ◌-◌, List, take, drop, ap, ap₂, ◌∙◌, arith}
use Rattle.laws.specs.Same.{same}
use Rattle.edc.specs.Edc.{edc}
use Rattle.sector.specs.Sector.{low4}
use Rattle.sector.specs.Judge.{code_right}
use Rattle.sector.proofs.Frames.{covered_part}
use Rattle.sector.proofs.checks.code_right.Goals as goal

pub returns : goal.returns
unfolding code_right
returns c =
    let l = c.layout-layout.result in
    let s = c.args.sector.now in
    let four : l.code + 4 - l.code ≡ 4 = omega arith in
    let code = c.to_le_bytes.ensures ∙ ap (λ (e : ℕ). low4 e) (c.edc-edc.ensures ∙ ap (λ (x : List ℕ). edc 0 x) (covered_part l s c.layout-layout.ensures.fits)) in
    rw (← c.layout-layout.ensures.value) (c.equal.ensures ∙ ap₂ (λ (n : ℕ) (x : List ℕ). same (take n (drop l.code s)) x) four code)
