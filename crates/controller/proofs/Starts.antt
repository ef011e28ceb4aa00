-- What the tests of a start say of its window and its blocks. Assumes nothing.
use Prim.Native.Nat.{ℕ, ◌*◌, ◌<◌, ◌≤◌}
use mathlib.Core.Path.{◌≡◌, subst, sym}
use mathlib.Core.Bool.{true, false, not}
use native.Mathlib.Nat.{div-mul-le_self, mul_assoc, mul-le-mul_right}
use native.Mathlib.Omega.{arith}
use lib.Dec.{eqb, ltb}
use borrow.Author.Tests.{eqb-false, ltb-false, not-true}
use Rattle.laws.proofs.Tests.{and4, or_false}
use Rattle.controller.specs.Transfer.{start_switches, most_blocks, start_blocks, blocks_lacking}
use Rattle.controller.specs.declared.state.Controller.{Controller}

-- a start has a window
pub windowed : (c : Controller) → start_switches c ≡ true → 0 < c.window.words
windowed c s =
    let on = and4 c.acctl.acmen c.asctrl.adcen (not (eqb c.window.words 0)) c.atsta.bsy s in
    omega (arith, eqb-false c.window.words 0 (not-true (eqb c.window.words 0) on.2))

-- it has blocks, and not more than TCC
pub some : (c : Controller) → blocks_lacking c ≡ false → 0 < start_blocks c
some c e = omega (arith, eqb-false (start_blocks c) 0 (or_false (eqb (start_blocks c) 0) (ltb c.counts.tcc (start_blocks c)) e).0)

pub enough : (c : Controller) → blocks_lacking c ≡ false → start_blocks c ≤ c.counts.tcc
enough c e = ltb-false c.counts.tcc (start_blocks c) (or_false (eqb (start_blocks c) 0) (ltb c.counts.tcc (start_blocks c)) e).1

-- their bytes do not pass 65,534
pub within : (w b : ℕ) → b ≤ most_blocks w → b * w * 2 ≤ 65534
within w b h =
    let most = div-mul-le_self 65534 (w * 2) in
    let less = mul-le-mul_right (w * 2) h in
    subst (λ (n : ℕ). n ≤ 65534) (sym (mul_assoc b w 2)) (omega arith)

pub fits : (c : Controller) → start_blocks c * c.window.words * 2 ≤ 65534
fits c = within c.window.words (start_blocks c) (omega arith)
