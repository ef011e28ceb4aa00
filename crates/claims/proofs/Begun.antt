-- The bound of a start's blocks, and what every start leaves. Assumes nothing.
use Prim.Native.Nat.{ℕ, ◌+◌, ◌-◌, ◌*◌, ◌/◌, ◌%◌, ◌<◌, ◌≤◌, min}
use mathlib.Core.Path.{◌≡◌, refl, sym, ap, subst, ◌∙◌}
use mathlib.Core.Bool.{Bool, true, false, ◌||◌}
use native.Mathlib.Nat.{div-add-mod, div-div-eq-div-mul, le-div_iff_mul-le, mul_assoc, mul_comm, mul-pos}
use native.Mathlib.Omega.{arith}
use lib.Dec.{eqb, ltb}
use borrow.Author.Tests.{eqb-true, eqb-false, lt-ltb}
use Rattle.laws.proofs.Choice.{if_case}
use Rattle.laws.proofs.Tests.{clash}
use Rattle.controller.specs.Fields.{◌▹◌, mbc≔, atblo≔, atbhi≔}
use Rattle.controller.specs.Transfer.{limit, start_switches, most_blocks, blocks_asked, start_blocks, blocks_lacking, begun, started}
use Rattle.controller.specs.declared.state.Controller.{Controller}
use Rattle.controller.proofs.Starts.{windowed, some, enough, within, fits}
use Rattle.outcomes.proofs.Starts.{split_byte_count}
use Rattle.claims.specs.Starts.{BoundClaim, Begun}

-- the same two tests for 6: a window that the bound allows a block of, and a good block, give a start a block
some_asked : (c : Controller) → (c.counts.tcc ≡ 0 → ⊥) → 0 < blocks_asked c
some_asked c good =
    if_case (λ (n : ℕ). 0 < n) (eqb c.counts.ttc 0) (c.mbc + 1) (min (limit c) (min c.counts.tcc c.counts.ttc))
    (λ _. omega arith)
    (λ e.
    let ttc = eqb-false c.counts.ttc 0 e in
    let some : 0 < limit c =
    if_case (λ (n : ℕ). 0 < n) (eqb c.acctl.atlim 0) 32 c.acctl.atlim (λ _. omega arith) (λ f. omega (arith, eqb-false c.acctl.atlim 0 f)) in
    omega arith)

some_most : (w : ℕ) → 0 < w → w ≤ 32767 → 0 < most_blocks w
some_most w room small = (le-div_iff_mul-le {k = w * 2} {x = 1} {y = 65534} (omega arith)).1 (omega arith)

lacking : (c : Controller) → 0 < c.window.words → c.window.words ≤ 32767
    → blocks_lacking c ≡ (eqb c.counts.tcc 0 || ltb c.counts.tcc (start_blocks c))
lacking c room small = by (eqb c.counts.tcc 0) (eqb (start_blocks c) 0) refl refl
  where
    by : (a b : Bool) → eqb c.counts.tcc 0 ≡ a → eqb (start_blocks c) 0 ≡ b
        → (b || ltb c.counts.tcc (start_blocks c)) ≡ (a || ltb c.counts.tcc (start_blocks c))
    by true true e f = refl
    by false false e f = refl
    by true false e f = lt-ltb c.counts.tcc (start_blocks c) (omega (arith, eqb-true c.counts.tcc 0 e, eqb-false (start_blocks c) 0 f))
    by false true e f =
        let asked = some_asked c (eqb-false c.counts.tcc 0 e) in
        let most = some_most c.window.words room small in
        let none = eqb-true (start_blocks c) 0 f in
        absurd (omega arith)

pub bound : BoundClaim
bound =
    record {
      within = λ w. within w (most_blocks w) (omega arith);
      most = λ w b room h. (le-div_iff_mul-le {k = w * 2} {x = b} {y = 65534} (omega arith)).1 (subst (λ (n : ℕ). n ≤ 65534) (mul_assoc b w 2) h);
      same_by_65535 = λ w.
          ap (λ (n : ℕ). 65535 / n) (mul_comm w 2) ∙ sym (div-div-eq-div-mul 65535 2 w)
          ∙ div-div-eq-div-mul 65534 2 w ∙ ap (λ (n : ℕ). 65534 / n) (mul_comm 2 w);
      lacking = lacking;
    }

-- MBC+1 blocks begin
begins : (y : Controller) → y.mbc + 1 ≤ y.counts.tcc → 0 < (y.mbc + 1) * y.window.words * 2 → (y.mbc + 1) * y.window.words * 2 ≤ 65534
    → (y.asctrl.stwcen ≡ true → 256 * y.task.atbhi + y.task.atblo ≡ (y.mbc + 1) * y.window.words * 2) → Begun (begun y)
begins y good some most whole =
    record { blocks = refl; good = good; first = refl; atint = refl; drq = refl; bsy = refl; hirq = refl; some = some; most = most; whole = whole }

-- a start that is not refused
pub started_begun : (c : Controller) → start_switches c ≡ true → blocks_lacking c ≡ false → Begun (started c)
started_begun c s e =
    let x = c ▹ mbc≔ (start_blocks c - 1) in
    let w = c.window.words in
    let n = (start_blocks c - 1 + 1) * w * 2 in
    let one = some c e in
    let same : start_blocks c ≡ start_blocks c - 1 + 1 = omega arith in
    let least : 0 < n =
    subst (λ (b : ℕ). 0 < b * w * 2) same (omega (arith, mul-pos one (windowed c s))) in
    let most = subst (λ (b : ℕ). b * w * 2 ≤ 65534) same (fits c) in
    let good : start_blocks c - 1 + 1 ≤ c.counts.tcc = omega (arith, enough c e) in
    split_byte_count (λ (y : Controller). Begun (begun y)) x
    (λ off. begins x good least most (λ on. clash c.asctrl.stwcen off on))
    (λ _. begins (x ▹ atblo≔ (n % 256) ▹ atbhi≔ (n / 256)) good least most (λ _. div-add-mod n 256))
