-- The four facts: what is made of them, FactsClaim. Assumes nothing.
use mathlib.Core.Path.{◌≡◌, refl, sym, ap, ◌∙◌}
use mathlib.Core.Bool.{Bool, true, false, not, ◌&&◌, ◌||◌}
use Prim.Native.Nat.{ℕ, ◌+◌, ◌*◌, ◌<◌, ◌≤◌}
use native.Mathlib.Omega.{arith}
use lib.Dec.{eqb}
use borrow.Author.Tests.{ne_eqb}
use Rattle.laws.specs.Numbers.{weight}
use Rattle.laws.proofs.Switches.{weight_one, weight_times, weight_tests}
use Rattle.sector.specs.declared.Judgement.{Judgement}
use Rattle.sector.specs.Judge.{sync_holds, mode_holds, edc_holds, address_holds, judgement, staerr, tarsta_byte, why}
use Rattle.sector.specs.Claims.{FactsClaim}
use Rattle.sector.proofs.Answers.{same_facts}

-- What is made of them

tarsta_is : (b c d e : Bool) → tarsta_byte (record { sync = not b; mode = not c; edc = not d; address = not e }) ≡ weight (not (b && (c && d))) 0x40 + weight (not e) 0x01
tarsta_is true true true e = refl
tarsta_is true true false e = refl
tarsta_is true false d e = refl
tarsta_is false c d e = refl

-- a number with a weight in it is not 0
some : (n : ℕ) → 0 < n → false ≡ eqb n 0
some n h = sym (ne_eqb n 0 (λ z. omega arith))

why_of_good : (b c d e : Bool) → not ((b || (c || d)) || e) ≡ eqb (weight b 8 + weight c 4 + weight d 2 + weight e 1) 0
why_of_good true c d e = some (8 + weight c 4 + weight d 2 + weight e 1) (omega arith)
why_of_good false true d e = some (4 + weight d 2 + weight e 1) (omega arith)
why_of_good false false true e = some (2 + weight e 1) (omega arith)
why_of_good false false false true = refl
why_of_good false false false false = refl

tarsta_of_good : (staerr address : Bool) → not (staerr || address) ≡ eqb (weight staerr 0x40 + weight address 0x01) 0
tarsta_of_good true e = some (0x40 + weight e 1) (omega arith)
tarsta_of_good false true = refl
tarsta_of_good false false = refl

-- a switch is known from its weight, and the four from their sum
weight_tells : (x y : Bool) → weight x 1 ≡ weight y 1 → x ≡ y
weight_tells x y e = sym (weight_tests x) ∙ ap (λ (n : ℕ). eqb n 1) e ∙ weight_tests y

module _ (i j : Judgement) (e : why i ≡ why j) where
  -- each number of 0 and 1 for the facts of i, and the same sums
  parts : (x : Judgement) → (weight x.sync 1 ≤ 1) × (weight x.mode 1 ≤ 1) × (weight x.edc 1 ≤ 1) × (weight x.address 1 ≤ 1)
  parts x = (weight_one x.sync, weight_one x.mode, weight_one x.edc, weight_one x.address)

  sums : (x : Judgement) → why x ≡ 8 * weight x.sync 1 + 4 * weight x.mode 1 + 2 * weight x.edc 1 + weight x.address 1
  sums x = simp (weight_times x.sync 8, weight_times x.mode 4, weight_times x.edc 2)

  tells : i ≡ j
  tells =
      let p = parts i in
      let q = parts j in
      let f = sym (sums i) ∙ e ∙ sums j in
      let s : weight i.sync 1 ≡ weight j.sync 1 = omega (arith, p, q, f) in
      let m : weight i.mode 1 ≡ weight j.mode 1 = omega (arith, p, q, f) in
      let d : weight i.edc 1 ≡ weight j.edc 1 = omega (arith, p, q, f) in
      let a : weight i.address 1 ≡ weight j.address 1 = omega (arith, p, q, f) in
      same_facts i j (weight_tells i.sync j.sync s) (weight_tells i.mode j.mode m) (weight_tells i.edc j.edc d) (weight_tells i.address j.address a)

below : (j : Judgement) → why j < 16
below j =
    let s = weight_one j.sync in
    let m = weight_one j.mode in
    let d = weight_one j.edc in
    let a = weight_one j.address in
    omega (arith, weight_times j.sync 8, weight_times j.mode 4, weight_times j.edc 2)

pub facts : FactsClaim
unfolding judgement
facts = record {
  tarsta = λ a s. tarsta_is (sync_holds s) (mode_holds s) (edc_holds s) (address_holds a s);
  why_good = λ j. why_of_good j.sync j.mode j.edc j.address;
  tarsta_good = λ j. tarsta_of_good (staerr j) j.address;
  sync_8 = refl;
  mode_4 = refl;
  edc_2 = refl;
  address_1 = refl;
  why_below = below;
  why_tells = tells;
}
