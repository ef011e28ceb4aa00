-- Switches as the bits of a number: each bit is its switch. Assumes nothing.
use mathlib.Core.Path.{◌≡◌, refl, sym, ◌∙◌, ap}
use mathlib.Core.Bool.{Bool, true, false}
use mathlib.Core.List.{List, [], ◌∷◌}
use Prim.Native.Nat.{ℕ, zero, suc, ◌+◌, ◌*◌, ◌/◌, ◌%◌, ◌^◌, ◌≤◌}
use native.Mathlib.Nat.{mul-one, zero-div}
use native.Mathlib.Omega.{arith}
use lib.Dec.{eqb}
use lib.ListN.{get_or}
use lib.Pow.{shr-shr}
use Rattle.laws.specs.Numbers.{weight, switches}

pub weight_times : (b : Bool) (w : ℕ) → weight b w ≡ w * weight b 1
weight_times true w = sym (mul-one w)
weight_times false w = omega arith

pub weight_one : (b : Bool) → weight b 1 ≤ 1
weight_one true = omega arith
weight_one false = omega arith

pub switch_at : (bs : List Bool) (k : ℕ) → switches bs / 2 ^ k % 2 ≡ weight (get_or bs k false) 1
switch_at [] k = ap (λ (x : ℕ). x % 2) (zero-div (2 ^ k))
switch_at (b ∷ bs) zero = let h = weight_one b in omega arith
switch_at (b ∷ bs) (suc k) =
    let h = weight_one b in
    let half : (weight b 1 + 2 * switches bs) / 2 ≡ switches bs = omega arith in
    let next : suc k ≡ 1 + k = omega arith in
    ap (λ (x : ℕ). (weight b 1 + 2 * switches bs) / 2 ^ x % 2) next
    ∙ ap (λ (x : ℕ). x % 2) (sym (shr-shr (weight b 1 + 2 * switches bs) 1 k) ∙ ap (λ (x : ℕ). x / 2 ^ k) half)
    ∙ switch_at bs k

pub weight_tests : (b : Bool) → eqb (weight b 1) 1 ≡ b
weight_tests true = refl
weight_tests false = refl
