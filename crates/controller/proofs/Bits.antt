-- The bits that are named, one by one, and two switches that are not the same. Assumes nothing.
use mathlib.Core.Bool.{Bool, true, false, not, beq}
use Rattle.std.proofs.Common.{◌≡◌, ◌∙◌, ap, ℕ, ◌+◌, ◌*◌, ◌/◌, ◌%◌, ◌^◌, ◌<◌, ◌≤◌, List, [], ◌∷◌, length, drop, get_or, bit_and, refl, arith}
use Rattle.std.proofs.Math.Nat.{mul-le-mul_right}
use Rattle.std.proofs.Math.Pow.{pow_mono}
use Rattle.std.proofs.lemmas.Nat.{and_mask}
use Rattle.std.proofs.lemmas.List.{at_drop_more}
use Rattle.controller.specs.Bits.{kept, differs}

kept_first : (k : ℕ) (ks : List ℕ) (v : ℕ) → kept (k ∷ ks) v ≡ v / 2 ^ k % 2 * 2 ^ k + kept ks v
kept_first k [] v = omega arith
kept_first k (j ∷ js) v = refl

-- the bits from place i on: that one, and those behind it
pub kept_next : (ks : List ℕ) (i v : ℕ) → i < length ks → kept (drop i ks) v ≡ v / 2 ^ get_or ks i 0 % 2 * 2 ^ get_or ks i 0 + kept (drop (i + 1) ks) v
kept_next ks i v h = at_drop_more (λ (xs : List ℕ). kept xs v) ks i 0 h ∙ kept_first (get_or ks i 0) (drop (i + 1) ks) v

-- a bit moved down and up again fits in 32 bits
pub moved : (v k : ℕ) → k < 16 → (bit_and (v / 2 ^ k) 1 * 2 ^ k % 4294967296 ≡ v / 2 ^ k % 2 * 2 ^ k) × (v / 2 ^ k % 2 * 2 ^ k ≤ 32768)
moved v k h =
    let one : bit_and (v / 2 ^ k) 1 * 2 ^ k ≡ v / 2 ^ k % 2 * 2 ^ k = ap (λ (n : ℕ). n * 2 ^ k) (and_mask (v / 2 ^ k) 1) in
    let most : v / 2 ^ k % 2 * 2 ^ k ≤ 1 * 2 ^ k = mul-le-mul_right (2 ^ k) (omega arith) in
    let low : 2 ^ k ≤ 32768 = pow_mono {j = 15} (omega arith) in
    (omega (arith, one, most, low), omega (arith, most, low))

-- two switches that are not the same, as `!=` tests it
pub differs_by_beq : (a b : Bool) → not (beq a b) ≡ differs a b
differs_by_beq true true = refl
differs_by_beq true false = refl
differs_by_beq false true = refl
differs_by_beq false false = refl
