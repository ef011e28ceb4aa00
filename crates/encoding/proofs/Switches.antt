-- Switches put into a number one after the other. Assumes nothing.
use Rattle.std.proofs.Common.{◌≡◌, sym, ◌∙◌, ap, refl, ℕ, ◌+◌, ◌*◌, ◌%◌, ◌^◌, ◌<◌, ◌≤◌, Bool, true, false, List, [], ◌∷◌, length, drop, get_or, arith}
use Rattle.std.proofs.Math.Nat.{mul-add, mul_assoc, mul_comm, pow-suc}
use Rattle.std.proofs.lemmas.Nat.{pow-add}
use Rattle.std.proofs.Math.Pow.{pow_mono}
use Rattle.std.proofs.lemmas.List.{at_drop_more}
use mir.Val.{bool_byte}
use Rattle.laws.specs.Numbers.{weight, switches}
use Rattle.laws.proofs.Switches.{weight_one}

byte_is : (b : Bool) → bool_byte b ≡ weight b 1
byte_is true = refl
byte_is false = refl

switches_below : (bs : List Bool) → switches bs < 2 ^ length bs
switches_below [] = omega arith
switches_below (b ∷ bs) = omega (arith, switches_below bs, weight_one b, pow-suc 2 (length bs))

-- the switches from place k on, moved up by k bits: that one, and those behind it
next : (bs : List Bool) (k : ℕ) → k < length bs
    → 2 ^ k * switches (drop k bs) ≡ weight (get_or bs k false) 1 * 2 ^ k + 2 ^ (k + 1) * switches (drop (k + 1) bs)
next bs k h =
    let p = 2 ^ k in
    let w = weight (get_or bs k false) 1 in
    let s = switches (drop (k + 1) bs) in
    let e : 2 ^ (k + 1) ≡ p * 2 = pow-add 2 k 1 in
    ap (λ (n : ℕ). p * n) (at_drop_more switches bs k false h)
    ∙ mul-add p w (2 * s)
    ∙ ap (λ (n : ℕ). n + p * (2 * s)) (mul_comm p w)
    ∙ ap (λ (n : ℕ). w * p + n) (sym (mul_assoc p 2 s) ∙ ap (λ (n : ℕ). n * s) (sym e))

module _ (bs : List Bool) (k : ℕ) (within : k < length bs) (few : length bs ≤ 16) (word : ℕ)
    (so_far : word + 2 ^ k * switches (drop k bs) ≡ switches bs) {x : ℕ} (is : x ≡ bool_byte (get_or bs k false)) where
  small : x * 2 ^ k % 65536 ≡ weight (get_or bs k false) 1 * 2 ^ k
  small =
      let e : x * 2 ^ k ≡ weight (get_or bs k false) 1 * 2 ^ k = ap (λ (n : ℕ). n * 2 ^ k) (is ∙ byte_is (get_or bs k false)) in
      let all = switches_below bs in
      let most : 2 ^ length bs ≤ 65536 = pow_mono {j = 16} few in
      omega (arith, e, next bs k within, so_far)

  pub more : word + x * 2 ^ k % 65536 + 2 ^ (k + 1) * switches (drop (k + 1) bs) ≡ switches bs
  more = omega (arith, small, next bs k within, so_far)

  pub fits : word + x * 2 ^ k % 65536 < 65536
  fits =
      let all = switches_below bs in
      let most : 2 ^ length bs ≤ 65536 = pow_mono {j = 16} few in
      omega (arith, more)
