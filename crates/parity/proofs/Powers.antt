-- The powers of the element: 255 of them, no two alike, each element but 0 one of them. So a product is a sum of exponents, and the laws of a field
-- follow. Assumes nothing.
use mathlib.Core.Path.{◌≡◌, refl, sym, ap, ap₂, ◌∙◌}
use mathlib.Core.Bool.{Bool, true, not, ◌&&◌, false≢true}
use mathlib.Core.Logic.{◌⊎◌, inl, inr, ⊎_elim}
use Prim.Native.Nat.{ℕ, zero, suc, ◌+◌, ◌-◌, ◌^◌, ◌<◌, ◌≤◌}
use native.Mathlib.Nat.{add_comm, suc-ne-zero, not-suc-le-zero, le_of_suc-le-suc}
use native.Mathlib.Omega.{arith}
use lib.Dec.{eqb}
use lib.Bits.{bit_xor, xor_comm}
use borrow.Author.Tests.{eqb-true, eq-eqb}
use Rattle.laws.specs.Listed.{all_below}
use Rattle.laws.proofs.Choice.{left_true, right_true}
use Rattle.laws.proofs.Listed.{below_at}
use Rattle.laws.proofs.Linear.{agree, same}
use Rattle.laws.proofs.Pigeonhole.{Reached, pigeonhole}
use Rattle.laws.proofs.Wrap.{lt_or_ge}
use Rattle.parity.specs.Field.{times_x, product_bits, product, power}
use Rattle.parity.specs.Claims.{Exponent}
use Rattle.parity.proofs.FieldLaws.{product_lt, product_xor_l, product_xor_r, product_times_x, product_zero_l, product_zero_r, product_two, scaled, scaled_xor, scaled_add, times_x_zero, power_scaled, power_lt, scaled_power, product_scaled}

-- Linear functions: a test of the eight bits

-- bit k is x, k times
bit_right : ℕ → Bool
bit_right k = eqb (scaled k 1) (2 ^ k) && eqb (product 1 (2 ^ k)) (2 ^ k)

eight_bits : all_below 8 bit_right ≡ true
unfolding bit_right scaled times_x product_bits
eight_bits = refl

bit_scaled : (k : ℕ) → k < 8 → scaled k 1 ≡ 2 ^ k
unfolding bit_right
bit_scaled k h =
    eqb-true (scaled k 1) (2 ^ k) (left_true (eqb (scaled k 1) (2 ^ k)) (eqb (product 1 (2 ^ k)) (2 ^ k)) (below_at 8 bit_right eight_bits k h))

bit_once : (k : ℕ) → k < 8 → product 1 (2 ^ k) ≡ 2 ^ k
unfolding bit_right
bit_once k h =
    eqb-true (product 1 (2 ^ k)) (2 ^ k)
    (right_true (eqb (scaled k 1) (2 ^ k)) (eqb (product 1 (2 ^ k)) (2 ^ k)) (below_at 8 bit_right eight_bits k h))

pub product_one_l : (b : ℕ) → b < 256 → product 1 b ≡ b
product_one_l b h = agree (product 1) (λ (x : ℕ). x) (product_xor_r 8 1) same 8 bit_once b h

-- the powers come round
round : scaled 255 1 ≡ 1
unfolding scaled times_x
round = refl

pub power_255 : power 255 ≡ 1
power_255 = power_scaled 255 ∙ round

pub scaled_255 : (a : ℕ) → a < 256 → scaled 255 a ≡ a
scaled_255 a h =
    agree (scaled 255) (λ (x : ℕ). x) (scaled_xor 255) same 8
    (λ (k : ℕ) (l : k < 8).
    ap (scaled 255) (sym (bit_scaled k l)) ∙ sym (scaled_add 255 k 1) ∙ ap (λ (n : ℕ). scaled n 1) (add_comm 255 k) ∙ scaled_add k 255 1
    ∙ ap (scaled k) round ∙ bit_scaled k l)
    a h

pub scaled_back : (k a : ℕ) → k ≤ 255 → a < 256 → scaled (255 - k) (scaled k a) ≡ a
scaled_back k a hk h = sym (scaled_add (255 - k) k a) ∙ ap (λ (n : ℕ). scaled n a) e ∙ scaled_255 a h
  where
    e : 255 - k + k ≡ 255
    e = omega arith

pub scaled_inj : (k a b : ℕ) → k ≤ 255 → a < 256 → b < 256 → scaled k a ≡ scaled k b → a ≡ b
scaled_inj k a b hk ha hb e = sym (scaled_back k a hk ha) ∙ ap (scaled (255 - k)) e ∙ scaled_back k b hk hb

pub product_power : (n b : ℕ) → b < 256 → product (power n) b ≡ scaled n b
product_power n b h = ap (λ (x : ℕ). product x b) (power_scaled n) ∙ product_scaled n 1 b ∙ ap (scaled n) (product_one_l b h)

pub power_add : (m n : ℕ) → product (power m) (power n) ≡ power (m + n)
power_add m n = product_power m (power n) (power_lt n) ∙ scaled_power m n

-- The order: none of the powers 1 to 254 is 1

never_one : ℕ → ℕ → Bool
never_one zero e = true
never_one (suc n) e = not (eqb e 1) && never_one n (times_x e)

none_earlier : never_one 254 2 ≡ true
unfolding never_one times_x
none_earlier = refl

not_one : (n e k : ℕ) → never_one n e ≡ true → k < n → scaled k e ≡ 1 → ⊥
unfolding never_one scaled
not_one zero e k t h r = not-suc-le-zero h
not_one (suc n) e zero t h r =
    false≢true (sym (ap not (eq-eqb e 1 r)) ∙ left_true (not (eqb e 1)) (never_one n (times_x e)) t)
not_one (suc n) e (suc k) t h r =
    not_one n (times_x e) k (right_true (not (eqb e 1)) (never_one n (times_x e)) t) (le_of_suc-le-suc h) (turn k e ∙ r)
  where
    turn : (k e : ℕ) → scaled k (times_x e) ≡ times_x (scaled k e)
    turn zero e = refl
    turn (suc k) e = ap times_x (turn k e)

two : times_x 1 ≡ 2
unfolding times_x
two = refl

once_more : (k : ℕ) → power (suc k) ≡ scaled k 2
unfolding scaled
once_more k = power_scaled (suc k) ∙ ap (λ (n : ℕ). scaled n 1) e ∙ scaled_add k 1 1 ∙ ap (scaled k) two
  where
    e : suc k ≡ k + 1
    e = omega arith

pub order : (n : ℕ) → 0 < n → n < 255 → power n ≡ 1 → ⊥
order zero p h e = not-suc-le-zero p
order (suc k) p h e = not_one 254 2 k none_earlier (omega arith) (sym (once_more k) ∙ e)

-- so no two of the first 255 are alike
apart : (i j : ℕ) → i < j → j < 255 → power i ≡ power j → ⊥
apart i j l h e =
    order (j - i) (omega arith) (omega arith)
    (scaled_inj i (power (j - i)) 1 (omega arith) (power_lt (j - i)) (omega arith)
    (scaled_power i (j - i) ∙ ap power back ∙ sym e ∙ power_scaled i))
  where
    back : i + (j - i) ≡ j
    back = omega arith

pub power_inj : (i j : ℕ) → i < 255 → j < 255 → power i ≡ power j → i ≡ j
power_inj i j hi hj e =
    ⊎_elim (λ (l : i < j). absurd (apart i j l hj e))
    (λ (l : j ≤ i). ⊎_elim (λ (m : j < i). absurd (apart j i m hi (sym e))) (λ (m : i ≤ j). omega arith) (lt_or_ge j i))
    (lt_or_ge i j)

times_x_inj : (a b : ℕ) → a < 256 → b < 256 → times_x a ≡ times_x b → a ≡ b
unfolding scaled
times_x_inj a b ha hb e = scaled_inj 1 a b (omega arith) ha hb e

pub power_not_zero : (n : ℕ) → power n ≡ 0 → ⊥
unfolding power
power_not_zero zero e = suc-ne-zero 0 e
power_not_zero (suc n) e =
    power_not_zero n (times_x_inj (power n) 0 (power_lt n) (omega arith) (sym (product_two (power n)) ∙ e ∙ sym times_x_zero))

-- and each element but 0 is one of them
pub exponent : (a : ℕ) → 0 < a → a < 256 → Exponent a
exponent a p h =
    let r : Reached less 255 (a - 1) = pigeonhole 255 less inside injective (a - 1) (omega arith) in
    let some : 0 < power r.from = positive r.from in
    record { of = r.from; below = r.below; is = back (power r.from) a some p r.reaches }
  where
    less : ℕ → ℕ
    less k = power k - 1

    positive : (k : ℕ) → 0 < power k
    positive k = let n : power k ≡ 0 → ⊥ = power_not_zero k in omega arith

    inside : (k : ℕ) → k < 255 → less k < 255
    inside k l = omega (arith, positive k, power_lt k)

    back : (b c : ℕ) → 0 < b → 0 < c → b - 1 ≡ c - 1 → b ≡ c
    back b c pb pc e = omega arith

    injective : (i j : ℕ) → i < 255 → j < 255 → less i ≡ less j → i ≡ j
    injective i j hi hj e = power_inj i j hi hj (back (power i) (power j) (positive i) (positive j) e)

-- The laws of a field

pub product_comm : (a b : ℕ) → a < 256 → b < 256 → product a b ≡ product b a
product_comm zero b ha hb = product_zero_l 8 b ∙ sym (product_zero_r 8 b)
product_comm (suc a) zero ha hb = product_zero_r 8 (suc a) ∙ sym (product_zero_l 8 (suc a))
product_comm (suc a) (suc b) ha hb =
    let m = exponent (suc a) (omega arith) ha in
    let n = exponent (suc b) (omega arith) hb in
    ap₂ product (sym m.is) (sym n.is) ∙ power_add m.of n.of ∙ ap power (add_comm m.of n.of)
    ∙ sym (power_add n.of m.of) ∙ ap₂ product n.is m.is

pub product_assoc : (a b c : ℕ) → a < 256 → b < 256 → c < 256 → product (product a b) c ≡ product a (product b c)
product_assoc zero b c ha hb hc =
    ap (λ (x : ℕ). product x c) (product_zero_l 8 b) ∙ product_zero_l 8 c ∙ sym (product_zero_l 8 (product b c))
product_assoc (suc a) b c ha hb hc =
    let m = exponent (suc a) (omega arith) ha in
    ap (λ (x : ℕ). product (product x b) c) (sym m.is) ∙ ap (λ (x : ℕ). product x c) (product_power m.of b hb) ∙ product_scaled m.of b c
    ∙ sym (product_power m.of (product b c) (product_lt 8 b c hb)) ∙ ap (λ (x : ℕ). product x (product b c)) m.is

pub no_divisors : (a b : ℕ) → a < 256 → b < 256 → product a b ≡ 0 → (a ≡ 0) ⊎ (b ≡ 0)
no_divisors zero b ha hb e = inl refl
no_divisors (suc a) zero ha hb e = inr refl
no_divisors (suc a) (suc b) ha hb e =
    let m = exponent (suc a) (omega arith) ha in
    let n = exponent (suc b) (omega arith) hb in
    absurd (power_not_zero (m.of + n.of) (sym (power_add m.of n.of) ∙ ap₂ product m.is n.is ∙ e))

-- the element 3 = 1 + x is power 25, and power 230 divides by it
twenty_five : scaled 25 1 ≡ 3
unfolding scaled times_x
twenty_five = refl

pub three : (a : ℕ) → a < 256 → bit_xor (times_x a) a ≡ scaled 25 a
three a h =
    xor_comm (times_x a) a
    ∙ sym (ap₂ bit_xor (product_one_l a h) (ap (λ (x : ℕ). product x a) (sym two) ∙ product_times_x 8 1 a ∙ ap times_x (product_one_l a h)))
    ∙ sym (product_xor_l 8 1 2 a) ∙ ap (λ (x : ℕ). product x a) (sym (power_scaled 25 ∙ twenty_five)) ∙ product_power 25 a h
