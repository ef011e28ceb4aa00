-- The register moved on with no data: linear over xor, of 32 bits, and invertible, since the generator's lowest coefficient is 1.
-- Assumes nothing.
use mathlib.Core.Path.{◌≡◌, refl, sym, ap, ap₂, ◌∙◌, subst}
use Prim.Native.Nat.{ℕ, zero, suc, ◌+◌, ◌*◌, ◌/◌, ◌%◌, ◌^◌, ◌<◌, ◌≤◌}
use native.Mathlib.Nat.{zero-mul, one-mul, mul-one, zero-add, suc-add, mod-lt, add_comm, lt_of_lt_of_le}
use native.Mathlib.Numerals.{add-one}
use native.Mathlib.Omega.{arith}
use lib.Arith.{lt-one}
use lib.Pow.{split, pow_pos, pow_mono, shr_lt}
use lib.Bits.{bit_xor, differ, xor_zero_r, xor_self, xor_comm, xor_lt, xor_shifted, shifted_half, shifted_even}
use Rattle.laws.proofs.Xor.{xor_half, xor_odd, xor_swap, xor_four, odd_lt}
use Rattle.laws.proofs.Sum.{times}
use Rattle.laws.proofs.Cancel.{same_of_xor}
use Rattle.edc.specs.Edc.{feedback, feedback_is, fed1, fed}
use Rattle.edc.specs.Fold.{shift, shifts}

-- a data byte may be xored into the register first
pub fed_xor : (k r b : ℕ) → b < 2 ^ k → fed k r b ≡ shifts k (bit_xor r b)
unfolding fed fed1 shift shifts
fed_xor zero r b h = sym (ap (bit_xor r) (lt-one h) ∙ xor_zero_r r)
fed_xor (suc k) r b h =
    fed_xor k (fed1 r (b % 2)) (b / 2) (shr_lt k 1 (subst (λ (n : ℕ). b < 2 ^ n) (sym (add-one k)) h))
    ∙ ap (shifts k)
    (xor_swap (r / 2) (differ (r % 2) (b % 2) * feedback) (b / 2)
    ∙ sym (ap₂ (λ (x y : ℕ). bit_xor x (y * feedback)) (xor_half r b) (xor_odd r b)))

shift_xor : (x y : ℕ) → shift (bit_xor x y) ≡ bit_xor (shift x) (shift y)
unfolding shift
shift_xor x y =
    ap₂ bit_xor (xor_half x y) (ap (λ (d : ℕ). d * feedback) (xor_odd x y) ∙ times (x % 2) (y % 2) feedback (odd_lt x) (odd_lt y))
    ∙ xor_four (x / 2) (y / 2) (x % 2 * feedback) (y % 2 * feedback)

pub shifts_xor : (k x y : ℕ) → shifts k (bit_xor x y) ≡ bit_xor (shifts k x) (shifts k y)
unfolding shifts
shifts_xor zero x y = refl
shifts_xor (suc k) x y = ap (shifts k) (shift_xor x y) ∙ shifts_xor k (shift x) (shift y)

pub shifts_add : (a b x : ℕ) → shifts (a + b) x ≡ shifts b (shifts a x)
unfolding shifts
shifts_add zero b x = ap (λ (n : ℕ). shifts n x) (zero-add b)
shifts_add (suc a) b x = ap (λ (n : ℕ). shifts n x) (suc-add a b) ∙ shifts_add a b (shift x)

-- two runs in either order
pub shifts_comm : (a b x : ℕ) → shifts a (shifts b x) ≡ shifts b (shifts a x)
shifts_comm a b x = sym (shifts_add b a x) ∙ ap (λ (n : ℕ). shifts n x) (add_comm b a) ∙ shifts_add a b x

-- zeros fall out
shift_even : (q k : ℕ) → shift (q * 2 ^ suc k) ≡ q * 2 ^ k
unfolding shift
shift_even q k =
    ap₂ (λ (x y : ℕ). bit_xor x (y * feedback)) (shifted_half q k) (shifted_even q k)
    ∙ ap (bit_xor (q * 2 ^ k)) (zero-mul feedback) ∙ xor_zero_r (q * 2 ^ k)

pub shifts_high : (k q : ℕ) → shifts k (q * 2 ^ k) ≡ q
unfolding shifts
shifts_high zero q = mul-one q
shifts_high (suc k) q = ap (shifts k) (shift_even q k) ∙ shifts_high k q

pub shifts_empty : (n : ℕ) → shifts n 0 ≡ 0
shifts_empty n = ap (shifts n) (sym (zero-mul (2 ^ n))) ∙ shifts_high n 0

-- the k low bits by themselves, and the rest moved down
pub shifts_split : (k x : ℕ) → shifts k x ≡ bit_xor (shifts k (x % 2 ^ k)) (x / 2 ^ k)
shifts_split k x =
    ap (shifts k) (sym (split x k) ∙ sym (xor_shifted (x / 2 ^ k) k (x % 2 ^ k) (mod-lt x (pow_pos k))))
    ∙ shifts_xor k (x / 2 ^ k * 2 ^ k) (x % 2 ^ k)
    ∙ ap (λ (y : ℕ). bit_xor y (shifts k (x % 2 ^ k))) (shifts_high k (x / 2 ^ k))
    ∙ xor_comm (x / 2 ^ k) (shifts k (x % 2 ^ k))

-- 32 bits
shift_lt : (x : ℕ) → x < 2 ^ 32 → shift x < 2 ^ 32
unfolding shift
shift_lt x h = xor_lt 32 (x / 2) (x % 2 * feedback) (omega arith) (rw feedback_is (omega (arith, odd_lt x)))

pub shifts_lt : (k x : ℕ) → x < 2 ^ 32 → shifts k x < 2 ^ 32
unfolding shifts
shifts_lt zero x h = h
shifts_lt (suc k) x h = shifts_lt k (shift x) (shift_lt x h)

-- w more bits than a register has are gone after w bits
pub shifts_width : (w x : ℕ) → x < 2 ^ (32 + w) → shifts w x < 2 ^ 32
unfolding shifts shift
shifts_width zero x h = h
shifts_width (suc w) x h =
    shifts_width w (shift x)
    (xor_lt (32 + w) (x / 2) (x % 2 * feedback) (shr_lt (32 + w) 1 (subst (λ (n : ℕ). x < 2 ^ n) e h))
    (lt_of_lt_of_le low (pow_mono f)))
  where
    e : 32 + suc w ≡ 32 + w + 1
    e = omega arith

    f : 32 ≤ 32 + w
    f = omega arith

    low : x % 2 * feedback < 2 ^ 32
    low = rw feedback_is (omega (arith, odd_lt x))

-- only 0 goes to 0: an odd x would have half of it equal to the feedback, which has bit 31
none : (x d : ℕ) → x < 2 ^ 32 → x % 2 ≡ d → bit_xor (x / 2) (d * feedback) ≡ 0 → x ≡ 0
none x zero h o e = let z : x / 2 ≡ 0 = same_of_xor (x / 2) 0 (ap (bit_xor (x / 2)) (sym (zero-mul feedback)) ∙ e) in omega arith
none x (suc zero) h o e =
    let z : x / 2 ≡ 0xD8018001 = same_of_xor (x / 2) (1 * feedback) e ∙ one-mul feedback ∙ feedback_is in
    omega arith
none x (suc (suc d)) h o e = omega (arith, odd_lt x)

shift_zero : (x : ℕ) → x < 2 ^ 32 → shift x ≡ 0 → x ≡ 0
unfolding shift
shift_zero x h e = none x (x % 2) h refl e

shifts_zero : (k x : ℕ) → x < 2 ^ 32 → shifts k x ≡ 0 → x ≡ 0
unfolding shifts
shifts_zero zero x h e = e
shifts_zero (suc k) x h e = shift_zero x h (shifts_zero k (shift x) (shift_lt x h) e)

-- two registers that become equal are equal
pub shifts_only : (k x y : ℕ) → x < 2 ^ 32 → y < 2 ^ 32 → shifts k x ≡ shifts k y → x ≡ y
shifts_only k x y hx hy e =
    same_of_xor x y
    (shifts_zero k (bit_xor x y) (xor_lt 32 x y hx hy)
    (shifts_xor k x y ∙ ap (bit_xor (shifts k x)) (sym e) ∙ xor_self (shifts k x)))
