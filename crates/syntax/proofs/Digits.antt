-- A number in decimal is its last digit after the rest of it, and takes as many digits as its size says. Assumes nothing.
use mathlib.Core.Path.{◌≡◌, ap, subst, ◌∙◌}
use mathlib.Core.Bool.{false}
use mathlib.Core.List.{List, [], ◌∷◌, ◌++◌}
use mathlib.Core.Logic.{⊎_elim}
use Prim.Native.Nat.{ℕ, zero, suc, ◌+◌, ◌/◌, ◌%◌, ◌^◌, ◌<◌, ◌≤◌}
use native.Mathlib.Nat.{pow-suc, div-lt_iff_lt-mul}
use native.Mathlib.Omega.{arith}
use lib.Dec.{ltb}
use lib.ListN.{length, length-append}
use borrow.Author.Tests.{lt-ltb, le-ltb, ltb-false}
use Rattle.laws.proofs.Choice.{if_true, if_false, else_same}
use Rattle.laws.proofs.Wrap.{lt_or_ge}
use Rattle.syntax.specs.Print.{decimal_upto, decimal}

-- the count that bounds the digits does not matter where it is above the number
upto_same : (k m n : ℕ) → n < k → n < m → decimal_upto k n ≡ decimal_upto m n
unfolding decimal_upto
upto_same zero m n hk hm = absurd (omega arith)
upto_same (suc k) zero n hk hm = absurd (omega arith)
upto_same (suc k) (suc m) n hk hm =
    else_same (ltb n 10) ((48 + n) ∷ []) (decimal_upto k (n / 10) ++ ((48 + n % 10) ∷ [])) (decimal_upto m (n / 10) ++ ((48 + n % 10) ∷ []))
    (λ (f : ltb n 10 ≡ false). let h : 10 ≤ n = ltb-false n 10 f in
    ap (λ (l : List ℕ). l ++ ((48 + n % 10) ∷ [])) (upto_same k m (n / 10) (omega arith) (omega arith)))

pub decimal_one : (n : ℕ) → n < 10 → decimal n ≡ (48 + n) ∷ []
unfolding decimal decimal_upto
decimal_one n h = if_true _ _ _ (lt-ltb n 10 h)

pub decimal_more : (n : ℕ) → 10 ≤ n → decimal n ≡ decimal (n / 10) ++ ((48 + n % 10) ∷ [])
unfolding decimal decimal_upto
decimal_more n h =
    if_false _ _ _ (le-ltb n 10 h)
    ∙ ap (λ (l : List ℕ). l ++ ((48 + n % 10) ∷ [])) (upto_same n (suc (n / 10)) (n / 10) (omega arith) (omega arith))

pub length_more : (n : ℕ) → 10 ≤ n → length (decimal n) ≡ length (decimal (n / 10)) + 1
length_more n h = ap length (decimal_more n h) ∙ length-append (decimal (n / 10)) ((48 + n % 10) ∷ [])

one_digit : (k n : ℕ) → n < 10 → length (decimal n) ≤ suc k
one_digit k n h = omega (arith, ap length (decimal_one n h))

-- a number below 10 to the k takes k digits at most
pub length_decimal : (k n : ℕ) → n < 10 ^ suc k → length (decimal n) ≤ suc k
length_decimal zero n h = one_digit zero n h
length_decimal (suc k) n h =
    ⊎_elim (one_digit (suc k) n)
    (λ (l : 10 ≤ n). let below : n / 10 < 10 ^ suc k = (div-lt_iff_lt-mul (omega arith)).1 (subst (λ (p : ℕ). n < p) (pow-suc 10 (suc k)) h) in
    omega (arith, length_more n l, length_decimal k (n / 10) below))
    (lt_or_ge n 10)

-- as many as a type's numbers have
pub digits_w8 : (n : ℕ) → n < 256 → length (decimal n) ≤ 3
digits_w8 n h = length_decimal 2 n (omega arith)

pub digits_w16 : (n : ℕ) → n < 65536 → length (decimal n) ≤ 5
digits_w16 n h = length_decimal 4 n (omega arith)

pub digits_w64 : (n : ℕ) → n < 18446744073709551616 → length (decimal n) ≤ 20
digits_w64 n h = length_decimal 19 n (omega arith)

pub digits_bit : (n : ℕ) → n < 10 → length (decimal n) ≤ 1
digits_bit n h = length_decimal 0 n (omega arith)
