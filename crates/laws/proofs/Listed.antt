-- Lists made by a function, and tests of all the numbers below a bound. Assumes nothing.
use mathlib.Core.Path.{◌≡◌, refl, sym, ap, ap₂, ◌∙◌, subst}
use mathlib.Core.Bool.{Bool, true, false, ◌&&◌}
use mathlib.Core.List.{List}
use Prim.Native.Nat.{ℕ, zero, suc, ◌<◌}
use native.Mathlib.Nat.{lt-suc_self, not-suc-le-zero, le_of_suc-le-suc}
use native.Mathlib.Omega.{arith}
use native.Mathlib.Decide.{dec_lt}
use lib.ListN.{length, get_or}
use lib.Seq.{ext_get_or}
use Rattle.laws.specs.Bytes.{Bytes}
use Rattle.laws.specs.Listed.{listed, all_below}
use Rattle.laws.proofs.Bytes.{bytes_nil, bytes_cons}
use Rattle.laws.proofs.Choice.{both_true, left_true, right_true}

pub length_listed : (n : ℕ) (f : ℕ → ℕ) → length (listed n f) ≡ n
length_listed zero f = refl
length_listed (suc n) f = ap suc (length_listed n (λ (k : ℕ). f (suc k)))

pub getD_listed : (n : ℕ) (f : ℕ → ℕ) (k : ℕ) → k < n → get_or (listed n f) k 0 ≡ f k
getD_listed zero f k h = absurd (not-suc-le-zero h)
getD_listed (suc n) f zero h = refl
getD_listed (suc n) f (suc k) h = getD_listed n (λ (k : ℕ). f (suc k)) k (le_of_suc-le-suc h)

-- two functions that agree below n list the same
pub listed_same : (n : ℕ) (f g : ℕ → ℕ) → ((k : ℕ) → k < n → f k ≡ g k) → listed n f ≡ listed n g
listed_same n f g e =
    ext_get_or 0 (listed n f) (listed n g) (length_listed n f ∙ sym (length_listed n g))
    (λ (k : ℕ) (h : k < length (listed n f)).
    let l : k < n = subst (λ (m : ℕ). k < m) (length_listed n f) h in
    getD_listed n f k l ∙ e k l ∙ sym (getD_listed n g k l))

-- a list is what it is made of
pub listed_of : (n : ℕ) (f : ℕ → ℕ) (xs : List ℕ) → length xs ≡ n → ((k : ℕ) → k < n → get_or xs k 0 ≡ f k) → xs ≡ listed n f
listed_of n f xs size e =
    ext_get_or 0 xs (listed n f) (size ∙ sym (length_listed n f))
    (λ (k : ℕ) (h : k < length xs).
    let l : k < n = subst (λ (m : ℕ). k < m) size h in
    e k l ∙ sym (getD_listed n f k l))

pub bytes_listed : (n : ℕ) (f : ℕ → ℕ) → ((k : ℕ) → f k < 256) → Bytes (listed n f)
bytes_listed zero f h = bytes_nil
bytes_listed (suc n) f h = bytes_cons (f 0) (listed n (λ (k : ℕ). f (suc k))) (h 0) (bytes_listed n (λ (k : ℕ). f (suc k)) (λ (k : ℕ). h (suc k)))

-- all of them, and each
pub below_at : (n : ℕ) (f : ℕ → Bool) → all_below n f ≡ true → (k : ℕ) → k < n → f k ≡ true
below_at zero f t k h = absurd (not-suc-le-zero h)
below_at (suc n) f t k h =
    elim (dec_lt k n) [
      | yes l ↦ below_at n f (left_true (all_below n f) (f n) t) k l
      | no l ↦ (let e : k ≡ n = omega arith in ap f e ∙ right_true (all_below n f) (f n) t)
    ]

pub below_all : (n : ℕ) (f : ℕ → Bool) → ((k : ℕ) → k < n → f k ≡ true) → all_below n f ≡ true
below_all zero f t = refl
below_all (suc n) f t =
    both_true (all_below n f) (f n) (below_all n f (λ (k : ℕ) (h : k < n). t k (omega arith))) (t n (lt-suc_self n))

pub below_same : (n : ℕ) (f g : ℕ → Bool) → ((k : ℕ) → k < n → f k ≡ g k) → all_below n f ≡ all_below n g
below_same zero f g e = refl
below_same (suc n) f g e =
    ap₂ (λ (a b : Bool). a && b) (below_same n f g (λ (k : ℕ) (h : k < n). e k (omega arith))) (e n (lt-suc_self n))

-- one that fails
pub below_fails : (n : ℕ) (f : ℕ → Bool) (k : ℕ) → k < n → f k ≡ false → all_below n f ≡ false
below_fails n f k h e = of (all_below n f) refl
  where
    of : (b : Bool) → all_below n f ≡ b → b ≡ false
    of true t = sym (below_at n f t k h) ∙ e
    of false t = refl
