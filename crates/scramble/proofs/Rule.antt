-- The table has the scrambler's rule: one test that antt computes over the run of its bits.
-- Assumes nothing.
use mathlib.Core.Path.{◌≡◌, refl, sym, ap, ap₂, ◌∙◌, subst}
use mathlib.Core.Bool.{Bool, true, false, ◌&&◌, false≢true}
use mathlib.Core.List.{List, [], ◌∷◌}
use Prim.Native.Nat.{ℕ, zero, suc, ◌+◌, ◌*◌, ◌/◌, ◌%◌, ◌^◌, ◌<◌}
use native.Mathlib.Nat.{zero-div, le_of_suc-le-suc, not-suc-le-zero, div-add-mod', mod-lt, zero-lt-suc, add_comm, suc-mul}
use native.Mathlib.Numerals.{add-one}
use native.Mathlib.Omega.{arith}
use lib.Dec.{eqb}
use borrow.Author.Tests.{eqb-true}
use lib.ListN.{length, get_or, drop}
use lib.Seq.{get_or-drop}
use lib.Bits.{differ}
use Rattle.laws.proofs.Choice.{left_true, right_true}
use Rattle.scramble.specs.Table.{table}
use Rattle.scramble.specs.Rule.{bit_at, Scrambler}

-- the run of bits as a list
run : List ℕ → List ℕ
run [] = []
run (b ∷ bs) =
    b / 1 % 2 ∷ b / 2 % 2 ∷ b / 4 % 2 ∷ b / 8 % 2 ∷ b / 16 % 2 ∷ b / 32 % 2 ∷ b / 64 % 2 ∷ b / 128 % 2 ∷ run bs

run_at : (t : List ℕ) (i j : ℕ) → j < 8 → get_or (run t) (i * 8 + j) 0 ≡ get_or t i 0 / 2 ^ j % 2
unfolding run
run_at [] i j h = sym (ap (λ (x : ℕ). x % 2) (zero-div (2 ^ j)))
run_at (b ∷ t) zero zero h = refl
run_at (b ∷ t) zero (suc zero) h = refl
run_at (b ∷ t) zero (suc (suc zero)) h = refl
run_at (b ∷ t) zero (suc (suc (suc zero))) h = refl
run_at (b ∷ t) zero (suc (suc (suc (suc zero)))) h = refl
run_at (b ∷ t) zero (suc (suc (suc (suc (suc zero))))) h = refl
run_at (b ∷ t) zero (suc (suc (suc (suc (suc (suc zero)))))) h = refl
run_at (b ∷ t) zero (suc (suc (suc (suc (suc (suc (suc zero))))))) h = refl
run_at (b ∷ t) zero (suc (suc (suc (suc (suc (suc (suc (suc j)))))))) h = absurd (let z : ⊥ = omega arith in z)
run_at (b ∷ t) (suc i) j h =
    let e : suc i * 8 + j ≡ suc (suc (suc (suc (suc (suc (suc (suc (i * 8 + j)))))))) = omega (arith, suc-mul i 8) in
    ap (λ (n : ℕ). get_or (run (b ∷ t)) n 0) e ∙ run_at t i j h

run_is : (t : List ℕ) (n : ℕ) → get_or (run t) n 0 ≡ bit_at t n
unfolding bit_at
run_is t n = ap (λ (m : ℕ). get_or (run t) m 0) (sym (div-add-mod' n 8)) ∙ run_at t (n / 8) (n % 8) (mod-lt n (zero-lt-suc 7))

-- each bit of zs is the xor of the bit of xs at its place and the next
lead : List ℕ → List ℕ → Bool
lead xs [] = true
lead [] (z ∷ zs) = false
lead (x ∷ xs) (z ∷ zs) = eqb z (differ x (get_or xs 0 0)) && lead xs zs

lead_at : (xs zs : List ℕ) → lead xs zs ≡ true → (n : ℕ) → n < length zs → get_or zs n 0 ≡ differ (get_or xs n 0) (get_or xs (suc n) 0)
unfolding lead
lead_at xs [] t n h = absurd (not-suc-le-zero h)
lead_at [] (z ∷ zs) t n h = absurd (false≢true t)
lead_at (x ∷ xs) (z ∷ zs) t zero h = eqb-true z (differ x (get_or xs 0 0)) (left_true (eqb z (differ x (get_or xs 0 0))) (lead xs zs) t)
lead_at (x ∷ xs) (z ∷ zs) t (suc n) h = lead_at xs zs (right_true (eqb z (differ x (get_or xs 0 0))) (lead xs zs) t) n (le_of_suc-le-suc h)

test : lead (run table) (drop 15 (run table)) ≡ true
unfolding table run lead
test = refl

long : length (drop 15 (run table)) ≡ 18705
unfolding table run
long = refl

-- the fourteen zeros
abbrev zeros : ℕ → List ℕ → Bool
zeros zero xs = true
zeros (suc n) [] = false
zeros (suc n) (x ∷ xs) = eqb x 0 && zeros n xs

zeros_at : (m : ℕ) (xs : List ℕ) → zeros m xs ≡ true → (n : ℕ) → n < m → get_or xs n 0 ≡ 0
zeros_at zero xs t n h = absurd (not-suc-le-zero h)
zeros_at (suc m) [] t n h = absurd (false≢true t)
zeros_at (suc m) (x ∷ xs) t zero h = eqb-true x 0 (left_true (eqb x 0) (zeros m xs) t)
zeros_at (suc m) (x ∷ xs) t (suc n) h = zeros_at m xs (right_true (eqb x 0) (zeros m xs) t) n (le_of_suc-le-suc h)

zeros_test : zeros 14 (drop 1 (run table)) ≡ true
unfolding table run
zeros_test = refl

table_first : bit_at table 0 ≡ 1
unfolding bit_at table
table_first = refl

table_zeros : (n : ℕ) → n < 14 → bit_at table (n + 1) ≡ 0
table_zeros n h =
    sym (run_is table (n + 1)) ∙ ap (λ (m : ℕ). get_or (run table) m 0) (add_comm n 1)
    ∙ sym (get_or-drop 1 (run table) n 0) ∙ zeros_at 14 (drop 1 (run table)) zeros_test n h

table_rule : (n : ℕ) → n + 15 < 18720 → bit_at table (n + 15) ≡ differ (bit_at table n) (bit_at table (n + 1))
table_rule n h =
    sym (run_is table (n + 15)) ∙ ap (λ (m : ℕ). get_or (run table) m 0) (add_comm n 15)
    ∙ sym (get_or-drop 15 (run table) n 0)
    ∙ lead_at (run table) (drop 15 (run table)) test n (subst (λ (m : ℕ). n < m) (sym long) (omega arith))
    ∙ ap₂ differ (run_is table n) (ap (λ (m : ℕ). get_or (run table) m 0) (sym (add-one n)) ∙ run_is table (n + 1))

pub scrambler : Scrambler table 18720
scrambler = record { first = table_first; zeros = table_zeros; rule = table_rule }
