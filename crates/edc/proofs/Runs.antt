-- Words of 64 bits fed to an empty register: equal runs, the first word of a run, and a word of a list stored or xored into.
-- Assumes nothing.
use mathlib.Core.Path.{◌≡◌, refl, sym, ap, ap₂, ◌∙◌}
use mathlib.Core.List.{List, [], ◌∷◌}
use mathlib.Core.Logic.{⊎_elim}
use Prim.Native.Nat.{ℕ, zero, suc, ◌+◌, ◌-◌, ◌*◌, ◌<◌, ◌≤◌}
use native.Mathlib.Omega.{arith}
use lib.ListN.{length, get_or, set}
use lib.Seq.{get_or-set_same, get_or-set_other}
use lib.Bits.{bit_xor, xor_comm}
use Rattle.laws.proofs.Xor.{xor_assoc}
use Rattle.laws.proofs.Wrap.{lt_or_ge}
use Rattle.laws.proofs.Sum.{sums, op, ◌⊕◌}
use Rattle.edc.specs.Fold.{shifts, code, along}
use Rattle.edc.proofs.Shifts.{shifts_xor, shifts_add, shifts_empty}

-- the same words
pub code_same : (g h : ℕ → ℕ) (n : ℕ) → ((k : ℕ) → k < n → g k ≡ h k) → code g n ≡ code h n
unfolding code
code_same g h zero e = refl
code_same g h (suc n) e =
    ap₂ (λ (x y : ℕ). shifts 64 (bit_xor x y)) (code_same g h n (λ k l. e k (omega arith))) (e n (omega arith))

pub code_zeros : (g : ℕ → ℕ) (n : ℕ) → ((k : ℕ) → g k ≡ 0) → code g n ≡ 0
unfolding code
code_zeros g zero z = refl
code_zeros g (suc n) z = ap₂ (λ (x y : ℕ). shifts 64 (bit_xor x y)) (code_zeros g n z) (z n) ∙ shifts_empty 64

-- one turn more
pub shifts_more : (n m x : ℕ) → m ≡ n + 64 → shifts 64 (shifts n x) ≡ shifts m x
shifts_more n m x e = sym (shifts_add n 64 x) ∙ ap (λ (k : ℕ). shifts k x) (sym e)

-- the first word goes by itself
pub code_first : (g : ℕ → ℕ) (n : ℕ) → code g (suc n) ≡ bit_xor (shifts (64 * suc n) (g 0)) (code (λ (k : ℕ). g (suc k)) n)
unfolding code
code_first g zero = ap (shifts 64) (xor_comm 0 (g 0)) ∙ shifts_xor 64 (g 0) 0 ∙ ap (bit_xor (shifts 64 (g 0))) (shifts_empty 64)
code_first g (suc n) =
    let e : 64 * suc (suc n) ≡ 64 * suc n + 64 = omega arith in
    ap (λ (x : ℕ). shifts 64 (bit_xor x (g (suc n)))) (code_first g n)
    ∙ ap (shifts 64) (xor_assoc (shifts (64 * suc n) (g 0)) (code (λ (k : ℕ). g (suc k)) n) (g (suc n)))
    ∙ shifts_xor 64 (shifts (64 * suc n) (g 0)) (bit_xor (code (λ (k : ℕ). g (suc k)) n) (g (suc n)))
    ∙ ap (λ (x : ℕ). bit_xor x (code (λ (k : ℕ). g (suc k)) (suc n))) (shifts_more (64 * suc n) (64 * suc (suc n)) (g 0) e)

pub list_first : (l : List ℕ) (i n : ℕ) → code (along l i) (suc n) ≡ bit_xor (shifts (64 * suc n) (get_or l i 0)) (code (along l (i + 1)) n)
list_first l i n =
    let z : i + 0 ≡ i = omega arith in
    code_first (along l i) n
    ∙ ap₂ (λ (x y : ℕ). bit_xor (shifts (64 * suc n) x) y) (ap (λ (k : ℕ). get_or l k 0) z)
    (code_same (λ (k : ℕ). along l i (suc k)) (along l (i + 1)) n (λ k h. let e : i + suc k ≡ i + 1 + k = omega arith in ap (λ (m : ℕ). get_or l m 0) e))

-- a word stored after a run
code_set_past : (l : List ℕ) (i n k v : ℕ) → i + n ≤ k → code (along (set l k v) i) n ≡ code (along l i) n
code_set_past l i n k v h = code_same (along (set l k v) i) (along l i) n (λ m q. get_or-set_other l k (i + m) v 0 (λ e. omega arith))

-- a word xored into a run
pub code_xor : (l : List ℕ) (i n k x : ℕ) → i ≤ k → k < i + n → k < length l
    → code (along (set l k (bit_xor (get_or l k 0) x)) i) n ≡ bit_xor (code (along l i) n) (shifts (64 * (i + n - k)) x)
unfolding code
code_xor l i zero k x a b h = let z : ⊥ = omega arith in absurd z
code_xor l i (suc n) k x a b h = ⊎_elim (λ q. before q (code_xor l i n k x a q h)) last (lt_or_ge k (i + n))
  where
    v : ℕ
    v = bit_xor (get_or l k 0) x

    before : k < i + n → code (along (set l k v) i) n ≡ bit_xor (code (along l i) n) (shifts (64 * (i + n - k)) x)
        → code (along (set l k v) i) (suc n) ≡ bit_xor (code (along l i) (suc n)) (shifts (64 * (i + suc n - k)) x)
    before q ih =
        let e : 64 * (i + suc n - k) ≡ 64 * (i + n - k) + 64 = omega arith in
        ap₂ (λ (y z : ℕ). shifts 64 (bit_xor y z)) ih (get_or-set_other l k (i + n) v 0 (λ e. omega arith))
        ∙ ap (shifts 64)
        (sums (code (along l i) n ∷ shifts (64 * (i + n - k)) x ∷ get_or l (i + n) 0 ∷ []) (op 0 ⊕ op 1 ⊕ op 2) ((op 0 ⊕ op 2) ⊕ op 1) refl)
        ∙ shifts_xor 64 (bit_xor (code (along l i) n) (get_or l (i + n) 0)) (shifts (64 * (i + n - k)) x)
        ∙ ap (bit_xor (code (along l i) (suc n))) (shifts_more (64 * (i + n - k)) (64 * (i + suc n - k)) x e)

    last : i + n ≤ k → code (along (set l k v) i) (suc n) ≡ bit_xor (code (along l i) (suc n)) (shifts (64 * (i + suc n - k)) x)
    last q =
        let e : k ≡ i + n = omega arith in
        let f : 64 ≡ 64 * (i + suc n - k) = omega arith in
        ap₂ (λ (y z : ℕ). shifts 64 (bit_xor y z)) (code_set_past l i n k v q)
        (ap (λ (m : ℕ). get_or (set l k v) m 0) (sym e) ∙ get_or-set_same l k v 0 h ∙ ap (λ (m : ℕ). bit_xor (get_or l m 0) x) e)
        ∙ ap (shifts 64) (sym (xor_assoc (code (along l i) n) (get_or l (i + n) 0) x))
        ∙ shifts_xor 64 (bit_xor (code (along l i) n) (get_or l (i + n) 0)) x
        ∙ ap (λ (m : ℕ). bit_xor (code (along l i) (suc n)) (shifts m x)) f
