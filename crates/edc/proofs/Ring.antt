-- The division of words by x^(31*64) + x^(15*64) + x^(3*64) + 1: the ring of the quotient's last words takes one more, and what is left.
-- Assumes nothing.
use mathlib.Core.Path.{◌≡◌, refl, sym, ap, ap₂, ◌∙◌, subst}
use mathlib.Core.List.{List, [], ◌∷◌}
use Prim.Native.Nat.{ℕ, suc, ◌+◌, ◌-◌, ◌*◌, ◌%◌, ◌^◌, ◌<◌, ◌≤◌}
use native.Mathlib.Nat.{lt_of_lt_of_le}
use native.Mathlib.Omega.{arith}
use lib.ListN.{length, get_or, set}
use lib.Seq.{get_or-set_same, get_or-set_other}
use lib.Pow.{pow_mono}
use lib.Bits.{bit_xor, xor_zero_r}
use Rattle.laws.proofs.Sum.{sums, op, ◌⊕◌}
use Rattle.edc.specs.Fold.{shifts, scale, code, along, round, left, held}
use Rattle.edc.proofs.Shifts.{shifts_xor, shifts_add, shifts_empty, shifts_width}
use Rattle.edc.proofs.Folds.{folds_of}
use Rattle.edc.proofs.Runs.{code_same, code_zeros, code_first, code_xor}

left_same : (g h : ℕ → ℕ) → ((k : ℕ) → k < 31 → g k ≡ h k) → left g ≡ left h
left_same g h e =
    ap₂ bit_xor (ap₂ bit_xor (code_same g h 31 e) (code_same g h 15 (λ k l. e k (omega arith)))) (code_same g h 3 (λ k l. e k (omega arith)))

-- a run without its first word
later : (g : ℕ → ℕ) (n : ℕ) → code (λ (k : ℕ). g (suc k)) n ≡ bit_xor (code g (suc n)) (shifts (64 * suc n) (g 0))
later g n =
    sums (shifts (64 * suc n) (g 0) ∷ code (λ (k : ℕ). g (suc k)) n ∷ []) (op 1) ((op 0 ⊕ op 1) ⊕ op 0) refl
    ∙ ap (λ (x : ℕ). bit_xor x (shifts (64 * suc n) (g 0))) (sym (code_first g n))

-- the quotient's next word: the register takes the word that was divided
pub left_next : (g : ℕ → ℕ) (u : ℕ) → g 0 < 2 ^ 64 → g 31 ≡ bit_xor (bit_xor (bit_xor u (g 15)) (g 3)) (g 0)
    → left (λ (k : ℕ). g (suc k)) ≡ shifts 64 (bit_xor (left g) u)
unfolding code scale
left_next g u h q =
    ap₂ bit_xor (ap₂ bit_xor (later g 31) (later g 15)) (later g 3)
    ∙ ap₂ bit_xor (ap₂ bit_xor (ap₂ bit_xor (ap (λ (x : ℕ). s (bit_xor (code g 31) x)) q) oldest) (ap (bit_xor (code g 16)) (shifts_add 64 960 (g 0))))
    (ap (bit_xor (code g 4)) (shifts_add 64 192 (g 0)))
    ∙ sums (s p ∷ s (bit_xor (code g 15) (g 15)) ∷ s (bit_xor (code g 3) (g 3)) ∷ shifts 960 y ∷ shifts 192 y ∷ y ∷ [])
    (((op 0 ⊕ (op 3 ⊕ op 4 ⊕ op 5)) ⊕ (op 1 ⊕ op 3)) ⊕ (op 2 ⊕ op 4)) (op 0 ⊕ op 1 ⊕ op 2 ⊕ op 5) refl
    ∙ sym (four p (bit_xor (code g 15) (g 15)) (bit_xor (code g 3) (g 3)) (g 0))
    ∙ ap s
    (sums (code g 31 ∷ code g 15 ∷ code g 3 ∷ u ∷ g 15 ∷ g 3 ∷ g 0 ∷ [])
    ((op 0 ⊕ (op 3 ⊕ op 4 ⊕ op 5 ⊕ op 6)) ⊕ (op 1 ⊕ op 4) ⊕ (op 2 ⊕ op 5) ⊕ op 6) ((op 0 ⊕ op 1 ⊕ op 2) ⊕ op 3) refl)
  where
    s : ℕ → ℕ
    s = shifts 64

    y : ℕ
    y = shifts 64 (g 0)

    p : ℕ
    p = bit_xor (code g 31) (bit_xor (bit_xor (bit_xor u (g 15)) (g 3)) (g 0))

    b : 64 ≤ 96
    b = omega arith

    oldest : shifts 2048 (g 0) ≡ bit_xor (bit_xor (shifts 960 y) (shifts 192 y)) y
    oldest = shifts_add 64 1984 (g 0) ∙ folds_of 5 64 refl y (shifts_width 64 (g 0) (lt_of_lt_of_le h (pow_mono b)))

    four : (m n o t : ℕ) → shifts 64 (bit_xor (bit_xor (bit_xor m n) o) t) ≡ bit_xor (bit_xor (bit_xor (shifts 64 m) (shifts 64 n)) (shifts 64 o)) (shifts 64 t)
    four m n o t = simp shifts_xor

-- in the ring, where the places read are 16, 4 and 1 on
pub ring_next : (x : List ℕ) (j u q m₁ m₂ m₃ : ℕ) → q ≡ bit_xor (bit_xor (bit_xor u (get_or x m₁ 0)) (get_or x m₂ 0)) (get_or x m₃ 0) → get_or x m₃ 0 < 2 ^ 64
    → length x ≡ 32 → j < 32 → (j + 16) % 32 ≡ m₁ → (j + 4) % 32 ≡ m₂ → (j + 1) % 32 ≡ m₃
    → held (set x j q) (j + 1) ≡ shifts 64 (bit_xor (held x j) u)
ring_next x j u q m₁ m₂ m₃ e b n l e₁ e₂ e₃ =
    left_same (round (set x j q) (j + 1 + 1)) (λ (k : ℕ). h (suc k))
    (λ k i. let m : j + 1 + 1 + k ≡ j + 1 + suc k = omega arith in ap (λ (m : ℕ). get_or (set x j q) (m % 32) 0) m)
    ∙ left_next h u (subst (λ (y : ℕ). y < 2 ^ 64) (sym (old 0 m₃ (omega arith) (omega arith))) b) new
    ∙ ap (λ (y : ℕ). shifts 64 (bit_xor y u)) (left_same h (round x (j + 1)) (λ k i. old k ((j + 1 + k) % 32) i refl))
  where
    h : ℕ → ℕ
    h k = get_or (set x j q) ((j + 1 + k) % 32) 0

    old : (k m : ℕ) → k < 31 → (j + 1 + k) % 32 ≡ m → get_or (set x j q) ((j + 1 + k) % 32) 0 ≡ get_or x m 0
    old k m i r = get_or-set_other x j ((j + 1 + k) % 32) q 0 (λ z. omega arith) ∙ ap (λ (y : ℕ). get_or x y 0) r

    new : get_or (set x j q) ((j + 1 + 31) % 32) 0 ≡ bit_xor (bit_xor (bit_xor u (h 15)) (h 3)) (h 0)
    new =
        let m : (j + 1 + 31) % 32 ≡ j = omega arith in
        let r : j < length x = omega arith in
        ap (λ (k : ℕ). get_or (set x j q) k 0) m ∙ get_or-set_same x j q 0 r ∙ e
        ∙ sym (ap₂ bit_xor (ap₂ (λ (y z : ℕ). bit_xor (bit_xor u y) z) (old 15 m₁ (omega arith) (omega arith)) (old 3 m₂ (omega arith) (omega arith)))
        (old 0 m₃ (omega arith) (omega arith)))

-- once round, and empty
pub held_round : (x : List ℕ) → held x 32 ≡ held x 0
held_round x = left_same (round x 33) (round x 1) (λ k h. let e : (33 + k) % 32 ≡ (1 + k) % 32 = omega arith in ap (λ (m : ℕ). get_or x m 0) e)

pub held_empty : (x : List ℕ) → ((i d : ℕ) → i < 32 → get_or x i d ≡ 0) → held x 0 ≡ 0
held_empty x z = ap₂ bit_xor (ap₂ bit_xor (none 31) (none 15)) (none 3)
  where
    none : (n : ℕ) → code (round x 1) n ≡ 0
    none n = code_zeros (round x 1) n (λ k. z ((1 + k) % 32) 0 (omega arith))

-- the words from place 1 on, when each up to i has the one `back` before it xored in
abbrev pub Back : ℕ → List ℕ → List ℕ → ℕ → Type 0
Back back x₀ x i =
    ((k : ℕ) → k ≤ back → get_or x k 0 ≡ get_or x₀ k 0)
    × (code (along x 1) 31 ≡ bit_xor (code (along x₀ 1) 31) (shifts (64 * (32 - i)) (code (along x₀ 1) (i - (back + 1)))))

pub back_none : (back : ℕ) (x : List ℕ) → Back back x x (back + 1)
unfolding code
back_none back x =
    let e : back + 1 - (back + 1) ≡ 0 = omega arith in (
      (λ k h. refl),
      sym (ap (λ (k : ℕ). bit_xor (code (along x 1) 31) (shifts (64 * (32 - (back + 1))) (code (along x 1) k))) e
          ∙ ap (bit_xor (code (along x 1) 31)) (shifts_empty (64 * (32 - (back + 1)))) ∙ xor_zero_r (code (along x 1) 31)),
    )

pub back_end : (back i : ℕ) (x₀ x : List ℕ) → i ≡ 32 → Back back x₀ x i
    → code (along x 1) 31 ≡ bit_xor (code (along x₀ 1) 31) (code (along x₀ 1) (31 - back))
unfolding shifts
back_end back i x₀ x q (kept, e) =
    let a : 64 * (32 - i) ≡ 0 = omega arith in
    let b : i - (back + 1) ≡ 31 - back = omega arith in
    e ∙ ap₂ (λ (k m : ℕ). bit_xor (code (along x₀ 1) 31) (shifts k (code (along x₀ 1) m))) a b

pub back_next : (back i : ℕ) (x₀ x : List ℕ) → length x ≡ 32 → 16 ≤ back → back < i → i < 32 → Back back x₀ x i
    → Back back x₀ (set x i (bit_xor (get_or x i 0) (get_or x (i - back) 0))) (i + 1)
unfolding code
back_next back i x₀ x n hb hi l (kept, e) =
    let a : 1 ≤ i = omega arith in
    let b : i < 1 + 31 = omega arith in
    let c : i < length x = omega arith in
    let m : i + 1 - (back + 1) ≡ suc (i - (back + 1)) = omega arith in
    let o : i - back ≡ 1 + (i - (back + 1)) = omega arith in
    let t : 64 * (32 - i) ≡ 64 + 64 * (32 - (i + 1)) = omega arith in (
      (λ k h. get_or-set_other x i k (bit_xor (get_or x i 0) y) 0 (λ z. omega arith) ∙ kept k h),
      code_xor x 1 31 i y a b c ∙ ap₂ (λ (v w : ℕ). bit_xor v (shifts (64 * (32 - i)) w)) e (kept (i - back) (omega arith) ∙ ap (λ (k : ℕ). get_or x₀ k 0) o)
          ∙ sums (code (along x₀ 1) 31 ∷ shifts (64 * (32 - i)) d ∷ shifts (64 * (32 - i)) w ∷ []) (op 0 ⊕ op 1 ⊕ op 2) (op 0 ⊕ (op 1 ⊕ op 2)) refl
          ∙ ap (bit_xor (code (along x₀ 1) 31))
          (sym (shifts_xor (64 * (32 - i)) d w) ∙ ap (λ (k : ℕ). shifts k (bit_xor d w)) t ∙ shifts_add 64 (64 * (32 - (i + 1))) (bit_xor d w)
          ∙ ap (λ (k : ℕ). shifts (64 * (32 - (i + 1))) (code (along x₀ 1) k)) (sym m)),
    )
  where
    y : ℕ
    y = get_or x (i - back) 0

    d : ℕ
    d = code (along x₀ 1) (i - (back + 1))

    w : ℕ
    w = get_or x₀ (1 + (i - (back + 1))) 0

-- what is left of the division
pub left_over : (x x₁ x₂ : List ℕ) → ((k : ℕ) → k ≤ 16 → get_or x₁ k 0 ≡ get_or x k 0)
    → code (along x₁ 1) 31 ≡ bit_xor (code (along x 1) 31) (code (along x 1) 15)
    → code (along x₂ 1) 31 ≡ bit_xor (code (along x₁ 1) 31) (code (along x₁ 1) 3)
    → code (along x₂ 1) 31 ≡ held x 0
left_over x x₁ x₂ kept e₁ e₂ =
    e₂ ∙ ap₂ bit_xor e₁ (code_same (along x₁ 1) (along x 1) 3 (λ k h. kept (1 + k) (omega arith)))
    ∙ left_same (along x 1) (round x 1) (λ k h. let e : 1 + k ≡ (1 + k) % 32 = omega arith in ap (λ (m : ℕ). get_or x m 0) e)
