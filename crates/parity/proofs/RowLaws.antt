-- The steps over the sector's rows: each brings the P words, or those Q words that meet the row, one symbol further. Assumes nothing.
use mathlib.Core.Path.{◌≡◌, sym, ap, ◌∙◌}
use mathlib.Core.List.{List}
use mathlib.Core.Logic.{◌⊎◌, inl, inr, ⊎_elim}
use Prim.Native.Nat.{ℕ, suc, ◌+◌, ◌*◌, ◌-◌, ◌/◌, ◌%◌, ◌<◌, ◌≤◌}
use native.Mathlib.Numerals.{add-one}
use native.Mathlib.Omega.{arith}
use lib.Dec.{ltb}
use lib.ListN.{length, get_or, take, drop}
use borrow.Author.Tests.{lt-ltb, le-ltb}
use Rattle.laws.specs.Listed.{listed}
use Rattle.laws.proofs.Choice.{if_true, if_false}
use Rattle.laws.proofs.Listed.{length_listed, getD_listed, listed_of}
use Rattle.laws.proofs.Window.{length_window, get_d_window}
use Rattle.parity.specs.Rows.{view, Taken, AreSums, p_lane, q_lane, met}
use Rattle.parity.proofs.Lanes.{taken_as, sums_more}

-- the first row, and the others
pub view_first : (first s : List ℕ) (k : ℕ) → k < 86 → view first s (12 + k) ≡ get_or first k 0
view_first first s k h =
    let less : 12 + k - 12 ≡ k = omega arith in
    if_true (ltb (12 + k) 98) (get_or first (12 + k - 12) 0) (get_or s (12 + k) 0) (lt-ltb (12 + k) 98 (omega arith)) ∙ ap (λ (i : ℕ). get_or first i 0) less

pub view_other : (first s : List ℕ) (k : ℕ) → 98 ≤ k → view first s k ≡ get_or s k 0
view_other first s k h = if_false (ltb k 98) (get_or first (k - 12) 0) (get_or s k 0) (le-ltb k 98 h)

-- the rows, as they are read
pub row_first : (first s : List ℕ) (i : ℕ) → i ≡ 0 → length first ≡ 86 → first ≡ listed 86 (λ u. view first s (12 + 86 * i + u))
row_first first s i e size =
    listed_of 86 (λ u. view first s (12 + 86 * i + u)) first size
    (λ u h.
    let place : 12 + u ≡ 12 + 86 * i + u = omega arith in
    sym (view_first first s u h) ∙ ap (view first s) place)

pub row_other : (first s : List ℕ) (i : ℕ) → (i ≡ 0 → ⊥) → i < 26 → length s ≡ 2352
    → take (12 + 86 * i + 86 - (12 + 86 * i)) (drop (12 + 86 * i) s) ≡ listed 86 (λ u. view first s (12 + 86 * i + u))
row_other first s i n h size =
    let row : 12 + 86 * i + 86 - (12 + 86 * i) ≡ 86 = omega arith in
    ap (λ (m : ℕ). take m (drop (12 + 86 * i) s)) row
    ∙ listed_of 86 (λ u. view first s (12 + 86 * i + u)) (take 86 (drop (12 + 86 * i) s)) (length_window (12 + 86 * i) 86 s (omega arith))
    (λ u l. get_d_window (12 + 86 * i) 86 u 0 s l ∙ sym (view_other first s (12 + 86 * i + u) (omega arith)))

-- P: all words meet each row
pub p_step : (t : ℕ → ℕ) (i : ℕ) (a b a' b' : List ℕ) → AreSums (p_lane t) (λ u. i) 86 a b → Taken (λ u. t (12 + 86 * i + 0 + u)) 0 86 a b a' b'
    → AreSums (p_lane t) (λ u. i + 1) 86 a' b'
p_step t i a b a' b' m k =
    sums_more (p_lane t) (λ u. i) (λ u. i + 1) 86 (λ u. t (12 + 86 * i + 0 + u)) 0 86 a b a' b' m k (omega arith)
    (λ u h. (add-one i, ap t (place u)))
    (λ u h o. absurd (all u h o))
  where
    place : (u : ℕ) → 12 + 86 * i + 0 + u ≡ 12 + 86 * i + (0 + u)
    place u = omega arith

    all : (u : ℕ) → u < 86 → (u < 0) ⊎ (0 + 86 ≤ u) → ⊥
    all u h (inl o) = omega arith
    all u h (inr o) = omega arith

-- the same of a row that is read as a list, l
pub p_row : (t : ℕ → ℕ) (i : ℕ) (l a b a' b' : List ℕ) → l ≡ listed 86 (λ u. t (12 + 86 * i + u)) → AreSums (p_lane t) (λ u. i) 86 a b
    → Taken (λ u. get_or l u 0) 0 (length l) a b a' b' → AreSums (p_lane t) (λ u. i + 1) 86 a' b'
p_row t i l a b a' b' e m k =
    p_step t i a b a' b' m
    (taken_as (λ u. get_or l u 0) (λ u. t (12 + 86 * i + 0 + u)) 0 (length l) 86 a b a' b'
    (ap length e ∙ length_listed 86 (λ u. t (12 + 86 * i + u)))
    (λ u h. ap (λ (r : List ℕ). get_or r u 0) e ∙ getD_listed 86 (λ u. t (12 + 86 * i + u)) u h ∙ ap t (place u))
    k)
  where
    place : (u : ℕ) → 12 + 86 * i + u ≡ 12 + 86 * i + 0 + u
    place u = omega arith

-- Q: word 25 - u / 2, at place u, meets row-step r where 25 ≤ u / 2 + r < 68

met_is : (r u : ℕ) → u < 52 → 25 ≤ u / 2 + r → u / 2 + r ≤ 68 → met r u ≡ u / 2 + r - 25
met_is r u h l m = omega arith

met_all : (r u : ℕ) → u < 52 → 68 ≤ u / 2 + r → met r u ≡ 43
met_all r u h l = omega arith

-- not begun yet
met_before : (r u : ℕ) → u < 52 → u < 50 - 2 * r → met (r + 1) u ≡ met r u
met_before r u h l = omega arith

-- the symbol that it meets
module _ (r u : ℕ) (h : u < 52) (begun : 25 ≤ u / 2 + r) (going : u / 2 + r < 68) where
  pub met_next : met (r + 1) u ≡ suc (met r u)
  met_next = met_is (r + 1) u h (omega arith) (omega arith) ∙ next ∙ ap suc (sym (met_is r u h begun (omega arith)))
    where
      next : u / 2 + (r + 1) - 25 ≡ suc (u / 2 + r - 25)
      next = omega arith

  row_is : 25 - u / 2 + met r u ≡ r
  row_is = ap (λ (x : ℕ). 25 - u / 2 + x) (met_is r u h begun (omega arith)) ∙ same
    where
      same : 25 - u / 2 + (u / 2 + r - 25) ≡ r
      same = omega arith

  column_is : 2 * (r - 25) + (u - (50 - 2 * r)) ≡ 2 * met r u + u % 2
  column_is = spot ∙ ap (λ (x : ℕ). 2 * x + u % 2) (sym (met_is r u h begun (omega arith)))
    where
      spot : 2 * (r - 25) + (u - (50 - 2 * r)) ≡ 2 * (u / 2 + r - 25) + u % 2
      spot = omega arith

module _ (t : ℕ → ℕ) (r row p k n : ℕ) (hr : r < 68) (er : row ≡ r % 26) (ep : p ≡ 2 * (r - 25)) (ek : k ≡ 50 - 2 * r)
    (en : n ≡ 2 * (43 - (42 - r) - (r - 25))) where
  pub q_room : k + n ≤ 52
  q_room = omega arith

  pub q_row_room : p + n ≤ 86
  q_row_room = omega arith

  begun : (u : ℕ) → k ≤ u → 25 ≤ u / 2 + r
  begun u h = omega arith

  going : (u : ℕ) → u < k + n → u < 52 → u / 2 + r < 68
  going u h l = omega arith

  ended : (u : ℕ) → u < 52 → k + n ≤ u → 68 ≤ u / 2 + r
  ended u l h = omega arith

  later : (u : ℕ) → 68 ≤ u / 2 + r → 68 ≤ u / 2 + (r + 1)
  later u h = omega arith

  module _ (u : ℕ) (h : u < n) where
    place : 12 + 86 * row + p + u ≡ 12 + 86 * ((25 - (k + u) / 2 + met r (k + u)) % 26) + 2 * met r (k + u) + (k + u) % 2
    place =
        let l : k + u < 52 = omega (arith, q_room) in
        let b = begun (k + u) (omega arith) in
        let g = going (k + u) (omega arith) l in
        let e : p + u ≡ 2 * met r (k + u) + (k + u) % 2 = in_row ∙ column_is r (k + u) l b g in
        let f : 86 * row ≡ 86 * ((25 - (k + u) / 2 + met r (k + u)) % 26) = ap (λ (x : ℕ). 86 * x) (er ∙ ap (λ (x : ℕ). x % 26) (sym (row_is r (k + u) l b g))) in
        joined (86 * row) (86 * ((25 - (k + u) / 2 + met r (k + u)) % 26)) (2 * met r (k + u)) ((k + u) % 2) f e
      where
        in_row : p + u ≡ 2 * (r - 25) + (k + u - (50 - 2 * r))
        in_row = omega arith

        joined : (x y z w : ℕ) → x ≡ y → p + u ≡ z + w → 12 + x + p + u ≡ 12 + y + z + w
        joined x y z w e f = omega arith

  pub q_step : (a b a' b' : List ℕ) → AreSums (q_lane t) (met r) 52 a b → Taken (λ u. t (12 + 86 * row + p + u)) k n a b a' b'
      → AreSums (q_lane t) (met (r + 1)) 52 a' b'
  q_step a b a' b' m x =
      sums_more (q_lane t) (met r) (met (r + 1)) 52 (λ u. t (12 + 86 * row + p + u)) k n a b a' b' m x q_room
      (λ u h. let l : k + u < 52 = omega (arith, q_room) in (met_next r (k + u) l (begun (k + u) (omega arith)) (going (k + u) (omega arith) l), ap t (place u h)))
      (λ u h. ⊎_elim
      (λ (under : u < k). met_before r u h (omega arith))
      (λ (over : k + n ≤ u). met_all (r + 1) u h (later u (ended u h over)) ∙ sym (met_all r u h (ended u h over))))

  -- the same of a row that is read as a list, l, whose n bytes from p on are taken in
  pub q_row : (m : ℕ) (l a b a' b' : List ℕ) → m ≡ n → l ≡ listed 86 (λ u. t (12 + 86 * row + u)) → AreSums (q_lane t) (met r) 52 a b
      → Taken (λ u. get_or (take m (drop p l)) u 0) k (length (take m (drop p l))) a b a' b' → AreSums (q_lane t) (met (r + 1)) 52 a' b'
  q_row m l a b a' b' em e s x =
      q_step a b a' b' s
      (taken_as (λ u. get_or (take m (drop p l)) u 0) (λ u. t (12 + 86 * row + p + u)) k (length (take m (drop p l))) n a b a' b'
      (ap (λ (i : ℕ). length (take i (drop p l))) em ∙ length_window p n l (omega (arith, size, q_row_room)))
      (λ u h. ap (λ (i : ℕ). get_or (take i (drop p l)) u 0) em ∙ get_d_window p n u 0 l h ∙ symbol u h)
      x)
    where
      size : length l ≡ 86
      size = ap length e ∙ length_listed 86 (λ u. t (12 + 86 * row + u))

      symbol : (u : ℕ) → u < n → get_or l (p + u) 0 ≡ t (12 + 86 * row + p + u)
      symbol u h =
          let same : 12 + 86 * row + (p + u) ≡ 12 + 86 * row + p + u = omega arith in
          ap (λ (i : List ℕ). get_or i (p + u) 0) e ∙ getD_listed 86 (λ u. t (12 + 86 * row + u)) (p + u) (omega (arith, q_row_room)) ∙ ap t same

-- after the last step all are whole
pub q_whole : (t : ℕ → ℕ) (r : ℕ) (a b : List ℕ) → r ≡ 68 → AreSums (q_lane t) (met r) 52 a b → AreSums (q_lane t) (λ u. 43) 52 a b
q_whole t r a b e m =
    record {
      size_a = m.size_a;
      size_b = m.size_b;
      plain = λ u h. m.plain u h ∙ ap (λ (k : ℕ). Rattle.parity.specs.Word.sum k (q_lane t u)) (met_all r u h (omega arith));
      weights = λ u h. m.weights u h ∙ ap (λ (k : ℕ). Rattle.parity.specs.Rows.horner k (q_lane t u)) (met_all r u h (omega arith));
    }
