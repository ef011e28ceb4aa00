-- Where the words' symbols stand: as rows of 86 bytes, each byte 12 to 2,247 in one P word, each byte 12 to 2,351 in one Q word. Assumes nothing.
use mathlib.Core.Path.{◌≡◌, sym, ap, ap₂, ◌∙◌}
use mathlib.Core.Bool.{Bool, ◌&&◌}
use mathlib.Core.List.{List}
use mathlib.Core.Logic.{⊎_elim}
use Prim.Native.Nat.{ℕ, ◌+◌, ◌*◌, ◌-◌, ◌/◌, ◌%◌, ◌<◌, ◌≤◌}
use native.Mathlib.Omega.{arith}
use lib.Dec.{leb, ltb}
use lib.ListN.{get_or}
use borrow.Author.Tests.{lt-ltb, le-ltb}
use Rattle.laws.specs.Bytes.{Bytes}
use Rattle.std.specs.Prelude.{if◌then◌else◌}
use Rattle.laws.proofs.Choice.{if_true, if_false, if_case, right_false}
use Rattle.laws.proofs.Wrap.{lt_or_ge}
use Rattle.parity.specs.Layout.{p, q, place, value_at}

-- P: column v of the rows
pub p_place : (v m : ℕ) → place p v m ≡ 12 + 86 * m + v
unfolding p
p_place v m = omega arith

-- Q: the parity rows, and the diagonals
pub q_tail : (v m : ℕ) → 43 ≤ m → place q v m ≡ 2248 + 52 * (m - 43) + v
unfolding q
q_tail v m h =
    ap (λ (x : ℕ). 12 + 2 * x + v % 2) (if_false (ltb m 43) _ (1118 + 26 * (m - 43) + v / 2) (le-ltb m 43 h)) ∙ omega arith

q_data : (v m : ℕ) → m < 43 → place q v m ≡ 12 + 2 * ((44 * m + 43 * (v / 2)) % 1118) + v % 2
unfolding q
q_data v m h =
    ap (λ (x : ℕ). 12 + 2 * x + v % 2) (if_true (ltb m 43) ((44 * m + 43 * (v / 2)) % 1118) (1118 + 26 * (m - 43) + v / 2) (lt-ltb m 43 h))

-- 44 m + 43 w is column m of row m + w
diagonal : (w m : ℕ) → w < 26 → m < 43 → (44 * m + 43 * w) % 1118 ≡ 43 * ((w + m) % 26) + m
diagonal w m hw hm = omega arith

pub q_place : (v m : ℕ) → v < 52 → m < 43 → place q v m ≡ 12 + 86 * ((v / 2 + m) % 26) + 2 * m + v % 2
q_place v m hv hm =
    q_data v m hm ∙ ap (λ (x : ℕ). 12 + 2 * x + v % 2) (diagonal (v / 2) m (omega arith) hm)
    ∙ two ((v / 2 + m) % 26) (v % 2)
  where
    two : (r y : ℕ) → 12 + 2 * (43 * r + m) + y ≡ 12 + 86 * r + 2 * m + y
    two r y = omega arith

-- inside the data, and behind it
pub p_inside : (v m : ℕ) → v < 86 → m < 24 → (12 ≤ place p v m) × (place p v m < 2076)
p_inside v m hv hm = (omega (arith, p_place v m), omega (arith, p_place v m))

pub q_inside : (v m : ℕ) → v < 52 → m < 43 → (12 ≤ place q v m) × (place q v m < 2248)
q_inside v m hv hm = (omega (arith, e), below ((v / 2 + m) % 26) (omega arith) e)
  where
    e : place q v m ≡ 12 + 86 * ((v / 2 + m) % 26) + 2 * m + v % 2
    e = q_place v m hv hm

    below : (r : ℕ) → r < 26 → place q v m ≡ 12 + 86 * r + 2 * m + v % 2 → place q v m < 2248
    below r h e = omega arith

-- No two alike

pub p_apart : (u v i j : ℕ) → u < 86 → v < 86 → place p u i ≡ place p v j → (u ≡ v) × (i ≡ j)
p_apart u v i j hu hv e = digits u v i j hu hv (sym (p_place u i) ∙ e ∙ p_place v j)
  where
    digits : (u v i j : ℕ) → u < 86 → v < 86 → 12 + 86 * i + u ≡ 12 + 86 * j + v → (u ≡ v) × (i ≡ j)
    digits u v i j hu hv e = (omega arith, omega arith)

row_digits : (r t i j x y : ℕ) → i < 43 → j < 43 → x < 2 → y < 2 → 12 + 86 * r + 2 * i + x ≡ 12 + 86 * t + 2 * j + y → (r ≡ t) × (i ≡ j) × (x ≡ y)
row_digits r t i j x y hi hj hx hy e = (row, (omega arith), (omega arith))
  where
    row : r ≡ t
    row = omega arith

turn : (x y i : ℕ) → x < 26 → y < 26 → (x + i) % 26 ≡ (y + i) % 26 → x ≡ y
turn x y i hx hy e = omega arith

half_odd : (u v : ℕ) → u / 2 ≡ v / 2 → u % 2 ≡ v % 2 → u ≡ v
half_odd u v h k = omega arith

data_apart : (u v i j : ℕ) → u < 52 → v < 52 → i < 43 → j < 43 → place q u i ≡ place q v j → (u ≡ v) × (i ≡ j)
data_apart u v i j hu hv hi hj e =
    let d = row_digits ((u / 2 + i) % 26) ((v / 2 + j) % 26) i j (u % 2) (v % 2) hi hj (omega arith) (omega arith) (sym (q_place u i hu hi) ∙ e ∙ q_place v j hv hj) in
    let w : u / 2 ≡ v / 2 = turn (u / 2) (v / 2) i (omega arith) (omega arith) (d.0 ∙ ap (λ (x : ℕ). (v / 2 + x) % 26) (sym d.1)) in
    (half_odd u v w d.2, d.1)

tail_apart : (u v i j : ℕ) → u < 52 → v < 52 → 43 ≤ i → 43 ≤ j → place q u i ≡ place q v j → (u ≡ v) × (i ≡ j)
tail_apart u v i j hu hv hi hj e = digits (sym (q_tail u i hi) ∙ e ∙ q_tail v j hj)
  where
    digits : 2248 + 52 * (i - 43) + u ≡ 2248 + 52 * (j - 43) + v → (u ≡ v) × (i ≡ j)
    digits e = (omega arith, omega arith)

pub q_apart : (u v i j : ℕ) → u < 52 → v < 52 → place q u i ≡ place q v j → (u ≡ v) × (i ≡ j)
q_apart u v i j hu hv e =
    ⊎_elim
    (λ (a : i < 43).
    ⊎_elim (λ (b : j < 43). data_apart u v i j hu hv a b e)
    (λ (b : 43 ≤ j). absurd (let low = (q_inside u i hu a).1 in let high = q_tail v j b in omega arith)) (lt_or_ge j 43))
    (λ (a : 43 ≤ i).
    ⊎_elim (λ (b : j < 43). absurd (let low = (q_inside v j hv b).1 in let high = q_tail u i a in omega arith))
    (λ (b : 43 ≤ j). tail_apart u v i j hu hv a b e) (lt_or_ge j 43))
    (lt_or_ge i 43)

-- All of them

pub p_cover : (k : ℕ) → 12 ≤ k → place p ((k - 12) % 86) ((k - 12) / 86) ≡ k
p_cover k h = p_place ((k - 12) % 86) ((k - 12) / 86) ∙ omega arith

-- byte k of the rows stands in row r and column c, in word r - c, counted round
abbrev pub q_word : ℕ → ℕ
q_word k = 2 * (((k - 12) / 86 + 52 - (k - 12) % 86 / 2) % 26) + (k - 12) % 2

abbrev pub q_position : ℕ → ℕ
q_position k = (k - 12) % 86 / 2

pub q_cover : (k : ℕ) → 12 ≤ k → k < 2248 → place q (q_word k) (q_position k) ≡ k
q_cover k h l =
    let r = (k - 12) / 86 in
    let c = (k - 12) % 86 / 2 in
    let w = (r + 52 - c) % 26 in
    let x = (k - 12) % 2 in
    let hr : r < 26 = omega arith in
    let hc : c < 43 = omega arith in
    let half : (2 * w + x) / 2 ≡ w = omega arith in
    let odd : (2 * w + x) % 2 ≡ x = omega arith in
    let back : (w + c) % 26 ≡ r = again r c hr hc in
    q_place (2 * w + x) c (omega arith) hc
    ∙ ap₂ (λ (y z : ℕ). 12 + 86 * ((y + c) % 26) + 2 * c + z) half odd
    ∙ ap (λ (y : ℕ). 12 + 86 * y + 2 * c + x) back ∙ whole (k - 12) k (omega arith)
  where
    again : (r c : ℕ) → r < 26 → c < 43 → ((r + 52 - c) % 26 + c) % 26 ≡ r
    again r c hr hc = omega arith

    whole : (d k : ℕ) → k ≡ 12 + d → 12 + 86 * (d / 86) + 2 * (d % 86 / 2) + d % 2 ≡ k
    whole d k e = omega arith

pub q_cover_tail : (k : ℕ) → 2248 ≤ k → k < 2352 → place q ((k - 2248) % 52) (43 + (k - 2248) / 52) ≡ k
q_cover_tail k h l = q_tail ((k - 2248) % 52) (43 + (k - 2248) / 52) (omega arith) ∙ omega arith

-- What the words see

pub value_at_outside : (z : Bool) (s : List ℕ) (k : ℕ) → 16 ≤ k → value_at z s k ≡ get_or s k 0
value_at_outside z s k h =
    if_false (z && (leb 12 k && ltb k 16)) 0 (get_or s k 0) (right_false z (leb 12 k && ltb k 16) (right_false (leb 12 k) (ltb k 16) (le-ltb k 16 h)))

pub value_at_byte : (z : Bool) (s : List ℕ) (k : ℕ) → Bytes s → value_at z s k < 256
value_at_byte z s k b = if_case (λ (x : ℕ). x < 256) (z && (leb 12 k && ltb k 16)) 0 (get_or s k 0) (λ e. omega arith) (λ e. b k)

-- of two lists whose bytes at a place are the same they see the same there
pub value_at_same : (z : Bool) (s t : List ℕ) (k : ℕ) → get_or s k 0 ≡ get_or t k 0 → value_at z s k ≡ value_at z t k
value_at_same z s t k e = ap (λ (x : ℕ). if z && (leb 12 k && ltb k 16) then 0 else x) e
