-- One changed byte: what it leaves of the kind that is read, and of each test. Assumes nothing.
use mathlib.Core.Path.{◌≡◌, refl, sym, ap, ap₂, ◌∙◌}
use mathlib.Core.Bool.{Bool, true, false, ◌&&◌, ◌||◌}
use mathlib.Core.List.{List}
use mathlib.Core.Logic.{◌⊎◌, inl, inr, ⊎_elim}
use Prim.Native.Nat.{ℕ, ◌+◌, ◌-◌, ◌<◌, ◌≤◌}
use native.Mathlib.Omega.{arith}
use lib.Dec.{eqb, leb, ltb}
use borrow.Author.Tests.{ne_eqb, eqb-true, eqb-false, leb-true, ltb-true}
use lib.ListN.{length, take, drop, get_or, set, replicate, length-drop}
use lib.Seq.{length-take-le, take-set-le, take-set-lt, drop-set-lt, get_or-drop, get_or-take, get_or-set_same, get_or-set_other}
use Rattle.laws.specs.Bytes.{Bytes}
use Rattle.laws.specs.Same.{same}
use Rattle.laws.proofs.Bytes.{bytes_take, bytes_drop}
use Rattle.laws.proofs.Changed.{window_away, window_differs, drop_changed}
use Rattle.laws.proofs.Choice.{left_true, right_true, left_false, right_false}
use Rattle.laws.proofs.Same.{same_is, not_same}
use Rattle.laws.proofs.Tests.{or_true, both_false, out_of_run}
use Rattle.laws.proofs.Wrap.{lt_or_ge}
use Rattle.edc.specs.Edc.{edc}
use Rattle.edc.proofs.Laws.{edc_lt}
use Rattle.edc.proofs.Change.{edc_set}
use Rattle.sector.specs.declared.layout.Layout.{Layout}
use Rattle.sector.specs.Layout.{form, kind_read, layout, layout_read, Fits}
use Rattle.sector.specs.Sector.{low4, code_of}
use Rattle.sector.specs.Judge.{mode_holds, code_right, unwritten, edc_holds}
use Rattle.sector.specs.Claims.{of_edc}
use Rattle.sector.proofs.Frames.{low4_tells}
use Rattle.sector.proofs.Layouts.{fits, form_not_1, read_two, read_other, other_read}

-- The kind: it is read from byte 15, and in mode 2 from byte 18

pub kind_stays : (s : List ℕ) (k v : ℕ) → (k ≡ 15 → ⊥) → (k ≡ 18 → kind_read s ≡ 1) → kind_read (set s k v) ≡ kind_read s
kind_stays s k v not_15 at_18 = by (eqb (get_or s 15 0) 2) refl
  where
    mode_same : get_or (set s k v) 15 0 ≡ get_or s 15 0
    mode_same = get_or-set_other s k 15 v 0 (λ (e : 15 ≡ k). not_15 (sym e))

    by : (b : Bool) → eqb (get_or s 15 0) 2 ≡ b → kind_read (set s k v) ≡ kind_read s
    by true e =
        let two = eqb-true (get_or s 15 0) 2 e in
        read_two (set s k v) (mode_same ∙ two)
        ∙ ap (λ (n : ℕ). form n) (get_or-set_other s k 18 v 0 (λ (t : 18 ≡ k). other_read s (at_18 (sym t)) two)) ∙ sym (read_two s two)
    by false e =
        let other = eqb-false (get_or s 15 0) 2 e in
        read_other (set s k v) (λ (t : get_or (set s k v) 15 0 ≡ 2). other (sym mode_same ∙ t)) ∙ sym (read_other s other)

-- The mode

-- what the test says
pub mode_cases : (s : List ℕ) → mode_holds s ≡ true → (get_or s 15 0 ≡ 1) ⊎ ((get_or s 15 0 ≡ 2) × (take 4 (drop 16 s) ≡ take 4 (drop 20 s)))
unfolding mode_holds
mode_cases s e =
    let copies = same (take 4 (drop 16 s)) (take 4 (drop 20 s)) in
    ⊎_elim (λ (t : eqb (get_or s 15 0) 1 ≡ true). inl (eqb-true (get_or s 15 0) 1 t))
    (λ (t : (eqb (get_or s 15 0) 2 && copies) ≡ true).
    inr (eqb-true (get_or s 15 0) 2 (left_true (eqb (get_or s 15 0) 2) copies t), same_is (take 4 (drop 16 s)) (take 4 (drop 20 s)) (right_true (eqb (get_or s 15 0) 2) copies t)))
    (or_true (eqb (get_or s 15 0) 1) (eqb (get_or s 15 0) 2 && copies) e)

-- mode 2 with unequal copies
unequal_fails : (t : List ℕ) → get_or t 15 0 ≡ 2 → same (take 4 (drop 16 t)) (take 4 (drop 20 t)) ≡ false → mode_holds t ≡ false
unfolding mode_holds
unequal_fails t two apart =
    both_false (eqb (get_or t 15 0) 1) (eqb (get_or t 15 0) 2 && same (take 4 (drop 16 t)) (take 4 (drop 20 t))) (ap (λ (n : ℕ). eqb n 1) two)
    (right_false (eqb (get_or t 15 0) 2) (same (take 4 (drop 16 t)) (take 4 (drop 20 t))) apart)

module _ (s : List ℕ) (k v : ℕ) where
  mode_same : (k ≡ 15 → ⊥) → get_or (set s k v) 15 0 ≡ get_or s 15 0
  mode_same n = get_or-set_other s k 15 v 0 (λ (e : 15 ≡ k). n (sym e))

  pub mode_away : (k ≡ 15 → ⊥) → (eqb (get_or s 15 0) 2 ≡ true → (k < 16) ⊎ (24 ≤ k)) → mode_holds (set s k v) ≡ mode_holds s
  unfolding mode_holds
  mode_away n out =
      ap (λ (x : ℕ). eqb x 1 || (eqb x 2 && same (take 4 (drop 16 (set s k v))) (take 4 (drop 20 (set s k v))))) (mode_same n)
      ∙ ap (λ (b : Bool). eqb (get_or s 15 0) 1 || b) (by (eqb (get_or s 15 0) 2) refl)
    where
      away : (a : ℕ) → 16 ≤ a → a + 4 ≤ 24 → (k < 16) ⊎ (24 ≤ k) → take 4 (drop a (set s k v)) ≡ take 4 (drop a s)
      away a low high (inl t) = window_away a 4 k v s (inl (omega arith))
      away a low high (inr t) = window_away a 4 k v s (inr (omega arith))

      by : (b : Bool) → eqb (get_or s 15 0) 2 ≡ b
          → (b && same (take 4 (drop 16 (set s k v))) (take 4 (drop 20 (set s k v)))) ≡ (b && same (take 4 (drop 16 s)) (take 4 (drop 20 s)))
      by true e = ap₂ (λ (x y : List ℕ). same x y) (away 16 (omega arith) (omega arith) (out e)) (away 20 (omega arith) (omega arith) (out e))
      by false e = refl

  -- the copies are no longer equal
  pub mode_copies : length s ≡ 2352 → (v ≡ get_or s k 0 → ⊥) → 16 ≤ k → k < 24 → get_or s 15 0 ≡ 2 → mode_holds s ≡ true → mode_holds (set s k v) ≡ false
  mode_copies full new low high two held = ⊎_elim one copies (mode_cases s held)
    where
      one : get_or s 15 0 ≡ 1 → mode_holds (set s k v) ≡ false
      one e = cc

      apart : take 4 (drop 16 s) ≡ take 4 (drop 20 s) → take 4 (drop 16 (set s k v)) ≡ take 4 (drop 20 (set s k v)) → ⊥
      apart e t =
          ⊎_elim
          (λ (first : k < 20). window_differs 16 4 k v s low first (omega (arith, full)) new (t ∙ window_away 20 4 k v s (inl first) ∙ sym e))
          (λ (second : 20 ≤ k). window_differs 20 4 k v s second high (omega (arith, full)) new (sym t ∙ window_away 16 4 k v s (inr second) ∙ e))
          (lt_or_ge k 20)

      copies : (get_or s 15 0 ≡ 2) × (take 4 (drop 16 s) ≡ take 4 (drop 20 s)) → mode_holds (set s k v) ≡ false
      copies e = unequal_fails (set s k v) (mode_same (λ (t : k ≡ 15). omega arith) ∙ two) (not_same (take 4 (drop 16 (set s k v))) (take 4 (drop 20 (set s k v))) (apart e.1))

-- a mode byte that is neither 1 nor 2
pub odd_fails : (s : List ℕ) (v : ℕ) → length s ≡ 2352 → (v ≡ 1 → ⊥) → (v ≡ 2 → ⊥) → mode_holds (set s 15 v) ≡ false
unfolding mode_holds
odd_fails s v full not_1 not_2 =
    let is : get_or (set s 15 v) 15 0 ≡ v = get_or-set_same s 15 v 0 (omega (arith, full)) in
    ap (λ (x : ℕ). eqb x 1 || (eqb x 2 && same (take 4 (drop 16 (set s 15 v))) (take 4 (drop 20 (set s 15 v))))) is
    ∙ both_false (eqb v 1) (eqb v 2 && same (take 4 (drop 16 (set s 15 v))) (take 4 (drop 20 (set s 15 v)))) (ne_eqb v 1 not_1)
    (left_false (eqb v 2) (same (take 4 (drop 16 (set s 15 v))) (take 4 (drop 20 (set s 15 v)))) (ne_eqb v 2 not_2))

-- another mode byte, where the kind that is read stays
pub mode_other : (s : List ℕ) (v : ℕ) → length s ≡ 2352 → (v ≡ get_or s 15 0 → ⊥) → kind_read (set s 15 v) ≡ kind_read s → mode_holds s ≡ true
    → mode_holds (set s 15 v) ≡ false
mode_other s v full new kept held = ⊎_elim one two (mode_cases s held)
  where
    is : get_or (set s 15 v) 15 0 ≡ v
    is = get_or-set_same s 15 v 0 (omega (arith, full))

    one : get_or s 15 0 ≡ 1 → mode_holds (set s 15 v) ≡ false
    one e =
        odd_fails s v full (λ (t : v ≡ 1). new (t ∙ sym e))
        (λ (t : v ≡ 2).
        form_not_1 (get_or (set s 15 v) 18 0)
        (sym (read_two (set s 15 v) (is ∙ t)) ∙ kept ∙ read_other s (λ (w : get_or s 15 0 ≡ 2). cc)))

    two : (get_or s 15 0 ≡ 2) × (take 4 (drop 16 s) ≡ take 4 (drop 20 s)) → mode_holds (set s 15 v) ≡ false
    two e =
        absurd (form_not_1 (get_or s 18 0) (sym (read_two s e.0) ∙ sym kept ∙ read_other (set s 15 v) (λ (t : get_or (set s 15 v) 15 0 ≡ 2). new (sym is ∙ t ∙ sym e.0))))

-- The EDC, by any layout: what it is taken over and where it stands are one stretch

-- the code of a sector, as it stands and as it is worked out
abbrev stored : Layout → List ℕ → List ℕ
stored l s = take 4 (drop l.code s)

abbrev worked_out : Layout → List ℕ → List ℕ
worked_out l s = code_of l (take l.code s)

module _ (l : Layout) (f : Fits l) (s : List ℕ) (k v : ℕ) where
  c : l.covered ≤ l.code
  c =
      let x = f.covered_before in
      let y = f.user_before in
      omega arith

  -- before the covered bytes, or behind the code
  module _ (out : (k < l.covered) ⊎ (l.code + 4 ≤ k)) where
    stored_away : stored l (set s k v) ≡ stored l s
    stored_away = window_away l.code 4 k v s (⊎_elim (λ (t : k < l.covered). let x = c in inl (omega arith)) (λ t. inr t) out)

    worked_away : drop l.covered (take l.code (set s k v)) ≡ drop l.covered (take l.code s)
    worked_away =
        ⊎_elim
        (λ (t : k < l.covered).
        let x = c in
        ap (drop l.covered) (take-set-lt l.code s k v (omega arith)) ∙ drop-set-lt l.covered (take l.code s) k v t)
        (λ (t : l.code + 4 ≤ k). ap (drop l.covered) (take-set-le l.code s k v (omega arith))) out

    pub right_away : code_right l (set s k v) ≡ code_right l s
    unfolding code_right
    right_away = ap₂ (λ (x y : List ℕ). same x (low4 (edc 0 y))) stored_away worked_away

  -- away from the code
  pub unwritten_away : (k < l.code) ⊎ (l.code + 4 ≤ k) → unwritten l (set s k v) ≡ unwritten l s
  unfolding unwritten
  unwritten_away out = ap (λ (x : List ℕ). l.optional && same x (replicate 4 0)) (window_away l.code 4 k v s out)

  module _ (full : length s ≡ 2352) (hs : Bytes s) (hv : v < 256) (new : v ≡ get_or s k 0 → ⊥) (held : stored l s ≡ worked_out l s) (stays : stored l (set s k v) ≡ worked_out l (set s k v)) where
    -- a byte that the code is taken over: the code changes
    in_covered : l.covered ≤ k → k < l.code → ⊥
    in_covered from to =
        let x = drop l.covered (take l.code s) in
        let i = k - l.covered in
        let ends = f.inside in
        let long : length (take l.code s) ≡ l.code = length-take-le l.code s (omega (arith, full)) in
        let size : length x ≡ l.code - l.covered = length-drop l.covered (take l.code s) ∙ ap (λ (n : ℕ). n - l.covered) long in
        let place : l.covered + (k - l.covered) ≡ k = omega arith in
        let there : get_or x i 0 ≡ get_or s k 0 = get_or-drop l.covered (take l.code s) i 0 ∙ ap (λ (n : ℕ). get_or (take l.code s) n 0) place ∙ get_or-take l.code s k 0 to in
        let after : drop l.covered (take l.code (set s k v)) ≡ set x i v
        = ap (drop l.covered) (take-set-lt l.code s k v to) ∙ drop_changed l.covered 0 k v (take l.code s) from in
        let codes : low4 (edc 0 (set x i v)) ≡ low4 (edc 0 x) =
        ap (λ (y : List ℕ). low4 (edc 0 y)) (sym after) ∙ sym stays ∙ window_away l.code 4 k v s (inl to) ∙ held in
        edc_set x i v (bytes_drop l.covered (take l.code s) (bytes_take l.code s hs)) (omega (arith, size)) hv (λ (e : v ≡ get_or x i 0). new (e ∙ there))
        (low4_tells (edc 0 (set x i v)) (edc 0 x) (edc_lt (set x i v)) (edc_lt x) codes)

    -- a byte of the stored code: the code does not change
    in_code : l.code ≤ k → k < l.code + 4 → ⊥
    in_code from to =
        let ends = f.inside in
        window_differs l.code 4 k v s from to (omega (arith, full)) new
        (stays ∙ ap (λ (x : List ℕ). code_of l x) (take-set-le l.code s k v from) ∙ sym held)

    caught : l.covered ≤ k → k < l.code + 4 → ⊥
    caught from to = ⊎_elim (λ (t : k < l.code). in_covered from t) (λ (t : l.code ≤ k). in_code t to) (lt_or_ge k l.code)

  pub right_fails : length s ≡ 2352 → Bytes s → v < 256 → (v ≡ get_or s k 0 → ⊥) → of_edc l k ≡ true → code_right l s ≡ true → code_right l (set s k v) ≡ false
  unfolding code_right
  right_fails full hs hv new in_it held =
      not_same (stored l (set s k v)) (worked_out l (set s k v))
      (λ (e : stored l (set s k v) ≡ worked_out l (set s k v)).
      caught full hs hv new (same_is (stored l s) (worked_out l s) held) e (leb-true l.covered k (left_true (leb l.covered k) (ltb k (l.code + 4)) in_it))
      (ltb-true k (l.code + 4) (right_true (leb l.covered k) (ltb k (l.code + 4)) in_it)))

-- by the kind that is read, where it stays
module _ (s : List ℕ) (k v : ℕ) (kept : kind_read (set s k v) ≡ kind_read s) where
  read_kept : edc_holds (set s k v) ≡ (code_right (layout_read s) (set s k v) || unwritten (layout_read s) (set s k v))
  unfolding edc_holds
  read_kept = ap (λ (n : ℕ). code_right (layout n) (set s k v) || unwritten (layout n) (set s k v)) kept

  pub edc_away : of_edc (layout_read s) k ≡ false → edc_holds (set s k v) ≡ edc_holds s
  unfolding edc_holds
  edc_away e =
      let l = layout_read s in
      let f = fits (kind_read s) in
      let out : (k < l.covered) ⊎ (l.code + 4 ≤ k) = out_of_run l.covered (l.code + 4) k e in
      read_kept
      ∙ ap₂ (λ (x y : Bool). x || y) (right_away l f s k v out)
      (unwritten_away l f s k v (⊎_elim (λ (t : k < l.covered). let x = c l f s k v in inl (omega arith)) (λ t. inr t) out))

  pub edc_found : length s ≡ 2352 → Bytes s → v < 256 → (v ≡ get_or s k 0 → ⊥) → of_edc (layout_read s) k ≡ true → code_right (layout_read s) s ≡ true
      → unwritten (layout_read s) (set s k v) ≡ false → edc_holds (set s k v) ≡ false
  edc_found full hs hv new in_it held written =
      read_kept
      ∙ both_false (code_right (layout_read s) (set s k v)) (unwritten (layout_read s) (set s k v))
      (right_fails (layout_read s) (fits (kind_read s)) s k v full hs hv new in_it held) written
