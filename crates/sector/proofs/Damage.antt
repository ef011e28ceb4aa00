-- One damaged byte: which facts it moves in any sector, where the kind that is read stays; that in a good one it sets just those of its place; and which
-- bytes are always found: ChangeClaim, DamageClaim, FoundClaim. Assumes nothing.
use mathlib.Core.Path.{◌≡◌, refl, sym, ap, ap₂, ◌∙◌}
use mathlib.Core.Bool.{Bool, true, false, not, ◌&&◌, ◌||◌}
use mathlib.Core.List.{List}
use mathlib.Core.Logic.{◌⊎◌, inl, inr, ⊎_elim}
use Prim.Native.Nat.{ℕ, ◌+◌, ◌<◌, ◌≤◌}
use native.Mathlib.Omega.{arith}
use lib.Dec.{eqb, leb, ltb}
use borrow.Author.Tests.{eqb-true, eqb-false, leb-true, le-leb, ltb-true, ltb-false, le-ltb, not-false}
use lib.ListN.{length, take, drop, get_or, set, replicate, length-set}
use Rattle.laws.specs.Bytes.{Bytes}
use Rattle.laws.specs.Same.{same}
use Rattle.laws.proofs.Changed.{same_away, same_fails}
use Rattle.laws.proofs.Choice.{left_true, right_true, right_false}
use Rattle.laws.proofs.Same.{same_is}
use Rattle.laws.proofs.Wrap.{lt_or_ge}
use Rattle.laws.proofs.Tests.{clash, and_last, or_first, or_true, or_false, or_right, exactly, out_of_run}
use Rattle.sector.specs.declared.Address.{Address}
use Rattle.sector.specs.declared.Judgement.{Judgement}
use Rattle.sector.specs.Calls.{Judged, judge_answer}
use Rattle.sector.specs.Address.{address_bytes}
use Rattle.sector.specs.Layout.{kind_read, layout, layout_read}
use Rattle.sector.specs.Sector.{sync}
use Rattle.sector.specs.Judge.{sync_holds, mode_holds, code_right, unwritten, edc_holds, address_holds, judgement, no_facts, good}
use Rattle.sector.specs.Claims.{PlacesClaim, verdict, of_mode, of_edc, ChangeClaim, facts_of_change, DamageClaim, FoundClaim}
use Rattle.sector.proofs.Answers.{same_facts, accepted, judge_done, judged_facts}
use Rattle.sector.proofs.Changes.{kind_stays, mode_away, mode_copies, mode_other, odd_fails, unwritten_away, edc_away, edc_found}
use Rattle.sector.proofs.Layouts.{fits, optional_kind, three_code, code_after, two_read, mode_read}

-- a fact is no where its test holds
fact_set : (x y : Bool) → (x ≡ true → y ≡ false) → not x ≡ false → not y ≡ true
fact_set x y h unset = ap not (h (not-false x unset))

-- the mode's place
module _ (s : List ℕ) (k v : ℕ) where
  mode_out : of_mode (layout_read s) k ≡ false → mode_holds (set s k v) ≡ mode_holds s
  mode_out e =
      let two = eqb (layout_read s).mode 2 in
      let parts = or_false (eqb k 15) (two && (leb 16 k && ltb k 24)) e in
      mode_away s k v (eqb-false k 15 parts.0)
      (λ (t : eqb (get_or s 15 0) 2 ≡ true).
      out_of_run 16 24 k (sym (ap (λ (b : Bool). b && (leb 16 k && ltb k 24)) (mode_read s ∙ t)) ∙ parts.1))

  mode_in : length s ≡ 2352 → (v ≡ get_or s k 0 → ⊥) → kind_read (set s k v) ≡ kind_read s → of_mode (layout_read s) k ≡ true → mode_holds s ≡ true
      → mode_holds (set s k v) ≡ false
  mode_in full new kept e held =
      let two = eqb (layout_read s).mode 2 in
      ⊎_elim
      (λ (t : eqb k 15 ≡ true). at_15 (eqb-true k 15 t))
      (λ (t : (two && (leb 16 k && ltb k 24)) ≡ true).
      let run = right_true two (leb 16 k && ltb k 24) t in
      mode_copies s k v full new (leb-true 16 k (left_true (leb 16 k) (ltb k 24) run)) (ltb-true k 24 (right_true (leb 16 k) (ltb k 24) run))
      (eqb-true (get_or s 15 0) 2 (sym (mode_read s) ∙ left_true two (leb 16 k && ltb k 24) t)) held)
      (or_true (eqb k 15) (two && (leb 16 k && ltb k 24)) e)
    where
      at_15 : k ≡ 15 → mode_holds (set s k v) ≡ false
      at_15 here =
          ap (λ (i : ℕ). mode_holds (set s i v)) here
          ∙ mode_other s v full (λ (t : v ≡ get_or s 15 0). new (t ∙ ap (λ (i : ℕ). get_or s i 0) (sym here))) (ap (λ (i : ℕ). kind_read (set s i v)) (sym here) ∙ kept) held

pub changed : ChangeClaim
unfolding judgement sync_holds address_holds
changed s a k v full hs hv new kept = record {
  sync_stays = λ h. ap not (same_away 0 12 k v s sync (inr h));
  sync_set = λ h. fact_set (sync_holds s) (sync_holds (set s k v)) (same_fails 0 12 k v s sync (omega arith) h (omega arith) new);
  mode_stays = λ h. ap not (mode_out s k v h);
  mode_set = λ h. fact_set (mode_holds s) (mode_holds (set s k v)) (mode_in s k v full new kept h);
  edc_stays = λ h. ap not (edc_away s k v kept h);
  edc_set = λ h right written. ap not (edc_found s k v kept full hs hv new h right written);
  address_stays = λ h. ap not (same_away 12 3 k v s (address_bytes a) h);
  address_set = λ from to. fact_set (address_holds a s) (address_holds a (set s k v)) (same_fails 12 3 k v s (address_bytes a) from to (omega arith) new);
}

-- The facts of a good sector

module _ (s : List ℕ) (a : Address) (judged : judge_answer s a ≡ verdict no_facts) where
  whole : length s ≡ 2352
  whole = (accepted s a (ap (λ (j : Judged). j.number) judged)).0

  fact : (f : Judgement → Bool) → f (judgement a s) ≡ f no_facts
  fact f = ap f (judged_facts s a no_facts judged)

  mode_held : mode_holds s ≡ true
  unfolding judgement
  mode_held = not-false (mode_holds s) (fact (λ j. j.mode))

  sync_held : sync_holds s ≡ true
  unfolding judgement
  sync_held = not-false (sync_holds s) (fact (λ j. j.sync))

  address_held : address_holds a s ≡ true
  unfolding judgement
  address_held = not-false (address_holds a s) (fact (λ j. j.address))

  edc_held : edc_holds s ≡ true
  unfolding judgement
  edc_held = not-false (edc_holds s) (fact (λ j. j.edc))

  -- the code is right, where one was written
  right : unwritten (layout_read s) s ≡ false → code_right (layout_read s) s ≡ true
  unfolding judgement edc_holds
  right written =
      ⊎_elim (λ (t : code_right (layout_read s) s ≡ true). t) (λ (t : unwritten (layout_read s) s ≡ true). clash (unwritten (layout_read s) s) written t)
      (or_true (code_right (layout_read s) s) (unwritten (layout_read s) s) (not-false (edc_holds s) (fact (λ j. j.edc))))

  -- a judging with these facts
  judges : (t : List ℕ) (j : Judgement) → length t ≡ 2352 → judgement a t ≡ j → judge_answer t a ≡ verdict j
  judges t j full e = sym (judge_done t a full (accepted s a (ap (λ (x : Judged). x.number) judged)).1) ∙ ap (λ (x : Judgement). verdict x) e

pub damage : DamageClaim
damage s a k v hs judged hv new kept written written_too =
    let l = layout_read s in
    let h = changed s a k v (whole s a judged) hs hv new kept in
    let was = fact s a judged in
    judges s a judged (set s k v) (facts_of_change l k) (length-set s k v ∙ whole s a judged)
    (same_facts (judgement a (set s k v)) (facts_of_change l k)
    (exactly (ltb k 12) _ _ (λ e. h.sync_set (ltb-true k 12 e)) (λ e. h.sync_stays (ltb-false k 12 e)) (was (λ j. j.sync)))
    (exactly (of_mode l k) _ _ h.mode_set h.mode_stays (was (λ j. j.mode)))
    (exactly (of_edc l k) _ _ (λ e _. h.edc_set e (right s a judged written) written_too) h.edc_stays (was (λ j. j.edc)))
    (exactly (leb 12 k && ltb k 15) _ _
    (λ e. h.address_set (leb-true 12 k (left_true (leb 12 k) (ltb k 15) e)) (ltb-true k 15 (right_true (leb 12 k) (ltb k 15) e)))
    (λ e. h.address_stays (out_of_run 12 15 k e)) (was (λ j. j.address))))

-- What is always found

-- one that leaves sync, address and EDC is not of their bytes
not_of : (s : List ℕ) (k : ℕ) → facts_of_change (layout_read s) k ≡ no_facts → (k ≡ 15 → ⊥) → k < (layout_read s).code + 4 → ⊥
not_of s k none not_15 before =
    let l = layout_read s in
    let f = fits (kind_read s) in
    let covered = f.covered_from in
    let past_sync = ltb-false k 12 (ap (λ (j : Judgement). j.sync) none) in
    let past_address : 15 ≤ k = ⊎_elim (λ (t : k < 12). absurd (omega arith)) (λ t. t) (out_of_run 12 15 k (ap (λ (j : Judgement). j.address) none)) in
    ⊎_elim (λ (t : k < l.covered). not_15 (omega arith)) (λ (t : l.code + 4 ≤ k). omega arith)
    (out_of_run l.covered (l.code + 4) k (ap (λ (j : Judgement). j.edc) none))

-- byte 18 of mode 2: the copies differ, whatever form is read
submode_found : (s : List ℕ) (a : Address) (v : ℕ) → judge_answer s a ≡ verdict no_facts → (v ≡ get_or s 18 0 → ⊥) → (kind_read s ≡ 1 → ⊥)
    → judge_answer (set s 18 v) a ≡ verdict no_facts → ⊥
submode_found s a v judged new not_1 after =
    clash (mode_holds (set s 18 v))
    (mode_copies s 18 v (whole s a judged) new (omega arith) (omega arith) (two_read s not_1) (mode_held s a judged))
    (mode_held (set s 18 v) a after)

found : (s : List ℕ) (a : Address) (k v : ℕ) → Bytes s → judge_answer s a ≡ verdict no_facts → v < 256 → (v ≡ get_or s k 0 → ⊥)
    → unwritten (layout_read s) s ≡ false → unwritten (layout_read s) (set s k v) ≡ false → (k ≡ 15 → ⊥) → k < (layout_read s).code + 4
    → judge_answer (set s k v) a ≡ verdict no_facts → ⊥
found s a k v hs judged hv new written written_too not_15 before after = by (eqb k 18) (eqb (kind_read s) 1) refl refl
  where
    same_kind : kind_read (set s k v) ≡ kind_read s → ⊥
    same_kind kept =
        not_of s k
        (ap (λ (j : Judged). j.judgement) (sym (damage s a k v hs judged hv new kept written written_too) ∙ after)) not_15 before

    by : (b c : Bool) → eqb k 18 ≡ b → eqb (kind_read s) 1 ≡ c → ⊥
    by false c e f = same_kind (kind_stays s k v not_15 (λ (t : k ≡ 18). absurd (eqb-false k 18 e t)))
    by true true e f = same_kind (kind_stays s k v not_15 (λ _. eqb-true (kind_read s) 1 f))
    by true false e f =
        let here = eqb-true k 18 e in
        submode_found s a v judged (λ (t : v ≡ get_or s 18 0). new (t ∙ ap (λ (i : ℕ). get_or s i 0) (sym here))) (eqb-false (kind_read s) 1 f)
        (ap (λ (i : ℕ). judge_answer (set s i v) a) (sym here) ∙ after)

-- before the user bytes of mode 2, whatever the code
found_front : (s : List ℕ) (a : Address) (k v : ℕ) → judge_answer s a ≡ verdict no_facts → (v ≡ get_or s k 0 → ⊥) → (kind_read s ≡ 1 → ⊥)
    → (k ≡ 15 → ⊥) → k < 24 → judge_answer (set s k v) a ≡ verdict no_facts → ⊥
unfolding sync_holds address_holds
found_front s a k v judged new not_1 not_15 before after =
    let full = whole s a judged in
    ⊎_elim
    (λ (t : k < 12).
    clash (sync_holds (set s k v)) (same_fails 0 12 k v s sync (omega arith) t (omega (arith, full)) new (sync_held s a judged)) (sync_held (set s k v) a after))
    (λ (past : 12 ≤ k).
    ⊎_elim
    (λ (t : k < 15).
    clash (address_holds a (set s k v)) (same_fails 12 3 k v s (address_bytes a) past t (omega (arith, full)) new (address_held s a judged)) (address_held (set s k v) a after))
    (λ (t : 15 ≤ k). clash (mode_holds (set s k v)) (mode_copies s k v full new (at_16 t) before (two_read s not_1) (mode_held s a judged)) (mode_held (set s k v) a after))
    (lt_or_ge k 15))
    (lt_or_ge k 12)
  where
    at_16 : 15 ≤ k → 16 ≤ k
    at_16 t = ⊎_elim (λ (e : k < 16). absurd (not_15 (omega arith))) (λ (e : 16 ≤ k). e) (lt_or_ge k 16)

-- What is not

-- the facts of a change that leaves each test
module _ (s : List ℕ) (a : Address) (k v : ℕ) where
  as_before : 24 ≤ k → edc_holds (set s k v) ≡ edc_holds s → judgement a (set s k v) ≡ judgement a s
  unfolding judgement sync_holds address_holds
  as_before past edc_same =
      same_facts (judgement a (set s k v)) (judgement a s) (ap not (same_away 0 12 k v s sync (inr (omega arith))))
      (ap not (mode_away s k v (λ (e : k ≡ 15). omega arith) (λ _. inr past))) (ap not edc_same) (ap not (same_away 12 3 k v s (address_bytes a) (inr (omega arith))))

  kept_past : 24 ≤ k → kind_read (set s k v) ≡ kind_read s
  kept_past past = kind_stays s k v (λ (e : k ≡ 15). omega arith) (λ (e : k ≡ 18). absurd (omega arith))

  pub behind : (layout_read s).code + 4 ≤ k → judgement a (set s k v) ≡ judgement a s
  behind past =
      let l = layout_read s in
      let f = fits (kind_read s) in
      let after = code_after (kind_read s) in
      let past_24 : 24 ≤ k = omega arith in
      as_before past_24 (edc_away s k v (kept_past past_24) (right_false (leb l.covered k) (ltb k (l.code + 4)) (le-ltb k (l.code + 4) past)))

-- without a code the EDC is not judged
unwritten_holds : (s : List ℕ) → unwritten (layout_read s) s ≡ true → edc_holds s ≡ true
unfolding edc_holds
unwritten_holds s e = or_right (code_right (layout_read s) s) (unwritten (layout_read s) s) e

all_three : (b c d e : Bool) → d ≡ true → not ((not b || (not c || not d)) || not e) ≡ (b && (c && e))
all_three true true true true h = refl
all_three true true true false h = refl
all_three true true false e h = clash false refl h
all_three true false d e h = refl
all_three false c d e h = refl

checked : (s : List ℕ) (a : Address) → kind_read s ≡ 3 → unwritten (layout_read s) s ≡ true
    → good (judgement a s) ≡ (sync_holds s && (mode_holds s && address_holds a s))
unfolding judgement
checked s a three e = all_three (sync_holds s) (mode_holds s) (edc_holds s) (address_holds a s) (unwritten_holds s e)

not_found : (s : List ℕ) (a : Address) (k v : ℕ) → judge_answer s a ≡ verdict no_facts → kind_read s ≡ 3 → unwritten (layout_read s) s ≡ true
    → 24 ≤ k → k < 2348 → judge_answer (set s k v) a ≡ verdict no_facts
not_found s a k v judged three none from to =
    let kept = kept_past s a k v from in
    let code = three_code (kind_read s) three in
    let still : unwritten (layout_read (set s k v)) (set s k v) ≡ true =
    ap (λ (n : ℕ). unwritten (layout n) (set s k v)) kept ∙ unwritten_away (layout_read s) (fits (kind_read s)) s k v (inl (omega (arith, code))) ∙ none in
    judges s a judged (set s k v) no_facts (length-set s k v ∙ whole s a judged)
    (as_before s a k v from (unwritten_holds (set s k v) still ∙ sym (unwritten_holds s none)) ∙ judged_facts s a no_facts judged)

emptied : (s : List ℕ) (a : Address) (k v : ℕ) → judge_answer s a ≡ verdict no_facts → kind_read s ≡ 3 → 2348 ≤ k
    → unwritten (layout_read s) (set s k v) ≡ true → judge_answer (set s k v) a ≡ verdict no_facts
emptied s a k v judged three from none =
    let past : 24 ≤ k = omega arith in
    let now : unwritten (layout_read (set s k v)) (set s k v) ≡ true = ap (λ (n : ℕ). unwritten (layout n) (set s k v)) (kept_past s a k v past) ∙ none in
    judges s a judged (set s k v) no_facts (length-set s k v ∙ whole s a judged)
    (as_before s a k v past (unwritten_holds (set s k v) now ∙ sym (edc_held s a judged)) ∙ judged_facts s a no_facts judged)

odd_mode : (s : List ℕ) (a : Address) (v : ℕ) → length s ≡ 2352 → (v ≡ 1 → ⊥) → (v ≡ 2 → ⊥) → (judgement a (set s 15 v)).mode ≡ true
unfolding judgement
odd_mode s a v full not_1 not_2 = ap not (odd_fails s v full not_1 not_2)

pub founds : FoundClaim
founds = record {
  kind_stays = kind_stays;
  found = found;
  found_front = found_front;
  odd_mode = odd_mode;
  checked = checked;
  not_found = not_found;
  emptied = emptied;
  behind = behind;
}

-- the facts of each place, in each kind
pub places : PlacesClaim
unfolding layout
places = record {
  mode_1 = λ k. ap₂ (λ (m e : Bool). record { sync = ltb k 12; mode = m; edc = e; address = leb 12 k && ltb k 15 }) (sym (or_first (eqb k 15) false refl)) (and_last (leb 0 k) _ (le-leb 0 k (omega arith)));
  form_1 = λ k. refl;
  form_2 = λ k. refl;
}

-- The EDC of a sector that passes: right, or none in form 2
pub edc_cases : (s : List ℕ) → edc_holds s ≡ true → (code_right (layout_read s) s ≡ true) ⊎ ((kind_read s ≡ 3) × (take 4 (drop 2348 s) ≡ replicate 4 0))
unfolding edc_holds unwritten
edc_cases s e =
    let l = layout_read s in
    let zero = same (take 4 (drop l.code s)) (replicate 4 0) in
    ⊎_elim (λ (t : code_right l s ≡ true). inl t)
    (λ (t : (l.optional && zero) ≡ true).
    let three = optional_kind (kind_read s) (left_true l.optional zero t) in
    inr (three, ap (λ (n : ℕ). take 4 (drop n s)) (sym (three_code (kind_read s) three)) ∙ same_is (take 4 (drop l.code s)) (replicate 4 0) (right_true l.optional zero t)))
    (or_true (code_right l s) (l.optional && zero) e)
