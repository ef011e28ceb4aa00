-- The parity check, by the kind that is read: the parts of CheckClaim. Assumes nothing.
use mathlib.Core.Path.{◌≡◌, refl, sym, ap, ap₂, ◌∙◌}
use mathlib.Core.Bool.{Bool, true, false, not, ◌&&◌, ◌||◌}
use mathlib.Core.Logic.{◌⊎◌, ⊎_elim}
use mathlib.Core.List.{List, [], ◌∷◌, ◌++◌}
use Prim.Native.Nat.{ℕ, zero, suc, ◌+◌, ◌-◌, ◌<◌, ◌≤◌}
use native.Mathlib.Nat.{le_of_eq}
use native.Mathlib.Omega.{arith}
use lib.Dec.{eqb, leb, ltb}
use lib.ListN.{length, take, drop, get_or, set, replicate, length-set, length-replicate}
use lib.Seq.{take-add, take-suc, take_all, drop-drop, ext_get_or}
use borrow.Author.Tests.{eqb-true, eqb-false, le-ltb, not-true, not-false}
use Rattle.laws.specs.Bytes.{Bytes}
use Rattle.laws.specs.Numbers.{weight}
use Rattle.std.specs.Prelude.{if◌then◌else◌}
use Rattle.laws.proofs.Choice.{right_false}
use Rattle.laws.proofs.Fill.{zeros}
use Rattle.laws.proofs.Same.{same_is}
use Rattle.laws.proofs.Tests.{contra, when_true, or_right}
use Rattle.laws.proofs.Window.{length_window, get_d_window}
use Rattle.laws.proofs.Wrap.{lt_or_ge}
use Rattle.parity.specs.Parity.{with_parity, parity_holds}
use Rattle.parity.proofs.Validity.{only_with}
use Rattle.parity.proofs.Change as change
use Rattle.parity.proofs.Change.{all_zeros}
use Rattle.reply.specs.Reply.{answer, Reply}
use Rattle.sector.specs.declared.Address.{Address}
use Rattle.sector.specs.declared.Judgement.{Judgement}
use Rattle.sector.specs.Calls.{Judged, seal_sector, open_sector, judge_answer, words_hold, parity_reply}
use Rattle.sector.specs.declared.Subheader.{Subheader}
use Rattle.sector.specs.declared.layout.Layout.{Layout}
use Rattle.sector.specs.Address.{address_bytes}
use Rattle.sector.specs.Layout.{subheader_bytes, kind_read, layout, layout_read, subheader_read, end, Fits}
use Rattle.sector.specs.Sector.{sync, full_head, head, user, code_of, body, framed, encoded}
use Rattle.sector.specs.Judge.{sync_holds, mode_holds, code_right, address_holds, judgement, no_facts}
use Rattle.sector.specs.Claims.{verdict}
use Rattle.sector.proofs.Answers.{accepted, judged_facts, parity_short, parity_done}
use Rattle.sector.proofs.Sealed.{opens}
use Rattle.sector.proofs.Layouts.{fits, wordless_kind, masked_kind, two_masked, three_wordless, form_mode, read_two, read_other, read_agrees}
use Rattle.sector.proofs.Changes.{kind_stays, mode_cases}

-- a check that is answered 1 is of a whole sector whose parity holds
weigh : (b : Bool) → answer (weight b 1) ≡ answer 1 → b ≡ true
weigh true e = refl
weigh false e = absurd (omega (arith, ap (λ (r : Reply). r.result) e))

yes : (s : List ℕ) → parity_reply s ≡ answer 1 → (length s ≡ 2352) × (words_hold (layout_read s) s ≡ true)
yes s e = by (eqb (length s) 2352) refl
  where
    by : (b : Bool) → eqb (length s) 2352 ≡ b → (length s ≡ 2352) × (words_hold (layout_read s) s ≡ true)
    by true f = let full = eqb-true (length s) 2352 f in (full, weigh (words_hold (layout_read s) s) (parity_done s full ∙ e))
    by false f = absurd (omega (arith, ap (λ (r : Reply). r.number) (parity_short s (eqb-false (length s) 2352 f) ∙ e)))

says : (s : List ℕ) (b : Bool) → length s ≡ 2352 → words_hold (layout_read s) s ≡ b → parity_reply s ≡ answer (weight b 1)
says s b full e = sym (parity_done s full) ∙ ap (λ (x : Bool). answer (weight x 1)) e

-- where the kind that is read stays, and the words hold as before, so does the reply
stays : (s : List ℕ) (k v : ℕ) → kind_read (set s k v) ≡ kind_read s → parity_holds (layout_read s).masked (set s k v) ≡ parity_holds (layout_read s).masked s
    → parity_reply (set s k v) ≡ parity_reply s
unfolding words_hold
stays s k v kept same_words = by (eqb (length s) 2352) refl
  where
    by : (b : Bool) → eqb (length s) 2352 ≡ b → parity_reply (set s k v) ≡ parity_reply s
    by true f =
        let full = eqb-true (length s) 2352 f in
        says (set s k v) (words_hold (layout_read s) s) (length-set s k v ∙ full)
        (ap (λ (n : ℕ). words_hold (layout n) (set s k v)) kept ∙ ap (λ (b : Bool). not (layout_read s).parity || b) same_words)
        ∙ parity_done s full
    by false f =
        let short = eqb-false (length s) 2352 f in
        sym (parity_short (set s k v) (λ (e : length (set s k v) ≡ 2352). short (sym (length-set s k v) ∙ e))) ∙ parity_short s short

pub detected : (s : List ℕ) (k v : ℕ) → parity_reply s ≡ answer 1 → (kind_read s ≡ 3 → ⊥) → (kind_read s ≡ 2 → 16 ≤ k) → 12 ≤ k → k < 2352
    → (v ≡ get_or s k 0 → ⊥) → kind_read (set s k v) ≡ kind_read s → parity_reply (set s k v) ≡ answer 0
unfolding words_hold
detected s k v e not_3 from_16 low high new kept =
    let h = yes s e in
    let l = layout_read s in
    let words : l.parity ≡ true = not-false l.parity (contra (not l.parity) false (λ t. absurd (not_3 (wordless_kind (kind_read s) (not-true l.parity t)))) refl) in
    let held : parity_holds l.masked s ≡ true = when_true l.parity (parity_holds l.masked s) h.1 words in
    let counts : (l.masked && (leb 12 k && ltb k 16)) ≡ false = in_words l.masked refl in
    says (set s k v) false (length-set s k v ∙ h.0)
    (ap (λ (n : ℕ). words_hold (layout n) (set s k v)) kept
    ∙ ap₂ (λ (b c : Bool). not b || c) words (change.detected l.masked s k v h.0 held low high counts new))
  where
    in_words : (b : Bool) → (layout_read s).masked ≡ b → (b && (leb 12 k && ltb k 16)) ≡ false
    in_words false f = refl
    in_words true f = right_false (leb 12 k) (ltb k 16) (le-ltb k 16 (from_16 (masked_kind (kind_read s) f)))

pub sync_free : (s : List ℕ) (k v : ℕ) → k < 12 → parity_reply (set s k v) ≡ parity_reply s
sync_free s k v h =
    stays s k v (kind_stays s k v (λ (e : k ≡ 15). omega arith) (λ (e : k ≡ 18). absurd (omega arith))) (change.sync_free (layout_read s).masked s k v h)

pub header_free : (s : List ℕ) (k v : ℕ) → kind_read s ≡ 2 → k < 15 → parity_reply (set s k v) ≡ parity_reply s
header_free s k v two h = ⊎_elim (λ (low : k < 12). sync_free s k v low) in_header (lt_or_ge k 12)
  where
    as_zero : (layout_read s).masked ≡ true
    as_zero = two_masked (kind_read s) two

    in_header : 12 ≤ k → parity_reply (set s k v) ≡ parity_reply s
    in_header low =
        stays s k v (kind_stays s k v (λ (e : k ≡ 15). omega arith) (λ (e : k ≡ 18). absurd (omega arith)))
        (ap (λ (b : Bool). parity_holds b (set s k v)) as_zero ∙ change.header_free s k v low (omega arith) ∙ ap (λ (b : Bool). parity_holds b s) (sym as_zero))

pub form_2_yes : (s : List ℕ) → length s ≡ 2352 → kind_read s ≡ 3 → parity_reply s ≡ answer 1
unfolding words_hold
form_2_yes s full three =
    says s true full (ap (λ (b : Bool). not b || parity_holds (layout_read s).masked s) (three_wordless (kind_read s) three))

pub zeros_hold : parity_reply (replicate 2352 0) ≡ answer 1
unfolding words_hold
zeros_hold =
    let s : List ℕ = replicate 2352 0 in
    says s true (length-replicate {A = ℕ} 2352 0) (or_right (not (layout_read s).parity) (parity_holds (layout_read s).masked s) (all_zeros (layout_read s).masked s (zeros 2352)))

-- The bytes of a good sector, piece by piece

module _ (s : List ℕ) (a : Address) (full : length s ≡ 2352) (good : judgement a s ≡ no_facts) where
  -- by the layout and the subheader that are read
  l : Layout
  l = layout_read s

  h : Subheader
  h = subheader_read s

  f : Fits l
  unfolding l
  f = fits (kind_read s)

  holds : (test : Bool) → not test ≡ false → test ≡ true
  holds test e = not-false test e

  first_12 : take 12 s ≡ sync
  unfolding judgement sync_holds
  first_12 = same_is (take 12 s) sync (holds (sync_holds s) (ap (λ (j : Judgement). j.sync) good))

  next_3 : take 3 (drop 12 s) ≡ address_bytes a
  unfolding judgement address_holds
  next_3 = same_is (take 3 (drop 12 s)) (address_bytes a) (holds (address_holds a s) (ap (λ (j : Judgement). j.address) good))

  first_15 : take 15 s ≡ sync ++ address_bytes a
  first_15 = take-add 12 3 s ∙ ap₂ (λ (x y : List ℕ). x ++ y) first_12 next_3

  -- the mode byte is the layout's, and the two copies are the subheader
  mode_tests : (get_or s 15 0 ≡ 1) ⊎ ((get_or s 15 0 ≡ 2) × (take 4 (drop 16 s) ≡ take 4 (drop 20 s)))
  unfolding judgement mode_holds
  mode_tests = mode_cases s (holds (mode_holds s) (ap (λ (j : Judgement). j.mode) good))

  first_16 : take 16 s ≡ sync ++ address_bytes a ++ get_or s 15 0 ∷ []
  first_16 = take-suc s 15 0 (omega arith) ∙ ap (λ (x : List ℕ). x ++ (get_or s 15 0 ∷ [])) first_15

  copy : take 4 (drop 16 s) ≡ subheader_bytes h
  unfolding h
  copy =
      ext_get_or 0 (take 4 (drop 16 s)) (subheader_bytes (subheader_read s)) long_is at
    where
      long_is : length (take 4 (drop 16 s)) ≡ 4
      long_is = length_window 16 4 s (omega arith)

      byte : (i : ℕ) → i < 4 → get_or (take 4 (drop 16 s)) i 0 ≡ get_or s (16 + i) 0
      byte i b = get_d_window 16 4 i 0 s b

      at : (i : ℕ) → i < length (take 4 (drop 16 s)) → get_or (take 4 (drop 16 s)) i 0 ≡ get_or (subheader_bytes (subheader_read s)) i 0
      at zero b = byte 0 (omega arith)
      at (suc zero) b = byte 1 (omega arith)
      at (suc (suc zero)) b = byte 2 (omega arith)
      at (suc (suc (suc zero))) b = byte 3 (omega arith)
      at (suc (suc (suc (suc i)))) b = absurd (omega (arith, long_is, b))

  front : take l.user s ≡ head l a h
  unfolding l layout
  front = ⊎_elim one two mode_tests
    where
      one : get_or s 15 0 ≡ 1 → take l.user s ≡ head l a h
      one e =
          let kind = read_other s (λ (t : get_or s 15 0 ≡ 2). cc) in
          ap (λ (n : ℕ). take (layout n).user s) kind
          ∙ first_16 ∙ ap (λ (x : ℕ). sync ++ address_bytes a ++ x ∷ []) e
          ∙ sym (ap (λ (n : ℕ). head (layout n) a h) kind)

      two : (get_or s 15 0 ≡ 2) × (take 4 (drop 16 s) ≡ take 4 (drop 20 s)) → take l.user s ≡ head l a h
      two e =
          let kind = read_two s e.0 in
          let xa = form_mode (get_or s 18 0) in
          let user_24 : l.user ≡ 24 = ap (λ (n : ℕ). (layout n).user) kind ∙ xa.1 in
          let mode_2 : l.mode ≡ 2 = ap (λ (n : ℕ). (layout n).mode) kind ∙ xa.0 in
          let first_20 : take 20 s ≡ (sync ++ address_bytes a ++ 2 ∷ []) ++ subheader_bytes h
          = take-add 16 4 s ∙ ap₂ (λ (x y : List ℕ). x ++ y) (first_16 ∙ ap (λ (x : ℕ). sync ++ address_bytes a ++ x ∷ []) e.0) copy in
          let first_24 : take 24 s ≡ full_head 2 a h = take-add 20 4 s ∙ ap₂ (λ (x y : List ℕ). x ++ y) first_20 (sym e.1 ∙ copy) in
          ap (λ (n : ℕ). take n s) user_24 ∙ first_24
          ∙ sym (ap₂ (λ (n m : ℕ). take n (full_head m a h)) user_24 mode_2)

  first_body : take l.code s ≡ body l a h s
  unfolding body
  first_body =
      let u = f.user_before in
      let sum : l.user + (l.code - l.user) ≡ l.code = omega arith in
      ap (λ (n : ℕ). take n s) (sym sum) ∙ take-add l.user (l.code - l.user) s ∙ ap (λ (x : List ℕ). x ++ user l s) front

  first_frame : code_right l s ≡ true → take l.zeros (drop (l.code + 4) s) ≡ replicate l.zeros 0 → take (end l) s ≡ framed l a h s
  unfolding framed code_right
  first_frame right z =
      take-add l.code (4 + l.zeros) s
      ∙ ap₂ (λ (x y : List ℕ). x ++ y) first_body
      (take-add 4 l.zeros (drop l.code s)
      ∙ ap₂ (λ (x y : List ℕ). x ++ y)
      (same_is (take 4 (drop l.code s)) (code_of l (take l.code s)) right ∙ ap (code_of l) first_body)
      (ap (take l.zeros) (drop-drop 4 l.code s) ∙ z))

  all : Bytes s → words_hold l s ≡ true → take (end l) s ≡ framed l a h s → s ≡ encoded l a h s
  unfolding encoded words_hold
  all b words frame = by l.parity refl
    where
      by : (p : Bool) → l.parity ≡ p → s ≡ (if p then with_parity l.masked (framed l a h s) else framed l a h s)
      by true e =
          only_with l.masked s full b (when_true l.parity (parity_holds l.masked s) words e)
          ∙ ap (with_parity l.masked) (ap (λ (n : ℕ). take n s) (sym (f.parity_from e)) ∙ frame)
      by false e = sym (take_all 2352 s (le_of_eq full)) ∙ ap (λ (n : ℕ). take n s) (sym (f.no_parity e)) ∙ frame

pub only : (s : List ℕ) (a : Address) → Bytes s → judge_answer s a ≡ verdict no_facts → code_right (layout_read s) s ≡ true
    → take (layout_read s).zeros (drop ((layout_read s).code + 4) s) ≡ replicate (layout_read s).zeros 0
    → parity_reply s ≡ answer 1 → open_sector (seal_sector s a (kind_read s) (subheader_read s)) ≡ s
unfolding l h
only s a b judged right z e =
    let ok = accepted s a (ap (λ (j : Judged). j.number) judged) in
    let good = judged_facts s a no_facts judged in
    opens (kind_read s) a (subheader_read s) s ok.0 ok.1 (read_agrees s)
    ∙ sym (all s a ok.0 good b (yes s e).1 (first_frame s a ok.0 good right z))
