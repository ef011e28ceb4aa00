-- A judgement by its four facts; what the calls answer, case by case; and what holds where a judging is answered 0. Assumes nothing.
use mathlib.Core.Path.{◌≡◌, refl, ap, ◌∙◌}
use mathlib.Core.Bool.{Bool, true, false}
use mathlib.Core.List.{List}
use Prim.Native.Nat.{ℕ}
use lib.ListN.{length}
use lib.Dec.{eqb}
use borrow.Author.Tests.{eq-eqb, ne_eqb, eqb-true, eqb-false}
use Rattle.laws.specs.Numbers.{weight}
use Rattle.reply.specs.Reply.{refusal, answer}
use Rattle.scramble.specs.Scramble.{scrambled}
use Rattle.sector.specs.declared.Address.{Address}
use Rattle.sector.specs.declared.Judgement.{Judgement}
use Rattle.sector.specs.Calls.{Judged, seal_reply, seal_sector, open_reply, open_sector, refused, judge_answer, words_hold, parity_reply}
use Rattle.sector.specs.declared.Subheader.{Subheader}
use Rattle.sector.specs.Address.{valid}
use Rattle.sector.specs.Layout.{agrees, layout, layout_read}
use Rattle.sector.specs.Sector.{encoded, sealed}
use Rattle.sector.specs.Judge.{judgement}

-- a judgement is its four facts
pub same_facts : (i j : Judgement) → i.sync ≡ j.sync → i.mode ≡ j.mode → i.edc ≡ j.edc → i.address ≡ j.address → i ≡ j
same_facts i j s m e a =
    ap (λ (x : Bool). record { sync = x; mode = i.mode; edc = i.edc; address = i.address }) s
    ∙ ap (λ (x : Bool). record { sync = j.sync; mode = x; edc = i.edc; address = i.address }) m
    ∙ ap (λ (x : Bool). record { sync = j.sync; mode = j.mode; edc = x; address = i.address }) e
    ∙ ap (λ (x : Bool). record { sync = j.sync; mode = j.mode; edc = j.edc; address = x }) a

-- ---- a sector of another length is refused

pub judge_short : (s : List ℕ) (a : Address) → (length s ≡ 2352 → ⊥) → refused 1 ≡ judge_answer s a
unfolding judge_answer
judge_short s a short = simp (ne_eqb (length s) 2352 short)

-- ---- a sector of its length

pub open_done : (s : List ℕ) → length s ≡ 2352 → (answer 0 ≡ open_reply s) × (scrambled s ≡ open_sector s)
unfolding open_reply open_sector
open_done s full = (simp (eq-eqb (length s) 2352 full), simp (eq-eqb (length s) 2352 full))

module _ (s : List ℕ) (a : Address) (full : length s ≡ 2352) where
  module _ (k : ℕ) (h : Subheader) where
    pub seal_done : valid a ≡ true → agrees k h ≡ true → (answer 0 ≡ seal_reply s a k h) × (scrambled (encoded (layout k) a h s) ≡ seal_sector s a k h)
    unfolding seal_reply seal_sector sealed
    seal_done v w = (simp (eq-eqb (length s) 2352 full, v, w), simp (eq-eqb (length s) 2352 full, v, w))

  pub judge_out : valid a ≡ false → refused 3 ≡ judge_answer s a
  unfolding judge_answer
  judge_out v = simp (eq-eqb (length s) 2352 full, v)

  pub judge_done : valid a ≡ true → record { number = 0; judgement = judgement a s } ≡ judge_answer s a
  unfolding judge_answer
  judge_done v = simp (eq-eqb (length s) 2352 full, v)

-- ---- a judging that is answered 0 is of a whole sector and a valid address

pub accepted : (s : List ℕ) (a : Address) → (judge_answer s a).number ≡ 0 → (length s ≡ 2352) × (valid a ≡ true)
accepted s a h = by_length (eqb (length s) 2352) refl
  where
    by_address : (b : Bool) → valid a ≡ b → length s ≡ 2352 → valid a ≡ true
    by_address true e full = e
    by_address false e full = cc (judge_out s a full e)

    by_length : (b : Bool) → eqb (length s) 2352 ≡ b → (length s ≡ 2352) × (valid a ≡ true)
    by_length true e = let full = eqb-true (length s) 2352 e in (full, by_address (valid a) refl full)
    by_length false e = cc (judge_short s a (eqb-false (length s) 2352 e))

-- the facts of a judging that is answered 0
pub judged_facts : (s : List ℕ) (a : Address) (j : Judgement) → judge_answer s a ≡ record { number = 0; judgement = j } → judgement a s ≡ j
judged_facts s a j h =
    let ok = accepted s a (ap (λ (x : Judged). x.number) h) in
    ap (λ (x : Judged). x.judgement) (judge_done s a ok.0 ok.1 ∙ h)

-- ---- the parity check

pub parity_short : (s : List ℕ) → (length s ≡ 2352 → ⊥) → refusal 1 ≡ parity_reply s
unfolding parity_reply
parity_short s short = simp (ne_eqb (length s) 2352 short)

pub parity_done : (s : List ℕ) → length s ≡ 2352 → answer (weight (words_hold (layout_read s) s) 1) ≡ parity_reply s
unfolding parity_reply
parity_done s full = simp (eq-eqb (length s) 2352 full)
