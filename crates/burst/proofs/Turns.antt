-- A turn of a burst: one word or its refusal, or the words inside a block; and turns one after the other. Assumes nothing.
use Rattle.std.specs.Prelude.{Result, Ok, Err, Option, None}
use Prim.Native.Nat.{ℕ, suc, ◌+◌, ◌-◌, ◌<◌, ◌≤◌}
use mathlib.Core.Path.{◌≡◌, sym, ◌∙◌, ap, ap₂, subst}
use mathlib.Core.List.{List, [], ◌∷◌, ◌++◌, append_assoc, append-nil}
use native.Mathlib.Omega.{arith}
use lib.ListN.{length, take, drop, set, length-drop, take-append-drop}
use lib.Seq.{length-take-le, take_at, drop-drop, take-append-add, drop-append-add}
use borrow.Rule.Slice.PartMut.{put_mid, mid_of}
use Rattle.laws.specs.Bytes.{words_at}
use Rattle.laws.proofs.Ends.{put_length}
use Rattle.laws.proofs.Parts.{put_rest, mid_rest}
use Rattle.laws.proofs.Words.{words_length}
use Rattle.chip.specs.Calls.{next_place, word_told}
use Rattle.reply.specs.declared.Refusal.{Refusal}
use Rattle.chip.specs.declared.Accepted.{Accepted}
use Rattle.chip.specs.declared.Chip.{Chip}
use Rattle.chip.specs.Told.{WordTold, word_told_of}
use Rattle.burst.specs.Burst.{Run, run, prepend, by_word, host_words, told_of, refusal_number, written, ahead, advanced, handed_by, following}
use Rattle.burst.specs.declared.Turned.{Turned}
use Rattle.burst.proofs.Blocks.{inside_of, run_opened, inside_run}

-- a run of at least one word begins with what is told of it
first : (c : Chip) (ring : List ℕ) {n : ℕ} → 0 < n → {t : WordTold} → t ≡ word_told c ring
    → host_words n c ring ≡ by_word t.word c (host_words (n - 1) t.chip ring)
first c ring {n = n} some is =
    let e : n ≡ suc (n - 1) = omega (arith, some) in
    ap (λ (k : ℕ). host_words k c ring) e ∙ run_opened ring (n - 1) c
    ∙ ap (λ (u : WordTold). by_word u.word c (host_words (n - 1) u.chip ring)) (sym is)

-- a turn that is refused
pub turn_refused : (c : Chip) (ring out : List ℕ) → 0 < length out → (r : Refusal) → word_told_of c (Err r) ≡ word_told c ring → (t : Result Turned Refusal) → t ≡ Err r
    → host_words (length out) c ring ≡ prepend (take (handed_by t) out) (following (length out) c ring t)
turn_refused c ring out some r told t is =
    first c ring some told ∙ sym (ap (λ (u : Result Turned Refusal). prepend (take (handed_by u) out) (following (length out) c ring u)) is)

-- one of one word
pub turn_one : (c : Chip) (ring out : List ℕ) → 0 < length out → (a : Accepted) → word_told_of c (Ok a) ≡ word_told c ring
    → host_words (length out) c ring ≡ prepend (take 1 (set out 0 a.value)) (host_words (length out - 1) a.chip ring)
turn_one c ring [] some a told = absurd (omega (arith, some))
turn_one c ring (x ∷ xs) some a told = first c ring some told

-- and one of r words inside a block
pub turn_inside : (c : Chip) (ring out ws : List ℕ) (r : ℕ) → 0 < r → r ≤ length out → r ≤ ahead c ring
    → ws ≡ words_at ring (next_place c) (length (take r out)) → (d : Chip) → d ≡ advanced c (length (take r out))
    → host_words (length out) c ring ≡ prepend (take r (ws ++ drop r out)) (host_words (length out - r) d ring)
turn_inside c ring out ws r some within far copied d is =
    let n : length out ≡ r + (length out - r) = omega (arith, within) in
    let part : length (take r out) ≡ r = length-take-le r out within in
    let long : length ws ≡ r = ap (λ (l : List ℕ). length l) copied ∙ words_length ring (next_place c) (length (take r out)) ∙ part in
    let front : take r (ws ++ drop r out) ≡ words_at ring (next_place c) r = take_at ws (drop r out) r long ∙ copied ∙ ap (words_at ring (next_place c)) part in
    ap (λ (k : ℕ). host_words k c ring) n
    ∙ inside_run ring r (length out - r) c (inside_of c ring r some far)
    ∙ ap₂ (λ (l : List ℕ) (e : Chip). prepend l (host_words (length out - r) e ring)) (sym front) (sym (is ∙ ap (advanced c) part))

-- the run so far: h words of it are at the front of what was lent, and the rest of the run is the chip's that is there now
pub record Standing (ring out₀ : List ℕ) (c₀ : Chip) (out : List ℕ) (c : Chip) (h : ℕ) : Type 0 where
  pub ran : host_words (length out₀) c₀ ring ≡ prepend (take h out) (host_words (length out₀ - h) c ring)
  pub behind : drop h out ≡ drop h out₀
  pub long : length out ≡ length out₀
  pub within : h ≤ length out₀

module _ (ring out₀ : List ℕ) (c₀ : Chip) (out : List ℕ) (c : Chip) (h : ℕ) (so : Standing ring out₀ c₀ out c h) where
  front_long : length (take h out) ≡ h
  front_long = length-take-le h out (subst (λ (k : ℕ). h ≤ k) (sym so.long) so.within)

  -- a run that ends here
  over : (number : ℕ) → host_words (length out₀ - h) c ring ≡ run c [] number → host_words (length out₀) c₀ ring ≡ run c (take h out) number
  over number e = so.ran ∙ ap (prepend (take h out)) e ∙ ap (λ (l : List ℕ). run c l number) (append-nil (take h out))

  over_told : (number : ℕ) → host_words (length out₀ - h) c ring ≡ run c [] number
      → record { chip = c; handed = h; number = number } ≡ told_of (host_words (length out₀) c₀ ring)
  over_told number e = sym (ap told_of (over number e) ∙ ap (λ (k : ℕ). record { chip = c; handed = k; number = number }) front_long)

  over_written : (number : ℕ) → host_words (length out₀ - h) c ring ≡ run c [] number → out ≡ written (host_words (length out₀) c₀ ring) out₀
  over_written number e =
      sym (take-append-drop h out) ∙ ap (λ (l : List ℕ). take h out ++ l) (so.behind ∙ ap (λ (k : ℕ). drop k out₀) (sym front_long))
      ∙ sym (ap (λ (r : Run). written r out₀) (over number e))

  -- nothing more is asked for
  full : length out₀ ≤ h → host_words (length out₀ - h) c ring ≡ run c [] 0
  unfolding host_words
  full l = let e : length out₀ - h ≡ 0 = omega arith in ap (λ (k : ℕ). host_words k c ring) e

  pub full_told : length out₀ ≤ h → {r : Option Refusal} → r ≡ None → record { chip = c; handed = h; number = refusal_number r } ≡ told_of (host_words (length out₀) c₀ ring)
  full_told past none = ap (λ (r : Option Refusal). record { chip = c; handed = h; number = refusal_number r }) none ∙ over_told 0 (full past)

  pub full_written : length out₀ ≤ h → out ≡ written (host_words (length out₀) c₀ ring) out₀
  full_written past = over_written 0 (full past)

  -- a turn over what is left of the words that were lent, which leaves e there
  module _ (e : List ℕ) where
    abbrev left : List ℕ
    left = mid_of h (length out - h) out

    left_long : length left ≡ length out₀ - h
    left_long = ap (λ (l : List ℕ). length l) (mid_rest h out) ∙ length-drop h out ∙ ap (λ (k : ℕ). k - h) so.long

    there : {r : Run} → host_words (length left) c ring ≡ r → host_words (length out₀ - h) c ring ≡ r
    there turned = ap (λ (k : ℕ). host_words k c ring) (sym left_long) ∙ turned

    after : (t : Turned) → host_words (length left) c ring ≡ prepend (take t.handed e) (host_words (length left - t.handed) t.chip ring)
        → drop t.handed e ≡ drop t.handed left → t.handed ≤ length left → length (take h out ++ e) ≡ length out₀
        → Standing ring out₀ c₀ (take h out ++ e) t.chip (h + t.handed)
    after t turned rest fit long =
        let k = t.handed in
        let r = host_words (length left - k) t.chip ring in
        let fewer : length left - k ≡ length out₀ - (h + k) = omega (arith, left_long) in
        let front : take (h + k) (take h out ++ e) ≡ take h out ++ take k e =
        ap (λ (i : ℕ). take (i + k) (take h out ++ e)) (sym front_long) ∙ take-append-add (take h out) e k
        in
        let behind : drop (h + k) (take h out ++ e) ≡ drop k e =
        ap (λ (i : ℕ). drop (i + k) (take h out ++ e)) (sym front_long) ∙ drop-append-add (take h out) e k
        in
        record {
          ran =
              so.ran ∙ ap (prepend (take h out)) (there turned)
              ∙ ap (λ (l : List ℕ). run r.chip l r.number) (sym (append_assoc (take h out) (take k e) r.words))
              ∙ ap₂ (λ (l : List ℕ) (i : ℕ). prepend l (host_words i t.chip ring)) (sym front) fewer;
          behind = behind ∙ rest ∙ ap (drop k) (mid_rest h out) ∙ ap (drop k) so.behind ∙ drop-drop k h out₀;
          long = long;
          within = omega (arith, left_long, fit, so.within);
        }

    pub more : length e ≡ length left → {t : Turned} → host_words (length left) c ring ≡ prepend (take t.handed e) (host_words (length left - t.handed) t.chip ring)
        → drop t.handed e ≡ drop t.handed left → t.handed ≤ length left → Standing ring out₀ c₀ (put_mid h (length out - h) out e) t.chip (h + t.handed)
    more same {t = t} turned rest fit =
        let put = put_rest h out e in
        subst (λ (x : List ℕ). Standing ring out₀ c₀ x t.chip (h + t.handed)) (sym put)
        (after t turned rest fit (ap (λ (x : List ℕ). length x) (sym put) ∙ put_length out e h (omega (arith, so.long, so.within)) same ∙ so.long))
