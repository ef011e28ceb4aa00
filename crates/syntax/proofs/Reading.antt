-- One byte more of a line: its numbers, and its form. And what is no text is none of the forms. Assumes nothing.
use Rattle.std.proofs.Common.{◌≡◌, ℕ, ◌+◌, ◌<◌, ◌≤◌, Bool, true, false, ◌&&◌, List, [], ◌∷◌, ◌++◌, length, take, drop, get_or, set, refl, sym, ap, subst, ◌∙◌, arith, add-zero, add-one, drop_of_length-le}
use borrow.Author.Tests.{ltb-true}
use lib.Dec.{ltb}
use Rattle.std.specs.List.{list_all}
use Rattle.std.specs.Str.{IsUtf8}
use Rattle.std.proofs.lemmas.List.Sums.{AllPass-from_list_all}
use Rattle.std.proofs.lemmas.Str.{IsUtf8-from_ascii}
use Rattle.std.proofs.lemmas.Str.Ascii.{IsAscii-from_all}
use Rattle.laws.proofs.Same.{not_same}
use lib.Seq.{append_snoc, take-set-le, take-suc-set}
use Rattle.std.specs.Prelude.{if◌then◌else◌, Option, None}
use Rattle.laws.proofs.Ends.{drop_next}
use Rattle.laws.specs.Same.{same}
use Rattle.syntax.specs.Grammar.{digit, mark, form, go_on, onward, named, several, disc, bare}
use Rattle.syntax.specs.Forms.{open_form, read_form, block_form, packet_form, command_form, send_form, write_form, window_form, address_form, sector_form, scratch_form, kind_form, subheader_form, reset_form, look_form, word_form, status_form, srst_form}
use Rattle.syntax.specs.declared.values.Numbers.{Numbers}

pub onward_step : (o : Option Numbers) {m : Option Numbers} (xs : List ℕ) (i : ℕ) → i < length xs → m ≡ go_on o (get_or xs i 0)
    → onward m (drop (i + 1) xs) ≡ onward o (drop i xs)
unfolding onward
onward_step o xs i h e = ap (λ (k : Option Numbers). onward k (drop (i + 1) xs)) e ∙ ap (onward o) (sym (drop_next xs i h))

pub onward_end : (o : Option Numbers) (xs : List ℕ) (i : ℕ) → length xs ≤ i → onward o (drop i xs) ≡ o
unfolding onward
onward_end o xs i h = ap (onward o) (drop_of_length-le xs h)

pub onward_none : (xs : List ℕ) → onward None xs ≡ None
unfolding onward
onward_none [] = refl
onward_none (x ∷ xs) = onward_none xs

-- bytes that are ASCII are text
text : (xs : List ℕ) → list_all (λ b. ltb b 128) xs ≡ true → IsUtf8 xs
text xs a = IsUtf8-from_ascii xs (IsAscii-from_all xs (λ k d l. ltb-true _ 128 (AllPass-from_list_all (λ b. ltb b 128) xs a k d l)))

-- and each form is ASCII
pub no_text : (f : List ℕ) (n : Numbers) → ¬ (IsUtf8 f) → named f n ≡ None
unfolding named several disc bare
no_text f n h =
    let no : (p : List ℕ) → list_all (λ b. ltb b 128) p ≡ true → same f p ≡ false = λ p a. not_same f p (λ e. h (subst IsUtf8 (sym e) (text p a))) in
    simp (
      no open_form refl,
      no read_form refl,
      no block_form refl,
      no packet_form refl,
      no command_form refl,
      no send_form refl,
      no write_form refl,
      no window_form refl,
      no address_form refl,
      no sector_form refl,
      no scratch_form refl,
      no kind_form refl,
      no subheader_form refl,
      no reset_form refl,
      no look_form refl,
      no word_form refl,
      no status_form refl,
      no srst_form refl,
    )

-- the byte's mark is put at the end of what is done, and counts unless the byte is a digit that follows a digit
form_cases : (inside d : Bool) (k x : ℕ) (out bs : List ℕ) → k < length out →
    take (k + (if inside && d then 0 else 1)) (set out k x) ++ form d bs
    ≡ take k out ++ (if inside && d then form true bs else x ∷ form d bs)
form_cases true true k x out bs h =
    ap (λ (n : ℕ). take n (set out k x) ++ form true bs) (add-zero k) ∙ ap (λ (l : List ℕ). l ++ form true bs) (take-set-le k out k x (omega arith))
form_cases true false k x out bs h =
    ap (λ (n : ℕ). take n (set out k x) ++ form false bs) (add-one k)
    ∙ ap (λ (l : List ℕ). l ++ form false bs) (take-suc-set out k x h) ∙ append_snoc (take k out) x (form false bs)
form_cases false d k x out bs h =
    ap (λ (n : ℕ). take n (set out k x) ++ form d bs) (add-one k)
    ∙ ap (λ (l : List ℕ). l ++ form d bs) (take-suc-set out k x h) ∙ append_snoc (take k out) x (form d bs)

pub form_step : (inside : Bool) {d : Bool} (i k : ℕ) {m x : ℕ} (xs out : List ℕ) → i < length xs → k < length out →
    x ≡ mark (get_or xs i 0) → d ≡ digit (get_or xs i 0) → m ≡ k + (if inside && d then 0 else 1) →
    take m (set out k x) ++ form d (drop (i + 1) xs) ≡ take k out ++ form inside (drop i xs)
unfolding form
form_step inside {d} i k {m} {x} xs out hi hk ex ed em =
    ap (λ (n : ℕ). take n (set out k x) ++ form d (drop (i + 1) xs)) em
    ∙ ap (λ (t : Bool). take (k + (if inside && t then 0 else 1)) (set out k x) ++ form t (drop (i + 1) xs)) ed
    ∙ form_cases inside (digit (get_or xs i 0)) k x out (drop (i + 1) xs) hk
    ∙ ap (λ (m : ℕ). take k out ++ (if inside && digit (get_or xs i 0) then form true (drop (i + 1) xs) else m ∷ form (digit (get_or xs i 0)) (drop (i + 1) xs))) ex
    ∙ ap (λ (l : List ℕ). take k out ++ form inside l) (sym (drop_next xs i hi))

pub grows_le : (t : Bool) (k : ℕ) {m : ℕ} → m ≡ k + (if t then 0 else 1) → m ≤ k + 1
grows_le true k e = omega (arith, e)
grows_le false k e = omega (arith, e)

pub form_end : (inside : Bool) (xs : List ℕ) (i : ℕ) (l : List ℕ) → length xs ≤ i → l ++ form inside (drop i xs) ≡ l ++ []
unfolding form
form_end inside xs i l h = ap (λ (r : List ℕ). l ++ form inside r) (drop_of_length-le xs h)
