-- Demand 3 goes over from a machine to one that simulates it. Assumes nothing.
use Prim.Native.Nat.{ℕ}
use mathlib.Core.Path.{◌≡◌, refl, sym, ap, subst, ◌∙◌}
use mathlib.Core.Bool.{Bool, true, false}
use mathlib.Core.List.{List, [], ◌∷◌}
use native.Mathlib.Omega.{arith}
use Rattle.std.specs.Prelude.{if◌then◌else◌}
use Rattle.laws.proofs.Choice.{if_case}
use Rattle.outcomes.specs.Book.{Book, feed}
use Rattle.outcomes.specs.Machine.{Call, plain, sector, look, word, Answer, replied, handed, refused, seen, number, Machine}
use Rattle.claims.specs.Demand3.{hidden, without_result, masked, stops, unless, Agree, Wordless, Right, Faithful, Demand3}
use Rattle.claims.specs.Refinement.{Simulation}

number_kept : (a : Answer) → number (without_result a) ≡ number a
number_kept (replied n v) = refl
number_kept (handed w) = refl
number_kept (refused n) = refl
number_kept (seen bytes) = refl

number_masked : (c : Call) (a : Answer) → number (masked c a) ≡ number a
number_masked c a = if_case (λ (x : Answer). number x ≡ number a) (hidden c) (without_result a) a (λ _. number_kept a) (λ _. refl)

-- masked alike, two answers have the same number
pub same_number : (c : Call) (a b : Answer) → masked c a ≡ masked c b → number a ≡ number b
same_number c a b e = sym (number_masked c a) ∙ ap number e ∙ number_masked c b

-- and hand over a word both or neither
wordless_kept : (a : Answer) → Wordless a → Wordless (without_result a)
wordless_kept (replied n v) h = tt
wordless_kept (handed w) h = h
wordless_kept (refused n) h = tt
wordless_kept (seen bytes) h = tt

wordless_back : (a : Answer) → Wordless (without_result a) → Wordless a
wordless_back (replied n v) h = tt
wordless_back (handed w) h = h
wordless_back (refused n) h = tt
wordless_back (seen bytes) h = tt

wordless_over : (m : Bool) (a b : Answer) → (if m then without_result a else a) ≡ (if m then without_result b else b) → Wordless b → Wordless a
wordless_over true a b e h = wordless_back a (subst Wordless (sym e) (wordless_kept b h))
wordless_over false a b e h = subst Wordless (sym e) h

right_over : (c : Call) (a b : Answer) (k : Book) → masked c a ≡ masked c b → Right c b k → Right c a k
right_over word a b k e r = subst (λ (x : Answer). Right word x k) (sym e) r
right_over (plain c) a b k e r = wordless_over (hidden (plain c)) a b e r
right_over (sector x) a b k e r = subst Wordless (sym e) r
right_over look a b k e r = subst Wordless (sym e) r

over : {A B : Type 0} (b : Bool) → (A → B) → unless b A → unless b B
over true f u = tt
over false f u = f u

module _ (M R : Machine) (S : Simulation M R) where
  same : (c : Call) (s : M.State) (r : R.State) → S.Related s r → number (M.answer c s) ≡ number (R.answer c r)
  same c s r h = same_number c (M.answer c s) (R.answer c r) (S.answer c s r h)

  agree_over : (cs : List Call) (s t : M.State) (r q : R.State) (l : Bool) → S.Related s r → S.Related t q → Agree R cs r q l → Agree M cs s t l
  agree_over [] s t r q l hs ht a = tt
  agree_over (c ∷ cs) s t r q l hs ht a =
      rw (same c s r hs)
      (over (stops c (number (R.answer c r)) l)
      (λ next. (
        S.answer c s r hs ∙ next.0 ∙ sym (S.answer c t q ht),
        S.facts _ _ (S.step c s r hs) ∙ next.1 ∙ sym (S.facts _ _ (S.step c t q ht)),
        agree_over cs _ _ _ _ _ (S.step c s r hs) (S.step c t q ht) next.2,
      ))
      a)

  faithful_over : (cs : List Call) (s : M.State) (r : R.State) (b : Book) → S.Related s r → Faithful R cs r b → Faithful M cs s b
  faithful_over [] s r b h f = S.facts s r h ∙ f
  faithful_over (c ∷ cs) s r b h f = (
    right_over c (M.answer c s) (R.answer c r) b (S.answer c s r h) f.0,
    S.facts s r h ∙ f.1,
    faithful_over cs _ _ _ (S.step c s r h) (subst (λ (n : ℕ). Faithful R cs (R.step c r) (feed c n b)) (sym (same c s r h)) f.2),
  )

  pub simulated : Demand3 R → Demand3 M
  simulated d =
      record {
        sizes = λ n m low le high x y size_x size_y cs.
            agree_over cs _ _ _ _ false (S.opened n low (omega arith) x size_x) (S.opened m (omega arith) high y size_y)
            (d.sizes n m low le high x y size_x size_y cs);
        words = λ n low high x size cs. faithful_over cs _ _ _ (S.opened n low high x size) (d.words n low high x size cs);
      }
