-- No answer of the chip depends on what lay in its memory. Assumes nothing.
use Prim.Native.Nat.{ℕ}
use mathlib.Core.Path.{◌≡◌, refl, sym, ap, ap₂, subst, ◌∙◌}
use mathlib.Core.List.{List, [], ◌∷◌}
use Rattle.controller.specs.declared.state.Controller.{Controller}
use Rattle.ring.specs.Represents.{Represents}
use Rattle.ring.specs.declared.Place.{Place}
use Rattle.outcomes.specs.Machine.{Call, plain, sector, look, word, Answer, answers}
use Rattle.outcomes.specs.Row.{Row, Valid, row_step}
use Rattle.chip.specs.Calls.{sector_told}
use Rattle.chip.specs.Machine.{State, over, of_told, chip_answer, chip_step, the_chip}
use Rattle.chip.specs.declared.Chip.{Chip}
use Rattle.chip.specs.Told.{Told, WordTold}
use Rattle.claims.specs.Letter.{MemoryFree}
use Rattle.claims.specs.Refinement.{Refines}
use Rattle.claims.proofs.Refines.{told_is, word_is, answer_look, answer_word, valid_own, represents_own, refined_step, refines_opened}

-- one chip over two memories that represent the same row
module _ (c : Controller) (p : Place) (x y : List ℕ) (w : List (List ℕ))
    (h : Valid (record { controller = c; blocks = p.n; row = w }))
    (hx : Represents p c.counts.tcc c.counts.bufc x w) (hy : Represents p c.counts.tcc c.counts.bufc y w)
  where
    abbrev K : Chip
    K = record { controller = c; place = p }

    same_told : (s : List ℕ) → sector_told K x s ≡ sector_told K y s
    same_told s = told_is c p x w h hx s ∙ sym (told_is c p y w h hy s)

    same : (call : Call) → (chip_answer call (over K x) ≡ chip_answer call (over K y)) × ((chip_step call (over K x)).chip ≡ (chip_step call (over K y)).chip)
    unfolding chip_answer chip_step
    same (plain call) = (refl, refl)
    same (sector s) = (ap of_told (same_told s), ap (λ (t : Told). t.chip) (same_told s))
    same look = (answer_look c p x w h hx ∙ sym (answer_look c p y w h hy), refl)
    same word = (
      answer_word c p x w h hx ∙ sym (answer_word c p y w h hy),
      ap (λ (t : WordTold). t.chip) (word_is c p x w h hx) ∙ sym (ap (λ (t : WordTold). t.chip) (word_is c p y w h hy)),
    )

same_of :
    (s t : State) (r : Row) → Refines s r → Refines t r → s.chip ≡ t.chip → (call : Call)
    → (chip_answer call s ≡ chip_answer call t) × ((chip_step call s).chip ≡ (chip_step call t).chip)
same_of s t r f g e call =
    subst
    (λ (k : Chip). Refines (over k t.ring) r
    → (chip_answer call s ≡ chip_answer call (over k t.ring)) × ((chip_step call s).chip ≡ (chip_step call (over k t.ring)).chip))
    e
    (λ q. same s.chip.controller s.chip.place s.ring t.ring r.row (valid_own s r f) (represents_own s r f) (represents_own (over s.chip t.ring) r q) call)
    g

same_answers :
    (cs : List Call) (s t : State) (r : Row) → Refines s r → Refines t r → s.chip ≡ t.chip → answers the_chip cs s ≡ answers the_chip cs t
same_answers [] s t r f g e = refl
same_answers (c ∷ cs) s t r f g e =
    let both = same_of s t r f g e c in
    ap₂ (λ (a : Answer) (rest : List Answer). a ∷ rest) both.0
    (same_answers cs (chip_step c s) (chip_step c t) (row_step c r) (refined_step s r f c) (refined_step t r g c) both.1)

pub memory_free : MemoryFree the_chip
memory_free n low high x y size_x size_y cs =
    same_answers cs _ _ _ (refines_opened n low high x size_x) (refines_opened n low high y size_y) refl
