-- What the chip counts is the book's row, over any list of calls. Assumes nothing.
use mathlib.Core.Path.{◌≡◌, refl, sym, ap, ap₂, subst, ◌∙◌}
use mathlib.Core.List.{List, [], ◌∷◌}
use lib.ListN.{length}
use Prim.Native.Nat.{ℕ, ◌+◌}
use Rattle.laws.specs.Numbers.{weight}
use Rattle.outcomes.specs.Book.{Book, feed, book_of}
use Rattle.outcomes.specs.Machine.{Call, number, after}
use Rattle.outcomes.specs.Row.{Row, shown, row_answer, row_step}
use Rattle.outcomes.proofs.Rows.{kept}
use Rattle.chip.specs.Machine.{State, chip_answer, chip_step, the_chip}
use Rattle.claims.specs.Counted.{book_after, Counted, CountedClaim}
use Rattle.claims.specs.Refinement.{Refines}
use Rattle.claims.proofs.Refines.{same_row, refined_answer, refined_step, refines_opened}
use Rattle.claims.proofs.Simulated.{same_number}

of_refines : (s : State) (r : Row) (b : Book) → Refines s r → shown r ≡ b → Counted s b
of_refines s r b f e =
    let rows : r.row ≡ b.row = ap (λ (x : Book). x.row) e in
    let own = same_row s r f in
    let t = sym f.valid.good ∙ ap length rows in
    record {
      refines = subst (λ (w : List (List ℕ)). Refines s (record { controller = s.chip.controller; blocks = s.chip.place.n; row = w })) rows (subst (Refines s) (sym own) f);
      shows = ap₂ book_of f.controller (sym rows) ∙ e;
      tcc = rw f.controller t;
      bufc = rw f.controller (f.valid.invariant.consistent.buffered ∙ ap (λ (n : ℕ). n + weight r.controller.counts.held 1) t);
    }

over_list : (cs : List Call) (s : State) (r : Row) (b : Book) → Refines s r → shown r ≡ b → Counted (after the_chip cs s) (book_after the_chip cs s b)
over_list [] s r b f e = of_refines s r b f e
over_list (c ∷ cs) s r b f e =
    over_list cs (chip_step c s) (row_step c r) (feed c (number (chip_answer c s)) b) (refined_step s r f c)
    ((kept c r f.valid).book ∙ ap (feed c (number (row_answer c r))) e
    ∙ ap (λ (n : ℕ). feed c n b) (sym (same_number c (chip_answer c s) (row_answer c r) (refined_answer s r f c))))

pub counted_holds : CountedClaim
counted_holds n low high x size cs = over_list cs _ _ _ (refines_opened n low high x size) refl
