-- The row machine hands over the words that the book predicts and keeps its facts, over any list of calls. Assumes nothing.
use mathlib.Core.Path.{◌≡◌, refl, sym, ap, subst, ◌∙◌}
use mathlib.Core.Bool.{true}
use mathlib.Core.List.{List, [], ◌∷◌}
use native.Mathlib.Omega.{arith}
use lib.Dec.{eqb}
use lib.ListN.{length}
use borrow.Author.Tests.{eqb-true, eqb-false}
use Rattle.reply.specs.Reply.{Reply}
use Rattle.laws.proofs.Choice.{if_case}
use Rattle.controller.specs.Host.{host_word}
use Rattle.outcomes.specs.Book.{Book, feed}
use Rattle.outcomes.specs.Machine.{Call, plain, sector, look, word, Answer, number}
use Rattle.outcomes.specs.Row.{Row, Valid, shown, word_step, sector_number, row_answer, row_step, the_row}
use Rattle.outcomes.proofs.Calls.{word_running}
use Rattle.outcomes.proofs.Rows.{concluded_reply, kept}
use Rattle.claims.specs.Demand3.{Wordless, Right, Faithful}

-- while a transfer runs a sector waits
pub row_some : (s : Row) → Valid s → s.controller.transfer.running ≡ true → s.row ≡ [] → ⊥
row_some s h on e =
    let r = h.invariant.consistent.running on in
    let z : 0 ≡ s.controller.counts.tcc = sym (ap length e) ∙ h.good in
    omega (arith, r.some, r.good)

pub right : (call : Call) (s : Row) → Valid s → Right call (row_answer call s) (shown s)
unfolding row_answer
right (plain c) s h = tt
right (sector x) s h = if_case Wordless (eqb (sector_number x s) 0) _ _ (λ _. tt) (λ _. tt)
right look s h = tt
right word s h =
    if_case (λ (a : Answer). Right word a (shown s)) (eqb (word_step s).reply.number 0) _ _
    (λ e.
    let n = ap (λ (r : Reply). r.number) (sym (concluded_reply (host_word s.controller))) ∙ eqb-true _ _ e in
    (row_some s h (word_running s.controller n), refl))
    (λ e. eqb-false _ _ e)

pub faithful : (cs : List Call) (s : Row) → Valid s → (b : Book) → shown s ≡ b → Faithful the_row cs s b
faithful [] s h b e = ap (λ (x : Book). x.facts) e
faithful (c ∷ cs) s h b e =
    let k = kept c s h in (
      subst (λ (x : Book). Right c (row_answer c s) x) e (right c s h),
      ap (λ (x : Book). x.facts) e,
      faithful cs (row_step c s) k.valid (feed c (number (row_answer c s)) b) (k.book ∙ ap (feed c (number (row_answer c s))) e),
    )
