-- The book settles the words: two machines with demand 3 that answer a list of calls with the same reply numbers answer its words alike. So
-- demand 3 shuts out a machine whose words differ from those of one that has it. Assumes nothing.
use Prim.Native.Nat.{ℕ, ◌+◌, ◌*◌}
use mathlib.Core.Path.{◌≡◌, refl, sym, ap, ap₂, subst, ◌∙◌}
use mathlib.Core.List.{List, [], ◌∷◌, map}
use native.Mathlib.Omega.{arith}
use lib.Dec.{eqb}
use lib.ListN.{length, get_or, replicate, length-replicate}
use borrow.Author.Tests.{ne_eqb}
use Rattle.laws.specs.Bytes.{word_at}
use Rattle.std.specs.Prelude.{if◌then◌else◌}
use Rattle.laws.proofs.Choice.{if_false}
use Rattle.outcomes.specs.Book.{Book, feed, first_book}
use Rattle.outcomes.specs.Machine.{Call, plain, sector, look, word, Answer, replied, handed, refused, seen, number, Machine, answers}
use Rattle.claims.specs.Demand3.{Right, Faithful, Demand3}
use Rattle.claims.specs.Runs.{Gives}
use Rattle.claims.specs.Wrong.{ShutOut}

-- the answers to the words of a list of calls
abbrev pub if_word : {A : Type 0} → Call → A → A → A
if_word word x d = x
if_word (plain c) x d = d
if_word (sector s) x d = d
if_word look x d = d

abbrev pub to_words : List Call → List Answer → List Answer
to_words [] rs = []
to_words (c ∷ cs) [] = []
to_words (c ∷ cs) (r ∷ rs) = if_word c (r ∷ to_words cs rs) (to_words cs rs)

-- what a book lets a word be answered with, by its number
abbrev due : ℕ → Book → Answer
due n b = if eqb n 0 then handed (word_at (get_or b.row 0 []) (b.offset + 2 * b.k)) else refused n

settled_by : (a : Answer) (b : Book) → Right word a b → a ≡ due (number a) b
settled_by (handed w) b right = ap handed right.1
settled_by (refused n) b right = sym (if_false (eqb n 0) (handed (word_at (get_or b.row 0 []) (b.offset + 2 * b.k))) (refused n) (ne_eqb n 0 right))
settled_by (replied n v) b right = absurd right
settled_by (seen bytes) b right = absurd right

same_word :
    (c : Call) (b : Book) (a d : Answer) (rs ss : List Answer) → Right c a b → Right c d b → number a ≡ number d → rs ≡ ss
    → if_word c (a ∷ rs) rs ≡ if_word c (d ∷ ss) ss
same_word word b a d rs ss p q n e =
    ap₂ (λ (x : Answer) (xs : List Answer). x ∷ xs) (settled_by a b p ∙ ap (λ (k : ℕ). due k b) n ∙ sym (settled_by d b q)) e
same_word (plain c) b a d rs ss p q n e = e
same_word (sector x) b a d rs ss p q n e = e
same_word look b a d rs ss p q n e = e

module _ (M N : Machine) where
  one_book :
      (cs : List Call) (s : M.State) (t : N.State) (b : Book) → Faithful M cs s b → Faithful N cs t b
      → map number (answers M cs s) ≡ map number (answers N cs t) → to_words cs (answers M cs s) ≡ to_words cs (answers N cs t)
  one_book [] s t b f g e = refl
  one_book (c ∷ cs) s t b f g e =
      let n : number (M.answer c s) ≡ number (N.answer c t) = cc in
      let ns : map number (answers M cs (M.step c s)) ≡ map number (answers N cs (N.step c t)) = cc in
      same_word c b (M.answer c s) (N.answer c t) _ _ f.0 g.0 n
      (one_book cs (M.step c s) (N.step c t) (feed c (number (N.answer c t)) b)
      (subst (λ (k : ℕ). Faithful M cs (M.step c s) (feed c k b)) n f.2) g.2 ns)

  -- N has demand 3 and gives other words than M
  pub shut_out :
      {cs : List Call} {rs ss : List Answer} → Demand3 N → Gives N 3 cs ss → Gives M 3 cs rs → map number rs ≡ map number ss
      → (to_words cs rs ≡ to_words cs ss → ⊥) → ShutOut M
  shut_out {cs} {rs} {ss} e right wrong same differ d =
      let x : List ℕ = replicate 7680 0 in
      let size : length x ≡ 3 * 2560 = length-replicate {A = ℕ} 7680 0 in
      let m = wrong.given x size in
      let n = right.given x size in
      differ
      (ap (to_words cs) (sym m)
      ∙ one_book cs (M.opened 3 x) (N.opened 3 x) first_book (d.words 3 (omega arith) (omega arith) x size cs) (e.words 3 (omega arith) (omega arith) x size cs)
      (ap (map number) m ∙ same ∙ ap (map number) (sym n))
      ∙ ap (to_words cs) n)
