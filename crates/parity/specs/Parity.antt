-- The parity of a sector, written and checked (ECMA-130, Annex A; paper 02, ask 2). Assumes nothing.
use Rattle.std.specs.Prelude.{Bool, ◌&&◌, List, ◌++◌, ℕ, ◌+◌, ◌*◌}
use Rattle.laws.specs.Listed.{listed, all_below}
use Rattle.parity.specs.Word.{holds, first_parity, second_parity}
use Rattle.parity.specs.Layout.{Code, p, q, word}

-- a code's parity bytes, from the bytes d of its data: the first symbol of each word, and then the second of each
abbrev pub parity_bytes : Code → Bool → List ℕ → List ℕ
parity_bytes c masked d =
    listed (2 * c.words) (λ v. first_parity c.data_size (word c masked d v))
    ++ listed (2 * c.words) (λ v. second_parity c.data_size (word c masked d v))

-- which stand just behind d
abbrev pub coded : Code → Bool → List ℕ → List ℕ
coded c masked d = d ++ parity_bytes c masked d

-- bytes 0 to 2,075 of a sector, with their parity: P first, and Q over it
unfoldable pub with_parity : Bool → List ℕ → List ℕ
with_parity masked d = coded q masked (coded p masked d)

-- each word of a code holds
unfoldable pub code_holds : Code → Bool → List ℕ → Bool
code_holds c masked s = all_below (2 * c.words) (λ v. holds (c.data_size + 2) (word c masked s v))

-- every word of a sector holds
unfoldable pub parity_holds : Bool → List ℕ → Bool
parity_holds masked s = code_holds p masked s && code_holds q masked s
