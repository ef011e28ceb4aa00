-- What scrambling does to a sector (ECMA-130, Annex B; paper 01, "Sectors"). Assumes nothing.
use Rattle.std.specs.Prelude.{List, [], ◌∷◌, ◌++◌, ℕ, take, drop}
use Rattle.std.specs.Int.Bits.{bit_xor}
use Rattle.scramble.specs.Table.{table}

-- each element of xs xored with the one of ks at its place
unfoldable pub xored : List ℕ → List ℕ → List ℕ
xored [] ks = []
xored (x ∷ xs) [] = x ∷ xs
xored (x ∷ xs) (k ∷ ks) = bit_xor x k ∷ xored xs ks

-- the sync bytes 0 to 11 stay; bytes 12 to 2,351 are xored with the table
unfoldable pub scrambled : List ℕ → List ℕ
scrambled s = take 12 s ++ xored (drop 12 s) table
