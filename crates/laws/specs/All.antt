-- Tests joined by `&&` from the left, as code joins them by `&`: `all (a ∷ b ∷ c ∷ [])` computes to `a && b && c`. Assumes nothing.
use Rattle.std.specs.Prelude.{Bool, true, ◌&&◌, List, [], ◌∷◌}

-- x, and then each of the others
abbrev pub all_from : Bool → List Bool → Bool
all_from x [] = x
all_from x (y ∷ ys) = all_from (x && y) ys

abbrev pub all : List Bool → Bool
all [] = true
all (x ∷ xs) = all_from x xs
