-- A register's value and its bits (paper 01, "Registers": values are 0..255, and bits not named must be 0). Assumes nothing.
use Rattle.std.specs.Prelude.{ℕ, ◌+◌, ◌*◌, ◌/◌, ◌%◌, ◌^◌, Bool, ◌&&◌, ◌||◌, not, List, [], ◌∷◌, eqb}

-- bit k of v
abbrev pub bit : ℕ → ℕ → Bool
bit v k = eqb (v / 2 ^ k % 2) 1

-- v with only the bits ks kept
abbrev pub kept : List ℕ → ℕ → ℕ
kept [] v = 0
kept (k ∷ []) v = v / 2 ^ k % 2 * 2 ^ k
kept (k ∷ j ∷ js) v = v / 2 ^ k % 2 * 2 ^ k + kept (j ∷ js) v

-- every bit of v but the bits ks is 0
abbrev pub only : List ℕ → ℕ → Bool
only ks v = eqb v (kept ks v)

-- two switches are not the same
abbrev pub differs : Bool → Bool → Bool
differs a b = a && not b || not a && b
