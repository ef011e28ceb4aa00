-- Words one behind the other in a list of bytes. Assumes nothing.
use mathlib.Core.Path.{◌≡◌, refl, ◌∙◌, ap}
use mathlib.Core.List.{List}
use Prim.Native.Nat.{ℕ, zero, suc, ◌+◌, ◌*◌, ◌<◌}
use native.Mathlib.Nat.{le_of_suc-le-suc}
use native.Mathlib.Omega.{arith}
use lib.ListN.{length, get_or}
use Rattle.laws.specs.Bytes.{word_at, words_at}

pub words_length : (xs : List ℕ) (p n : ℕ) → length (words_at xs p n) ≡ n
words_length xs p zero = refl
words_length xs p (suc n) = ap suc (words_length xs (p + 2) n)

pub words_one : (xs : List ℕ) (p n i : ℕ) → i < n → get_or (words_at xs p n) i 0 ≡ word_at xs (p + 2 * i)
words_one xs p zero i h = absurd (omega (arith, h))
words_one xs p (suc n) zero h =
    let e : p ≡ p + 2 * 0 = omega arith in
    ap (word_at xs) e
words_one xs p (suc n) (suc i) h =
    let e : p + 2 + 2 * i ≡ p + 2 * suc i = omega arith in
    words_one xs (p + 2) n i (le_of_suc-le-suc h) ∙ ap (word_at xs) e
