-- A record whose position word is written anew. Assumes nothing.
use Prim.Native.Nat.{ℕ, ◌<◌}
use mathlib.Core.Path.{◌≡◌, refl}
use mathlib.Core.Bool.{false}
use mathlib.Core.List.{List}
use lib.Dec.{eqb}
use lib.ListN.{length, get_or, set}
use lib.Seq.{get_or-set_same, get_or-set_other}
use borrow.Author.Tests.{eqb-false}
use Rattle.encoding.specs.Words.{decoded}
use Rattle.chip.specs.Chip.{at_position}

module _ (ws : List ℕ) (v : ℕ) (long : 14 < length ws) where
  other : (k : ℕ) → eqb k 14 ≡ false → get_or (set ws 14 v) k 0 ≡ get_or ws k 0
  other k e = get_or-set_other ws 14 k v 0 (eqb-false k 14 e)

  pub moved : decoded (set ws 14 v) ≡ at_position (decoded ws) v
  unfolding decoded
  moved =
      simp (
        get_or-set_same ws 14 v 0 long,
        other 0 refl,
        other 1 refl,
        other 2 refl,
        other 3 refl,
        other 4 refl,
        other 5 refl,
        other 6 refl,
        other 7 refl,
        other 8 refl,
        other 9 refl,
        other 10 refl,
        other 11 refl,
        other 12 refl,
        other 13 refl,
        other 15 refl,
        other 16 refl,
        other 17 refl,
        other 18 refl,
        other 19 refl,
        other 20 refl,
        other 21 refl,
        other 22 refl,
        other 23 refl,
        other 24 refl,
        other 25 refl,
        other 26 refl,
        other 27 refl,
      )
