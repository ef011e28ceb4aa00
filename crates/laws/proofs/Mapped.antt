-- A loop that writes a list from the front, each element read before it is written: what is done, and what is as it was.
-- Assumes nothing.
use mathlib.Core.Path.{◌≡◌, ap, ◌∙◌, sym}
use mathlib.Core.List.{List}
use Prim.Native.Nat.{ℕ, ◌+◌, ◌<◌, ◌≤◌}
use native.Mathlib.Omega.{arith}
use native.Mathlib.Decide.{dec_lt}
use lib.ListN.{length, get_or, set, length-set}
use lib.Seq.{get_or-set_same, get_or-set_other}

-- of the list l the first v elements are those that f gives, in l'
pub record Mapped (f : ℕ → ℕ) (l : List ℕ) (v : ℕ) (l' : List ℕ) : Type 0 where
  pub size : length l' ≡ length l
  pub done : (u : ℕ) → u < v → get_or l' u 0 ≡ f u
  pub rest : (u : ℕ) → v ≤ u → get_or l' u 0 ≡ get_or l u 0

pub mapped_more : (f : ℕ → ℕ) (l l' : List ℕ) (v x : ℕ) → Mapped f l v l' → v < length l' → x ≡ f v → Mapped f l (v + 1) (set l' v x)
mapped_more f l l' v x m h e =
    record {
      size = length-set l' v x ∙ m.size;
      done = λ u k.
          elim (dec_lt u v) [
            | yes below ↦ get_or-set_other l' v u x 0 (λ (q : u ≡ v). absurd (omega arith)) ∙ m.done u below
            | no from ↦
                (let q : u ≡ v = omega arith in
                ap (λ (w : ℕ). get_or (set l' v x) w 0) q ∙ get_or-set_same l' v x 0 h ∙ e ∙ ap f (sym q))
          ];
      rest = λ u k. get_or-set_other l' v u x 0 (λ (q : u ≡ v). absurd (omega arith)) ∙ m.rest u (omega arith);
    }
