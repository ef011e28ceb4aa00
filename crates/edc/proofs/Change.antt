-- A change of exactly one byte changes the code. Assumes nothing.
use mathlib.Core.Path.{◌≡◌, sym, ◌∙◌}
use mathlib.Core.List.{List, [], ◌∷◌}
use Prim.Native.Nat.{ℕ, zero, suc, ◌*◌, ◌^◌, ◌<◌}
use native.Mathlib.Nat.{not-suc-le-zero, le_of_suc-le-suc}
use native.Mathlib.Omega.{arith}
use lib.ListN.{length, get_or, set}
use lib.Bits.{bit_xor, xor_lt}
use Rattle.laws.specs.Bytes.{Bytes}
use Rattle.laws.proofs.Cancel.{drop_left, drop_right}
use Rattle.edc.specs.Edc.{fed, edc}
use Rattle.edc.specs.Fold.{shifts}
use Rattle.edc.proofs.Shifts.{fed_xor, shifts_only}
use Rattle.edc.proofs.Laws.{edc_from, fed_lt}

-- invertible: the register before a run follows from the register after it
pub edc_only : (p q : ℕ) (s : List ℕ) → Bytes s → p < 2 ^ 32 → q < 2 ^ 32 → edc p s ≡ edc q s → p ≡ q
edc_only p q s h hp hq e =
    shifts_only (8 * length s) p q hp hq
    (drop_right (edc 0 s) (shifts (8 * length s) p) (shifts (8 * length s) q) (sym (edc_from p s h) ∙ e ∙ edc_from q s h))

-- and so does a byte
pub fed_only : (r a b : ℕ) → r < 2 ^ 32 → a < 256 → b < 256 → fed 8 r a ≡ fed 8 r b → a ≡ b
fed_only r a b hr ha hb e =
    drop_left r a b
    (shifts_only 8 (bit_xor r a) (bit_xor r b) (xor_lt 32 r a hr (omega arith)) (xor_lt 32 r b hr (omega arith))
    (sym (fed_xor 8 r a ha) ∙ e ∙ fed_xor 8 r b hb))

-- where the codes are equal, the byte is the one that was there
pub edc_set_only : (r : ℕ) (s : List ℕ) (i v : ℕ) → r < 2 ^ 32 → Bytes s → i < length s → v < 256 → edc r (set s i v) ≡ edc r s → v ≡ get_or s i 0
unfolding edc
edc_set_only r [] i v hr hs hi hv e = absurd (not-suc-le-zero hi)
edc_set_only r (b ∷ s) zero v hr hs hi hv e =
    fed_only r v b hr hv (hs 0) (edc_only (fed 8 r v) (fed 8 r b) s (λ i. hs (suc i)) (fed_lt 8 r v hr) (fed_lt 8 r b hr) e)
edc_set_only r (b ∷ s) (suc i) v hr hs hi hv e =
    edc_set_only (fed 8 r b) s i v (fed_lt 8 r b hr) (λ i. hs (suc i)) (le_of_suc-le-suc hi) hv e

pub edc_set : (s : List ℕ) (i v : ℕ) → Bytes s → i < length s → v < 256 → (v ≡ get_or s i 0 → ⊥) → edc 0 (set s i v) ≡ edc 0 s → ⊥
edc_set s i v hs hi hv new e = new (edc_set_only 0 s i v (omega arith) hs hi hv e)
