-- The laws of a received sector. Assumes nothing.
use mathlib.Core.Path.{◌≡◌, ap}
use mathlib.Core.List.{List}
use Prim.Native.Nat.{ℕ}
use lib.ListN.{length}
use Rattle.scramble.proofs.Scrambled.{length_scrambled}
use Rattle.sector.specs.declared.Address.{Address}
use Rattle.sector.specs.declared.Subheader.{Subheader}
use Rattle.sector.specs.declared.layout.Layout.{Layout}
use Rattle.sector.specs.Layout.{Fits}
use Rattle.sector.specs.Sector.{encoded, sealed}
use Rattle.sector.specs.Judge.{judgement}
use Rattle.sector.specs.Receive.{received}
use Rattle.sector.proofs.Sealed.{opened}

module _ (e : Address) (s : List ℕ) where
  pub length_received : length s ≡ 2352 → length (received e s).bytes ≡ 2352
  unfolding received
  length_received full = length_scrambled s full

-- a sector that was sealed at a is received as it was encoded there
pub received_sealed : (l : Layout) (e a : Address) (h : Subheader) (u : List ℕ) → length u ≡ 2352 → Fits l
    → received e (sealed l a h u) ≡ record { bytes = encoded l a h u; judgement = judgement e (encoded l a h u) }
unfolding received
received_sealed l e a h u full f = ap (λ (x : List ℕ). record { bytes = x; judgement = judgement e x }) (opened l a h u full f)
