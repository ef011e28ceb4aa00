-- The laws of sealed sectors, of mode 1, which the runs are made of. Assumes nothing.
use mathlib.Core.Path.{◌≡◌, refl}
use mathlib.Core.Bool.{true}
use mathlib.Core.List.{List}
use Prim.Native.Nat.{ℕ}
use lib.ListN.{length}
use Rattle.laws.specs.Bytes.{Bytes}
use Rattle.laws.proofs.Bytes.{bytes_of}
use Rattle.sector.specs.Address.{valid}
use Rattle.sector.specs.Calls.{no_subheader}
use Rattle.sector.specs.Claims.{address_alone}
use Rattle.sector.specs.Judge.{judgement, no_facts}
use Rattle.sector.specs.Layout.{subheader_bytes, kind_read, layout}
use Rattle.sector.specs.Receive.{received}
use Rattle.sector.specs.declared.Address.{Address}
use Rattle.sector.proofs.Frames as frames
use Rattle.sector.proofs.Layouts.{fits}
use Rattle.sector.proofs.Received as arrivals
use Rattle.sector.proofs.Sealed as seals
use Rattle.claims.specs.Runs.{encoded, sealed}

module _ (a : Address) (u : List ℕ) (size : length u ≡ 2352) where
  pub length_encoded : length (encoded a u) ≡ 2352
  unfolding layout
  length_encoded = frames.length_encoded (layout 1) a no_subheader u size (fits 1)

  pub length_sealed : length (sealed a u) ≡ 2352
  unfolding layout
  length_sealed = seals.length_sealed (layout 1) a no_subheader u size (fits 1)

  pub kind_encoded : kind_read (encoded a u) ≡ 1
  unfolding layout
  kind_encoded = seals.kind_encoded 1 a no_subheader u size refl

  pub judged_own : judgement a (encoded a u) ≡ no_facts
  unfolding layout
  judged_own = seals.judged_own 1 a no_subheader u size refl

  pub judged_other : (b : Address) → valid a ≡ true → valid b ≡ true → (b ≡ a → ⊥) → judgement b (encoded a u) ≡ address_alone
  unfolding layout
  judged_other = seals.judged_other 1 a no_subheader u size refl

  pub received_sealed : (e : Address) → received e (sealed a u) ≡ record { bytes = encoded a u; judgement = judgement e (encoded a u) }
  unfolding layout
  received_sealed e = arrivals.received_sealed (layout 1) e a no_subheader u size (fits 1)

  pub bytes_encoded : valid a ≡ true → Bytes u → Bytes (encoded a u)
  unfolding layout
  bytes_encoded v h = frames.bytes_encoded (layout 1) a no_subheader u (fits 1) v (bytes_of (subheader_bytes no_subheader) refl) h size
