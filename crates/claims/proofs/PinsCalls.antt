-- The rows of Pins that are about one call hold. Assumes nothing.
use Prim.Native.Nat.{ℕ, ◌+◌, ◌*◌}
use mathlib.Core.Path.{◌≡◌}
use mathlib.Core.Bool.{true, false, ◌&&◌}
use mathlib.Core.List.{List}
use mathlib.Core.Logic.{◌⊎◌, inl, inr}
use native.Mathlib.Omega.{arith}
use lib.ListN.{length, take, drop}
use borrow.Author.Tests.{eq-eqb, ne_eqb}
use Rattle.laws.proofs.Choice.{right_false}
use Rattle.controller.specs.Calls.{stepped}
use Rattle.controller.specs.Transfer.{concluded}
use Rattle.chip.specs.Chip.{ring_fits}
use Rattle.chip.specs.Sound.{sound}
use Rattle.chip.specs.Calls.{called, sector_number, sector_told, sector_ring, look_part, looked, word_told}
use Rattle.chip.specs.declared.Chip.{Chip}
use Rattle.claims.specs.Pins.{GivenLook, Unlent, Outside, Inside}

module _ (c : Chip) where
  pub look_block : (ring : List ℕ) → GivenLook c ring → looked c ring ≡ take 2048 (drop (c.place.t * 2560 + 16) ring)
  unfolding looked look_part
  look_block ring h = simp (h.sound_record, eq-eqb (length ring) (c.place.n * 2560) h.whole, h.one, h.offset, h.words)

  -- a record that is unsound, or is lent a ring that does not fit
  unlent : (ring : List ℕ) → (sound c && ring_fits c ring) ≡ false → Unlent c ring
  unfolding sector_number sector_told sector_ring looked look_part word_told
  unlent ring h = record { sectors = λ s. simp h; words = simp h; looks = simp h }

  pub unfit : (ring : List ℕ) (n bytes : ℕ) → c.place.n ≡ n → length ring ≡ bytes → (bytes ≡ n * 2560 → ⊥) → Unlent c ring
  unfit ring n bytes en el other =
      unlent ring (right_false (sound c) (ring_fits c ring)
      (simp (en, el) (ne_eqb bytes (n * 2560) other)))

  pub lent_3 : (ring : List ℕ) → c.place.n ≡ 3 → (length ring ≡ 7679) ⊎ (length ring ≡ 7681) → Unlent c ring
  lent_3 ring n (inl e) = unfit ring 3 7679 n e (λ (x : 7679 ≡ 7680). omega arith)
  lent_3 ring n (inr e) = unfit ring 3 7681 n e (λ (x : 7681 ≡ 7680). omega arith)

  pub lent_255 : (ring : List ℕ) → c.place.n ≡ 255 → (length ring ≡ 652799) ⊎ (length ring ≡ 652801) → Unlent c ring
  lent_255 ring n (inl e) = unfit ring 255 652799 n e (λ (x : 652799 ≡ 652800). omega arith)
  lent_255 ring n (inr e) = unfit ring 255 652801 n e (λ (x : 652801 ≡ 652800). omega arith)

  pub outside : sound c ≡ false → Outside c
  unfolding called
  outside h = record { unsound = h; calls = λ call. simp h; lends = λ ring. unlent ring (simp h) }

  pub inside : sound c ≡ true → Inside c
  unfolding called stepped concluded
  inside h = record { sound_record = h; status = simp h }
