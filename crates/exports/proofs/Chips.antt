-- The host's word where one is ahead in its block. Assumes nothing.
use Prim.Native.Nat.{ℕ, ◌+◌, ◌<◌}
use mathlib.Core.Path.{◌≡◌, sym, ◌∙◌, ap}
use mathlib.Core.List.{List}
use native.Mathlib.Omega.{arith}
use Rattle.chip.specs.Calls.{next_word, word_told, word_number, word_value}
use Rattle.chip.specs.declared.Chip.{Chip}
use Rattle.chip.specs.Told.{Word, Handed, Refused, WordTold}
use Rattle.chip.specs.Chip.{at_position}
use Rattle.encoding.specs.Words.{decoded}
use Rattle.burst.specs.Burst.{ahead}
use Rattle.burst.proofs.Blocks.{inside_of, ahead_small, word_inside}
use Rattle.exports.specs.Words.{packed}
use Rattle.exports.specs.Chips.{WordAnswered}

-- from the record b that was decoded of the words
module _ (b : Chip) (ring before : List ℕ) (is : b ≡ decoded before) {far : ℕ} (there : far ≡ ahead b ring) (some : far ≡ 0 → ⊥) where
  none_less : 0 < ahead b ring
  none_less = omega arith

  pub position_small : (decoded before).controller.transfer.position + 1 < 65536
  position_small = omega (arith, ahead_small b ring 1 (omega arith) (omega (arith, none_less)), ap (λ (c : Chip). c.controller.transfer.position) is)

  pub word_ahead : (w r : ℕ) → w ≡ next_word b ring → r ≡ packed 0 w → (after : List ℕ)
      → decoded after ≡ at_position (decoded before) ((decoded before).controller.transfer.position + 1)
      → WordAnswered (word_told (decoded before) ring) r before after
  word_ahead w r ew er after wrote =
      let told : word_told (decoded before) ring ≡ record { chip = at_position (decoded before) ((decoded before).controller.transfer.position + 1); word = Handed (next_word b ring) } =
      ap (λ (c : Chip). word_told c ring) (sym is) ∙ word_inside b ring (inside_of b ring 1 (omega arith) (omega (arith, none_less)))
      ∙ ap (λ (c : Chip). record { chip = at_position c (c.controller.transfer.position + 1); word = Handed (next_word b ring) }) is
      in
      let word : (word_told (decoded before) ring).word ≡ Handed (next_word b ring) = ap (λ (t : WordTold). t.word) told in
      record {
        word = er ∙ ap (packed 0) ew ∙ sym (ap (λ (x : Word). packed (word_number x) (word_value x)) word);
        handed = λ _ _. wrote ∙ sym (ap (λ (t : WordTold). t.chip) told);
        refused = λ k e. let no : Handed (next_word b ring) ≡ Refused k = sym word ∙ e in cc;
      }
