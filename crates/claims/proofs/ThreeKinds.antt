-- The runs of KindsClaim: of the row machine, and so of the chip. Assumes nothing.
use Prim.Native.Nat.{ℕ}
use mathlib.Core.Path.{◌≡◌, refl, ap, ◌∙◌}
use mathlib.Core.Bool.{true}
use mathlib.Core.List.{List, [], ◌∷◌, ◌++◌}
use native.Mathlib.Omega.{arith}
use lib.ListN.{length}
use Rattle.scramble.specs.Scramble.{scrambled}
use Rattle.scramble.proofs.Scrambled.{scrambled_twice, length_scrambled}
use Rattle.sector.specs.Address.{next}
use Rattle.sector.specs.Judge.{judgement, no_facts}
use Rattle.sector.specs.Layout.{agrees, layout}
use Rattle.sector.specs.Receive.{received}
use Rattle.sector.specs.Sector.{encoded, sealed}
use Rattle.sector.specs.declared.Address.{Address}
use Rattle.sector.specs.declared.Judgement.{Judgement}
use Rattle.sector.specs.declared.Subheader.{Subheader}
use Rattle.sector.proofs.TwoKinds.{bare, bare_long, bare_zeros, bare_good}
use Rattle.sector.proofs.Examples.{unequal, unequal_long, unequal_kind, unequal_copies, unequal_judged}
use Rattle.sector.proofs.Layouts.{fits}
use Rattle.sector.proofs.Received.{received_sealed}
use Rattle.sector.proofs.Sealed.{length_sealed, judged_own}
use Rattle.controller.specs.Calls.{stepped}
use Rattle.controller.specs.Decoder.{admission, counted}
use Rattle.controller.specs.Read as reading
use Rattle.controller.specs.Transfer.{settled, concluded}
use Rattle.controller.specs.Write as registers
use Rattle.outcomes.specs.Machine.{replied}
use Rattle.outcomes.specs.Row.{Row, row_answer, row_step, the_row}
use Rattle.claims.specs.ThreeKinds.{of_kind, holding, mode_alone, KindsClaim}
use Rattle.claims.specs.Runs.{read, set_up, ok, Gives, telling_why}
use Rattle.claims.proofs.Refines.{chip_simulates}
use Rattle.claims.proofs.Runs.{frame, Ran, calls, ◌then◌, telling, opened, by_row, taken, taken_answer, taken_row, decoding, filled, telling_simulates, by_simulation}

-- a sealed sector of any kind
module _ (u : List ℕ) (size : length u ≡ 2352) (k : ℕ) (h : Subheader) (fit : agrees k h ≡ true) (f : ℕ) (s : Row) (here : s.controller.expected ≡ frame f) where
  arrives : Ran the_row (of_kind u f k h ∷ []) s (taken_answer no_facts s ∷ []) (taken_row no_facts (encoded (layout k) (frame f) h u) s)
  arrives =
      taken (sealed (layout k) (frame f) h u) (encoded (layout k) (frame f) h u) s no_facts (length_sealed (layout k) (frame f) h u size (fits k))
      (received_sealed (layout k) s.controller.expected (frame f) h u size (fits k)
      ∙ ap (λ (a : Address). record { bytes = encoded (layout k) (frame f) h u; judgement = judgement a (encoded (layout k) (frame f) h u) }) here
      ∙ ap (λ (j : Judgement). record { bytes = encoded (layout k) (frame f) h u; judgement = j }) (judged_own k (frame f) h u size fit))

-- four blocks with so many good sectors
abbrev four : ℕ → List (List ℕ) → Row
four k row = record { controller = decoding k; blocks = 4; row = row }

module _ (u : List ℕ) (h i : Subheader) (size : length u ≡ 2352) (first : agrees 2 h ≡ true) (second : agrees 3 i ≡ true) where
  each : Gives the_row 4 (set_up ++ of_kind u 0 1 h ∷ of_kind u 1 2 h ∷ of_kind u 2 3 i ∷ read 0x9D ∷ []) (ok ∷ ok ∷ ok ∷ ok ∷ ok ∷ ok ∷ replied 0 3 ∷ [])
  unfolding row_answer row_step stepped concluded settled admission counted next reading.read registers.write registers.write_bicctl registers.write_acctl registers.write_ctrl0
  each =
      by_row
      (calls set_up (opened 4)
      then arrives u size 1 h refl 0 (four 0 []) refl
      then arrives u size 2 h first 1 (four 1 (encoded (layout 1) (frame 0) h u ∷ [])) refl
      then arrives u size 3 i second 2 (four 2 (encoded (layout 1) (frame 0) h u ∷ encoded (layout 2) (frame 1) h u ∷ [])) refl
      then calls (read 0x9D ∷ []) _)

received_so : (x : List ℕ) → length x ≡ 2352 → (j : Judgement) → judgement (frame 0) x ≡ j → received (frame 0) (scrambled x) ≡ record { bytes = x; judgement = j }
unfolding received
received_so x size j judged =
    ap (λ (y : List ℕ). record { bytes = y; judgement = judgement (frame 0) y }) (scrambled_twice x size)
    ∙ ap (λ (i : Judgement). record { bytes = x; judgement = i }) judged

-- a sector with these bytes, judged so
module _ (x : List ℕ) (size : length x ≡ 2352) (j : Judgement) (judged : judgement (frame 0) x ≡ j) where
  comes : Ran the_row (holding x ∷ []) (filled 0 []) (taken_answer j (filled 0 []) ∷ []) (taken_row j x (filled 0 []))
  comes = taken (scrambled x) x (filled 0 []) j (length_scrambled x size) (received_so x size j judged)

module _ (x : List ℕ) (size : length x ≡ 2352) where
  counts : judgement (frame 0) x ≡ no_facts → Gives the_row 3 (set_up ++ holding x ∷ read 0x9D ∷ []) (ok ∷ ok ∷ ok ∷ ok ∷ replied 0 1 ∷ [])
  unfolding row_answer row_step stepped concluded settled admission counted next reading.read registers.write registers.write_bicctl registers.write_acctl registers.write_ctrl0
  counts e = by_row (calls set_up (opened 3) then comes x size no_facts e then calls (read 0x9D ∷ []) _)

  fails : judgement (frame 0) x ≡ mode_alone → Gives the_row 3 (set_up ++ holding x ∷ read 0x9D ∷ []) (ok ∷ ok ∷ ok ∷ replied 0 0x40 ∷ replied 0 0 ∷ [])
  unfolding row_answer row_step stepped concluded settled admission counted next reading.read registers.write registers.write_bicctl registers.write_acctl registers.write_ctrl0
  fails e = by_row (calls set_up (opened 3) then comes x size mode_alone e then calls (read 0x9D ∷ []) _)

  told : judgement (frame 0) x ≡ mode_alone → Gives (telling_why the_row) 3 (set_up ++ holding x ∷ []) (ok ∷ ok ∷ ok ∷ replied 0 4 ∷ [])
  unfolding row_answer row_step stepped concluded settled admission counted next registers.write registers.write_bicctl registers.write_acctl registers.write_ctrl0
  told e =
      record { given = λ m long. (calls {M = telling_why the_row} set_up (opened 3) then telling (comes x size mode_alone e)).told }

pub kinds : KindsClaim
kinds = record {
  each_counts = λ u h i size first second. by_simulation chip_simulates (omega arith) (omega arith) refl (each u h i size first second);
  without_code = λ x size none good. by_simulation chip_simulates (omega arith) (omega arith) refl (counts x size good);
  there_is = (bare.sector, bare_long, (bare.kind, bare_zeros), bare_good);
  mode_fails = λ x size bad. by_simulation chip_simulates (omega arith) (omega arith) refl (fails x size bad);
  mode_told = λ x size bad. by_simulation (telling_simulates chip_simulates) (omega arith) (omega arith) refl (told x size bad);
  copies_differ = (unequal, unequal_long, unequal_kind, unequal_copies, unequal_judged);
}
