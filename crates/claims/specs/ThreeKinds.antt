-- Sectors of the three kinds in one ring (paper 02, ask 4): each counts by its own kind's rule, a form 2 sector without a code too; one whose copies of the
-- subheader differ does not, and the mode's fact is kept. Each run stands with all its answers, for any memory. Assumes nothing.
use Rattle.std.specs.Prelude.{ℕ, ◌≡◌, true, false, List, [], ◌∷◌, ◌++◌, length, take, drop}
use Rattle.scramble.specs.Scramble.{scrambled}
use Rattle.sector.specs.Judge.{judgement, no_facts}
use Rattle.sector.specs.Layout.{agrees, kind_read, layout}
use Rattle.sector.specs.Sector.{sealed}
use Rattle.sector.specs.declared.Judgement.{Judgement}
use Rattle.sector.specs.declared.Subheader.{Subheader}
use Rattle.outcomes.specs.Machine.{Call, sector, replied}
use Rattle.chip.specs.Machine.{the_chip}
use Rattle.claims.specs.Cases.{address}
use Rattle.claims.specs.Runs.{read, set_up, ok, Gives, telling_why}
use Rattle.claims.specs.Sentence.{WithoutCode}

-- a sector of kind k sealed at 00:02:f
abbrev pub of_kind : List ℕ → ℕ → ℕ → Subheader → Call
of_kind u f k h = sector (sealed (layout k) (address 0 2 f) h u)

-- one with these descrambled bytes
abbrev pub holding : List ℕ → Call
holding x = sector (scrambled x)

-- the mode alone
abbrev pub mode_alone : Judgement
mode_alone = record { sync = false; mode = true; edc = false; address = false }

pub record KindsClaim : Type 0 where
  -- one of each kind: TCC is 3
  pub each_counts : (u : List ℕ) (h i : Subheader) → length u ≡ 2352 → agrees 2 h ≡ true → agrees 3 i ≡ true
      → Gives the_chip 4 (set_up ++ of_kind u 0 1 h ∷ of_kind u 1 2 h ∷ of_kind u 2 3 i ∷ read 0x9D ∷ []) (ok ∷ ok ∷ ok ∷ ok ∷ ok ∷ ok ∷ replied 0 3 ∷ [])
  -- a sector without a code of which nothing fails: TCC is 1; and there is such a sector
  pub without_code : (x : List ℕ) → length x ≡ 2352 → WithoutCode x → judgement (address 0 2 0) x ≡ no_facts
      → Gives the_chip 3 (set_up ++ holding x ∷ read 0x9D ∷ []) (ok ∷ ok ∷ ok ∷ ok ∷ replied 0 1 ∷ [])
  pub there_is : (x : List ℕ) × (length x ≡ 2352) × WithoutCode x × (judgement (address 0 2 0) x ≡ no_facts)
  -- a sector of which the mode alone fails: STAERR is the result, why is 4, and TCC stays 0; and there is such a sector, of form 1, whose copies of the
  -- subheader differ
  pub mode_fails : (x : List ℕ) → length x ≡ 2352 → judgement (address 0 2 0) x ≡ mode_alone
      → Gives the_chip 3 (set_up ++ holding x ∷ read 0x9D ∷ []) (ok ∷ ok ∷ ok ∷ replied 0 0x40 ∷ replied 0 0 ∷ [])
  pub mode_told : (x : List ℕ) → length x ≡ 2352 → judgement (address 0 2 0) x ≡ mode_alone
      → Gives (telling_why the_chip) 3 (set_up ++ holding x ∷ []) (ok ∷ ok ∷ ok ∷ replied 0 4 ∷ [])
  pub copies_differ : (x : List ℕ) × (length x ≡ 2352) × (kind_read x ≡ 2) × (take 4 (drop 16 x) ≡ take 4 (drop 20 x) → ⊥)
      × (judgement (address 0 2 0) x ≡ mode_alone)
