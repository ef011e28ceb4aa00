-- The runs of Pins: of the row machine, and so of the chip that simulates it. Assumes nothing.
use Prim.Native.Nat.{ℕ, ◌+◌, ◌<◌}
use mathlib.Core.Path.{◌≡◌, refl, sym, ap, ◌∙◌}
use mathlib.Core.Bool.{true, false}
use mathlib.Core.List.{List, [], ◌∷◌, ◌++◌}
use native.Mathlib.Omega.{arith}
use lib.ListN.{length, set, length-set}
use borrow.Author.Tests.{le-ltb, lt-ltb, le-leb, ne_eqb}
use Rattle.scramble.specs.Scramble.{scrambled}
use Rattle.scramble.proofs.Scrambled.{scrambled_twice, length_scrambled}
use Rattle.sector.specs.Address.{next}
use Rattle.sector.specs.Calls.{judge_answer}
use Rattle.sector.specs.Claims.{verdict, address_alone, facts_of_change}
use Rattle.sector.specs.Judge.{unwritten, judgement, no_facts}
use Rattle.sector.specs.Layout.{kind_read, layout, layout_read}
use Rattle.sector.specs.Receive.{received}
use Rattle.parity.specs.Parity.{with_parity}
use Rattle.sector.specs.Sector.{body, framed}
use Rattle.sector.specs.Sector as sectors
use Rattle.sector.specs.declared.Judgement.{Judgement}
use Rattle.sector.proofs.Answers.{judge_done, judged_facts}
use Rattle.sector.proofs.Claims.{damage_holds, found_holds}
use Rattle.calls.specs.declared.Call.TheVariants.{Reset}
use Rattle.controller.specs.Calls.{stepped}
use Rattle.controller.specs.Decoder.{admission, counted}
use Rattle.controller.specs.Fields.{◌▹◌, bufc≔, held≔, judgement≔}
use Rattle.controller.specs.Host.{host_word, host_command, ended, data_ended}
use Rattle.controller.specs.Named as named
use Rattle.controller.specs.Read as reading
use Rattle.controller.specs.Transfer.{byte_count, start, settled, concluded}
use Rattle.controller.specs.Write as registers
use Rattle.outcomes.specs.Machine.{plain, look, word, replied, handed, seen}
use Rattle.outcomes.specs.Row.{Row, row_answer, row_step, the_row}
use Rattle.claims.specs.Pins.{GivenCode, damaged, kept}
use Rattle.claims.specs.Runs.{encoded, read, set_window, srst, disc, set_up, restart, transfer, ok, Gives, telling_why}
use Rattle.claims.proofs.Runs.{frame, Ran, calls, ◌then◌, telling, opened, by_row, taken, decoded, decoding, filled, own, not_expected, first, second}
use Rattle.claims.proofs.Mode1.{bytes_encoded, judged_own, kind_encoded, length_encoded}

-- the sector sealed at 00:02:01, with a byte behind its header changed, is received as such, and its EDC alone fails
module _ (u : List ℕ) (k v : ℕ) (h : GivenCode u k v) where
  abbrev changed : List ℕ
  changed = set (encoded (frame 1) u) k v

  whole : length changed ≡ 2352
  whole = length-set (encoded (frame 1) u) k v ∙ length_encoded (frame 1) u h.size

  sealed_well : judge_answer (encoded (frame 1) u) (frame 1) ≡ verdict no_facts
  sealed_well =
      sym (judge_done (encoded (frame 1) u) (frame 1) (length_encoded (frame 1) u h.size) refl)
      ∙ ap (λ (j : Judgement). record { number = 0; judgement = j }) (judged_own (frame 1) u h.size)

  -- the sector is of mode 1, before and after, which always has a code
  kind : kind_read (encoded (frame 1) u) ≡ 1
  kind = kind_encoded (frame 1) u h.size

  same_kind : kind_read changed ≡ kind_read (encoded (frame 1) u)
  same_kind = let behind = h.behind in found_holds.kind_stays (encoded (frame 1) u) k v (λ (z : k ≡ 15). omega arith) (λ _. kind)

  written : (x : List ℕ) → unwritten (layout_read (encoded (frame 1) u)) x ≡ false
  unfolding unwritten layout
  written x = ap (λ (n : ℕ). unwritten (layout n) x) kind

  -- no other fact is of its place
  edc_alone : facts_of_change (layout_read (encoded (frame 1) u)) k ≡ record { sync = false; mode = false; edc = true; address = false }
  unfolding layout
  edc_alone =
      let behind = h.behind in
      let before : k < 2064 + 4 = h.before in
      ap (λ (n : ℕ). facts_of_change (layout n) k) kind
      ∙ simp (le-ltb k 12 (omega arith), ne_eqb k 15 (λ z. omega arith), lt-ltb k (2064 + 4) before, le-leb 0 k (omega arith), le-leb 12 k (omega arith), le-ltb k 15 (omega arith))

  received_so : received (frame 1) (scrambled changed) ≡ record { bytes = changed; judgement = record { sync = false; mode = false; edc = true; address = false } }
  unfolding received
  received_so =
      ap (λ (l : List ℕ). record { bytes = l; judgement = judgement (frame 1) l }) (scrambled_twice changed whole)
      ∙ ap (λ (j : Judgement). record { bytes = changed; judgement = j })
      (judged_facts changed (frame 1) (facts_of_change (layout_read (encoded (frame 1) u)) k)
      (damage_holds (encoded (frame 1) u) (frame 1) k v (bytes_encoded (frame 1) u h.size refl h.bytes) sealed_well h.byte h.other same_kind (written (encoded (frame 1) u)) (written changed)) ∙ edc_alone)

  pub wrong_code :
      Gives the_row 3
      (set_up ++ disc u 0 ∷ damaged u 1 k v ∷ read 0x80 ∷ read 0x9D ∷ read 0x9B ∷ disc u 1 ∷ [])
      (ok ∷ ok ∷ ok ∷ ok ∷ replied 0 0x40 ∷ replied 0 0x40 ∷ replied 0 1 ∷ replied 0 2 ∷ replied 8 0 ∷ [])
  unfolding row_answer row_step stepped concluded settled admission counted next reading.read
  wrong_code =
      by_row (first u h.size
      then taken (scrambled changed) changed (filled 1 (encoded (frame 0) u ∷ [])) _ (length_scrambled changed whole) received_so
      then calls (read 0x80 ∷ read 0x9D ∷ read 0x9B ∷ []) _
      then decoded u h.size 1 _ _ (own u h.size 1))

  -- the rows between: with a sector of another place stored, after the restart, with a good one, and with the changed one behind it
  abbrev misplaced : Row
  misplaced = record { controller = decoding 0 ▹ bufc≔ 1 ▹ judgement≔ address_alone ▹ held≔ true; blocks = 3; row = [] }

  abbrev restarted : Row
  restarted = record { controller = decoding 0 ▹ judgement≔ address_alone; blocks = 3; row = [] }

  abbrev one_good : Row
  one_good = filled 1 (encoded (frame 0) u ∷ [])

  abbrev one_bad : Row
  one_bad = record {
    controller = decoding 1 ▹ bufc≔ 2 ▹ judgement≔ (record { sync = false; mode = false; edc = true; address = false }) ▹ held≔ true;
    blocks = 3;
    row = encoded (frame 0) u ∷ [];
  }

  bad : Ran the_row (disc u 5 ∷ []) (filled 0 []) (replied 0 1 ∷ []) misplaced
  unfolding concluded settled admission counted
  bad = decoded u h.size 5 (filled 0 []) _ (not_expected u h.size)

  barred : Ran the_row (disc u 0 ∷ []) misplaced (replied 8 0 ∷ []) misplaced
  unfolding admission
  barred = decoded u h.size 0 misplaced _ (own u h.size 0)

  good : Ran the_row (disc u 0 ∷ []) restarted (ok ∷ []) one_good
  unfolding concluded settled admission counted next
  good = decoded u h.size 0 restarted _ (own u h.size 0)

  coded : Ran the_row (damaged u 1 k v ∷ []) one_good (replied 0 0x40 ∷ []) one_bad
  unfolding concluded settled admission counted
  coded = taken (scrambled changed) changed one_good _ (length_scrambled changed whole) received_so

  barred_too : Ran the_row (disc u 1 ∷ []) one_bad (replied 8 0 ∷ []) one_bad
  unfolding admission
  barred_too = decoded u h.size 1 one_bad _ (own u h.size 1)

  pub why_kept :
      Gives (telling_why the_row) 3
      (set_up ++ disc u 5 ∷ disc u 0 ∷ read 0x80 ∷ srst ∷ restart ++ disc u 0 ∷ damaged u 1 k v ∷ disc u 1 ∷ plain Reset ∷ [])
      (kept 0 ∷ kept 0 ∷ kept 0 ∷ kept 1 ∷ kept 1 ∷ kept 1 ∷ kept 1 ∷ kept 1 ∷ kept 1 ∷ kept 0 ∷ kept 2 ∷ kept 2 ∷ kept 0 ∷ [])
  unfolding row_step stepped concluded settled reading.read registers.write registers.write_bicctl registers.write_acctl registers.write_ctrl0
  why_kept = record {
    given = λ x size.
        (calls {M = telling_why the_row} set_up (opened 3)
        then telling bad then telling barred
        then calls {M = telling_why the_row} (read 0x80 ∷ srst ∷ restart) misplaced
        then telling good then telling coded then telling barred_too
        then calls {M = telling_why the_row} (plain Reset ∷ []) one_bad).told;
  }

-- looks, and one behind a block that was taken
pub look_headers : (u : List ℕ) → length u ≡ 2352
    → Gives the_row 3
    (set_up ++ disc u 0 ∷ disc u 1 ∷ set_window 12 2 ∷ look ∷ set_window 13 1 ∷ look ∷ transfer 14 1 ++ word ∷ look ∷ [])
    (ok ∷ ok ∷ ok ∷ ok ∷ ok ∷ ok ∷ seen (0x00 ∷ 0x02 ∷ 0x00 ∷ 0x01 ∷ []) ∷ ok ∷ seen (0x02 ∷ 0x00 ∷ []) ∷ ok ∷ ok ∷ ok ∷ ok
    ∷ handed 0x0100 ∷ seen (0x01 ∷ 0x01 ∷ []) ∷ [])
unfolding row_answer row_step stepped concluded settled byte_count start registers.write registers.write_asctrl registers.write_astrg named.set_window host_word host_command ended data_ended sectors.encoded with_parity framed body
look_headers u size =
    by_row (first u size then second u size
    then calls (set_window 12 2 ∷ look ∷ set_window 13 1 ∷ look ∷ transfer 14 1 ++ word ∷ look ∷ []) _)
