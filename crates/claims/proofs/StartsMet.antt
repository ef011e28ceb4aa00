-- The conditions of the table of starts are met, and there are calls in which a transfer begins: runs of the row machine that decode up to 40 sealed
-- sectors, and so of the chip. Assumes nothing.
use Prim.Native.Nat.{ℕ, zero, suc, ◌+◌, ◌*◌, ◌<◌, ◌≤◌}
use mathlib.Core.Path.{◌≡◌, refl, ap, ◌∙◌}
use mathlib.Core.Bool.{Bool, true, false}
use mathlib.Core.List.{List, [], ◌∷◌, ◌++◌}
use mathlib.Core.Logic.{inr}
use native.Mathlib.Numerals.{add-one}
use native.Mathlib.Omega.{arith}
use lib.Dec.{ltb, eqb}
use lib.ListN.{length, replicate, length-replicate}
use borrow.Author.Tests.{ne_eqb, lt-ltb, eq-eqb}
use Rattle.laws.specs.Numbers.{weight}
use Rattle.sector.specs.Address.{next}
use Rattle.sector.specs.Judge.{no_facts}
use Rattle.controller.specs.Calls.{stepped}
use Rattle.controller.specs.Decoder.{admission, counted}
use Rattle.controller.specs.Fields.{◌▹◌, acctl≔, window≔, adcen≔, stwcen≔, bsy≔, ttc≔, mbc≔}
use Rattle.controller.specs.Host.{host_command, host_word, ended, data_ended}
use Rattle.controller.specs.Named as named
use Rattle.controller.specs.Transfer.{byte_count, start, settled, concluded}
use Rattle.controller.specs.Write as registers
use Rattle.controller.specs.declared.state.Controller.{Controller}
use Rattle.outcomes.specs.Machine.{Call, word, Answer}
use Rattle.outcomes.specs.Row.{Row, row_step, the_row}
use Rattle.chip.specs.Calls.{word_told}
use Rattle.chip.specs.Sound.{sound}
use Rattle.chip.specs.Machine.{State, the_chip, chip_answer, chip_step}
use Rattle.claims.specs.Cases.{Asked, GivenStart, with_ttc, Reachable}
use Rattle.claims.specs.Refinement.{Refines, Simulation}
use Rattle.claims.specs.Runs.{encoded, write, set_window, command, disc, set_up, ok}
use Rattle.claims.specs.Starts.{Last, Begins, with_mbc, StartsMet}
use Rattle.claims.proofs.Reached.{Follows, reached}
use Rattle.claims.proofs.Runs.{Ran, calls, ◌then◌, opened, frame, decoding, decoded, own, first, second}
use Rattle.claims.proofs.Starts.{Found, given, begins_by_17h, begins_by_itself}

-- a row of n blocks with k good sectors decoded, from frame 0 on
abbrev holding : ℕ → ℕ → List (List ℕ) → Row
holding n k row = record { controller = decoding k; blocks = n; row = row }

module _ (u : List ℕ) (size : length u ≡ 2352) where
  discs : ℕ → List Call
  discs zero = []
  discs (suc k) = discs k ++ disc u k ∷ []

  frames : ℕ → List (List ℕ)
  frames zero = []
  frames (suc k) = frames k ++ encoded (frame k) u ∷ []

  oks : ℕ → List Answer
  oks zero = []
  oks (suc k) = oks k ++ ok ∷ []

  one_more : (n k : ℕ) (row : List (List ℕ)) → k + 1 < n → k < 74
      → Ran the_row (disc u k ∷ []) (holding n k row) (ok ∷ []) (holding n (suc k) (row ++ encoded (frame k) u ∷ []))
  unfolding concluded settled admission counted next
  one_more n k row room low =
      let d = decoded u size k (holding n k row) no_facts (own u size k) in
      let below : ltb k 74 ≡ true = lt-ltb k 74 low in
      let free : eqb (k + 1) n ≡ false = ne_eqb (k + 1) n (λ (e : k + 1 ≡ n). omega arith) in
      let more : Ran the_row (disc u k ∷ []) (holding n k row) (ok ∷ []) (holding n (k + 1) (row ++ encoded (frame k) u ∷ [])) =
      record { told = d.told ∙ simp free; left = d.left ∙ simp (free, below) } in
      record { told = more.told; left = more.left ∙ ap (λ (m : ℕ). holding n m (row ++ encoded (frame k) u ∷ [])) (add-one k) }

  many : (n k : ℕ) → k < n → k ≤ 74 → Ran the_row (discs k) (holding n 0 []) (oks k) (holding n k (frames k))
  unfolding discs frames oks
  many n zero room low = calls [] (holding n 0 [])
  many n (suc k) room low = many n k (omega arith) (omega arith) then one_more n k (frames k) (omega arith) (omega arith)

-- what a start goes by, with ATTEN or without
abbrev serving : Bool → Asked → Controller
serving atten a =
    decoding a.tcc ▹ acctl≔ (record { atten = atten; acmen = true; tcincen = true; atlim = a.atlim }) ▹ window≔ (record { offset = 0; words = a.words })
    ▹ adcen≔ true ▹ stwcen≔ a.stwcen ▹ bsy≔ true ▹ mbc≔ a.mbc ▹ ttc≔ a.ttc

found_serving : (atten : Bool) (a : Asked) → Found (serving atten a) a
found_serving atten a =
    record {
      idle = refl;
      unreceiving = refl;
      acmen = refl;
      adcen = refl;
      bsy = refl;
      tcc = refl;
      ttc = refl;
      mbc = refl;
      atlim = refl;
      words = refl;
      stwcen = refl;
    }

-- the calls for it, once the sectors are decoded: ATLIM is set while DECEN is high
abbrev serve : Bool → Asked → List Call
serve atten a =
    write 0x9C (weight atten 0x80 + 0x60 + a.atlim) ∷ set_window 0 a.words ∷ write 0x18 (0x40 + weight a.stwcen 0x08) ∷ command 0
    ∷ write 0x12 a.mbc ∷ write 0x9F a.ttc ∷ []

-- a chip whose next word ends a transfer and lets another begin
at_last : (s : State) (k : Controller) → sound s.chip ≡ true → length s.ring ≡ s.chip.place.n * 2560 → s.chip.controller ≡ k
    → (host_word k).reply.number ≡ 0 → (concluded (host_word k)).controller.transfer.running ≡ true → Last word k → Begins word s
unfolding chip_answer chip_step word_told
at_last s k fine whole e z r l =
    let fits = eq-eqb (length s.ring) (s.chip.place.n * 2560) whole in
    record { done = simp (fine, fits, e, z); runs = simp (fine, fits, e) r; new = inr (rw e l) }

module _ (S : Simulation the_chip the_row) (refines : Follows S) (refines_sound : (s : State) (r : Row) → Refines s r → sound s.chip ≡ true) where
  module _ (u : List ℕ) (size : length u ≡ 2352) where
    -- a row of 64 blocks that serves
    abbrev ready : Bool → Asked → Row
    ready atten a = record { controller = serving atten a; blocks = 64; row = frames u size a.tcc }

    leads : (P : State → Type 0) (atten : Bool) (a : Asked) → a.tcc ≤ 62 → {rs : List Answer}
        → Ran the_row (serve atten a) (holding 64 a.tcc (frames u size a.tcc)) rs (ready atten a)
        → ((s : State) → GivenStart s.chip a → s.chip.controller ≡ serving atten a → P s) → Reachable P
    unfolding row_step stepped concluded settled registers.write registers.write_bicctl registers.write_acctl registers.write_ctrl0
    leads P atten a room run f =
        reached S refines 64 (omega arith) (omega arith) P
        (calls set_up (opened 64) then many u size 64 a.tcc (omega arith) (omega arith) then run) λ s h.
        f s (given s.chip a (serving atten a) (refines_sound s _ h) h.controller (found_serving atten a)) h.controller

    starts_met_by : StartsMet
    unfolding row_step stepped concluded settled registers.write registers.write_bicctl registers.write_acctl registers.write_ctrl0 registers.write_asctrl registers.write_mbtc0 registers.write_ttc host_command named.set_window byte_count start host_word ended data_ended
    starts_met_by =
        record {
          twenty = leads _ false (with_ttc 20 20 0 1176 true 0) (omega arith) (calls _ _) (λ s h _. h);
          ttc_25 = leads _ false (with_ttc 40 25 0 1024 true 0) (omega arith) (calls _ _) (λ s h _. h);
          atlim_31 = leads _ false (with_ttc 40 40 31 1023 true 0) (omega arith) (calls _ _) (λ s h _. h);
          atlim_0 = leads _ false (with_ttc 40 40 0 1023 true 0) (omega arith) (calls _ _) (λ s h _. h);
          one_word = leads _ false (with_ttc 40 40 0 1 true 0) (omega arith) (calls _ _) (λ s h _. h);
          ttc_1176 = leads _ false (with_ttc 40 40 0 1176 true 0) (omega arith) (calls _ _) (λ s h _. h);
          mbc_1024 = leads _ false (with_mbc 40 31 1024 true 0) (omega arith) (calls _ _) (λ s h _. h);
          mbc_1057 = leads _ false (with_mbc 40 31 1057 true 0) (omega arith) (calls _ _) (λ s h _. h);
          mbc_1176 = leads _ false (with_mbc 40 31 1176 true 0) (omega arith) (calls _ _) (λ s h _. h);
          mbc_1023 = leads _ false (with_mbc 40 31 1023 true 0) (omega arith) (calls _ _) (λ s h _. h);
          mbc_4 = leads _ false (with_mbc 40 4 1176 true 0) (omega arith) (calls _ _) (λ s h _. h);
          good_27 = leads _ false (with_mbc 27 31 1176 true 0) (omega arith) (calls _ _) (λ s h _. h);
          good_26 = leads _ false (with_mbc 26 31 1176 true 0) (omega arith) (calls _ _) (λ s h _. h);
          good_0 = leads _ false (with_mbc 0 31 1024 true 0) (omega arith) (calls _ _) (λ s h _. h);
          good_0_ttc = leads _ false (with_ttc 0 5 0 1024 true 0) (omega arith) (calls _ _) (λ s h _. h);
          without_stwcen = leads _ false (with_mbc 40 31 1024 false 0) (omega arith) (calls _ _) (λ s h _. h);
          without_stwcen_ttc = leads _ false (with_ttc 40 40 0 1176 false 0) (omega arith) (calls _ _) (λ s h _. h);
          unready =
              reached S refines 3 (omega arith) (omega arith) _ (calls [] (opened 3)) λ s h. (
                record { sound_record = refines_sound s _ h; idle = simp h.controller; unreceiving = simp h.controller },
                simp h.controller,
                simp h.controller,
                simp h.controller,
                simp h.controller,
              );
          by_itself = leads _ true (with_mbc 40 31 1176 true 0) (omega arith) (calls _ _) (λ s h e. (h, rw e refl));
          begins_by_17h = leads _ false (with_mbc 40 31 1024 true 0) (omega arith) (calls _ _)
              (λ s h _. (begins_by_17h s.chip _ h refl refl s.ring, h.stwcen));
          begins_by_itself = leads _ true (with_mbc 40 31 1176 true 0) (omega arith) (calls _ _)
              (λ s h e. (begins_by_itself s.chip h (rw e refl) s.ring, h.stwcen));
          begins_at_last =
              reached S refines 3 (omega arith) (omega arith) _
              (first u size then second u size then calls (write 0x9C 0xE1 ∷ set_window 12 1 ∷ write 0x18 0x48 ∷ command 0 ∷ write 0x9F 2 ∷ []) _) λ s h. (
                at_last s _ (refines_sound s _ h) h.represents.whole h.controller refl refl (refl, refl),
                ap (λ (k : Controller). k.transfer.running) h.controller,
                ap (λ (k : Controller). k.asctrl.stwcen) h.controller,
              );
        }

  pub starts_met : StartsMet
  starts_met = starts_met_by (replicate 2352 0) (length-replicate {A = ℕ} 2352 0)
