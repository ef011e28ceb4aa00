-- What each call's tests and callees make of its answer: a callee's result comes in with the equation that it is known by. Assumes nothing.
use Prim.Native.Nat.{ℕ, ◌+◌, ◌-◌, ◌*◌, ◌<◌, ◌≤◌}
use mathlib.Core.Path.{◌≡◌, refl, sym, ap, subst, ◌∙◌}
use mathlib.Core.Bool.{Bool, true, false, ◌&&◌, not}
use mathlib.Core.List.{List, []}
use native.Mathlib.Omega.{arith}
use lib.Dec.{eqb}
use lib.ListN.{length, take, drop}
use borrow.Author.Tests.{not-true, not-false, eqb-true, eqb-false}
use Rattle.std.specs.Prelude.{if◌then◌else◌, Err}
use Rattle.laws.proofs.Choice.{if_case, if_true, left_true, right_true}
use Rattle.laws.proofs.Tests.{and3, if_not}
use Rattle.calls.specs.declared.Call.{Call}
use Rattle.reply.proofs.Claims.{nonzero}
use Rattle.reply.specs.Reply.{number}
use Rattle.reply.specs.declared.Refusal.{Refusal}
use Rattle.controller.specs.Step as controller
use Rattle.controller.specs.Step.{Step, step_of}
use Rattle.controller.specs.Calls.{stepped}
use Rattle.controller.specs.Decoder.{admission}
use Rattle.controller.specs.Host.{host_word}
use Rattle.controller.specs.Transfer.{concluded}
use Rattle.controller.specs.declared.step.RingFacts.{RingFacts}
use Rattle.ring.specs.Memory.{base}
use Rattle.ring.specs.Place.{PlaceSound, full, ring_facts}
use Rattle.outcomes.proofs.Calls.{word_running}
use Rattle.outcomes.proofs.Consistent.{window_end}
use Rattle.chip.specs.Calls.{called, sector_number, look_part, looked, word_told}
use Rattle.chip.specs.Chip.{ring_fits, finished}
use Rattle.chip.specs.Told.{refused, Refused}
use Rattle.chip.specs.Sound.{sound}
use Rattle.chip.specs.declared.Chip.{Chip}
use Rattle.chip.specs.declared.Part.{Part}
use Rattle.chip.proofs.Sounds.{SoundFacts, sound_facts}

-- a look's bytes, by its tests
pub looked_is : (c : Chip) (ring : List ℕ)
    → looked c ring
    ≡ (if sound c && ring_fits c ring && not (eqb c.controller.counts.tcc 0) && not (eqb c.controller.window.words 0)
    then take (2 * c.controller.window.words) (drop (base c.place.t + c.controller.window.offset) ring)
    else [])
unfolding looked look_part
looked_is c ring = by (sound c && ring_fits c ring && not (eqb c.controller.counts.tcc 0) && not (eqb c.controller.window.words 0))
  where
    shows : Part → List ℕ
    shows p = take p.size (drop p.start ring)

    by : (b : Bool)
        → shows (if b then record { start = base c.place.t + c.controller.window.offset; size = 2 * c.controller.window.words } else record { start = 0; size = 0 })
        ≡ (if b then take (2 * c.controller.window.words) (drop (base c.place.t + c.controller.window.offset) ring) else [])
    by true = refl
    by false = refl

-- a refused step leaves the chip
barred : (c : Chip) (r : Refusal) → finished c.place (concluded (step_of c.controller (Err r))) ≡ refused c (number r)
unfolding concluded
barred c r = simp (nonzero r)

pub called_barred : (c : Chip) (call : Call) (r : Refusal) {f : Bool} → f ≡ sound c → not f ≡ false → {p : RingFacts} → p ≡ ring_facts c.place
    → controller.refused c.controller (number r) ≡ stepped c.controller call p → refused c (number r) ≡ called c call
unfolding called
called_barred c call r is h ep e =
    sym (barred c r) ∙ ap (λ (q : Step). finished c.place (concluded q)) (e ∙ ap (stepped c.controller call) ep)
    ∙ sym (if_true (sound c) (finished c.place (concluded (stepped c.controller call (ring_facts c.place)))) (refused c 1) (sym is ∙ not-false _ h))

-- what a step and its conclusion ask of the record
module _ (c : Chip) (h : sound c ≡ true) where
  pub sound_received : c.controller.packet.received < 6
  sound_received = (sound_facts c h).received_in

  pub sound_place : PlaceSound c.place
  sound_place = (sound_facts c h).place

-- a sound record with a lent ring of its N blocks
pub record Ready (c : Chip) (ring : List ℕ) : Type 0 where
  pub facts : SoundFacts c
  pub whole : length ring ≡ c.place.n * 2560

module _ (c : Chip) (ring : List ℕ) where
  pub ready : (sound c && ring_fits c ring) ≡ true → Ready c ring
  ready h =
      record {
        facts = sound_facts c (left_true (sound c) (ring_fits c ring) h);
        whole = eqb-true (length ring) (c.place.n * 2560) (right_true (sound c) (ring_fits c ring) h);
      }

  -- a sector
  module _ (s : List ℕ) where
    joined : Bool
    joined = sound c && ring_fits c ring && eqb (length s) 2352

    -- one that is admitted has its length, and finds the chip ready
    admitted : sector_number c ring s ≡ 0 → Ready c ring × (length s ≡ 2352)
    unfolding sector_number joined
    admitted =
        if_not (λ (k : ℕ). k ≡ 0 → Ready c ring × (length s ≡ 2352)) joined 1 (admission c.controller (full c.place))
        (λ (t : joined ≡ false) (z : 1 ≡ 0). absurd (omega arith))
        (λ (t : joined ≡ true) (z : admission c.controller (full c.place) ≡ 0).
        (ready (left_true (sound c && ring_fits c ring) (eqb (length s) 2352) t), eqb-true (length s) 2352 (right_true (sound c && ring_fits c ring) (eqb (length s) 2352) t)))

    module _ (is : 0 ≡ sector_number c ring s) where
      pub sector_long : length s ≡ 2352
      sector_long = (admitted (sym is)).1

      pub sector_place : PlaceSound c.place
      sector_place = (admitted (sym is)).0.facts.place

      pub sector_in : base c.place.b + 2352 ≤ length ring
      sector_in = let a = (admitted (sym is)).0 in let l = a.facts.place.b_in in omega (arith, a.whole)

      pub sector_counts : (c.controller.counts.tcc < 255) × (c.controller.counts.bufc < 255)
      sector_counts =
          let f = (admitted (sym is)).0.facts in
          let n = f.place.most in
          (omega (arith, f.tcc_in), omega (arith, f.bufc_in))

  -- a look's part lies in the ring
  part_in : (look_part c ring).start + (look_part c ring).size ≤ length ring
  unfolding look_part
  part_in =
      let t = eqb c.controller.counts.tcc 0 in
      let w = eqb c.controller.window.words 0 in
      if_case (λ (p : Part). p.start + p.size ≤ length ring) (sound c && ring_fits c ring && not t && not w)
      (record { start = base c.place.t + c.controller.window.offset; size = 2 * c.controller.window.words }) (record { start = 0; size = 0 })
      (λ h.
      let s = and3 (sound c && ring_fits c ring) (not t) (not w) h in
      let a = ready s.0 in
      let e = window_end c.controller.window.offset c.controller.window.words a.facts.window (eqb-false c.controller.window.words 0 (not-true w s.2)) in
      let l = a.facts.place.t_in in
      omega (arith, a.whole))
      (λ h. omega arith)

  module _ {p : Part} (is : p ≡ look_part c ring) where
    pub look_end : p.start + p.size ≤ length ring
    look_end = subst (λ (q : Part). q.start + q.size ≤ length ring) (sym is) part_in

    pub look_shows : take (p.start + p.size - p.start) (drop p.start ring) ≡ looked c ring
    unfolding looked
    look_shows =
        let n : p.start + p.size - p.start ≡ p.size = omega arith in
        ap (λ (k : ℕ). take k (drop p.start ring)) n ∙ ap (λ (q : Part). take q.size (drop q.start ring)) is

  -- the host's word
  module _ (h : (sound c && ring_fits c ring) ≡ true) where
    pub word_place : PlaceSound c.place
    word_place = (ready h).facts.place

    -- a running transfer's position is in the window
    pub word_in : (host_word c.controller).reply.number ≡ 0
        → base c.place.t + c.controller.window.offset + 2 * c.controller.transfer.position + 1 < length ring
    word_in z =
        let a = ready h in
        let m = a.facts.running (word_running c.controller z) in
        let p = m.position_in in
        let e = window_end c.controller.window.offset c.controller.window.words a.facts.window (λ (e : c.controller.window.words ≡ 0). omega arith) in
        let l = a.facts.place.t_in in
        omega (arith, a.whole)

  pub word_barred : (r : Refusal) {f : Bool} → f ≡ (sound c && ring_fits c ring) → not f ≡ false
      → controller.refused c.controller (number r) ≡ host_word c.controller → record { chip = c; word = Refused (number r) } ≡ word_told c ring
  unfolding word_told concluded
  word_barred r is h e =
      let no = nonzero r in
      let yes : (sound c && ring_fits c ring) ≡ true = sym is ∙ not-false _ h in
      simp (yes, sym e, no)
