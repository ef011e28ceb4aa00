-- A ring goes on representing the row, by the outcome of a call; and what is read of its oldest block is of the row's first sector. Assumes nothing.
use Prim.Native.Nat.{ℕ, ◌+◌, ◌-◌, ◌*◌, ◌<◌}
use mathlib.Core.Path.{◌≡◌, refl, ap, ◌∙◌}
use mathlib.Core.Bool.{Bool, true, false, ◌&&◌, not}
use mathlib.Core.List.{List, [], ◌∷◌, ◌++◌}
use native.Mathlib.Nat.{add_assoc}
use native.Mathlib.Omega.{arith}
use lib.Dec.{eqb}
use lib.ListN.{take, drop, get_or}
use borrow.Author.Tests.{eqb-false, not-true}
use Rattle.laws.specs.Bytes.{word_at}
use Rattle.std.specs.Prelude.{if◌then◌else◌}
use Rattle.laws.proofs.Choice.{left_true, right_true, then_same}
use Rattle.laws.proofs.Tests.{weightless}
use Rattle.sector.specs.Judge.{good}
use Rattle.sector.specs.Receive.{received}
use Rattle.sector.proofs.Received.{length_received}
use Rattle.controller.specs.Step.{Step}
use Rattle.controller.specs.declared.state.Controller.{Controller}
use Rattle.controller.specs.declared.step.Event.{Event}
use Rattle.controller.specs.declared.step.Event.TheVariants.{Stay, Store, Advance, Rewind, Move, Clear}
use Rattle.ring.specs.Memory.{base, stored}
use Rattle.ring.specs.Place.{place_step}
use Rattle.ring.specs.Represents.{Represents}
use Rattle.ring.specs.declared.Place.{Place}
use Rattle.ring.proofs.Represents.{represents_advance, represents_rewind, represents_move, represents_clear, represents_store_good, represents_store_bad, represents_word, represents_look}
use Rattle.outcomes.specs.Invariant.{Moves, moved, Lands}
use Rattle.outcomes.specs.Machine.{Call}
use Rattle.outcomes.specs.Row.{Row, Valid, looked, grown, sector_step}
use Rattle.outcomes.proofs.Consistent.{window_end}
use Rattle.outcomes.proofs.Outcome.{Outcome, refusal, done}
use Rattle.outcomes.proofs.Rows.{Taken, sector_stored, sector_room}

-- the counts may be said in other words
recounted :
    (p : Place) (tcc bufc tcc' bufc' : ℕ) (ring : List ℕ) (row : List (List ℕ)) → tcc' ≡ tcc → bufc' ≡ bufc → Represents p tcc bufc ring row → Represents p tcc' bufc' ring row
recounted p tcc bufc tcc' bufc' ring row e f r = rw (e, f) r

-- an event other than Store
module _ (c d : Controller) (p : Place) (ring : List ℕ) (row : List (List ℕ)) (r : Represents p c.counts.tcc c.counts.bufc ring row) where
  represents_moved : (e : Event) → Moves e c d → Lands p.n e → Represents (place_step p e) d.counts.tcc d.counts.bufc ring (moved e row)
  represents_moved Stay m l = recounted p c.counts.tcc c.counts.bufc d.counts.tcc d.counts.bufc ring row m.0 m.1 r
  represents_moved Store m l = absurd l
  represents_moved (Advance k) m l =
      recounted (place_step p (Advance k)) (c.counts.tcc - k) (c.counts.bufc - k) d.counts.tcc d.counts.bufc ring (drop k row) m.1 m.2
      (represents_advance r k m.0)
  represents_moved (Rewind k) m l =
      recounted (place_step p (Rewind k)) k k d.counts.tcc d.counts.bufc ring (take k row) m.1 m.2
      (represents_rewind r k m.0)
  represents_moved (Move k) m l =
      recounted (place_step p (Move k)) 0 0 d.counts.tcc d.counts.bufc ring [] m.2 m.3
      (represents_move r k l)
  represents_moved Clear m l =
      recounted (place_step p Clear) 0 0 d.counts.tcc d.counts.bufc ring [] m.0 m.1
      (represents_clear r)

-- no event changes the number of blocks
pub step_n : (p : Place) (e : Event) → (place_step p e).n ≡ p.n
step_n p Stay = refl
step_n p Store = refl
step_n p (Advance k) = refl
step_n p (Rewind k) = refl
step_n p (Move k) = refl
step_n p Clear = refl

pub represents_outcome :
    (call : Call) (c : Controller) (p : Place) (ring : List ℕ) (row : List (List ℕ)) → Represents p c.counts.tcc c.counts.bufc ring row
    → (s : Step) → Outcome p.n call c s
    → Represents (place_step p s.event) s.controller.counts.tcc s.controller.counts.bufc ring (moved s.event row)
represents_outcome call c p ring row r s (refusal k nonzero) = r
represents_outcome call c p ring row r s (done d e v f) = represents_moved c d p ring row r e f.moves f.lands

-- a sector that is stored
module _ (x : List ℕ) (s : Row) (h : Valid s) (t : Taken x s) (p : Place) (n_is : p.n ≡ s.blocks) (ring : List ℕ)
    (r : Represents p s.controller.counts.tcc s.controller.counts.bufc ring s.row)
  where
    -- nothing is held, so that every filled block is good
    all_good : s.controller.counts.tcc ≡ s.controller.counts.bufc
    all_good =
        let w = weightless s.controller.counts.held 1 t.admitted.unheld in
        let b = h.invariant.consistent.buffered in
        omega arith

    pub represents_stored :
        Represents (place_step p Store) (sector_step x s).controller.counts.tcc (sector_step x s).controller.counts.bufc
        (stored ring p.b (received s.controller.expected x).bytes) (grown s.controller x s.row)
    represents_stored =
        let k = sector_stored x s h t in
        let bytes = (received s.controller.expected x).bytes in
        let size = length_received s.controller.expected x t.size in
        let room : s.controller.counts.bufc + 1 < p.n = rw n_is (sector_room x s h t) in
        rw (k.tcc, k.bufc)
        (by (good (received s.controller.expected x).judgement)
        (represents_store_good r bytes room size all_good) (represents_store_bad r bytes room size))
      where
        by : (e : Bool)
            → Represents (place_step p Store) (s.controller.counts.tcc + 1) (s.controller.counts.bufc + 1)
            (stored ring p.b (received s.controller.expected x).bytes) (s.row ++ (received s.controller.expected x).bytes ∷ [])
            → Represents (place_step p Store) s.controller.counts.tcc (s.controller.counts.bufc + 1)
            (stored ring p.b (received s.controller.expected x).bytes) s.row
            → Represents (place_step p Store) (if e then s.controller.counts.tcc + 1 else s.controller.counts.tcc) (s.controller.counts.bufc + 1)
            (stored ring p.b (received s.controller.expected x).bytes) (if e then s.row ++ (received s.controller.expected x).bytes ∷ [] else s.row)
        by true g b = g
        by false g b = b

module _ (s : Row) (h : Valid s) (p : Place) (ring : List ℕ) (r : Represents p s.controller.counts.tcc s.controller.counts.bufc ring s.row) where
  -- the word of a transfer that runs
  pub represented_word :
      s.controller.transfer.running ≡ true
      → word_at ring (base p.t + s.controller.window.offset + 2 * s.controller.transfer.position)
      ≡ word_at (get_or s.row 0 []) (s.controller.window.offset + 2 * s.controller.transfer.position)
  represented_word on =
      let m = h.invariant.consistent.running on in
      let o = s.controller.window.offset in
      let w = s.controller.window.words in
      let k = s.controller.transfer.position in
      let inside = m.inside in
      let end = window_end o w h.invariant.consistent.window (omega arith) in
      ap (λ (x : ℕ). word_at ring x) (add_assoc (base p.t) o (2 * k)) ∙ represents_word r (o + 2 * k) (omega (arith, m.some, m.good)) (omega arith)

  -- a look, without the place and the memory
  pub represented_look :
      (if not (eqb s.controller.counts.tcc 0) && not (eqb s.controller.window.words 0)
      then take (2 * s.controller.window.words) (drop (base p.t + s.controller.window.offset) ring)
      else [])
      ≡ looked s
  represented_look =
      let o = s.controller.window.offset in
      let w = s.controller.window.words in
      let c = s.controller.counts.tcc in
      then_same (not (eqb c 0) && not (eqb w 0)) (take (2 * w) (drop (base p.t + o) ring)) (take (2 * w) (drop o (get_or s.row 0 []))) []
      (λ e.
      let t = eqb-false c 0 (not-true _ (left_true (not (eqb c 0)) (not (eqb w 0)) e)) in
      let f = eqb-false w 0 (not-true _ (right_true (not (eqb c 0)) (not (eqb w 0)) e)) in
      represents_look r o w (omega arith) (window_end o w h.invariant.consistent.window f))
