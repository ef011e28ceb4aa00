-- What a sound record says, fact by fact, and that a record of which these facts hold is sound. Assumes nothing.
use Prim.Native.Nat.{◌+◌, ◌<◌, ◌≤◌}
use mathlib.Core.Path.{◌≡◌}
use mathlib.Core.Bool.{true, ◌&&◌}
use mathlib.Core.Logic.{◌⊎◌, inl, inr, ⊎_elim}
use lib.Dec.{ltb, leb, eqb}
use borrow.Author.Tests.{ltb-true, leb-true, eqb-true, lt-ltb, le-leb, eq-eqb}
use Rattle.laws.proofs.All.{all_at, all_of}
use Rattle.laws.proofs.Tests.{and3, true3, or_true, or_left, or_right, when_true, true_when}
use Rattle.sector.specs.Address.{valid}
use Rattle.controller.specs.Named.{window_fits}
use Rattle.controller.specs.declared.state.Controller.{Controller}
use Rattle.ring.specs.Place.{PlaceSound}
use Rattle.chip.specs.Sound.{window_sound, transfer_sound, tests, sound}
use Rattle.chip.specs.declared.Chip.{Chip}

-- a running transfer's
pub record RunningFacts (c : Controller) : Type 0 where
  pub some_left : 0 < c.transfer.left
  pub left_in : c.transfer.left ≤ c.counts.tcc
  pub position_in : c.transfer.position < c.window.words

pub record SoundFacts (c : Chip) : Type 0 where
  pub place : PlaceSound c.place
  pub tcc_in : c.controller.counts.tcc < c.place.n
  pub bufc_in : c.controller.counts.bufc < c.place.n
  pub window : (c.controller.window.words ≡ 0) ⊎ (window_fits c.controller.window.offset c.controller.window.words ≡ true)
  pub expected : valid c.controller.expected ≡ true
  pub running : c.controller.transfer.running ≡ true → RunningFacts c.controller
  pub buflim_in : c.controller.buffering.buflim + 2 ≤ c.place.n
  pub ttc_in : c.controller.counts.ttc ≤ 255
  pub mbc_in : c.controller.mbc ≤ 31
  pub atlim_in : c.controller.acctl.atlim ≤ 31
  pub received_in : c.controller.packet.received < 6

module _ (c : Chip) where
  pub sound_facts : sound c ≡ true → SoundFacts c
  unfolding sound
  sound_facts h =
      let k = c.controller in
      let n = c.place.n in
      let at = all_at (tests c) h in
      record {
        place =
            record {
              least = leb-true 3 n (at 0);
              most = leb-true n 255 (at 1);
              t_in = ltb-true c.place.t n (at 2);
              b_in = ltb-true c.place.b n (at 3);
              last_in = ltb-true c.place.last n (at 9);
            };
        tcc_in = ltb-true k.counts.tcc n (at 4);
        bufc_in = ltb-true k.counts.bufc n (at 5);
        window =
            ⊎_elim (λ (e : eqb k.window.words 0 ≡ true). inl (eqb-true k.window.words 0 e))
            (λ (e : window_fits k.window.offset k.window.words ≡ true). inr e)
            (or_true (eqb k.window.words 0) (window_fits k.window.offset k.window.words) (at 6));
        expected = at 7;
        running = λ on.
            let t = k.transfer in
            let a =
            and3 (ltb 0 t.left) (leb t.left k.counts.tcc) (ltb t.position k.window.words)
            (when_true t.running (ltb 0 t.left && leb t.left k.counts.tcc && ltb t.position k.window.words) (at 8) on)
            in
            record {
              some_left = ltb-true 0 t.left a.0;
              left_in = leb-true t.left k.counts.tcc a.1;
              position_in = ltb-true t.position k.window.words a.2;
            };
        buflim_in = leb-true (k.buffering.buflim + 2) n (at 10);
        ttc_in = leb-true k.counts.ttc 255 (at 11);
        mbc_in = leb-true k.mbc 31 (at 12);
        atlim_in = leb-true k.acctl.atlim 31 (at 13);
        received_in = ltb-true k.packet.received 6 (at 14);
      }

  pub facts_sound : SoundFacts c → sound c ≡ true
  unfolding sound
  facts_sound f =
      let k = c.controller in
      let n = c.place.n in
      all_of (tests c) (le-leb 3 n f.place.least) (le-leb n 255 f.place.most)
      (lt-ltb c.place.t n f.place.t_in) (lt-ltb c.place.b n f.place.b_in)
      (lt-ltb k.counts.tcc n f.tcc_in) (lt-ltb k.counts.bufc n f.bufc_in)
      window_true f.expected transfer_true
      (lt-ltb c.place.last n f.place.last_in) (le-leb (k.buffering.buflim + 2) n f.buflim_in)
      (le-leb k.counts.ttc 255 f.ttc_in) (le-leb k.mbc 31 f.mbc_in) (le-leb k.acctl.atlim 31 f.atlim_in)
      (lt-ltb k.packet.received 6 f.received_in)
    where
      window_true : window_sound c.controller.window ≡ true
      window_true =
          let w = c.controller.window in
          ⊎_elim (λ (e : w.words ≡ 0). or_left (eqb w.words 0) (window_fits w.offset w.words) (eq-eqb w.words 0 e))
          (λ (e : window_fits w.offset w.words ≡ true). or_right (eqb w.words 0) (window_fits w.offset w.words) e)
          f.window

      transfer_true : transfer_sound c.controller ≡ true
      transfer_true =
          let k = c.controller in
          let t = k.transfer in
          true_when t.running (ltb 0 t.left && leb t.left k.counts.tcc && ltb t.position k.window.words)
          (λ on.
          let r = f.running on in
          true3 (ltb 0 t.left) (leb t.left k.counts.tcc) (ltb t.position k.window.words)
          (lt-ltb 0 t.left r.some_left) (le-leb t.left k.counts.tcc r.left_in) (lt-ltb t.position k.window.words r.position_in))
