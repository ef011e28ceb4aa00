-- Words inside a block: each leaves a sound chip one word on, so that many of them are one run. Assumes nothing.
use Prim.Native.Nat.{ℕ, zero, suc, ◌+◌, ◌-◌, ◌*◌, ◌<◌, ◌≤◌}
use mathlib.Core.Path.{◌≡◌, refl, sym, ◌∙◌, ap, ap₂}
use mathlib.Core.Bool.{true, false, ◌&&◌, not}
use mathlib.Core.List.{List, [], ◌∷◌}
use native.Mathlib.Omega.{arith}
use lib.Dec.{eqb}
use lib.ListN.{length}
use borrow.Author.Tests.{eqb-true, lt-ltb}
use Rattle.laws.specs.Bytes.{words_at}
use Rattle.laws.proofs.Choice.{if_case, if_false, right_false}
use Rattle.laws.proofs.Tests.{and3}
use Rattle.controller.specs.Fields.{◌▹◌, position≔}
use Rattle.controller.specs.Host.{host_word}
use Rattle.controller.specs.Step.{done}
use Rattle.controller.specs.Transfer.{engaged, start, settled, concluded}
use Rattle.controller.specs.declared.state.Controller.{Controller}
use Rattle.outcomes.proofs.Consistent.{window_end}
use Rattle.chip.specs.Calls.{next_place, next_word, word_told}
use Rattle.chip.specs.Chip.{ring_fits}
use Rattle.chip.specs.Sound.{sound}
use Rattle.chip.specs.declared.Chip.{Chip}
use Rattle.chip.specs.Told.{Handed, WordTold}
use Rattle.chip.proofs.Sounds.{sound_facts, facts_sound}
use Rattle.burst.specs.Burst.{prepend, by_word, host_words, ahead, advanced}

-- k more words, none of them the block's last
pub record Inside (c : Chip) (ring : List ℕ) (k : ℕ) : Type 0 where
  pub sound_record : sound c ≡ true
  pub fits : ring_fits c ring ≡ true
  pub running : c.controller.transfer.running ≡ true
  pub room : c.controller.transfer.position + k < c.controller.window.words

module _ (c : Chip) (ring : List ℕ) where
  pub inside_of : (k : ℕ) → 0 < k → k ≤ ahead c ring → Inside c ring k
  unfolding ahead
  inside_of k h =
      if_case (λ (n : ℕ). k ≤ n → Inside c ring k) (sound c && ring_fits c ring && c.controller.transfer.running)
      (c.controller.window.words - 1 - c.controller.transfer.position) 0
      (λ t l.
      let a = and3 (sound c) (ring_fits c ring) c.controller.transfer.running t in
      record { sound_record = a.0; fits = a.1; running = a.2; room = omega arith })
      (λ t l. absurd (omega arith))

  pub inside_end : (k : ℕ) → Inside c ring k → next_place c + 2 * k ≤ length ring
  inside_end k h =
      let f = sound_facts c h.sound_record in
      let w = eqb-true (length ring) (c.place.n * 2560) h.fits in
      let room = h.room in
      let e = window_end c.controller.window.offset c.controller.window.words f.window (λ (z : c.controller.window.words ≡ 0). omega arith) in
      let t = f.place.t_in in
      omega (arith, w)

  pub inside_small : (k : ℕ) → Inside c ring k → c.controller.transfer.position + k < 65536
  inside_small k h =
      let room = h.room in
      let f = sound_facts c h.sound_record in
      let e = window_end c.controller.window.offset c.controller.window.words f.window (λ (z : c.controller.window.words ≡ 0). omega arith) in
      omega arith

  -- the same of words that are ahead
  pub ahead_end : (k : ℕ) → 0 < k → k ≤ ahead c ring → next_place c + 2 * k ≤ length ring
  ahead_end k some far = inside_end k (inside_of k some far)

  pub ahead_small : (k : ℕ) → 0 < k → k ≤ ahead c ring → c.controller.transfer.position + k < 65536
  ahead_small k some far = inside_small k (inside_of k some far)

  module _ (h : Inside c ring 1) where
    abbrev moved : Controller
    moved = c.controller ▹ position≔ (c.controller.transfer.position + 1)

    steps : host_word c.controller ≡ done moved
    unfolding host_word
    steps =
        let t = lt-ltb (c.controller.transfer.position + 1) c.controller.window.words h.room in
        let r = h.running in
        simp (r, t)

    -- a transfer runs on, so that no start follows
    settles : settled moved ≡ moved
    unfolding settled
    settles =
        let r = h.running in
        let e : not (engaged moved) ≡ false = simp r in
        if_false (moved.acctl.atten && not (eqb moved.counts.ttc 0) && not (engaged moved)) (start moved).controller moved
        (right_false (moved.acctl.atten && not (eqb moved.counts.ttc 0)) (not (engaged moved)) e)

    rests : concluded (done moved) ≡ done moved
    unfolding concluded
    rests = ap done settles

    pub word_inside : word_told c ring ≡ record { chip = advanced c 1; word = Handed (next_word c ring) }
    unfolding word_told
    word_inside =
        let s = h.sound_record in
        let f = h.fits in
        simp (s, f, steps, rests)

    -- the chip is sound one word on
    pub sound_inside : sound (advanced c 1) ≡ true
    sound_inside =
        let f = sound_facts c h.sound_record in
        facts_sound (advanced c 1)
        (record {
          place = f.place;
          tcc_in = f.tcc_in;
          bufc_in = f.bufc_in;
          window = f.window;
          expected = f.expected;
          running = λ on.
              let r = f.running on in
              record { some_left = r.some_left; left_in = r.left_in; position_in = h.room };
          buflim_in = f.buflim_in;
          ttc_in = f.ttc_in;
          mbc_in = f.mbc_in;
          atlim_in = f.atlim_in;
          received_in = f.received_in;
        })

further : (c : Chip) (a b : ℕ) → advanced (advanced c a) b ≡ advanced c (a + b)
further c a b =
    let e : c.controller.transfer.position + a + b ≡ c.controller.transfer.position + (a + b) = omega arith in
    ap (λ (p : ℕ). record { controller = c.controller ▹ position≔ p; place = c.place }) e

still : (c : Chip) → advanced c 0 ≡ c
still c =
    let e : c.controller.transfer.position + 0 ≡ c.controller.transfer.position = omega arith in
    ap (λ (p : ℕ). record { controller = c.controller ▹ position≔ p; place = c.place }) e

pub run_opened : (ring : List ℕ) (k : ℕ) (c : Chip)
    → host_words (suc k) c ring ≡ by_word (word_told c ring).word c (host_words k (word_told c ring).chip ring)
unfolding host_words
run_opened ring k c = refl

-- k words inside a block, and then m more
pub inside_run : (ring : List ℕ) (k m : ℕ) (c : Chip) → Inside c ring k
    → host_words (k + m) c ring ≡ prepend (words_at ring (next_place c) k) (host_words m (advanced c k) ring)
inside_run ring zero m c h =
    let e : 0 + m ≡ m = omega arith in
    ap (λ (n : ℕ). host_words n c ring) e ∙ ap (λ (d : Chip). host_words m d ring) (sym (still c))
inside_run ring (suc k) m c h =
    let room = h.room in
    let one : Inside c ring 1 = record { sound_record = h.sound_record; fits = h.fits; running = h.running; room = omega arith } in
    let d = advanced c 1 in
    let rest : Inside d ring k = record { sound_record = sound_inside c ring one; fits = h.fits; running = h.running; room = omega arith } in
    let n : suc k + m ≡ suc (k + m) = omega arith in
    let p : next_place d ≡ next_place c + 2 = omega arith in
    let q : 1 + k ≡ suc k = omega arith in
    ap (λ (i : ℕ). host_words i c ring) n
    ∙ run_opened ring (k + m) c
    ∙ ap (λ (t : WordTold). by_word t.word c (host_words (k + m) t.chip ring)) (word_inside c ring one)
    ∙ ap (prepend (next_word c ring ∷ [])) (inside_run ring k m d rest)
    ∙ ap₂ (λ (i : ℕ) (e : Chip). prepend (next_word c ring ∷ words_at ring i k) (host_words m e ring)) p (further c 1 k ∙ ap (advanced c) q)
