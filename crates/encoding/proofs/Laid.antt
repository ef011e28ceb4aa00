-- Decoding the words of a record gives it back. Assumes nothing.
use Prim.Native.Nat.{ℕ, ◌<◌}
use mathlib.Core.Path.{◌≡◌, sym, ◌∙◌, ap}
use mathlib.Core.Bool.{Bool, false}
use mathlib.Core.List.{List, [], ◌∷◌}
use native.Mathlib.Omega.{arith}
use lib.Dec.{eqb}
use lib.ListN.{get_or}
use Rattle.laws.specs.Bytes.{pair}
use Rattle.laws.specs.Numbers.{switches}
use Rattle.laws.proofs.Switches.{weight_times, switch_at, weight_tests}
use Rattle.sector.specs.Judge.{why}
use Rattle.sector.specs.declared.Judgement.{Judgement}
use Rattle.sector.proofs.Answers.{same_facts}
use Rattle.controller.specs.Bits.{bit}
use Rattle.controller.specs.declared.state.Controller.{Controller}
use Rattle.chip.specs.declared.Chip.{Chip}
use Rattle.encoding.specs.Words.{low, high, judgement_in, packet_bytes, controller_in, decoded, first_switches, second_switches, encoded, Ranged, EncodingClaim}
use Rattle.encoding.proofs.Packet.{spelled_is}

low_pair : (a b : ℕ) → a < 256 → low (pair a b) ≡ a
low_pair a b h = omega arith

high_pair : (a b : ℕ) → a < 256 → high (pair a b) ≡ b
high_pair a b h = omega arith

switch_is : (bs : List Bool) (i : ℕ) → bit (switches bs) i ≡ get_or bs i false
switch_is bs i = ap (λ (x : ℕ). eqb x 1) (switch_at bs i) ∙ weight_tests (get_or bs i false)

-- the facts are known from their number
why_switches : (j : Judgement) → why j ≡ switches (j.address ∷ j.edc ∷ j.mode ∷ j.sync ∷ [])
why_switches j = omega (arith, weight_times j.sync 8, weight_times j.mode 4, weight_times j.edc 2)

facts_back : (j : Judgement) → judgement_in (why j) ≡ j
facts_back j =
    let at = switch_is (j.address ∷ j.edc ∷ j.mode ∷ j.sync ∷ []) in
    ap judgement_in (why_switches j) ∙ same_facts (judgement_in (switches (j.address ∷ j.edc ∷ j.mode ∷ j.sync ∷ []))) j (at 3) (at 2) (at 1) (at 0)

abbrev k : Chip → Controller
k c = c.controller

module _ (c : Chip) (h : Ranged c) where
  packet_back : packet_bytes (encoded c) ≡ (k c).packet.bytes
  unfolding encoded
  packet_back =
      let xs = (k c).packet.bytes in
      let b = h.packet in
      simp (
        low_pair (get_or xs 0 0) (get_or xs 1 0) (b 0),
        high_pair (get_or xs 0 0) (get_or xs 1 0) (b 0),
        low_pair (get_or xs 2 0) (get_or xs 3 0) (b 2),
        high_pair (get_or xs 2 0) (get_or xs 3 0) (b 2),
        low_pair (get_or xs 4 0) (get_or xs 5 0) (b 4),
        high_pair (get_or xs 4 0) (get_or xs 5 0) (b 4),
        low_pair (get_or xs 6 0) (get_or xs 7 0) (b 6),
        high_pair (get_or xs 6 0) (get_or xs 7 0) (b 6),
        low_pair (get_or xs 8 0) (get_or xs 9 0) (b 8),
        high_pair (get_or xs 8 0) (get_or xs 9 0) (b 8),
        low_pair (get_or xs 10 0) (get_or xs 11 0) (b 10),
        high_pair (get_or xs 10 0) (get_or xs 11 0) (b 10),
      )
      (spelled_is xs 0 12 (sym h.twelve))

  controller_back : controller_in (encoded c) ≡ k c
  unfolding encoded
  controller_back =
      let first = switch_is (first_switches (k c)) in
      let second = switch_is (second_switches (k c)) in
      let bytes = k c in
      simp (
        first 0,
        first 1,
        first 2,
        first 3,
        first 4,
        first 5,
        first 6,
        first 7,
        first 8,
        first 9,
        first 10,
        first 11,
        first 12,
        first 13,
        second 0,
        second 1,
        second 2,
        second 3,
        second 4,
        second 5,
        second 6,
        second 7,
        second 8,
        second 9,
        second 10,
        second 11,
        second 12,
        second 13,
        low_pair bytes.acctl.atlim bytes.mbc h.atlim,
        high_pair bytes.acctl.atlim bytes.mbc h.atlim,
        low_pair bytes.task.aterr bytes.task.atint h.aterr,
        high_pair bytes.task.aterr bytes.task.atint h.aterr,
        low_pair bytes.task.atblo bytes.task.atbhi h.atblo,
        high_pair bytes.task.atblo bytes.task.atbhi h.atblo,
        low_pair bytes.task.atcmd (why bytes.judgement) h.atcmd,
        high_pair bytes.task.atcmd (why bytes.judgement) h.atcmd,
        facts_back bytes.judgement,
        packet_back,
      )

pub decoded_encoded : EncodingClaim
unfolding decoded encoded
decoded_encoded c h = ap (λ (q : Controller). record { controller = q; place = c.place }) (controller_back c h)
