-- What the bench answers, by cases of a result of the chip's and of a sector line, and how long a look is. Assumes nothing.
use Rattle.std.proofs.Common.{◌≡◌, ℕ, ◌+◌, ◌-◌, ◌*◌, ◌<◌, ◌≤◌, Bool, true, false, not, ◌&&◌, eqb, ltb, leb, List, [], ◌++◌, length, get_or, take, drop, replicate, sym, refl, ap, ◌∙◌, add-zero, arith, take-append-drop, ltb-false, ltb-true, le-ltb, eq-eqb, eqb-true, le-leb, leb-true, true≢false, ap₂, subst, length-take}
use lib.ListN.{length-replicate}
use borrow.Rule.Slice.PartMut.{put_mid, mid_of}
use borrow.Author.Tests.{not-true, not-false, eqb-false}
use Rattle.laws.specs.Bytes.{inverted}
use Rattle.std.specs.Prelude.{if◌then◌else◌, Result, Ok, Err}
use Rattle.laws.proofs.Bytes.{length_inverted, getD_inverted}
use Rattle.laws.proofs.Parts.{put_part}
use Rattle.laws.proofs.Window.{length_window, get_d_window, length_put, getD_put}
use Rattle.laws.proofs.Choice.{if_case, if_true, if_false, then_same, left_true, right_true, not_of_true, not_of_false}
use Rattle.laws.proofs.Tests.{and3}
use Rattle.sector.specs.Address.{valid}
use Rattle.sector.specs.Calls.{seal_reply, seal_sector}
use Rattle.sector.specs.Layout.{agrees}
use Rattle.sector.specs.declared.Address.{Address}
use Rattle.outcomes.proofs.Consistent.{window_end}
use Rattle.ring.specs.Memory.{base}
use Rattle.reply.proofs.Claims.{nonzero}
use Rattle.reply.specs.Reply.{Reply, refusal, number}
use Rattle.reply.specs.declared.Refusal.{Refusal}
use Rattle.chip.specs.Chip as chip
use Rattle.chip.specs.Chip.{opened, ring_fits}
use Rattle.chip.specs.Sound.{sound}
use Rattle.chip.specs.Told as told
use Rattle.chip.specs.Told.{Told, WordTold}
use Rattle.chip.specs.Calls as calls
use Rattle.chip.specs.Calls.{Lent, lent, sector_lent}
use Rattle.chip.specs.declared.Accepted.{Accepted}
use Rattle.chip.specs.declared.Chip.{Chip}
use Rattle.chip.proofs.Answers.{looked_is, ready}
use Rattle.script.specs.Answers.{Answer, answer_of, refused, of_told, opening, word, disc_number, brought, disc}
use Rattle.script.specs.Disc.{inside, scratched, unsealed, arriving}
use Rattle.script.specs.declared.disc.Damage.{Damage}
use Rattle.script.specs.declared.disc.Carried.{Carried}

-- what a result of the chip's stands for is the chip's own answer
pub answer_told : (c : Chip) (r : Result Accepted Refusal) → answer_of (Ok c) r ≡ of_told (told.told_of c r)
answer_told c (Ok a) = refl
answer_told c (Err r) = refl

-- and of a host word's, its number and its value
pub answer_word : (c : Chip) (ring : List ℕ) (r : Result Accepted Refusal) → told.word_told_of c r ≡ calls.word_told c ring → answer_of (Ok c) r ≡ word c ring
unfolding word
answer_word c ring r e = case r ∙ ap of_word e
  where
    of_word : WordTold → Answer
    of_word t = record { chip = Ok t.chip; number = calls.word_number t.word; out = calls.word_value t.word }

    case : (x : Result Accepted Refusal) → answer_of (Ok c) x ≡ of_word (told.word_told_of c x)
    case (Ok a) = refl
    case (Err k) = refl

-- a sector line
module _ (c : Chip) (d : Carried) (ring s : List ℕ) (a : Address) (byte : ℕ) where
  -- its number, where all that the chip does not test is in order
  pub number_chip : length s ≡ 2352 → byte ≤ 255 → valid a ≡ true → agrees d.kind d.subheader ≡ true → calls.sector_number c ring s ≡ disc_number c d ring s a byte
  unfolding disc_number
  number_chip h k v t =
      sym (if_false _ _ _ (not_of_true _ (eq-eqb _ _ h)) ∙ if_false _ _ _ (le-ltb _ _ k) ∙ if_false _ _ _ (not_of_true _ v) ∙ if_false _ _ _ (not_of_true (agrees d.kind d.subheader) t))

  -- 3 for the form, whatever fill and address are
  pub number_other : length s ≡ 2352 → agrees d.kind d.subheader ≡ false → disc_number c d ring s a byte ≡ 3
  unfolding disc_number
  number_other h f =
      if_false _ _ _ (not_of_true _ (eq-eqb _ _ h))
      ∙ if_case (λ (n : ℕ). n ≡ 3) (ltb 255 byte) 3 _ (λ _. refl)
      (λ _. if_case (λ (n : ℕ). n ≡ 3) (not (valid a)) 3 _ (λ _. refl) (λ _. if_true _ _ _ (not_of_false (agrees d.kind d.subheader) f)))

  -- what holds of a line that is not refused: its buffer is a sector's, its fill a byte, its address one, and its form that of its kind
  abbrev Admitted : Type 0
  Admitted = (length s ≡ 2352) × ((byte ≤ 255) × ((valid a ≡ true) × (agrees d.kind d.subheader ≡ true)))

  pub admitted : disc_number c d ring s a byte ≡ 0 → Admitted
  unfolding disc_number
  admitted =
      if_case (λ (m : ℕ). m ≡ 0 → Admitted) (not (eqb (length s) 2352)) 1 _
      (λ t w. absurd (omega (arith, w)))
      (λ t. if_case (λ (m : ℕ). m ≡ 0 → Admitted) (ltb 255 byte) 3 _
      (λ u w. absurd (omega (arith, w)))
      (λ u. if_case (λ (m : ℕ). m ≡ 0 → Admitted) (not (valid a)) 3 _
      (λ v w. absurd (omega (arith, w)))
      (λ v. if_case (λ (m : ℕ). m ≡ 0 → Admitted) (not (agrees d.kind d.subheader)) 3 _
      (λ x w. absurd (omega (arith, w)))
      (λ x w. (eqb-true _ _ (not-false _ t), (ltb-false _ _ u, (not-false _ v, not-false (agrees d.kind d.subheader) x)))))))

  -- such a line is run: its sector is sealed, and what the chip answers is the answer
  module _ (e : 0 ≡ disc_number c d ring s a byte) (l : List ℕ) (b : ℕ) (f : l ≡ replicate (length s) b) (g : b ≡ byte) where
    u : l ≡ unsealed byte
    u = f ∙ ap₂ (λ (n x : ℕ). replicate n x) (admitted (sym e)).0 g

    pub never_unsealed : (r : Refusal) → refusal (number r) ≡ seal_reply l a d.kind d.subheader → ⊥
    unfolding seal_reply
    never_unsealed r q =
        let h = admitted (sym e) in
        let full : eqb (length l) 2352 ≡ true = eq-eqb _ _ (ap length u ∙ length-replicate {A = ℕ} 2352 byte) in
        let fit : (valid a && agrees d.kind d.subheader) ≡ true = ap₂ (λ (x y : Bool). x && y) h.1.1.0 h.1.1.1 in
        true≢false (sym (ap (λ (t : Reply). eqb t.number 0) (q ∙ if_true (eqb (length l) 2352) _ _ full ∙ if_true (valid a && agrees d.kind d.subheader) _ _ fit)) ∙ nonzero r)

    pub disc_run : (s' t ring' : List ℕ) (r : Result Accepted Refusal) → s' ≡ seal_sector l a d.kind d.subheader → t ≡ scratched d.damage s'
        → lent (told.told_of c r) ring' ≡ sector_lent c ring t → record { answer = answer_of (Ok c) r; memory = ring'; sector = t } ≡ disc c d ring s a byte
    unfolding disc arriving
    disc_run s' t ring' r p q k =
        ap (λ (y : Answer). record { answer = y; memory = ring'; sector = t }) (answer_told c r)
        ∙ ap (λ (y : Lent). record { answer = of_told y.told; memory = y.ring; sector = t }) k
        ∙ ap (brought c ring) (q ∙ ap (scratched d.damage) (p ∙ ap (λ (y : List ℕ). seal_sector y a d.kind d.subheader) u))
        ∙ sym (if_true _ _ _ (eq-eqb _ _ (sym e)))

-- a sector that arrives damaged: as long as it was, and as the code leaves it
module _ (d : Damage) (s : List ℕ) where
  pub length_scratched : length s ≡ 2352 → length (scratched d s) ≡ 2352
  unfolding scratched
  length_scratched full =
      if_case (λ (x : List ℕ). length x ≡ 2352) (inside d.from d.count) _ _
      (λ fits.
      let room = leb-true (d.from + d.count) 2352 fits in
      let within : d.from + d.count ≤ length s = omega (arith, full) in
      length_put d.from d.count s (inverted (take d.count (drop d.from s))) within
      (length_inverted (take d.count (drop d.from s)) ∙ length_window d.from d.count s within)
      ∙ full)
      (λ _. full)

  -- byte by byte
  pub scratched_byte : (k : ℕ) → length s ≡ 2352 → d.from + d.count ≤ 2352 → k < 2352
      → get_or (scratched d s) k 0 ≡ (if leb d.from k && ltb k (d.from + d.count) then 255 - get_or s k 0 else get_or s k 0)
  unfolding scratched
  scratched_byte k full fits inside_it =
      ap (λ (x : List ℕ). get_or x k 0) (if_true (inside d.from d.count) _ s (le-leb (d.from + d.count) 2352 fits))
      ∙ getD_put d.from d.count s (inverted (take d.count (drop d.from s))) (omega (arith, full))
      (length_inverted (take d.count (drop d.from s)) ∙ length_window d.from d.count s (omega (arith, full))) k 0
      ∙ then_same (leb d.from k && ltb k (d.from + d.count)) _ _ (get_or s k 0)
      (λ e.
      let from = leb-true d.from k (left_true (leb d.from k) (ltb k (d.from + d.count)) e) in
      let to = ltb-true k (d.from + d.count) (right_true (leb d.from k) (ltb k (d.from + d.count)) e) in
      let here : k - d.from < d.count = omega arith in
      let place : d.from + (k - d.from) ≡ k = omega arith in
      let part = length_window d.from d.count s (omega (arith, full)) in
      getD_inverted (take d.count (drop d.from s)) (k - d.from) (omega (arith, part))
      ∙ ap (λ (x : ℕ). 255 - x) (get_d_window d.from d.count (k - d.from) 0 s here ∙ ap (λ (i : ℕ). get_or s i 0) place))

  pub turned : inside d.from d.count ≡ true → (t : List ℕ) → t ≡ inverted (mid_of d.from (d.from + d.count - d.from) s)
      → put_mid d.from (d.from + d.count - d.from) s t ≡ scratched d s
  unfolding scratched
  turned e t et =
      let size : d.from + d.count - d.from ≡ d.count = omega arith in
      put_part d.from d.count s t
      ∙ ap (λ (x : List ℕ). take d.from s ++ (x ++ drop (d.from + d.count) s)) (et ∙ ap (λ (n : ℕ). inverted (take n (drop d.from s))) size)
      ∙ sym (if_true (inside d.from d.count) _ s e)

-- a count of 0 damages nothing
pub scratched_none : (from : ℕ) (s : List ℕ) → scratched (record { from = from; count = 0 }) s ≡ s
unfolding scratched
scratched_none from s =
    if_case (λ (x : List ℕ). x ≡ s) (inside from 0) _ s
    (λ _. ap (λ (n : ℕ). take from s ++ drop n s) (add-zero from) ∙ take-append-drop from s)
    (λ _. refl)

-- what a look shows is no longer than a sector
pub look_short : (c : Chip) (ring : List ℕ) → length (calls.looked c ring) ≤ 2352
look_short c ring =
    let k = c.controller in
    let t = eqb k.counts.tcc 0 in
    let w = eqb k.window.words 0 in
    subst (λ (l : List ℕ). length l ≤ 2352) (sym (looked_is c ring))
    (if_case (λ (l : List ℕ). length l ≤ 2352) (sound c && ring_fits c ring && not t && not w) _ []
    (λ h.
    let s = and3 (sound c && ring_fits c ring) (not t) (not w) h in
    let e = window_end k.window.offset k.window.words (ready c ring s.0).facts.window (eqb-false k.window.words 0 (not-true w s.2)) in
    let n = length-take (2 * k.window.words) (drop (base c.place.t + k.window.offset) ring) in
    omega (arith, e, n))
    (λ h. omega arith))

-- a ring that the chip refuses
pub opening_barred : (n : ℕ) (r : Refusal) → told.refused chip.closed (number r) ≡ opened n → ltb 25 n ≡ false → (o : Result Chip Chip) → refused o (number r) ≡ opening o n
unfolding opening opened
opening_barred n r e h o =
    if_case (λ (t : Told). told.refused chip.closed (number r) ≡ t → refused o (number r) ≡ (if ltb 25 n then refused o 1 else if eqb t.reply.number 0 then of_told t else refused o 1))
    (leb 3 n && leb n 255) _ _
    (λ _ q. absurd (true≢false (sym (ap (λ (t : Told). eqb t.reply.number 0) q) ∙ nonzero r)))
    (λ _ q. ap (λ (t : Told). refused o t.reply.number) q ∙ sym (if_false _ _ _ h))
    e
