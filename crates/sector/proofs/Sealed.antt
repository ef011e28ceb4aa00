-- Sealing, opening and judging together: the parts of SealClaim, over the three kinds. Assumes nothing.
use mathlib.Core.Path.{◌≡◌, sym, ap, ◌∙◌, subst}
use mathlib.Core.Bool.{Bool, true, false, not, ◌||◌}
use mathlib.Core.List.{List}
use mathlib.Core.Logic.{◌⊎◌, inl, inr, ⊎_elim}
use Prim.Native.Nat.{ℕ, ◌+◌}
use lib.Dec.{eqb}
use lib.ListN.{length, take, drop, get_or, replicate}
use borrow.Author.Tests.{eqb-true}
use Rattle.laws.specs.Bytes.{Bytes}
use Rattle.std.specs.Prelude.{if◌then◌else◌}
use Rattle.laws.specs.Numbers.{weight}
use Rattle.laws.proofs.Choice.{if_true, if_false}
use Rattle.laws.proofs.Same.{same_of, not_same}
use Rattle.laws.proofs.Tests.{or_true, or_left}
use Rattle.reply.specs.Reply.{answer}
use Rattle.scramble.specs.Scramble.{scrambled}
use Rattle.scramble.proofs.Scrambled.{scrambled_twice, length_scrambled, bytes_scrambled}
use Rattle.sector.specs.declared.Address.{Address}
use Rattle.sector.specs.declared.Judgement.{Judgement}
use Rattle.sector.specs.declared.Subheader.{Subheader}
use Rattle.sector.specs.declared.layout.Layout.{Layout}
use Rattle.sector.specs.Address.{valid, address_bytes, address_of}
use Rattle.sector.specs.Layout.{subheader_bytes, form, agrees, kind_read, layout, layout_read, Fits}
use Rattle.sector.specs.Sector.{sync, user, encoded, sealed}
use Rattle.sector.specs.Judge.{sync_holds, code_right, unwritten, edc_holds, address_holds, judgement, no_facts}
use Rattle.sector.specs.Calls.{seal_sector, open_sector, judge_answer, words_hold, parity_reply}
use Rattle.sector.specs.Claims.{verdict, address_alone}
use Rattle.sector.proofs.Addresses.{bytes_back, bytes_tell}
use Rattle.sector.proofs.Layouts.{fits, form_mode}
use Rattle.sector.proofs.Frames.{length_encoded, code_encoded, user_encoded, encoded_by_user, sync_encoded, header_encoded, mode_byte, submode_byte, copy_one, copy_two, mode_encoded, address_bytes_encoded, bytes_encoded, zeros_encoded, words_encoded}
use Rattle.sector.proofs.Answers.{open_done, seal_done, judge_done, parity_done}

module _ (l : Layout) (a : Address) (h : Subheader) (s : List ℕ) (full : length s ≡ 2352) (f : Fits l) where
  pub length_sealed : length (sealed l a h s) ≡ 2352
  unfolding sealed
  length_sealed = length_scrambled (encoded l a h s) (length_encoded l a h s full f)

  -- a sealed sector, descrambled
  pub opened : scrambled (sealed l a h s) ≡ encoded l a h s
  unfolding sealed
  opened = scrambled_twice (encoded l a h s) (length_encoded l a h s full f)

-- the form of a subheader is mode 2
xa : (k : ℕ) (h : Subheader) → k ≡ form h.submode → ((layout k).mode ≡ 2) × ((layout k).user ≡ 24)
xa k h e = subst (λ (n : ℕ). ((layout n).mode ≡ 2) × ((layout n).user ≡ 24)) (sym e) (form_mode h.submode)

module _ (k : ℕ) (a : Address) (h : Subheader) (s : List ℕ) (full : length s ≡ 2352) (fit : agrees k h ≡ true) where
  f : Fits (layout k)
  f = fits k

  -- kind 1, or the form of the subheader
  which : (k ≡ 1) ⊎ (k ≡ form h.submode)
  which =
      ⊎_elim (λ (e : eqb k 1 ≡ true). inl (eqb-true k 1 e)) (λ (e : eqb k (form h.submode) ≡ true). inr (eqb-true k (form h.submode) e))
      (or_true (eqb k 1) (eqb k (form h.submode)) fit)

  one_mode : k ≡ 1 → (layout k).mode ≡ 1
  unfolding layout
  one_mode e = ap (λ (n : ℕ). (layout n).mode) e

  -- the kind that is read is the one that was sealed
  pub kind_encoded : kind_read (encoded (layout k) a h s) ≡ k
  unfolding kind_read
  kind_encoded = ⊎_elim one two which
    where
      one : k ≡ 1 → (if eqb (get_or (encoded (layout k) a h s) 15 0) 2 then form (get_or (encoded (layout k) a h s) 18 0) else 1) ≡ k
      one e =
          if_false (eqb (get_or (encoded (layout k) a h s) 15 0) 2) (form (get_or (encoded (layout k) a h s) 18 0)) 1
          (ap (λ (n : ℕ). eqb n 2) (mode_byte (layout k) a h s full f ∙ one_mode e)) ∙ sym e

      two : k ≡ form h.submode → (if eqb (get_or (encoded (layout k) a h s) 15 0) 2 then form (get_or (encoded (layout k) a h s) 18 0) else 1) ≡ k
      two e =
          if_true (eqb (get_or (encoded (layout k) a h s) 15 0) 2) (form (get_or (encoded (layout k) a h s) 18 0)) 1
          (ap (λ (n : ℕ). eqb n 2) (mode_byte (layout k) a h s full f ∙ (xa k h e).0))
          ∙ ap (λ (n : ℕ). form n) (submode_byte (layout k) a h s full f (xa k h e).1) ∙ sym e

  read : layout_read (encoded (layout k) a h s) ≡ layout k
  read = ap layout kind_encoded

  edc_encoded : edc_holds (encoded (layout k) a h s) ≡ true
  unfolding edc_holds
  edc_encoded =
      ap (λ (l : Layout). code_right l (encoded (layout k) a h s) || unwritten l (encoded (layout k) a h s)) read
      ∙ or_left (code_right (layout k) (encoded (layout k) a h s)) (unwritten (layout k) (encoded (layout k) a h s)) (code_encoded (layout k) a h s full f)

  -- the judgement at any address is by the header alone
  judged : (b : Address) (t : Bool) → address_holds b (encoded (layout k) a h s) ≡ t
      → judgement b (encoded (layout k) a h s) ≡ record { sync = false; mode = false; edc = false; address = not t }
  unfolding judgement sync_holds
  judged b t e =
      simp (same_of (take 12 (encoded (layout k) a h s)) sync (sync_encoded (layout k) a h s full f), mode_encoded (layout k) a h s full f, edc_encoded, e)

  pub judged_own : judgement a (encoded (layout k) a h s) ≡ no_facts
  unfolding address_holds
  judged_own = judged a true (same_of (take 3 (drop 12 (encoded (layout k) a h s))) (address_bytes a) (header_encoded (layout k) a h s full f))

  pub judged_other : (b : Address) → valid a ≡ true → valid b ≡ true → (b ≡ a → ⊥) → judgement b (encoded (layout k) a h s) ≡ address_alone
  unfolding address_holds
  judged_other b va vb n =
      judged b false
      (not_same (take 3 (drop 12 (encoded (layout k) a h s))) (address_bytes b)
      (λ (e : take 3 (drop 12 (encoded (layout k) a h s)) ≡ address_bytes b). n (sym (bytes_tell a b va vb (sym (header_encoded (layout k) a h s full f) ∙ e)))))

-- the same of the calls
module _ (k : ℕ) (a : Address) (h : Subheader) (s : List ℕ) (full : length s ≡ 2352) (v : valid a ≡ true) (fit : agrees k h ≡ true) where
  -- what is sealed, and what opening it gives
  abbrev done : List ℕ
  done = seal_sector s a k h

  seals : done ≡ sealed (layout k) a h s
  unfolding sealed
  seals = sym (seal_done s a full k h v fit).1

  pub count : length done ≡ 2352
  count = ap length seals ∙ length_sealed (layout k) a h s full (fits k)

  pub opens : open_sector done ≡ encoded (layout k) a h s
  opens = sym (open_done done count).1 ∙ ap scrambled seals ∙ opened (layout k) a h s full (fits k)

  pub bytes : Bytes (subheader_bytes h) → Bytes s → Bytes done
  unfolding sealed
  bytes hh hs = subst (λ (x : List ℕ). Bytes x) (sym seals) (bytes_scrambled (encoded (layout k) a h s) (bytes_encoded (layout k) a h s (fits k) v hh hs full))

  pub kind_back : kind_read (open_sector done) ≡ k
  kind_back = ap kind_read opens ∙ kind_encoded k a h s full fit

  pub user_back : user (layout k) (open_sector done) ≡ user (layout k) s
  user_back = ap (λ (x : List ℕ). user (layout k) x) opens ∙ user_encoded (layout k) a h s full (fits k)

  pub address_back : address_of (open_sector done) ≡ a
  address_back = ap address_of opens ∙ address_bytes_encoded (layout k) a h s full (fits k) ∙ bytes_back a v

  pub subheader_back : (k ≡ 1 → ⊥) → (take 4 (drop 16 (open_sector done)) ≡ subheader_bytes h) × (take 4 (drop 20 (open_sector done)) ≡ subheader_bytes h)
  subheader_back n = ⊎_elim (λ (e : k ≡ 1). absurd (n e)) both (which k a h s full fit)
    where
      both : k ≡ form h.submode → (take 4 (drop 16 (open_sector done)) ≡ subheader_bytes h) × (take 4 (drop 20 (open_sector done)) ≡ subheader_bytes h)
      both e = (
        ap (λ (x : List ℕ). take 4 (drop 16 x)) opens ∙ copy_one (layout k) a h s full (fits k) (xa k h e).1,
        ap (λ (x : List ℕ). take 4 (drop 20 x)) opens ∙ copy_two (layout k) a h s full (fits k) (xa k h e).1,
      )

  pub coded : code_right (layout k) (open_sector done) ≡ true
  coded = ap (code_right (layout k)) opens ∙ code_encoded (layout k) a h s full (fits k)

  judges : (b : Address) (j : Judgement) → valid b ≡ true → judgement b (encoded (layout k) a h s) ≡ j → judge_answer (open_sector done) b ≡ verdict j
  judges b j vb e =
      ap (λ (x : List ℕ). judge_answer x b) opens ∙ sym (judge_done (encoded (layout k) a h s) b (length_encoded (layout k) a h s full (fits k)) vb) ∙ ap (λ (x : Judgement). verdict x) e

  pub own : judge_answer (open_sector done) a ≡ verdict no_facts
  own = judges a no_facts v (judged_own k a h s full fit)

  pub other : (b : Address) → valid b ≡ true → (b ≡ a → ⊥) → judge_answer (open_sector done) b ≡ verdict address_alone
  other b vb n = judges b address_alone vb (judged_other k a h s full fit b v vb n)

  pub again : seal_sector (open_sector done) a k h ≡ done
  unfolding sealed
  again =
      ap (λ (x : List ℕ). seal_sector x a k h) opens ∙ sym (seal_done (encoded (layout k) a h s) a (length_encoded (layout k) a h s full (fits k)) k h v fit).1
      ∙ ap scrambled (encoded_by_user (layout k) a h (encoded (layout k) a h s) s (user_encoded (layout k) a h s full (fits k))) ∙ sym seals

  -- of what lay there only the user bytes count
  pub by_user : (t : List ℕ) → length t ≡ 2352 → user (layout k) t ≡ user (layout k) s → seal_sector t a k h ≡ done
  unfolding sealed
  by_user t long e = sym (seal_done t a long k h v fit).1 ∙ ap scrambled (encoded_by_user (layout k) a h t s e) ∙ sym seals

  pub zeros_behind : take (layout k).zeros (drop ((layout k).code + 4) (open_sector done)) ≡ replicate (layout k).zeros 0
  zeros_behind = ap (λ (x : List ℕ). take (layout k).zeros (drop ((layout k).code + 4) x)) opens ∙ zeros_encoded (layout k) a h s full (fits k)

  -- its parity holds
  pub parity : Bytes (subheader_bytes h) → Bytes s → parity_reply (open_sector done) ≡ answer 1
  parity hh hs =
      ap parity_reply opens ∙ sym (parity_done (encoded (layout k) a h s) (length_encoded (layout k) a h s full (fits k)))
      ∙ ap (λ (l : Layout). answer (weight (words_hold l (encoded (layout k) a h s)) 1)) (read k a h s full fit)
      ∙ ap (λ (b : Bool). answer (weight b 1)) (words_encoded (layout k) a h s (fits k) v hh hs full)
