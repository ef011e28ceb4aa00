-- What is claimed of the calls' answers; proofs/Claims.antt proves it. Assumes nothing.
use Rattle.std.specs.Prelude.{◌≡◌, Bool, true, false, not, ◌&&◌, ◌||◌, List, [], ◌∷◌, ◌⊎◌, ℕ, ◌+◌, ◌-◌, ◌/◌, ◌%◌, ◌<◌, ◌≤◌, eqb, leb, ltb, length, take, drop, get_or, set, replicate, if◌then◌else◌}
use Rattle.laws.specs.Bytes.{Bytes}
use Rattle.laws.specs.Numbers.{weight}
use Rattle.reply.specs.Reply.{answer}
use Rattle.sector.specs.declared.Address.{Address}
use Rattle.sector.specs.declared.Judgement.{Judgement}
use Rattle.sector.specs.Calls.{Judged, seal_reply, seal_sector, open_sector, judge_answer, parity_reply}
use Rattle.sector.specs.declared.Subheader.{Subheader}
use Rattle.sector.specs.declared.layout.Layout.{Layout}
use Rattle.sector.specs.Address.{valid, next, address_of}
use Rattle.sector.specs.Layout.{subheader_bytes, agrees, kind_read, layout, layout_read, subheader_read, end}
use Rattle.sector.specs.Sector.{user}
use Rattle.sector.specs.Judge.{sync_holds, mode_holds, code_right, unwritten, edc_holds, address_holds, judgement, no_facts, good, tarsta_byte, why}

-- an accepted judging with these facts
abbrev pub verdict : Judgement → Judged
verdict j = record { number = 0; judgement = j }

-- the address alone
abbrev pub address_alone : Judgement
address_alone = record { sync = false; mode = false; edc = false; address = true }

-- Kinds

-- bit 5 of a subheader's submode byte
abbrev pub form_bit : Subheader → Bool
form_bit h = eqb (h.submode / 32 % 2) 1

pub record KindClaim : Type 0 where
  -- what may be sealed, kind by kind: any subheader, one with bit 5 low, one with it high, and no other kind
  pub mode_1 : (h : Subheader) → agrees 1 h ≡ true
  pub form_1 : (h : Subheader) → agrees 2 h ≡ not (form_bit h)
  pub form_2 : (h : Subheader) → agrees 3 h ≡ form_bit h
  pub no_other : (k : ℕ) (h : Subheader) → (k ≡ 0) ⊎ (3 < k) → agrees k h ≡ false
  -- in mode 1 the subheader does not matter
  pub any_subheader : (s : List ℕ) (a : Address) (h i : Subheader) → (seal_reply s a 1 h ≡ seal_reply s a 1 i) × (seal_sector s a 1 h ≡ seal_sector s a 1 i)
  -- where the user bytes of each begin, how many there are, and that it fills the sector, up to its parity or whole
  pub begins : ((layout 1).user ≡ 16) × ((layout 2).user ≡ 24) × ((layout 3).user ≡ 24)
  pub users : ((layout 1).code - (layout 1).user ≡ 2048) × ((layout 2).code - (layout 2).user ≡ 2048) × ((layout 3).code - (layout 3).user ≡ 2324)
  pub ends : (end (layout 1) ≡ 2076) × (end (layout 2) ≡ 2076) × (end (layout 3) ≡ 2352)
  -- the kind that is read: by bit 5 of byte 18 where byte 15 is 2, and 1 else
  pub read_2 : (s : List ℕ) → get_or s 15 0 ≡ 2 → kind_read s ≡ (if eqb (get_or s 18 0 / 32 % 2) 1 then 3 else 2)
  pub read_1 : (s : List ℕ) → (get_or s 15 0 ≡ 2 → ⊥) → kind_read s ≡ 1
  -- a code of zero is none in form 2 only
  pub form_2_only : (k : ℕ) (s : List ℕ) → (k ≡ 3 → ⊥) → unwritten (layout k) s ≡ false

-- Sealing

-- a buffer s that was sealed at a as kind k, with the subheader h
pub record SealedClaim (s : List ℕ) (a : Address) (k : ℕ) (h : Subheader) : Type 0 where
  -- it is a sector, of bytes if s and h are
  pub count : length (seal_sector s a k h) ≡ 2352
  pub bytes : Bytes (subheader_bytes h) → Bytes s → Bytes (seal_sector s a k h)
  -- opened, it gives back the kind, the user bytes, the address, and in mode 2 both copies of the subheader
  pub kind_back : kind_read (open_sector (seal_sector s a k h)) ≡ k
  pub user_back : user (layout k) (open_sector (seal_sector s a k h)) ≡ user (layout k) s
  pub address_back : address_of (open_sector (seal_sector s a k h)) ≡ a
  pub subheader_back : (k ≡ 1 → ⊥)
      → (take 4 (drop 16 (open_sector (seal_sector s a k h))) ≡ h.file ∷ h.channel ∷ h.submode ∷ h.coding ∷ [])
      × (take 4 (drop 20 (open_sector (seal_sector s a k h))) ≡ h.file ∷ h.channel ∷ h.submode ∷ h.coding ∷ [])
  -- its code is the one that is worked out, in form 2 too
  pub coded : code_right (layout k) (open_sector (seal_sector s a k h)) ≡ true
  -- judged at its own address nothing fails, at any other the address alone
  pub own : judge_answer (open_sector (seal_sector s a k h)) a ≡ verdict no_facts
  pub other : (b : Address) → valid b ≡ true → (b ≡ a → ⊥) → judge_answer (open_sector (seal_sector s a k h)) b ≡ verdict address_alone
  -- opened and sealed again, it is the same
  pub again : seal_sector (open_sector (seal_sector s a k h)) a k h ≡ seal_sector s a k h
  -- of what lay in the buffer only the user bytes count
  pub by_user : (t : List ℕ) → length t ≡ 2352 → user (layout k) t ≡ user (layout k) s → seal_sector t a k h ≡ seal_sector s a k h
  -- behind the code stand its zeros, eight in mode 1 and else none, and the parity check says yes
  pub zeros : take (layout k).zeros (drop ((layout k).code + 4) (open_sector (seal_sector s a k h))) ≡ replicate (layout k).zeros 0
  pub parity : Bytes (subheader_bytes h) → Bytes s → parity_reply (open_sector (seal_sector s a k h)) ≡ answer 1

abbrev pub SealClaim : Type 0
SealClaim = (s : List ℕ) (a : Address) (k : ℕ) (h : Subheader) → length s ≡ 2352 → valid a ≡ true → agrees k h ≡ true → SealedClaim s a k h

-- The parity check

pub record CheckClaim : Type 0 where
  -- of mode 1 and form 1 a changed byte in 12 to 2,351 is detected, in form 1 from 16 on, where the kind that is read stays
  pub detected : (s : List ℕ) (k v : ℕ) → parity_reply s ≡ answer 1 → (kind_read s ≡ 3 → ⊥) → (kind_read s ≡ 2 → 16 ≤ k) → 12 ≤ k → k < 2352
      → (v ≡ get_or s k 0 → ⊥) → kind_read (set s k v) ≡ kind_read s → parity_reply (set s k v) ≡ answer 0
  -- the sync bytes do not count, nor in form 1 the address
  pub sync_free : (s : List ℕ) (k v : ℕ) → k < 12 → parity_reply (set s k v) ≡ parity_reply s
  pub header_free : (s : List ℕ) (k v : ℕ) → kind_read s ≡ 2 → k < 15 → parity_reply (set s k v) ≡ parity_reply s
  -- of form 2 it is yes, whatever the bytes
  pub form_2 : (s : List ℕ) → length s ≡ 2352 → kind_read s ≡ 3 → parity_reply s ≡ answer 1
  -- of zeros alone the words hold
  pub zeros : parity_reply (replicate 2352 0) ≡ answer 1
  -- a good sector with its code, and its zeros behind it, whose words hold is the one that sealing makes of its user bytes, kind and subheader
  pub only : (s : List ℕ) (a : Address) → Bytes s → judge_answer s a ≡ verdict no_facts → code_right (layout_read s) s ≡ true
      → take (layout_read s).zeros (drop ((layout_read s).code + 4) s) ≡ replicate (layout_read s).zeros 0
      → parity_reply s ≡ answer 1 → open_sector (seal_sector s a (kind_read s) (subheader_read s)) ≡ s

-- One changed byte, where the kind that is read stays

-- the bytes that the mode is judged by: the mode byte, and in mode 2 the two copies of the subheader
abbrev pub of_mode : Layout → ℕ → Bool
of_mode l k = eqb k 15 || (eqb l.mode 2 && (leb 16 k && ltb k 24))

-- those that the EDC is judged by: what the code covers, and the code
abbrev pub of_edc : Layout → ℕ → Bool
of_edc l k = leb l.covered k && ltb k (l.code + 4)

-- of any sector, good or bad, whose byte k becomes v: a fact stays where k is outside what it is judged by. Where k is inside, sync, mode and address are
-- set if they were not, and the EDC if the code was right and one still stands there: a form 2 sector without a code has none to be wrong. A fact that was
-- set may stay or go: the change may be the one that mends.
pub record Changed (s : List ℕ) (a : Address) (k v : ℕ) : Type 0 where
  pub sync_stays : 12 ≤ k → (judgement a (set s k v)).sync ≡ (judgement a s).sync
  pub sync_set : k < 12 → (judgement a s).sync ≡ false → (judgement a (set s k v)).sync ≡ true
  pub mode_stays : of_mode (layout_read s) k ≡ false → (judgement a (set s k v)).mode ≡ (judgement a s).mode
  pub mode_set : of_mode (layout_read s) k ≡ true → (judgement a s).mode ≡ false → (judgement a (set s k v)).mode ≡ true
  pub edc_stays : of_edc (layout_read s) k ≡ false → (judgement a (set s k v)).edc ≡ (judgement a s).edc
  pub edc_set : of_edc (layout_read s) k ≡ true → code_right (layout_read s) s ≡ true → unwritten (layout_read s) (set s k v) ≡ false
      → (judgement a (set s k v)).edc ≡ true
  pub address_stays : (k < 12) ⊎ (15 ≤ k) → (judgement a (set s k v)).address ≡ (judgement a s).address
  pub address_set : 12 ≤ k → k < 15 → (judgement a s).address ≡ false → (judgement a (set s k v)).address ≡ true

abbrev pub ChangeClaim : Type 0
ChangeClaim =
    (s : List ℕ) (a : Address) (k v : ℕ) → length s ≡ 2352 → Bytes s → v < 256 → (v ≡ get_or s k 0 → ⊥) → kind_read (set s k v) ≡ kind_read s
    → Changed s a k v

-- so of a good sector that has its code, before and after, it sets just these
abbrev pub facts_of_change : Layout → ℕ → Judgement
facts_of_change l k = record { sync = ltb k 12; mode = of_mode l k; edc = of_edc l k; address = leb 12 k && ltb k 15 }

-- in each kind, by their numbers. No change of mode 2's byte 15 keeps the kind: of that byte FoundClaim and TwoKindsClaim speak
pub record PlacesClaim : Type 0 where
  pub mode_1 : (k : ℕ) → facts_of_change (layout 1) k ≡ record { sync = ltb k 12; mode = eqb k 15; edc = ltb k 2068; address = leb 12 k && ltb k 15 }
  pub form_1 : (k : ℕ) → facts_of_change (layout 2) k
      ≡ record { sync = ltb k 12; mode = eqb k 15 || (leb 16 k && ltb k 24); edc = leb 16 k && ltb k 2076; address = leb 12 k && ltb k 15 }
  pub form_2 : (k : ℕ) → facts_of_change (layout 3) k
      ≡ record { sync = ltb k 12; mode = eqb k 15 || (leb 16 k && ltb k 24); edc = leb 16 k && ltb k 2352; address = leb 12 k && ltb k 15 }

abbrev pub DamageClaim : Type 0
DamageClaim =
    (s : List ℕ) (a : Address) (k v : ℕ) → Bytes s → judge_answer s a ≡ verdict no_facts → v < 256 → (v ≡ get_or s k 0 → ⊥)
    → kind_read (set s k v) ≡ kind_read s → unwritten (layout_read s) s ≡ false → unwritten (layout_read s) (set s k v) ≡ false
    → judge_answer (set s k v) a ≡ verdict (facts_of_change (layout_read s) k)

-- One damaged byte of a good sector, whatever kind is then read: which are always found, and which are not

pub record FoundClaim : Type 0 where
  -- the kind is read from byte 15, and in mode 2 from byte 18
  pub kind_stays : (s : List ℕ) (k v : ℕ) → (k ≡ 15 → ⊥) → (k ≡ 18 → kind_read s ≡ 1) → kind_read (set s k v) ≡ kind_read s
  -- always: where the code is there, each byte to the code's end but byte 15; in form 2 of the code's bytes all changes but to a code of zero
  pub found : (s : List ℕ) (a : Address) (k v : ℕ) → Bytes s → judge_answer s a ≡ verdict no_facts → v < 256 → (v ≡ get_or s k 0 → ⊥)
      → unwritten (layout_read s) s ≡ false → unwritten (layout_read s) (set s k v) ≡ false → (k ≡ 15 → ⊥) → k < (layout_read s).code + 4
      → judge_answer (set s k v) a ≡ verdict no_facts → ⊥
  -- in mode 2, with a code or without one, each byte before the user bytes but byte 15: sync, address, or one of the two copies of the subheader
  pub found_front : (s : List ℕ) (a : Address) (k v : ℕ) → judge_answer s a ≡ verdict no_facts → (v ≡ get_or s k 0 → ⊥) → (kind_read s ≡ 1 → ⊥)
      → (k ≡ 15 → ⊥) → k < 24 → judge_answer (set s k v) a ≡ verdict no_facts → ⊥
  -- byte 15, where it becomes neither 1 nor 2
  pub odd_mode : (s : List ℕ) (a : Address) (v : ℕ) → length s ≡ 2352 → (v ≡ 1 → ⊥) → (v ≡ 2 → ⊥) → (judgement a (set s 15 v)).mode ≡ true
  -- a form 2 sector without a code is good where sync, the two copies of the subheader and the address are right, and by nothing else: so a change of its
  -- user bytes is not found; nor need one of its four zeros be, which may make the code right
  pub checked : (s : List ℕ) (a : Address) → kind_read s ≡ 3 → unwritten (layout_read s) s ≡ true
      → good (judgement a s) ≡ (sync_holds s && (mode_holds s && address_holds a s))
  pub not_found : (s : List ℕ) (a : Address) (k v : ℕ) → judge_answer s a ≡ verdict no_facts → kind_read s ≡ 3 → unwritten (layout_read s) s ≡ true
      → 24 ≤ k → k < 2348 → judge_answer (set s k v) a ≡ verdict no_facts
  -- nor is one of the code of form 2 that leaves it zero
  pub emptied : (s : List ℕ) (a : Address) (k v : ℕ) → judge_answer s a ≡ verdict no_facts → kind_read s ≡ 3 → 2348 ≤ k
      → unwritten (layout_read s) (set s k v) ≡ true → judge_answer (set s k v) a ≡ verdict no_facts
  -- the bytes behind the code are not judged
  pub behind : (s : List ℕ) (a : Address) (k v : ℕ) → (layout_read s).code + 4 ≤ k → judgement a (set s k v) ≡ judgement a s

-- byte 15, where 1 becomes 2 or 2 becomes 1, may pass: there is a good sector of mode 1 which with mode byte 2 is a good one of that form
pub record GoodAsBoth (form : ℕ) : Type 0 where
  pub sector : List ℕ
  pub address : Address
  pub bytes : Bytes sector
  pub good : judge_answer sector address ≡ verdict no_facts
  pub kind : kind_read sector ≡ 1
  pub good_too : judge_answer (set sector 15 2) address ≡ verdict no_facts
  pub kind_too : kind_read (set sector 15 2) ≡ form

abbrev pub TwoKindsClaim : Type 0
TwoKindsClaim = GoodAsBoth 2 × GoodAsBoth 3

-- The four facts

-- the two bits of register 80h by the tests themselves: STAERR if sync, mode or EDC fails; HCEI if bytes 12 to 14 differ from the address
-- (paper 01, "Sectors")
abbrev pub two_bits : Address → List ℕ → ℕ
two_bits a s = weight (not (sync_holds s && (mode_holds s && edc_holds s))) 0x40 + weight (not (address_holds a s)) 0x01

pub record FactsClaim : Type 0 where
  -- 80h is the two bits that paper 01 makes of the tests, for every sector
  pub tarsta : (a : Address) (s : List ℕ) → tarsta_byte (judgement a s) ≡ two_bits a s
  -- a sector is good exactly where why is 0, and where 80h is
  pub why_good : (j : Judgement) → good j ≡ eqb (why j) 0
  pub tarsta_good : (j : Judgement) → good j ≡ eqb (tarsta_byte j) 0
  -- its weights, which are those of the paper; it is below 16, and tells all four
  pub sync_8 : why (record { sync = true; mode = false; edc = false; address = false }) ≡ 8
  pub mode_4 : why (record { sync = false; mode = true; edc = false; address = false }) ≡ 4
  pub edc_2 : why (record { sync = false; mode = false; edc = true; address = false }) ≡ 2
  pub address_1 : why address_alone ≡ 1
  pub why_below : (j : Judgement) → why j < 16
  pub why_tells : (i j : Judgement) → why i ≡ why j → i ≡ j

-- none of the four hides or brings another: for any of the sixteen there is a sector of each kind with just these
pub record Example (k : ℕ) (j : Judgement) : Type 0 where
  pub sector : List ℕ
  pub address : Address
  pub whole : length sector ≡ 2352
  pub bytes : Bytes sector
  pub in_range : valid address ≡ true
  pub kind : kind_read sector ≡ k
  pub judged : judge_answer sector address ≡ verdict j

abbrev pub IndependentClaim : Type 0
IndependentClaim = (j : Judgement) → Example 1 j × Example 2 j × Example 3 j

-- the address that follows a valid one is valid
abbrev pub NextClaim : Type 0
NextClaim = (a : Address) → valid a ≡ true → valid (next a) ≡ true

-- the premises of these claims can be met: there are a buffer to seal, two addresses, and a subheader for each form; a good sector of bytes is the
-- Example of no_facts; and there are good ones of form 2 with a code, of which one byte is not zero, and without one
pub record MetClaim : Type 0 where
  pub buffer : List ℕ
  pub address : Address
  pub other : Address
  pub whole : length buffer ≡ 2352
  pub bytes : Bytes buffer
  pub in_range : valid address ≡ true
  pub in_range_too : valid other ≡ true
  pub apart : other ≡ address → ⊥
  pub of_form_1 : (h : Subheader) × (agrees 2 h ≡ true) × Bytes (subheader_bytes h)
  pub of_form_2 : (h : Subheader) × (agrees 3 h ≡ true) × Bytes (subheader_bytes h)
  pub with_code : (s : List ℕ) × Bytes s × (kind_read s ≡ 3) × (unwritten (layout_read s) s ≡ false) × (judge_answer s address ≡ verdict no_facts)
      × (get_or s 2348 0 ≡ 1) × (unwritten (layout_read s) (set s 2348 0) ≡ true)
  pub without_code : (s : List ℕ) × Bytes s × (kind_read s ≡ 3) × (unwritten (layout_read s) s ≡ true) × (judge_answer s address ≡ verdict no_facts)
