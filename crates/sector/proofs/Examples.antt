-- A sector of each kind for each of the sixteen judgements, IndependentClaim: its first 24 bytes are right or have a wrong sync byte, mode byte or copy
-- of the subheader, its code is worked out or another, and it is judged at its own address, 00:02:00, or at the next. Assumes nothing.
use Rattle.std.proofs.Common.{rules}
use mathlib.Core.Path.{◌≡◌, refl, sym, ap, ap₂, ◌∙◌}
use mathlib.Core.Bool.{Bool, true, false, not, ◌&&◌, ◌||◌}
use mathlib.Core.List.{List, [], ◌∷◌, ◌++◌}
use Prim.Native.Nat.{ℕ, ◌-◌, ◌/◌, ◌%◌, ◌<◌, ◌≤◌}
use native.Mathlib.Omega.{arith}
use lib.Dec.{eqb}
use borrow.Author.Tests.{ne_eqb, eqb-true, eqb-false}
use lib.ListN.{length, take, drop, get_or, replicate, length-append, length-replicate}
use lib.Seq.{take_at, drop_at}
use Rattle.laws.specs.Bytes.{Bytes}
use Rattle.std.specs.Prelude.{if◌then◌else◌}
use Rattle.laws.specs.Same.{same}
use Rattle.laws.proofs.Bytes.{bytes_nil, bytes_cons, bytes_append, bytes_of, bytes_replicate}
use Rattle.laws.proofs.Choice.{left_false, right_false, if_case}
use Rattle.laws.proofs.Same.{same_refl}
use Rattle.laws.proofs.Tests.{or_left, both_false}
use Rattle.edc.specs.Edc.{edc}
use Rattle.sector.specs.declared.Address.{Address}
use Rattle.sector.specs.declared.Judgement.{Judgement}
use Rattle.sector.specs.declared.layout.Layout.{Layout}
use Rattle.sector.specs.Address.{valid, address_bytes}
use Rattle.sector.specs.Layout.{form, kind_read, layout, layout_read, Fits}
use Rattle.sector.specs.Sector.{sync, low4, code_of}
use Rattle.sector.specs.Judge.{sync_holds, mode_holds, code_right, unwritten, edc_holds, address_holds, judgement}
use Rattle.sector.specs.Claims.{Example, IndependentClaim}
use Rattle.sector.proofs.Answers.{same_facts, judge_done}
use Rattle.sector.proofs.Frames.{bytes_low4}
use Rattle.sector.proofs.Layouts.{fits, code_after}

-- the mode byte, the submode and the first byte of the second copy
pub record Head : Type 0 where
  pub mode : ℕ
  pub submode : ℕ
  pub differs : ℕ

-- of each kind, where the mode holds or fails
head_1 : Bool → Head
head_1 fails = record { mode = if fails then 3 else 1; submode = 0; differs = 0 }

head_2 : Bool → Head
head_2 fails = record { mode = 2; submode = 0; differs = if fails then 1 else 0 }

head_3 : Bool → Head
head_3 fails = record { mode = 2; submode = 32; differs = if fails then 1 else 0 }

first_bytes : Bool → Head → List ℕ
first_bytes fails h =
    (if fails then 1 else 0) ∷ 255 ∷ 255 ∷ 255 ∷ 255 ∷ 255 ∷ 255 ∷ 255 ∷ 255 ∷ 255 ∷ 255 ∷ 0 ∷ 0 ∷ 2 ∷ 0 ∷ h.mode
    ∷ 0 ∷ 0 ∷ h.submode ∷ 0 ∷ h.differs ∷ 0 ∷ h.submode ∷ 0 ∷ []

-- the code as it is, or with another lowest byte that is not 0
other_byte : ℕ → ℕ
other_byte e = if eqb (e % 256) 1 then 2 else 1

code_bytes : Bool → ℕ → List ℕ
code_bytes fails e = (if fails then other_byte e else e % 256) ∷ e / 256 % 256 ∷ e / 65536 % 256 ∷ e / 16777216 % 256 ∷ []

judged_at : Bool → Address
judged_at fails = record { minute = 0; second = 2; frame = if fails then 1 else 0 }

at_valid : (b : Bool) → valid (judged_at b) ≡ true
unfolding judged_at
at_valid true = refl
at_valid false = refl

other_small : (e : ℕ) → other_byte e < 256
unfolding other_byte
other_small e = if_case (λ (n : ℕ). n < 256) (eqb (e % 256) 1) 2 1 (λ _. omega arith) (λ _. omega arith)

other_not : (e : ℕ) → eqb (other_byte e) (e % 256) ≡ false
unfolding other_byte
other_not e =
    if_case (λ (n : ℕ). eqb n (e % 256) ≡ false) (eqb (e % 256) 1) 2 1
    (λ t. ne_eqb 2 (e % 256) (λ (z : 2 ≡ e % 256). let w : e % 256 ≡ 1 = eqb-true (e % 256) 1 t in omega arith))
    (λ t. ne_eqb 1 (e % 256) (λ (z : 1 ≡ e % 256). eqb-false (e % 256) 1 t (sym z)))

other_not_zero : (e : ℕ) → eqb (other_byte e) 0 ≡ false
unfolding other_byte
other_not_zero e = if_case (λ (n : ℕ). eqb n 0 ≡ false) (eqb (e % 256) 1) 2 1 (λ _. refl) (λ _. refl)

-- their bytes
first_small : (b : Bool) (h : Head) → h.mode < 256 → h.submode < 256 → h.differs < 256 → Bytes (first_bytes b h)
unfolding first_bytes
first_small b h m x d =
    bytes_append ((if b then 1 else 0) ∷ 255 ∷ 255 ∷ 255 ∷ 255 ∷ 255 ∷ 255 ∷ 255 ∷ 255 ∷ 255 ∷ 255 ∷ 0 ∷ 0 ∷ 2 ∷ 0 ∷ [])
    (h.mode ∷ 0 ∷ 0 ∷ h.submode ∷ 0 ∷ h.differs ∷ 0 ∷ h.submode ∷ 0 ∷ []) (fixed b)
    (search (rules, bytes_cons, bytes_nil) depth 12)
  where
    fixed : (b : Bool) → Bytes ((if b then 1 else 0) ∷ 255 ∷ 255 ∷ 255 ∷ 255 ∷ 255 ∷ 255 ∷ 255 ∷ 255 ∷ 255 ∷ 255 ∷ 0 ∷ 0 ∷ 2 ∷ 0 ∷ [])
    fixed true = bytes_of (1 ∷ 255 ∷ 255 ∷ 255 ∷ 255 ∷ 255 ∷ 255 ∷ 255 ∷ 255 ∷ 255 ∷ 255 ∷ 0 ∷ 0 ∷ 2 ∷ 0 ∷ []) refl
    fixed false = bytes_of (0 ∷ 255 ∷ 255 ∷ 255 ∷ 255 ∷ 255 ∷ 255 ∷ 255 ∷ 255 ∷ 255 ∷ 255 ∷ 0 ∷ 0 ∷ 2 ∷ 0 ∷ []) refl

code_small : (b : Bool) (e : ℕ) → Bytes (code_bytes b e)
unfolding code_bytes
code_small true e = let o = other_small e in search (rules, bytes_cons, bytes_nil)
code_small false e = bytes_low4 e

-- as it stands it is right; the other one is neither right nor none
code_test : (b : Bool) (e : ℕ) (optional : Bool) → not (same (code_bytes b e) (low4 e) || (optional && same (code_bytes b e) (replicate 4 0))) ≡ b
unfolding code_bytes
code_test true e o =
    let rest = e / 256 % 256 ∷ e / 65536 % 256 ∷ e / 16777216 % 256 ∷ [] in
    ap not
    (both_false (same (code_bytes true e) (low4 e)) (o && same (code_bytes true e) (replicate 4 0))
    (left_false (eqb (other_byte e) (e % 256)) (same rest rest) (other_not e))
    (right_false o (same (code_bytes true e) (replicate 4 0)) (left_false (eqb (other_byte e) 0) (same rest (replicate 3 0)) (other_not_zero e))))
code_test false e o = ap not (or_left (same (low4 e) (low4 e)) (o && same (low4 e) (replicate 4 0)) (same_refl (low4 e)))

-- a sector by a layout: the head, zeros, the code and zeros
module _ (l : Layout) (f : Fits l) (late : 24 ≤ l.code) (h : Head) (j : Judgement) where
  front : List ℕ
  front = first_bytes j.sync h ++ replicate (l.code - 24) 0

  worked : ℕ
  worked = edc 0 (drop l.covered front)

  code : List ℕ
  code = code_bytes j.edc worked

  made : List ℕ
  made = front ++ (code ++ replicate (2348 - l.code) 0)

  front_long : length front ≡ l.code
  unfolding front first_bytes
  front_long = let n = length-replicate {A = ℕ} (l.code - 24) 0 in omega (arith, n)

  made_long : length made ≡ 2352
  unfolding made code code_bytes
  made_long =
      let i = f.inside in
      let n = length-replicate {A = ℕ} (2348 - l.code) 0 in
      length-append front (code ++ replicate (2348 - l.code) 0) ∙ omega (arith, front_long, n)

  -- what stands where
  front_made : take l.code made ≡ front
  unfolding made
  front_made = take_at front (code ++ replicate (2348 - l.code) 0) l.code front_long

  code_made : take 4 (drop l.code made) ≡ code
  unfolding made code code_bytes
  code_made = ap (take 4) (drop_at front (code ++ replicate (2348 - l.code) 0) l.code front_long)

  made_bytes : h.mode < 256 → h.submode < 256 → h.differs < 256 → Bytes made
  unfolding made front code
  made_bytes m x d =
      bytes_append front (code ++ replicate (2348 - l.code) 0)
      (bytes_append (first_bytes j.sync h) (replicate (l.code - 24) 0) (first j.sync) (bytes_replicate (l.code - 24) 0 (omega arith)))
      (bytes_append code (replicate (2348 - l.code) 0) (coded j.edc worked) (bytes_replicate (2348 - l.code) 0 (omega arith)))
    where
      first : (b : Bool) → Bytes (first_bytes b h)
      first b = first_small b h m x d

      coded : (b : Bool) (e : ℕ) → Bytes (code_bytes b e)
      coded b e = code_small b e

  made_sync : not (sync_holds made) ≡ j.sync
  unfolding sync_holds made front first_bytes
  made_sync = by j.sync
    where
      by : (b : Bool) → not (same (take 12 ((first_bytes b h ++ replicate (l.code - 24) 0) ++ (code ++ replicate (2348 - l.code) 0))) sync) ≡ b
      by true = refl
      by false = refl

  made_address : not (address_holds (judged_at j.address) made) ≡ j.address
  unfolding address_holds made front first_bytes judged_at
  made_address = by j.address
    where
      by : (b : Bool) → not (same (0 ∷ 2 ∷ 0 ∷ []) (address_bytes (judged_at b))) ≡ b
      by true = refl
      by false = refl

  -- the kind is read from two of the first bytes, and the mode judged by them and the copies
  made_kind : kind_read made ≡ (if eqb h.mode 2 then form h.submode else 1)
  unfolding kind_read made front first_bytes
  made_kind = refl

  made_mode : mode_holds made ≡ (eqb h.mode 1 || (eqb h.mode 2 && same (0 ∷ 0 ∷ h.submode ∷ 0 ∷ []) (h.differs ∷ 0 ∷ h.submode ∷ 0 ∷ [])))
  unfolding mode_holds made front first_bytes
  made_mode = refl

  -- the code that stands there
  made_edc : layout_read made ≡ l → not (edc_holds made) ≡ j.edc
  unfolding edc_holds code_right unwritten code worked
  made_edc read =
      ap (λ (x : Layout). not (same (take 4 (drop x.code made)) (code_of x (take x.code made)) || (x.optional && same (take 4 (drop x.code made)) (replicate 4 0)))) read
      ∙ ap₂ (λ (x y : List ℕ). not (same x (code_of l y) || (l.optional && same x (replicate 4 0)))) code_made front_made
      ∙ by j.edc worked
    where
      by : (b : Bool) (e : ℕ) → not (same (code_bytes b e) (low4 e) || (l.optional && same (code_bytes b e) (replicate 4 0))) ≡ b
      by b e = code_test b e l.optional

  made_judged : layout_read made ≡ l → not (mode_holds made) ≡ j.mode → judgement (judged_at j.address) made ≡ j
  unfolding judgement
  made_judged read mode = same_facts (judgement (judged_at j.address) made) j made_sync mode (made_edc read) made_address

  example : (k : ℕ) → kind_read made ≡ k → layout k ≡ l → not (mode_holds made) ≡ j.mode → h.mode < 256 → h.submode < 256 → h.differs < 256 → Example k j
  example k kind is mode m x d = record {
    sector = made;
    address = judged_at j.address;
    whole = made_long;
    bytes = made_bytes m x d;
    in_range = at_valid j.address;
    kind = kind;
    judged =
        sym (judge_done made (judged_at j.address) made_long (at_valid j.address))
        ∙ ap (λ (x : Judgement). record { number = 0; judgement = x }) (made_judged (ap layout kind ∙ is) mode);
  }

-- each kind
of_kind_1 : (j : Judgement) → Example 1 j
unfolding head_1
of_kind_1 j =
    example (layout 1) (fits 1) (code_after 1) (head_1 j.mode) j 1 (made_kind (layout 1) (fits 1) (code_after 1) (head_1 j.mode) j ∙ kind j.mode) refl
    (ap not (made_mode (layout 1) (fits 1) (code_after 1) (head_1 j.mode) j) ∙ mode j.mode) (small j.mode) (omega arith) (omega arith)
  where
    kind : (b : Bool) → (if eqb (if b then 3 else 1) 2 then form 0 else 1) ≡ 1
    kind true = refl
    kind false = refl

    mode : (b : Bool) → not (eqb (if b then 3 else 1) 1 || (eqb (if b then 3 else 1) 2 && same (0 ∷ 0 ∷ 0 ∷ 0 ∷ []) (0 ∷ 0 ∷ 0 ∷ 0 ∷ []))) ≡ b
    mode true = refl
    mode false = refl

    small : (b : Bool) → (if b then 3 else 1) < 256
    small true = omega arith
    small false = omega arith

-- the two forms, by the submode
copy_test : (b : Bool) (x : ℕ) → not (same (0 ∷ 0 ∷ x ∷ 0 ∷ []) ((if b then 1 else 0) ∷ 0 ∷ x ∷ 0 ∷ [])) ≡ b
copy_test true x = refl
copy_test false x = ap not (same_refl (0 ∷ 0 ∷ x ∷ 0 ∷ []))

copy_small : (b : Bool) → (if b then 1 else 0) < 256
copy_small true = omega arith
copy_small false = omega arith

of_kind_2 : (j : Judgement) → Example 2 j
unfolding head_2
of_kind_2 j =
    example (layout 2) (fits 2) (code_after 2) (head_2 j.mode) j 2 (made_kind (layout 2) (fits 2) (code_after 2) (head_2 j.mode) j) refl
    (ap not (made_mode (layout 2) (fits 2) (code_after 2) (head_2 j.mode) j) ∙ copy_test j.mode 0) (omega arith) (omega arith) (copy_small j.mode)

of_kind_3 : (j : Judgement) → Example 3 j
unfolding head_3
of_kind_3 j =
    example (layout 3) (fits 3) (code_after 3) (head_3 j.mode) j 3 (made_kind (layout 3) (fits 3) (code_after 3) (head_3 j.mode) j) refl
    (ap not (made_mode (layout 3) (fits 3) (code_after 3) (head_3 j.mode) j) ∙ copy_test j.mode 32) (omega arith) (omega arith) (copy_small j.mode)

pub independent : IndependentClaim
independent j = (of_kind_1 j, of_kind_2 j, of_kind_3 j)

-- one of form 1 at 00:02:00 whose copies of the subheader differ, and nothing else is wrong
mode_alone : Judgement
mode_alone = record { sync = false; mode = true; edc = false; address = false }

pub unequal : List ℕ
unequal = made (layout 2) (fits 2) (code_after 2) (head_2 true) mode_alone

pub unequal_long : length unequal ≡ 2352
unfolding unequal
unequal_long = made_long (layout 2) (fits 2) (code_after 2) (head_2 true) mode_alone

pub unequal_kind : kind_read unequal ≡ 2
unfolding unequal head_2
unequal_kind = made_kind (layout 2) (fits 2) (code_after 2) (head_2 true) mode_alone

pub unequal_copies : take 4 (drop 16 unequal) ≡ take 4 (drop 20 unequal) → ⊥
unfolding unequal made front first_bytes head_2
unequal_copies e = let first : ◌≡◌ {A = ℕ} 0 1 = ap (λ (x : List ℕ). get_or x 0 0) e in omega arith

pub unequal_judged : judgement (record { minute = 0; second = 2; frame = 0 }) unequal ≡ record { sync = false; mode = true; edc = false; address = false }
unfolding unequal mode_alone judged_at head_2
unequal_judged =
    made_judged (layout 2) (fits 2) (code_after 2) (head_2 true) mode_alone
    (ap layout (made_kind (layout 2) (fits 2) (code_after 2) (head_2 true) mode_alone))
    (ap not (made_mode (layout 2) (fits 2) (code_after 2) (head_2 true) mode_alone) ∙ copy_test true 0)
