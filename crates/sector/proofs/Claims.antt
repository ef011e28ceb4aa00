-- The claims of specs/Claims.antt are proved. Assumes nothing.
use Rattle.std.proofs.Common.{rules}
use mathlib.Core.Path.{◌≡◌, refl, ap, ◌∙◌}
use mathlib.Core.Bool.{Bool, true, false, not, ◌&&◌, ◌||◌}
use mathlib.Core.Logic.{◌⊎◌, ⊎_elim}
use mathlib.Core.List.{List}
use Prim.Native.Nat.{ℕ, ◌<◌}
use native.Mathlib.Omega.{arith}
use lib.Dec.{eqb}
use lib.ListN.{length, take, drop, replicate, length-replicate}
use borrow.Author.Tests.{ne_eqb}
use Rattle.laws.specs.Bytes.{Bytes}
use Rattle.std.specs.Prelude.{if◌then◌else◌}
use Rattle.laws.specs.Same.{same}
use Rattle.laws.proofs.Bytes.{bytes_nil, bytes_cons, bytes_replicate}
use Rattle.laws.proofs.Tests.{both_false}
use Rattle.sector.specs.declared.Address.{Address}
use Rattle.sector.specs.declared.Subheader.{Subheader}
use Rattle.sector.specs.Address.{valid}
use Rattle.sector.specs.Layout.{subheader_bytes, form, agrees, layout}
use Rattle.sector.specs.Sector.{body, framed, encoded, sealed}
use Rattle.sector.specs.Judge.{unwritten}
use Rattle.sector.specs.Calls.{seal_reply, seal_sector}
use Rattle.sector.specs.Claims.{form_bit, KindClaim, SealClaim, CheckClaim, ChangeClaim, DamageClaim, PlacesClaim, FoundClaim, TwoKindsClaim, FactsClaim, IndependentClaim, NextClaim, MetClaim}
use Rattle.sector.proofs.Addresses.{next_valid}
use Rattle.sector.proofs.Layouts.{form_cases, optional_kind, read_two, read_other}
use Rattle.sector.proofs.Checked.{detected, sync_free, header_free, form_2_yes, zeros_hold, only}
use Rattle.sector.proofs.Sealed.{count, bytes, kind_back, user_back, address_back, subheader_back, coded, own, other, again, by_user, zeros_behind, parity}
use Rattle.sector.proofs.Damage.{changed, damage, places, founds}
use Rattle.sector.proofs.TwoKinds.{start, start_valid, two_kinds, with_one, one_byte, one_emptied, bare}
use Rattle.sector.proofs.FourFacts.{facts}
use Rattle.sector.proofs.Examples.{independent}

form_1_by : (b : Bool) → (eqb 2 1 || eqb 2 (if b then 3 else 2)) ≡ not b
form_1_by true = refl
form_1_by false = refl

form_2_by : (b : Bool) → (eqb 3 1 || eqb 3 (if b then 3 else 2)) ≡ b
form_2_by true = refl
form_2_by false = refl

-- a number that is not 1, 2 or 3
no_other : (k : ℕ) (h : Subheader) → (k ≡ 0) ⊎ (3 < k) → agrees k h ≡ false
no_other k h out =
    both_false (eqb k 1) (eqb k (form h.submode))
    (ne_eqb k 1 (λ (e : k ≡ 1). ⊎_elim (λ (z : k ≡ 0). omega arith) (λ (z : 3 < k). omega arith) out))
    (ne_eqb k (form h.submode)
    (λ (e : k ≡ form h.submode).
    ⊎_elim (λ (three : form h.submode ≡ 3). let w : k ≡ 3 = e ∙ three in ⊎_elim (λ (z : k ≡ 0). omega arith) (λ (z : 3 < k). omega arith) out)
    (λ (two : form h.submode ≡ 2). let w : k ≡ 2 = e ∙ two in ⊎_elim (λ (z : k ≡ 0). omega arith) (λ (z : 3 < k). omega arith) out) (form_cases h.submode)))

-- a code of zero is none in form 2 only
form_2_only : (k : ℕ) (s : List ℕ) → (k ≡ 3 → ⊥) → unwritten (layout k) s ≡ false
unfolding unwritten
form_2_only k s other = by (layout k).optional refl
  where
    by : (b : Bool) → (layout k).optional ≡ b → (b && same (take 4 (drop (layout k).code s)) (replicate 4 0)) ≡ false
    by true e = absurd (other (optional_kind k e))
    by false e = refl

pub kinds_hold : KindClaim
unfolding seal_reply seal_sector sealed encoded framed body layout
kinds_hold = record {
  mode_1 = λ h. refl;
  form_1 = λ h. form_1_by (form_bit h);
  form_2 = λ h. form_2_by (form_bit h);
  no_other = no_other;
  any_subheader = λ s a h i. (refl, refl);
  begins = (refl, refl, refl);
  users = (refl, refl, refl);
  ends = (refl, refl, refl);
  read_2 = read_two;
  read_1 = read_other;
  form_2_only = form_2_only;
}

pub seal_holds : SealClaim
seal_holds s a k h full v fit = record {
  count = count k a h s full v fit;
  bytes = bytes k a h s full v fit;
  kind_back = kind_back k a h s full v fit;
  user_back = user_back k a h s full v fit;
  address_back = address_back k a h s full v fit;
  subheader_back = subheader_back k a h s full v fit;
  coded = coded k a h s full v fit;
  own = own k a h s full v fit;
  other = other k a h s full v fit;
  again = again k a h s full v fit;
  by_user = by_user k a h s full v fit;
  zeros = zeros_behind k a h s full v fit;
  parity = parity k a h s full v fit;
}

pub check_holds : CheckClaim
check_holds = record { detected = detected; sync_free = sync_free; header_free = header_free; form_2 = form_2_yes; zeros = zeros_hold; only = only }

pub change_holds : ChangeClaim
change_holds = changed

pub damage_holds : DamageClaim
damage_holds = damage

pub places_hold : PlacesClaim
places_hold = places

pub found_holds : FoundClaim
found_holds = founds

pub two_kinds_hold : TwoKindsClaim
two_kinds_hold = two_kinds

pub facts_hold : FactsClaim
facts_hold = facts

pub independent_holds : IndependentClaim
independent_holds = independent

pub next_holds : NextClaim
next_holds = next_valid

-- a buffer of zeros, sealed at 00:02:00, which is not 00:02:01
zeros : List ℕ
zeros = replicate 2352 0

zeros_long : length zeros ≡ 2352
unfolding zeros
zeros_long = length-replicate {A = ℕ} 2352 0

zeros_bytes : Bytes zeros
unfolding zeros
zeros_bytes = bytes_replicate 2352 0 (omega arith)

after : Address
after = record { minute = 0; second = 2; frame = 1 }

after_valid : valid after ≡ true
unfolding after
after_valid = refl

not_start : after ≡ start → ⊥
unfolding start after
not_start e = omega (arith, ap (λ (a : Address). a.frame) e)

-- a subheader with that submode
with_submode : ℕ → Subheader
with_submode x = record { file = 0; channel = 0; submode = x; coding = 0 }

data_agrees : agrees 2 (with_submode 8) ≡ true
unfolding with_submode
data_agrees = refl

audio_agrees : agrees 3 (with_submode 32) ≡ true
unfolding with_submode
audio_agrees = refl

submode_bytes : (x : ℕ) → x < 256 → Bytes (subheader_bytes (with_submode x))
unfolding with_submode
submode_bytes x b = search (rules, bytes_cons, bytes_nil)

pub premises_met : MetClaim
premises_met = record {
  buffer = zeros;
  address = start;
  other = after;
  whole = zeros_long;
  bytes = zeros_bytes;
  in_range = start_valid;
  in_range_too = after_valid;
  apart = not_start;
  of_form_1 = (with_submode 8, data_agrees, submode_bytes 8 (omega arith));
  of_form_2 = (with_submode 32, audio_agrees, submode_bytes 32 (omega arith));
  with_code = (with_one.sector, with_one.bytes, with_one.kind, with_one.code, with_one.good, one_byte, one_emptied);
  without_code = (bare.sector, bare.bytes, bare.kind, bare.code, bare.good);
}
