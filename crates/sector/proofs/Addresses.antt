-- The laws of addresses: what being valid says, the one that follows, and the digits. Assumes nothing.
use Rattle.std.proofs.Common.{rules}
use mathlib.Core.Path.{◌≡◌, refl, sym, ap, ◌∙◌}
use mathlib.Core.Bool.{true, false, ◌&&◌}
use mathlib.Core.List.{List}
use Prim.Native.Nat.{ℕ, ◌+◌, ◌<◌, ◌≤◌}
use lib.ListN.{get_or}
use native.Mathlib.Omega.{arith}
use lib.Dec.{leb, ltb}
use borrow.Author.Tests.{leb-true, le-leb, ltb-true}
use Rattle.std.specs.Prelude.{if◌then◌else◌}
use Rattle.laws.proofs.Choice.{left_true, right_true, if_case}
use Rattle.laws.proofs.Bytes.{bytes_nil, bytes_cons}
use Rattle.laws.specs.Bytes.{Bytes}
use Rattle.sector.specs.declared.Address.{Address}
use Rattle.sector.specs.Address.{valid, next, bcd, from_bcd, address_bytes}

-- a valid address, part by part
pub record InRange (a : Address) : Type 0 where
  pub minute : a.minute ≤ 99
  pub second : a.second ≤ 59
  pub frame : a.frame ≤ 74

pub in_range : (a : Address) → valid a ≡ true → InRange a
in_range a h =
    let m = leb a.minute 99 in
    let s = leb a.second 59 in
    let f = leb a.frame 74 in
    record {
      minute = leb-true a.minute 99 (left_true m (s && f) h);
      second = leb-true a.second 59 (left_true s f (right_true m (s && f) h));
      frame = leb-true a.frame 74 (right_true s f (right_true m (s && f) h));
    }

pub of_range : (a : Address) → InRange a → valid a ≡ true
of_range a r = simp (le-leb a.minute 99 r.minute, le-leb a.second 59 r.second, le-leb a.frame 74 r.frame)

-- the digits give the number back, and an address is known from its bytes
pub bcd_back : (n : ℕ) → n ≤ 99 → from_bcd (bcd n) ≡ n
bcd_back n h = omega arith

pub same_address : (a b : Address) → a.minute ≡ b.minute → a.second ≡ b.second → a.frame ≡ b.frame → a ≡ b
same_address a b m s f =
    ap (λ (x : ℕ). record { minute = x; second = a.second; frame = a.frame }) m
    ∙ ap (λ (x : ℕ). record { minute = b.minute; second = x; frame = a.frame }) s
    ∙ ap (λ (x : ℕ). record { minute = b.minute; second = b.second; frame = x }) f

-- the three numbers that bytes give
unfoldable pub from_bytes : List ℕ → Address
from_bytes l = record { minute = from_bcd (get_or l 0 0); second = from_bcd (get_or l 1 0); frame = from_bcd (get_or l 2 0) }

pub bytes_back : (a : Address) → valid a ≡ true → from_bytes (address_bytes a) ≡ a
unfolding from_bytes
bytes_back a v =
    let r = in_range a v in
    same_address (from_bytes (address_bytes a)) a (bcd_back a.minute (omega arith)) (bcd_back a.second (omega arith)) (bcd_back a.frame (omega arith))

pub bytes_tell : (a b : Address) → valid a ≡ true → valid b ≡ true → address_bytes a ≡ address_bytes b → a ≡ b
bytes_tell a b va vb e = sym (bytes_back a va) ∙ ap from_bytes e ∙ bytes_back b vb

pub bytes_address : (a : Address) → valid a ≡ true → Bytes (address_bytes a)
bytes_address a v = let r = in_range a v in search (rules, bytes_cons, bytes_nil)

-- what holds in each of the four cases holds of the address that follows
module _ (P : Address → Type 0) (a : Address) where
  last : P (record { minute = 0; second = 0; frame = 0 }) → (a.minute < 99 → P (record { minute = a.minute + 1; second = 0; frame = 0 }))
      → P (if ltb a.minute 99 then record { minute = a.minute + 1; second = 0; frame = 0 } else record { minute = 0; second = 0; frame = 0 })
  last d c =
      if_case P (ltb a.minute 99) (record { minute = a.minute + 1; second = 0; frame = 0 }) (record { minute = 0; second = 0; frame = 0 })
      (λ (t : ltb a.minute 99 ≡ true). c (ltb-true a.minute 99 t)) (λ (t : ltb a.minute 99 ≡ false). d)

  pub split_next : (a.frame < 74 → P (record { minute = a.minute; second = a.second; frame = a.frame + 1 }))
      → (a.second < 59 → P (record { minute = a.minute; second = a.second + 1; frame = 0 }))
      → (a.minute < 99 → P (record { minute = a.minute + 1; second = 0; frame = 0 }))
      → P (record { minute = 0; second = 0; frame = 0 }) → P (next a)
  unfolding next
  split_next f s m l =
      if_case P (ltb a.frame 74) (record { minute = a.minute; second = a.second; frame = a.frame + 1 })
      (if ltb a.second 59 then record { minute = a.minute; second = a.second + 1; frame = 0 }
      else if ltb a.minute 99 then record { minute = a.minute + 1; second = 0; frame = 0 } else record { minute = 0; second = 0; frame = 0 })
      (λ (t : ltb a.frame 74 ≡ true). f (ltb-true a.frame 74 t))
      (λ (t : ltb a.frame 74 ≡ false).
      if_case P (ltb a.second 59) (record { minute = a.minute; second = a.second + 1; frame = 0 })
      (if ltb a.minute 99 then record { minute = a.minute + 1; second = 0; frame = 0 } else record { minute = 0; second = 0; frame = 0 })
      (λ (u : ltb a.second 59 ≡ true). s (ltb-true a.second 59 u)) (λ (u : ltb a.second 59 ≡ false). last l m))

-- the address that follows a valid one is valid
pub next_valid : (a : Address) → valid a ≡ true → valid (next a) ≡ true
next_valid a v =
    let r = in_range a v in
    split_next (λ (b : Address). valid b ≡ true) a
    (λ (h : a.frame < 74). of_range (record { minute = a.minute; second = a.second; frame = a.frame + 1 }) (record { minute = r.minute; second = r.second; frame = omega arith }))
    (λ (h : a.second < 59). of_range (record { minute = a.minute; second = a.second + 1; frame = 0 }) (record { minute = r.minute; second = omega arith; frame = omega arith }))
    (λ (h : a.minute < 99). of_range (record { minute = a.minute + 1; second = 0; frame = 0 }) (record { minute = omega arith; second = omega arith; frame = omega arith }))
    refl
