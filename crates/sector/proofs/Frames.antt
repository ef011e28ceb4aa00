-- The laws of sectors before they are scrambled, over any layout: how the code's copies frame one, and what stands where in it. Assumes nothing.
use Rattle.std.proofs.Common.{rules}
use mathlib.Core.Path.{◌≡◌, refl, sym, ap, ap₂, ◌∙◌}
use mathlib.Core.Bool.{Bool, true, false}
use mathlib.Core.List.{List, [], ◌∷◌, ◌++◌, append_assoc, append-nil}
use mathlib.Core.Logic.{⊎_elim}
use Prim.Native.Nat.{ℕ, ◌+◌, ◌*◌, ◌-◌, ◌^◌, ◌<◌, ◌≤◌}
use native.Mathlib.Nat.{le_of_eq}
use native.Mathlib.Omega.{arith}
use lib.ListN.{length, take, drop, get_or, replicate, length-append, length-drop, length-replicate, drop_of_length-le}
use lib.Seq.{length-take-le, take-append-le, take-append-add, drop-append-add, drop-append-le, drop-drop, take-take, take_at, drop_at, get_or-take}
use borrow.Rule.Slice.PartMut.{put_mid, mid_of}
use Rattle.laws.specs.Bytes.{Bytes}
use Rattle.std.specs.Prelude.{if◌then◌else◌}
use Rattle.laws.proofs.Bytes.{four_bytes, bytes_nil, bytes_cons, bytes_append, bytes_take, bytes_drop, bytes_of, bytes_replicate}
use Rattle.laws.proofs.Choice.{if_case, if_true, if_false}
use Rattle.laws.proofs.Parts.{put_rest, mid_rest}
use Rattle.laws.proofs.Same.{same_of}
use Rattle.laws.proofs.Tests.{true_when}
use Rattle.laws.proofs.Window.{drop_take}
use Rattle.edc.specs.Edc.{edc}
use Rattle.parity.specs.Layout.{p, q}
use Rattle.parity.specs.Parity.{parity_bytes, coded, with_parity, parity_holds}
use Rattle.parity.proofs.Validity.{length_with, with_parts, bytes_with, valid_with}
use Rattle.sector.specs.declared.Address.{Address}
use Rattle.sector.specs.declared.Subheader.{Subheader}
use Rattle.sector.specs.declared.layout.Layout.{Layout}
use Rattle.sector.specs.Address.{valid, address_bytes, address_of}
use Rattle.sector.specs.Layout.{subheader_bytes, end, Fits}
use Rattle.sector.specs.Sector.{sync, full_head, head, user, low4, code_of, body, framed, encoded}
use Rattle.sector.specs.Judge.{mode_holds, code_right}
use Rattle.sector.specs.Calls.{words_hold}
use Rattle.sector.proofs.Addresses.{bytes_address, from_bytes}
use Rattle.sector.proofs.Layouts.{user_from, user_to}

-- the bytes that the code covers, as the code's slice has them
pub covered_part : (l : Layout) (s : List ℕ) → Fits l → mid_of l.covered (l.code - l.covered) s ≡ drop l.covered (take l.code s)
covered_part l s f =
    let c = f.covered_before in
    let u = f.user_before in
    let sum : l.covered + (l.code - l.covered) ≡ l.code = omega arith in
    sym (drop_take l.covered (l.code - l.covered) s) ∙ ap (λ (n : ℕ). drop l.covered (take n s)) sum

-- with the head written
module _ (l : Layout) (a : Address) (h : Subheader) (f : Fits l) where
  pub length_head : length (head l a h) ≡ l.user
  length_head = length-take-le l.user (full_head l.mode a h) (user_to l f)

  module _ (s : List ℕ) where
    front : take l.code (head l a h ++ drop l.user s) ≡ body l a h s
    unfolding body
    front =
        let u = f.user_before in
        let sum : l.code ≡ length (head l a h) + (l.code - l.user) = omega (arith, length_head) in
        ap (λ (n : ℕ). take n (head l a h ++ drop l.user s)) sum ∙ take-append-add (head l a h) (drop l.user s) (l.code - l.user)

    behind : drop (end l) (head l a h ++ drop l.user s) ≡ drop (end l) s
    behind =
        let u = f.user_before in
        let sum : end l ≡ length (head l a h) + (end l - l.user) = omega (arith, length_head) in
        let rest : l.user + (end l - l.user) ≡ end l = omega arith in
        ap (λ (n : ℕ). drop n (head l a h ++ drop l.user s)) sum
        ∙ drop-append-add (head l a h) (drop l.user s) (end l - l.user)
        ∙ drop-drop (end l - l.user) l.user s ∙ ap (λ (n : ℕ). drop n s) rest

-- the code with n zeros behind it
length_code : (e n : ℕ) → length (low4 e ++ replicate n 0) ≡ 4 + n
length_code e n = length-append (low4 e) (replicate n 0) ∙ ap (λ (k : ℕ). 4 + k) (length-replicate {A = ℕ} n 0)

-- d is a buffer s with its head, and e what is behind the bytes that the code is taken over, with code and zeros
pub made : (l : Layout) (a : Address) (h : Subheader) (s d e : List ℕ) (n : ℕ) → Fits l → n ≡ length d → d ≡ head l a h ++ drop l.user s
    → e ≡ (low4 (edc 0 (mid_of l.covered (l.code - l.covered) d)) ++ replicate l.zeros 0) ++ drop (4 + l.zeros) (mid_of l.code (n - l.code) d)
    → put_mid l.code (n - l.code) d e ≡ framed l a h s ++ drop (end l) s
unfolding framed
made l a h s d e n f long d_is e_is =
    let b : take l.code d ≡ body l a h s = ap (take l.code) d_is ∙ front l a h f s in
    let c : low4 (edc 0 (mid_of l.covered (l.code - l.covered) d)) ≡ code_of l (body l a h s) =
    ap (λ (x : List ℕ). low4 (edc 0 x)) (covered_part l d f ∙ ap (drop l.covered) b) in
    let rest : drop (4 + l.zeros) (mid_of l.code (n - l.code) d) ≡ drop (end l) s =
    ap (λ (k : ℕ). drop (4 + l.zeros) (mid_of l.code (k - l.code) d)) long
    ∙ ap (drop (4 + l.zeros)) (mid_rest l.code d) ∙ drop-drop (4 + l.zeros) l.code d ∙ ap (drop (end l)) d_is ∙ behind l a h f s in
    ap (λ (k : ℕ). put_mid l.code (k - l.code) d e) long ∙ put_rest l.code d e
    ∙ ap₂ (λ (x y : List ℕ). x ++ y) b (e_is ∙ ap₂ (λ (x y : List ℕ). (x ++ replicate l.zeros 0) ++ y) c rest)
    ∙ sym (append_assoc (body l a h s) (code_of l (body l a h s) ++ replicate l.zeros 0) (drop (end l) s))

-- ---- what stands where

module _ (l : Layout) (a : Address) (h : Subheader) (s : List ℕ) (full : length s ≡ 2352) (f : Fits l) where
  length_user : length (user l s) ≡ l.code - l.user
  length_user =
      let i = f.inside in
      length-take-le (l.code - l.user) (drop l.user s) (simp length-drop (omega (arith, full)))

  pub length_body : length (body l a h s) ≡ l.code
  unfolding body
  length_body =
      let u = f.user_before in
      length-append (head l a h) (user l s) ∙ ap₂ (λ (m n : ℕ). m + n) (length_head l a h f) length_user ∙ omega arith

  -- the code, and the zeros behind it
  abbrev tail : List ℕ
  tail = code_of l (body l a h s) ++ replicate l.zeros 0

  length_tail : length tail ≡ 4 + l.zeros
  length_tail = length_code (edc 0 (drop l.covered (body l a h s))) l.zeros

  pub length_framed : length (framed l a h s) ≡ end l
  unfolding framed
  length_framed = length-append (body l a h s) tail ∙ ap₂ (λ (m n : ℕ). m + n) length_body length_tail

  -- the parity behind them, or nothing
  parity : List ℕ
  parity =
      if l.parity then parity_bytes p l.masked (framed l a h s) ++ parity_bytes q l.masked (coded p l.masked (framed l a h s))
      else []

  encoded_parts : encoded l a h s ≡ framed l a h s ++ parity
  unfolding encoded parity
  encoded_parts = by l.parity refl
    where
      by : (b : Bool) → l.parity ≡ b
          → (if b then with_parity l.masked (framed l a h s) else framed l a h s)
          ≡ framed l a h s ++ (if b then parity_bytes p l.masked (framed l a h s) ++ parity_bytes q l.masked (coded p l.masked (framed l a h s)) else [])
      by true e = with_parts l.masked (framed l a h s) (length_framed ∙ f.parity_from e)
      by false e = sym (append-nil (framed l a h s))

  pub length_encoded : length (encoded l a h s) ≡ 2352
  unfolding encoded
  length_encoded =
      if_case (λ (x : List ℕ). length x ≡ 2352) l.parity (with_parity l.masked (framed l a h s)) (framed l a h s)
      (λ e. length_with l.masked (framed l a h s) (length_framed ∙ f.parity_from e)) (λ e. length_framed ∙ f.no_parity e)

  -- parity is written over what lay behind the frame, or the frame is all
  pub with_words : l.parity ≡ true → with_parity l.masked (take 2076 (framed l a h s ++ drop (end l) s)) ≡ encoded l a h s
  unfolding encoded
  with_words e =
      ap (with_parity l.masked) (take_at (framed l a h s) (drop (end l) s) 2076 (length_framed ∙ f.parity_from e))
      ∙ sym (if_true l.parity (with_parity l.masked (framed l a h s)) (framed l a h s) e)

  pub without_words : l.parity ≡ false → framed l a h s ++ drop (end l) s ≡ encoded l a h s
  unfolding encoded
  without_words e =
      ap (λ (x : List ℕ). framed l a h s ++ x) (drop_of_length-le s (le_of_eq (full ∙ sym (f.no_parity e)))) ∙ append-nil (framed l a h s)
      ∙ sym (if_false l.parity (with_parity l.masked (framed l a h s)) (framed l a h s) e)

  -- so what stands behind the body is the code, zeros and parity
  from_body : encoded l a h s ≡ body l a h s ++ (tail ++ parity)
  unfolding framed
  from_body = encoded_parts ∙ append_assoc (body l a h s) tail parity

  pub front_encoded : take l.code (encoded l a h s) ≡ body l a h s
  front_encoded = ap (take l.code) from_body ∙ take_at (body l a h s) (tail ++ parity) l.code length_body

  back_encoded : drop l.code (encoded l a h s) ≡ tail ++ parity
  back_encoded = ap (drop l.code) from_body ∙ drop_at (body l a h s) (tail ++ parity) l.code length_body

  pub code_encoded : code_right l (encoded l a h s) ≡ true
  unfolding code_right
  code_encoded =
      same_of (take 4 (drop l.code (encoded l a h s))) (code_of l (take l.code (encoded l a h s)))
      (ap (take 4) back_encoded ∙ ap (code_of l) (sym front_encoded))

  pub zeros_encoded : take l.zeros (drop (l.code + 4) (encoded l a h s)) ≡ replicate l.zeros 0
  zeros_encoded =
      ap (take l.zeros) (sym (drop-drop 4 l.code (encoded l a h s)) ∙ ap (drop 4) back_encoded)
      ∙ take_at (replicate l.zeros 0) parity l.zeros (length-replicate {A = ℕ} l.zeros 0)

  pub user_encoded : user l (encoded l a h s) ≡ user l s
  unfolding body
  user_encoded =
      let u = f.user_before in
      let seam : l.user ≤ length (head l a h ++ user l s) = omega (arith, length_body) in
      ap (λ (x : List ℕ). user l x) from_body
      ∙ ap (take (l.code - l.user)) (drop-append-le l.user (body l a h s) (tail ++ parity) seam ∙ ap (λ (x : List ℕ). x ++ (tail ++ parity)) (drop_at (head l a h) (user l s) l.user (length_head l a h f)))
      ∙ take_at (user l s) (tail ++ parity) (l.code - l.user) length_user

  -- the head
  front_head : take l.user (encoded l a h s) ≡ head l a h
  unfolding body
  front_head =
      let u = f.user_before in
      ap (take l.user) from_body
      ∙ take-append-le l.user (body l a h s) (tail ++ parity) (omega (arith, length_body))
      ∙ take_at (head l a h) (user l s) l.user (length_head l a h f)

  -- its sync bytes, address and mode, which are in every head
  pub first_16 : take 16 (encoded l a h s) ≡ sync ++ address_bytes a ++ l.mode ∷ []
  first_16 =
      let u = user_from l f in
      sym (take-take 16 l.user (encoded l a h s) u) ∙ ap (take 16) front_head ∙ take-take 16 l.user (full_head l.mode a h) u

  pub sync_encoded : take 12 (encoded l a h s) ≡ sync
  sync_encoded = sym (take-take 12 16 (encoded l a h s) (omega arith)) ∙ ap (take 12) first_16

  pub header_encoded : take 3 (drop 12 (encoded l a h s)) ≡ address_bytes a
  header_encoded =
      sym (take-take 3 4 (drop 12 (encoded l a h s)) (omega arith)) ∙ ap (take 3) (sym (drop_take 12 4 (encoded l a h s))) ∙ ap (λ (x : List ℕ). take 3 (drop 12 x)) first_16

  pub mode_byte : get_or (encoded l a h s) 15 0 ≡ l.mode
  mode_byte = sym (get_or-take 16 (encoded l a h s) 15 0 (omega arith)) ∙ ap (λ (x : List ℕ). get_or x 15 0) first_16

  pub address_bytes_encoded : address_of (encoded l a h s) ≡ from_bytes (address_bytes a)
  unfolding address_of from_bytes
  address_bytes_encoded = from_front (encoded l a h s) ∙ ap address_of first_16
    where
      from_front : (x : List ℕ) → address_of x ≡ address_of (take 16 x)
      from_front x =
          let at : (k : ℕ) → k < 16 → get_or x k 0 ≡ get_or (take 16 x) k 0 = λ (k : ℕ) (b : k < 16). sym (get_or-take 16 x k 0 b) in
          simp (at 12 (omega arith), at 13 (omega arith), at 14 (omega arith))

  -- in mode 2 the subheader, twice
  module _ (xa : l.user ≡ 24) where
    pub first_24 : take 24 (encoded l a h s) ≡ full_head l.mode a h
    first_24 = ap (λ (n : ℕ). take n (encoded l a h s)) (sym xa) ∙ front_head ∙ ap (λ (n : ℕ). take n (full_head l.mode a h)) xa

    window_24 : (c n : ℕ) → c + n ≤ 24 → take n (drop c (encoded l a h s)) ≡ take n (drop c (full_head l.mode a h))
    window_24 c n room =
        let m : ℕ = 24 - c in
        let sum : c + (24 - c) ≡ 24 = omega arith in
        let fits : n ≤ 24 - c = omega arith in
        sym (take-take n (24 - c) (drop c (encoded l a h s)) fits)
        ∙ ap (take n) (sym (drop_take c (24 - c) (encoded l a h s)) ∙ ap (λ (k : ℕ). drop c (take k (encoded l a h s))) sum ∙ ap (drop c) first_24)

    pub copy_one : take 4 (drop 16 (encoded l a h s)) ≡ subheader_bytes h
    copy_one = window_24 16 4 (omega arith)

    pub copy_two : take 4 (drop 20 (encoded l a h s)) ≡ subheader_bytes h
    copy_two = window_24 20 4 (omega arith)

    pub submode_byte : get_or (encoded l a h s) 18 0 ≡ h.submode
    submode_byte = sym (get_or-take 24 (encoded l a h s) 18 0 (omega arith)) ∙ ap (λ (x : List ℕ). get_or x 18 0) first_24

  pub mode_encoded : mode_holds (encoded l a h s) ≡ true
  unfolding mode_holds
  mode_encoded =
      ⊎_elim
      (λ (e : (l.mode ≡ 1) × (l.user ≡ 16)). simp (mode_byte, e.0))
      (λ (e : (l.mode ≡ 2) × (l.user ≡ 24)).
      simp (mode_byte, e.0, same_of (take 4 (drop 16 (encoded l a h s))) (take 4 (drop 20 (encoded l a h s))) (copy_one e.1 ∙ sym (copy_two e.1))))
      f.head

-- of what lay there only the user bytes count
pub encoded_by_user : (l : Layout) (a : Address) (h : Subheader) (s t : List ℕ) → user l s ≡ user l t → encoded l a h s ≡ encoded l a h t
unfolding encoded framed body
encoded_by_user l a h s t e =
    let frame : List ℕ → List ℕ = λ (u : List ℕ). (head l a h ++ u) ++ (code_of l (head l a h ++ u) ++ replicate l.zeros 0) in
    ap (λ (u : List ℕ). if l.parity then with_parity l.masked (frame u) else frame u) e

-- ---- its bytes

pub bytes_low4 : (e : ℕ) → Bytes (low4 e)
bytes_low4 e = search (rules, bytes_cons, bytes_nil)

module _ (l : Layout) (a : Address) (h : Subheader) (s : List ℕ) (f : Fits l) (v : valid a ≡ true) (hh : Bytes (subheader_bytes h)) (hs : Bytes s) where
  mode_small : l.mode < 256
  mode_small = ⊎_elim (λ (e : (l.mode ≡ 1) × (l.user ≡ 16)). omega (arith, e.0)) (λ (e : (l.mode ≡ 2) × (l.user ≡ 24)). omega (arith, e.0)) f.head

  bytes_body : Bytes (body l a h s)
  unfolding body
  bytes_body =
      bytes_append (head l a h) (user l s)
      (bytes_take l.user (full_head l.mode a h)
      (bytes_append sync (address_bytes a ++ l.mode ∷ subheader_bytes h ++ subheader_bytes h) (bytes_of sync refl)
      (bytes_append (address_bytes a) (l.mode ∷ subheader_bytes h ++ subheader_bytes h) (bytes_address a v)
      (bytes_cons l.mode (subheader_bytes h ++ subheader_bytes h) mode_small (bytes_append (subheader_bytes h) (subheader_bytes h) hh hh)))))
      (bytes_take (l.code - l.user) (drop l.user s) (bytes_drop l.user s hs))

  bytes_framed : Bytes (framed l a h s)
  unfolding framed
  bytes_framed =
      bytes_append (body l a h s) (code_of l (body l a h s) ++ replicate l.zeros 0) bytes_body
      (bytes_append (code_of l (body l a h s)) (replicate l.zeros 0) (bytes_low4 (edc 0 (drop l.covered (body l a h s)))) (bytes_replicate l.zeros 0 (omega arith)))

  module _ (full : length s ≡ 2352) where
    pub bytes_encoded : Bytes (encoded l a h s)
    unfolding encoded
    bytes_encoded =
        if_case (λ (x : List ℕ). Bytes x) l.parity (with_parity l.masked (framed l a h s)) (framed l a h s)
        (λ e. bytes_with l.masked (framed l a h s) (length_framed l a h s full f ∙ f.parity_from e) bytes_framed) (λ e. bytes_framed)

    -- the parity check says yes
    pub words_encoded : words_hold l (encoded l a h s) ≡ true
    unfolding words_hold encoded
    words_encoded =
        true_when l.parity (parity_holds l.masked (encoded l a h s))
        (λ e.
        ap (parity_holds l.masked) (if_true l.parity (with_parity l.masked (framed l a h s)) (framed l a h s) e)
        ∙ valid_with l.masked (framed l a h s) (length_framed l a h s full f ∙ f.parity_from e) bytes_framed)

-- ---- the code's four bytes tell the code

pub low4_tells : (x y : ℕ) → x < 2 ^ 32 → y < 2 ^ 32 → low4 x ≡ low4 y → x ≡ y
low4_tells x y hx hy e =
    sym (four_bytes x hx) ∙ ap (λ (l : List ℕ). get_or l 0 0 + 256 * get_or l 1 0 + 65536 * get_or l 2 0 + 16777216 * get_or l 3 0) e ∙ four_bytes y hy
