-- Sectors that are good with mode byte 1 and with mode byte 2, TwoKindsClaim; and good sectors of form 2, with a code and without one. Assumes nothing.
use mathlib.Core.Path.{◌≡◌, refl, sym, ap, ap₂, ◌∙◌}
use mathlib.Core.Bool.{Bool, true, false, not, ◌||◌}
use mathlib.Core.List.{List, [], ◌∷◌, ◌++◌, append_assoc}
use Prim.Native.Nat.{ℕ, ◌+◌, ◌<◌, ◌≤◌}
use native.Mathlib.Omega.{arith}
use lib.ListN.{length, take, drop, get_or, set, replicate, length-append, length-drop, length-replicate}
use lib.Bits.{bit_xor}
use lib.Seq.{take_at, take_all, drop_at, drop-drop, get_or-drop}
use Rattle.laws.specs.Bytes.{Bytes}
use Rattle.laws.specs.Same.{same}
use Rattle.laws.proofs.Bytes.{bytes_append, bytes_of, bytes_replicate}
use Rattle.laws.proofs.Changed.{drop_changed}
use Rattle.laws.proofs.Fill.{drop_replicate}
use Rattle.laws.proofs.Same.{same_of, same_is}
use Rattle.laws.proofs.Tests.{or_left, or_right}
use Rattle.edc.specs.Edc.{edc}
use Rattle.edc.proofs.Laws.{edc_lt, edc_append}
use Rattle.edc.proofs.Octets.{to_one}
use Rattle.sector.specs.declared.Address.{Address}
use Rattle.sector.specs.declared.Judgement.{Judgement}
use Rattle.sector.specs.declared.Subheader.{Subheader}
use Rattle.sector.specs.Address.{valid}
use Rattle.sector.specs.Layout.{subheader_bytes, agrees, kind_read, layout, layout_read}
use Rattle.sector.specs.Sector.{low4, code_of, body, encoded}
use Rattle.sector.specs.Judge.{sync_holds, mode_holds, code_right, unwritten, edc_holds, address_holds, judgement, no_facts}
use Rattle.sector.specs.Calls.{judge_answer}
use Rattle.sector.specs.Claims.{verdict, GoodAsBoth, TwoKindsClaim}
use Rattle.sector.proofs.Answers.{judge_done, judged_facts}
use Rattle.sector.proofs.Frames.{bytes_low4, length_encoded, bytes_encoded, code_encoded, front_encoded}
use Rattle.sector.proofs.Layouts.{fits}
use Rattle.sector.proofs.Sealed.{kind_encoded, judged_own}

unfoldable pub start : Address
start = record { minute = 0; second = 2; frame = 0 }

-- the first sixteen bytes, with a mode byte, and user bytes of one fill; bit 5 of the fill names the form
module _ (mode fill : ℕ) where
  front : List ℕ
  front = (0 ∷ 255 ∷ 255 ∷ 255 ∷ 255 ∷ 255 ∷ 255 ∷ 255 ∷ 255 ∷ 255 ∷ 255 ∷ 0 ∷ 0 ∷ 2 ∷ 0 ∷ mode ∷ []) ++ replicate 2048 fill

  front_long : length front ≡ 2064
  unfolding front
  front_long = ap (λ (n : ℕ). 16 + n) (length-replicate {A = ℕ} 2048 fill)

  front_bytes : mode < 256 → fill < 256 → Bytes front
  unfolding front
  front_bytes m b =
      bytes_append (0 ∷ 255 ∷ 255 ∷ 255 ∷ 255 ∷ 255 ∷ 255 ∷ 255 ∷ 255 ∷ 255 ∷ 255 ∷ 0 ∷ 0 ∷ 2 ∷ 0 ∷ mode ∷ []) (replicate 2048 fill)
      (bytes_append (0 ∷ 255 ∷ 255 ∷ 255 ∷ 255 ∷ 255 ∷ 255 ∷ 255 ∷ 255 ∷ 255 ∷ 255 ∷ 0 ∷ 0 ∷ 2 ∷ 0 ∷ []) (mode ∷ [])
      (bytes_of (0 ∷ 255 ∷ 255 ∷ 255 ∷ 255 ∷ 255 ∷ 255 ∷ 255 ∷ 255 ∷ 255 ∷ 255 ∷ 0 ∷ 0 ∷ 2 ∷ 0 ∷ []) refl) (bytes_replicate 1 mode m))
      (bytes_replicate 2048 fill b)

-- behind them the code of mode 1, and any 284 bytes
module _ (fill : ℕ) (rest : List ℕ) (size : length rest ≡ 284) where
  made : ℕ → List ℕ
  made mode = front mode fill ++ (low4 (edc 0 (front 1 fill)) ++ rest)

  made_long : (mode : ℕ) → length (made mode) ≡ 2352
  unfolding made
  made_long mode =
      let code = low4 (edc 0 (front 1 fill)) in
      length-append (front mode fill) (code ++ rest) ∙ ap₂ (λ (m n : ℕ). m + n) (front_long mode fill) (length-append code rest ∙ ap (λ (n : ℕ). 4 + n) size)

  made_changed : set (made 1) 15 2 ≡ made 2
  unfolding made front
  made_changed = refl

  sync_made : (mode : ℕ) → sync_holds (made mode) ≡ true
  unfolding sync_holds made front
  sync_made mode = refl

  address_made : (mode : ℕ) → address_holds start (made mode) ≡ true
  unfolding address_holds made front start
  address_made mode = refl

  kind_1 : kind_read (made 1) ≡ 1
  unfolding kind_read made front
  kind_1 = refl

  mode_1_holds : mode_holds (made 1) ≡ true
  unfolding mode_holds made front
  mode_1_holds = refl

  edc_1 : edc_holds (made 1) ≡ true
  unfolding edc_holds code_right made layout
  edc_1 =
      ap (λ (n : ℕ). code_right (layout n) (made 1) || unwritten (layout n) (made 1)) kind_1
      ∙ or_left (code_right (layout 1) (made 1)) (unwritten (layout 1) (made 1))
      (same_of (take 4 (drop 2064 (made 1))) (low4 (edc 0 (take 2064 (made 1))))
      (ap (take 4) (drop_at (front 1 fill) (low4 (edc 0 (front 1 fill)) ++ rest) 2064 (front_long 1 fill))
      ∙ ap (λ (x : List ℕ). low4 (edc 0 x)) (sym (take_at (front 1 fill) (low4 (edc 0 (front 1 fill)) ++ rest) 2064 (front_long 1 fill)))))

  judged : (mode : ℕ) → mode_holds (made mode) ≡ true → edc_holds (made mode) ≡ true → judge_answer (made mode) start ≡ verdict no_facts
  unfolding judgement start
  judged mode m e =
      sym (judge_done (made mode) start (made_long mode) refl)
      ∙ ap (λ (j : Judgement). verdict j) (four (sync_holds (made mode)) (mode_holds (made mode)) (edc_holds (made mode)) (address_holds start (made mode)) (sync_made mode) m e (address_made mode))
    where
      four : (a b c d : Bool) → a ≡ true → b ≡ true → c ≡ true → d ≡ true → record { sync = not a; mode = not b; edc = not c; address = not d } ≡ no_facts
      four a b c d p q r t = simp (p, q, r, t)

  good_as_both : (form : ℕ) → fill < 256 → Bytes rest → mode_holds (made 2) ≡ true → kind_read (made 2) ≡ form → edc_holds (made 2) ≡ true → GoodAsBoth form
  unfolding made
  good_as_both form b r mode kind e = record {
    sector = made 1;
    address = start;
    bytes =
        bytes_append (front 1 fill) (low4 (edc 0 (front 1 fill)) ++ rest) (front_bytes 1 fill (omega arith) b)
        (bytes_append (low4 (edc 0 (front 1 fill))) rest (bytes_low4 (edc 0 (front 1 fill))) r);
    good = judged 1 mode_1_holds edc_1;
    kind = kind_1;
    good_too = ap (λ (x : List ℕ). judge_answer x start) made_changed ∙ judged 2 mode e;
    kind_too = ap kind_read made_changed ∙ kind;
  }

-- as form 2: fill 20h, and zeros where form 2 has its code
zeros_284 : List ℕ
zeros_284 = replicate 284 0

length_zeros : length zeros_284 ≡ 284
unfolding zeros_284
length_zeros = length-replicate {A = ℕ} 284 0

form_2_mode : mode_holds (made 32 zeros_284 length_zeros 2) ≡ true
unfolding mode_holds made front
form_2_mode = refl

form_2_kind : kind_read (made 32 zeros_284 length_zeros 2) ≡ 3
unfolding kind_read made front
form_2_kind = refl

-- the four bytes there
form_2_code : take 4 (drop 2348 (made 32 zeros_284 length_zeros 2)) ≡ replicate 4 0
unfolding made zeros_284
form_2_code =
    let rest : List ℕ = replicate 284 0 in
    let code = low4 (edc 0 (front 1 32)) in
    ap (take 4)
    (sym (drop-drop 284 2064 (front 2 32 ++ (code ++ rest))) ∙ ap (drop 284) (drop_at (front 2 32) (code ++ rest) 2064 (front_long 2 32))
    ∙ drop_replicate 280 4 0)

form_2_edc : edc_holds (made 32 zeros_284 length_zeros 2) ≡ true
unfolding edc_holds unwritten layout
form_2_edc =
    let s = made 32 zeros_284 length_zeros 2 in
    ap (λ (n : ℕ). code_right (layout n) s || unwritten (layout n) s) form_2_kind
    ∙ or_right (code_right (layout 3) s) (unwritten (layout 3) s) (same_of (take 4 (drop 2348 s)) (replicate 4 0) form_2_code)

good_as_both_3 : GoodAsBoth 3
unfolding zeros_284
good_as_both_3 = good_as_both 32 zeros_284 length_zeros 3 (omega arith) (bytes_replicate 284 0 (omega arith)) form_2_mode form_2_kind form_2_edc

-- as form 1: fill 0, and in place of mode 1's last four zeros the code of form 1
before_code : List ℕ
before_code = replicate 2048 0 ++ (low4 (edc 0 (front 1 0)) ++ replicate 4 0)

with_code : List ℕ
with_code = replicate 4 0 ++ (low4 (edc 0 before_code) ++ replicate 276 0)

with_code_long : length with_code ≡ 284
unfolding with_code
with_code_long = refl

form_1_mode : mode_holds (made 0 with_code with_code_long 2) ≡ true
unfolding mode_holds made front
form_1_mode = refl

form_1_kind : kind_read (made 0 with_code with_code_long 2) ≡ 2
unfolding kind_read made front
form_1_kind = refl

-- the bytes before the code of form 1, and the code
parts : made 0 with_code with_code_long 2 ≡ (front 2 0 ++ (low4 (edc 0 (front 1 0)) ++ replicate 4 0)) ++ (low4 (edc 0 before_code) ++ replicate 276 0)
unfolding made with_code
parts = sym (append_assoc (front 2 0) (low4 (edc 0 (front 1 0)) ++ replicate 4 0) (low4 (edc 0 before_code) ++ replicate 276 0))

parts_long : length (front 2 0 ++ (low4 (edc 0 (front 1 0)) ++ replicate 4 0)) ≡ 2072
parts_long = length-append (front 2 0) (low4 (edc 0 (front 1 0)) ++ replicate 4 0) ∙ ap (λ (n : ℕ). n + 8) (front_long 2 0)

covered : drop 16 (front 2 0 ++ (low4 (edc 0 (front 1 0)) ++ replicate 4 0)) ≡ before_code
unfolding front before_code
covered = refl

form_1_edc : edc_holds (made 0 with_code with_code_long 2) ≡ true
unfolding edc_holds code_right layout
form_1_edc =
    let s = made 0 with_code with_code_long 2 in
    let before = front 2 0 ++ (low4 (edc 0 (front 1 0)) ++ replicate 4 0) in
    let code = low4 (edc 0 before_code) ++ replicate 276 0 in
    ap (λ (n : ℕ). code_right (layout n) s || unwritten (layout n) s) form_1_kind
    ∙ or_left (code_right (layout 2) s) (unwritten (layout 2) s)
    (same_of (take 4 (drop 2072 s)) (low4 (edc 0 (drop 16 (take 2072 s))))
    (ap (λ (x : List ℕ). take 4 (drop 2072 x)) parts ∙ ap (take 4) (drop_at before code 2072 parts_long)
    ∙ sym (ap (λ (x : List ℕ). low4 (edc 0 (drop 16 (take 2072 x)))) parts ∙ ap (λ (x : List ℕ). low4 (edc 0 (drop 16 x))) (take_at before code 2072 parts_long) ∙ ap (λ (x : List ℕ). low4 (edc 0 x)) covered)))

good_as_both_2 : GoodAsBoth 2
unfolding with_code
good_as_both_2 =
    good_as_both 0 with_code with_code_long 2 (omega arith)
    (bytes_append (replicate 4 0) (low4 (edc 0 before_code) ++ replicate 276 0) (bytes_replicate 4 0 (omega arith))
    (bytes_append (low4 (edc 0 before_code)) (replicate 276 0) (bytes_low4 (edc 0 before_code)) (bytes_replicate 276 0 (omega arith))))
    form_1_mode form_1_kind form_1_edc

pub two_kinds : TwoKindsClaim
two_kinds = (good_as_both_2, good_as_both_3)

-- Good sectors of form 2

pub record Good (there : Bool) : Type 0 where
  pub sector : List ℕ
  pub bytes : Bytes sector
  pub kind : kind_read sector ≡ 3
  pub code : unwritten (layout_read sector) sector ≡ not there
  pub good : judge_answer sector start ≡ verdict no_facts

form_2_bytes : Bytes (made 32 zeros_284 length_zeros 2)
unfolding made zeros_284
form_2_bytes =
    bytes_append (front 2 32) (low4 (edc 0 (front 1 32)) ++ replicate 284 0) (front_bytes 2 32 (omega arith) (omega arith))
    (bytes_append (low4 (edc 0 (front 1 32))) (replicate 284 0) (bytes_low4 (edc 0 (front 1 32))) (bytes_replicate 284 0 (omega arith)))

pub bare : Good false
unfolding unwritten layout
bare = record {
  sector = made 32 zeros_284 length_zeros 2;
  bytes = form_2_bytes;
  kind = form_2_kind;
  code =
      ap (λ (n : ℕ). unwritten (layout n) (made 32 zeros_284 length_zeros 2)) form_2_kind
      ∙ same_of (take 4 (drop 2348 (made 32 zeros_284 length_zeros 2))) (replicate 4 0) form_2_code;
  good = judged 32 zeros_284 length_zeros 2 form_2_mode form_2_edc;
}

pub bare_long : length bare.sector ≡ 2352
unfolding bare
bare_long = made_long 32 zeros_284 length_zeros 2

pub bare_zeros : take 4 (drop 2348 bare.sector) ≡ replicate 4 0
unfolding bare
bare_zeros = form_2_code

pub bare_good : judgement (record { minute = 0; second = 2; frame = 0 }) bare.sector ≡ no_facts
unfolding start
bare_good = judged_facts bare.sector start no_facts bare.good

-- one whose last four user bytes make its code 1: one byte of it is not zero
subheader : Subheader
subheader = record { file = 0; channel = 0; submode = 32; coding = 0 }

-- what the code covers before them
ahead : List ℕ
ahead = 0 ∷ 0 ∷ 32 ∷ 0 ∷ 0 ∷ 0 ∷ 32 ∷ 0 ∷ replicate 2320 0

last : ℕ
last = bit_xor (edc 0 ahead) 0xB0030003

buffer : List ℕ
buffer = replicate 2344 0 ++ (low4 last ++ replicate 4 0)

buffer_long : length buffer ≡ 2352
unfolding buffer
buffer_long = refl

buffer_bytes : Bytes buffer
unfolding buffer
buffer_bytes =
    bytes_append (replicate 2344 0) (low4 last ++ replicate 4 0) (bytes_replicate 2344 0 (omega arith))
    (bytes_append (low4 last) (replicate 4 0) (bytes_low4 last) (bytes_replicate 4 0 (omega arith)))

sealed_so : List ℕ
sealed_so = encoded (layout 3) start subheader buffer

before : List ℕ
before = body (layout 3) start subheader buffer

pub start_valid : valid start ≡ true
unfolding start
start_valid = refl

agreeing : agrees 3 subheader ≡ true
unfolding subheader
agreeing = refl

so_long : length sealed_so ≡ 2352
unfolding sealed_so
so_long = length_encoded (layout 3) start subheader buffer buffer_long (fits 3)

so_bytes : Bytes sealed_so
unfolding sealed_so subheader
so_bytes = bytes_encoded (layout 3) start subheader buffer (fits 3) start_valid (bytes_of (subheader_bytes subheader) refl) buffer_bytes buffer_long

before_front : take 2348 sealed_so ≡ before
unfolding sealed_so before layout
before_front = front_encoded (layout 3) start subheader buffer buffer_long (fits 3)

covered_so : drop 16 before ≡ ahead ++ low4 last
unfolding before body layout buffer subheader start ahead
covered_so = refl

code_one : edc 0 (drop 16 before) ≡ 1
unfolding last
code_one = ap (edc 0) covered_so ∙ edc_append 0 ahead (low4 last) ∙ to_one (edc 0 ahead) last (edc_lt ahead) refl

-- the code that stands there
stored : drop 2348 sealed_so ≡ 1 ∷ 0 ∷ 0 ∷ 0 ∷ []
unfolding sealed_so code_right layout
stored =
    let size : length (drop 2348 sealed_so) ≤ 4 = simp length-drop (omega (arith, so_long)) in
    sym (take_all 4 (drop 2348 sealed_so) size)
    ∙ same_is (take 4 (drop 2348 sealed_so)) (code_of (layout 3) (take 2348 sealed_so)) (code_encoded (layout 3) start subheader buffer buffer_long (fits 3))
    ∙ ap (λ (y : List ℕ). low4 (edc 0 (drop 16 y))) before_front
    ∙ ap low4 code_one

so_kind : kind_read sealed_so ≡ 3
unfolding sealed_so
so_kind = kind_encoded 3 start subheader buffer buffer_long agreeing

pub with_one : Good true
unfolding unwritten layout sealed_so
with_one = record {
  sector = sealed_so;
  bytes = so_bytes;
  kind = so_kind;
  code = ap (λ (n : ℕ). unwritten (layout n) sealed_so) so_kind ∙ ap (λ (x : List ℕ). same (take 4 x) (replicate 4 0)) stored;
  good =
      sym (judge_done sealed_so start so_long start_valid)
      ∙ ap (λ (j : Judgement). verdict j) (judged_own 3 start subheader buffer buffer_long agreeing);
}

-- without that byte it has none
pub one_byte : get_or with_one.sector 2348 0 ≡ 1
unfolding with_one
one_byte = sym (get_or-drop 2348 sealed_so 0 0) ∙ ap (λ (x : List ℕ). get_or x 0 0) stored

pub one_emptied : unwritten (layout_read with_one.sector) (set with_one.sector 2348 0) ≡ true
unfolding with_one unwritten layout
one_emptied =
    ap (λ (n : ℕ). unwritten (layout n) (set sealed_so 2348 0)) so_kind
    ∙ ap (λ (x : List ℕ). same (take 4 x) (replicate 4 0)) (drop_changed 2348 4 2348 0 sealed_so (omega arith) ∙ ap (λ (x : List ℕ). set x 0 0) stored)
