-- The parity that is written makes every word hold, and is the only one that does; a changed byte is told. Assumes nothing.
use mathlib.Core.Path.{◌≡◌, sym, ap, ap₂, ◌∙◌}
use mathlib.Core.Bool.{Bool, true}
use mathlib.Core.List.{List, ◌++◌, append_assoc}
use mathlib.Core.Logic.{⊎_elim}
use Prim.Native.Nat.{ℕ, suc, ◌+◌, ◌*◌, ◌-◌, ◌<◌, ◌≤◌}
use native.Mathlib.Nat.{le_of_eq}
use native.Mathlib.Omega.{arith}
use lib.ListN.{length, get_or, take, length-append, get_or-append}
use lib.Seq.{take_at, take_all, get_or-take, get_or-append-add, length-take-le, ext_get_or}
use Rattle.laws.specs.Bytes.{Bytes}
use Rattle.laws.specs.Listed.{listed}
use Rattle.laws.proofs.Bytes.{bytes_append}
use Rattle.laws.proofs.Choice.{both_true, left_true, right_true}
use Rattle.laws.proofs.Listed.{length_listed, getD_listed, bytes_listed, below_at, below_all}
use Rattle.laws.proofs.Wrap.{lt_or_ge}
use Rattle.parity.specs.Word.{holds, first_parity, second_parity}
use Rattle.parity.specs.Layout.{Code, p, q, place, value_at, word}
use Rattle.parity.specs.Parity.{parity_bytes, coded, with_parity, code_holds, parity_holds}
use Rattle.parity.proofs.WordLaws.{first_lt, second_lt, encode_holds, encode_only, first_same, second_same}
use Rattle.parity.proofs.Places.{p_place, q_tail, p_inside, q_inside, value_at_outside, value_at_same}
use Rattle.parity.proofs.Coded.{word_bytes, length_parity}

-- A code

-- where its symbols stand: n bytes of data, the first symbols of its words behind them, and the second ones behind these
pub record Placed (c : Code) (n : ℕ) : Type 0 where
  pub low : 16 ≤ n
  pub inside : (v m : ℕ) → v < 2 * c.words → m < c.data_size → place c v m < n
  pub first : (v : ℕ) → v < 2 * c.words → place c v c.data_size ≡ n + v
  pub second : (v : ℕ) → v < 2 * c.words → place c v (suc c.data_size) ≡ n + (2 * c.words + v)

pub p_placed : Placed p 2076
unfolding p
p_placed =
    record {
      low = omega arith;
      inside = λ v m hv hm. (p_inside v m hv hm).1;
      first = λ v h. p_place v 24 ∙ omega arith;
      second = λ v h. p_place v 25 ∙ omega arith;
    }

pub q_placed : Placed q 2248
unfolding q
q_placed =
    record {
      low = omega arith;
      inside = λ v m hv hm. (q_inside v m hv hm).1;
      first = λ v h. q_tail v 43 (omega arith) ∙ omega arith;
      second = λ v h. q_tail v 44 (omega arith) ∙ omega arith;
    }

module _ (c : Code) (n : ℕ) (at : Placed c n) (z : Bool) where
  abbrev w : ℕ
  w = 2 * c.words

  -- the words of a sector that has the bytes d in front
  module _ (d s : List ℕ) (size : length d ≡ n) (same : (k : ℕ) → k < n → get_or s k 0 ≡ get_or d k 0) where
    data_same : (v : ℕ) → v < w → (i : ℕ) → i < c.data_size → word c z s v i ≡ word c z d v i
    data_same v h i k = value_at_same z s d (place c v i) (same (place c v i) (at.inside v i h k))

    first_value : (v : ℕ) → v < w → word c z s v c.data_size ≡ get_or s (n + v) 0
    first_value v h = ap (value_at z s) (at.first v h) ∙ value_at_outside z s (n + v) (omega (arith, at.low))

    second_value : (v : ℕ) → v < w → word c z s v (suc c.data_size) ≡ get_or s (n + (w + v)) 0
    second_value v h = ap (value_at z s) (at.second v h) ∙ value_at_outside z s (n + (w + v)) (omega (arith, at.low))

    abbrev firsts : List ℕ
    firsts = listed w (λ v. first_parity c.data_size (word c z d v))

    abbrev seconds : List ℕ
    seconds = listed w (λ v. second_parity c.data_size (word c z d v))

    firsts_length : length firsts ≡ w
    firsts_length = length_listed w (λ v. first_parity c.data_size (word c z d v))

    two : c.data_size + 2 ≡ suc (suc c.data_size)
    two = omega arith

    -- the parity bytes of d, as the words' two symbols
    parity_first : (v : ℕ) → v < w → get_or (parity_bytes c z d) v 0 ≡ first_parity c.data_size (word c z s v)
    parity_first v h =
        get_or-append firsts seconds 0 v (omega (arith, firsts_length))
        ∙ getD_listed w (λ u. first_parity c.data_size (word c z d u)) v h
        ∙ sym (first_same c.data_size (word c z s v) (word c z d v) (data_same v h))

    parity_second : (v : ℕ) → v < w → get_or (parity_bytes c z d) (w + v) 0 ≡ second_parity c.data_size (word c z s v)
    parity_second v h =
        ap (λ (k : ℕ). get_or (firsts ++ seconds) (k + v) 0) (sym firsts_length) ∙ get_or-append-add firsts seconds v 0
        ∙ getD_listed w (λ u. second_parity c.data_size (word c z d u)) v h
        ∙ sym (second_same c.data_size (word c z s v) (word c z d v) (data_same v h))

    -- they stand behind the data just where the code holds
    code_valid : Bytes s → ((k : ℕ) → k < w + w → get_or s (n + k) 0 ≡ get_or (parity_bytes c z d) k 0) → code_holds c z s ≡ true
    unfolding code_holds
    code_valid b e =
        below_all w (λ v. holds (c.data_size + 2) (word c z s v))
        (λ v h.
        ap (λ (k : ℕ). holds k (word c z s v)) two
        ∙ encode_holds c.data_size (word c z s v) (word_bytes c z s v b)
        (first_value v h ∙ e v (omega arith) ∙ parity_first v h) (second_value v h ∙ e (w + v) (omega arith) ∙ parity_second v h))

    code_bytes : Bytes s → code_holds c z s ≡ true → (k : ℕ) → k < w + w → get_or s (n + k) 0 ≡ get_or (parity_bytes c z d) k 0
    unfolding code_holds
    code_bytes b t k h =
        ⊎_elim (λ (l : k < w). sym (first_value k l) ∙ (symbols k l).0 ∙ sym (parity_first k l))
        (λ (l : w ≤ k).
        let e : w + (k - w) ≡ k = omega arith in
        let r : k - w < w = omega arith in
        ap (λ (i : ℕ). get_or s (n + i) 0) (sym e) ∙ sym (second_value (k - w) r) ∙ (symbols (k - w) r).1 ∙ sym (parity_second (k - w) r)
        ∙ ap (λ (i : ℕ). get_or (parity_bytes c z d) i 0) e)
        (lt_or_ge k w)
      where
        symbols : (v : ℕ) → v < w
            → (word c z s v c.data_size ≡ first_parity c.data_size (word c z s v))
            × (word c z s v (suc c.data_size) ≡ second_parity c.data_size (word c z s v))
        symbols v h =
            encode_only c.data_size (word c z s v) (word_bytes c z s v b)
            (ap (λ (k : ℕ). holds k (word c z s v)) (sym two) ∙ below_at w (λ u. holds (c.data_size + 2) (word c z s u)) t v h)

  -- the same of the front of a sector
  module _ (s : List ℕ) (b : Bytes s) where
    pub front_valid : (d : List ℕ) → length d ≡ n → take (n + (w + w)) s ≡ coded c z d → code_holds c z s ≡ true
    front_valid d size e = code_valid d s size same b behind
      where
        at_front : (k : ℕ) → k < n + (w + w) → get_or s k 0 ≡ get_or (coded c z d) k 0
        at_front k h = sym (get_or-take (n + (w + w)) s k 0 h) ∙ ap (λ (l : List ℕ). get_or l k 0) e

        same : (k : ℕ) → k < n → get_or s k 0 ≡ get_or d k 0
        same k h = at_front k (omega arith) ∙ get_or-append d (parity_bytes c z d) 0 k (omega arith)

        behind : (k : ℕ) → k < w + w → get_or s (n + k) 0 ≡ get_or (parity_bytes c z d) k 0
        behind k h =
            at_front (n + k) (omega arith) ∙ ap (λ (i : ℕ). get_or (coded c z d) (i + k) 0) (sym size) ∙ get_or-append-add d (parity_bytes c z d) k 0

    pub front_only : n + (w + w) ≤ length s → code_holds c z s ≡ true → take (n + (w + w)) s ≡ coded c z (take n s)
    front_only room t =
        ext_get_or 0 (take (n + (w + w)) s) (coded c z (take n s)) (long ∙ sym coded_long)
        (λ k h. get_or-take (n + (w + w)) s k 0 (omega (arith, long)) ∙ each k (omega (arith, long)))
      where
        long : length (take (n + (w + w)) s) ≡ n + (w + w)
        long = length-take-le (n + (w + w)) s room

        size : length (take n s) ≡ n
        size = length-take-le n s (omega arith)

        coded_long : length (coded c z (take n s)) ≡ n + (w + w)
        coded_long = length-append (take n s) (parity_bytes c z (take n s)) ∙ ap₂ (λ (x y : ℕ). x + y) size (length_parity c z (take n s))

        same : (k : ℕ) → k < n → get_or s k 0 ≡ get_or (take n s) k 0
        same k h = sym (get_or-take n s k 0 h)

        each : (k : ℕ) → k < n + (w + w) → get_or s k 0 ≡ get_or (coded c z (take n s)) k 0
        each k h =
            ⊎_elim (λ (l : k < n). same k l ∙ sym (get_or-append (take n s) (parity_bytes c z (take n s)) 0 k (omega (arith, size))))
            (λ (l : n ≤ k).
            let e : n + (k - n) ≡ k = omega arith in
            ap (λ (i : ℕ). get_or s i 0) (sym e) ∙ code_bytes (take n s) s size same b t (k - n) (omega arith)
            ∙ sym (ap (λ (i : ℕ). get_or (coded c z (take n s)) (i + (k - n)) 0) (sym size) ∙ get_or-append-add (take n s) (parity_bytes c z (take n s)) (k - n) 0)
            ∙ ap (λ (i : ℕ). get_or (coded c z (take n s)) i 0) e)
            (lt_or_ge k n)

  pub bytes_coded : (d : List ℕ) → Bytes d → Bytes (coded c z d)
  bytes_coded d b =
      bytes_append d (parity_bytes c z d) b
      (bytes_append (listed w (λ v. first_parity c.data_size (word c z d v))) (listed w (λ v. second_parity c.data_size (word c z d v)))
      (bytes_listed w (λ v. first_parity c.data_size (word c z d v)) (λ v. first_lt c.data_size (word c z d v) (word_bytes c z d v b)))
      (bytes_listed w (λ v. second_parity c.data_size (word c z d v)) (λ v. second_lt c.data_size (word c z d v) (word_bytes c z d v b))))

  pub length_coded : (d : List ℕ) → length d ≡ n → length (coded c z d) ≡ n + (w + w)
  length_coded d size = length-append d (parity_bytes c z d) ∙ ap₂ (λ (x y : ℕ). x + y) size (length_parity c z d)

-- Both codes

module _ (z : Bool) (d : List ℕ) (size : length d ≡ 2076) where
  -- the data, and behind it both parities
  pub with_parts : with_parity z d ≡ d ++ (parity_bytes p z d ++ parity_bytes q z (coded p z d))
  unfolding with_parity
  with_parts = append_assoc d (parity_bytes p z d) (parity_bytes q z (coded p z d))

  pub p_long : length (coded p z d) ≡ 2248
  unfolding p
  p_long = length_coded p 2076 p_placed z d size

  pub length_with : length (with_parity z d) ≡ 2352
  unfolding with_parity q
  length_with = length_coded q 2248 q_placed z (coded p z d) p_long

  pub front_with : take 2076 (with_parity z d) ≡ d
  front_with = ap (take 2076) with_parts ∙ take_at d (parity_bytes p z d ++ parity_bytes q z (coded p z d)) 2076 size

  pub bytes_with : Bytes d → Bytes (with_parity z d)
  unfolding with_parity
  bytes_with b = bytes_coded q 2248 q_placed z (coded p z d) (bytes_coded p 2076 p_placed z d b)

  pub valid_with : Bytes d → parity_holds z (with_parity z d) ≡ true
  unfolding parity_holds with_parity p q
  valid_with b =
      let all = bytes_with b in
      both_true (code_holds p z (with_parity z d)) (code_holds q z (with_parity z d))
      (front_valid p 2076 p_placed z (with_parity z d) all d size (take_at (coded p z d) (parity_bytes q z (coded p z d)) 2248 p_long))
      (front_valid q 2248 q_placed z (with_parity z d) all (coded p z d) p_long (take_all 2352 (with_parity z d) (le_of_eq length_with)))

pub only_with : (z : Bool) (s : List ℕ) → length s ≡ 2352 → Bytes s → parity_holds z s ≡ true → s ≡ with_parity z (take 2076 s)
unfolding parity_holds with_parity p q
only_with z s size b t =
    sym (take_all 2352 s (le_of_eq size))
    ∙ front_only q 2248 q_placed z s b (omega arith) (right_true (code_holds p z s) (code_holds q z s) t)
    ∙ ap (coded q z) (front_only p 2076 p_placed z s b (omega arith) (left_true (code_holds p z s) (code_holds q z s) t))
