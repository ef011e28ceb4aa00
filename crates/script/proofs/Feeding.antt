-- Lines of a text, run one after the other: one line found and run is one step of `fed`. Assumes nothing.
use Rattle.std.proofs.Common.{◌≡◌, ℕ, suc, ◌+◌, ◌-◌, ◌<◌, ◌≤◌, Bool, true, false, not, eqb, ltb, ◌⊎◌, List, [], ◌∷◌, ◌++◌, length, take, drop, sym, refl, ap, ◌∙◌, ap₂, inl, inr, append-nil, le_of_suc-le-suc, not-suc-le-zero, arith, length-drop, take-append-drop, length-take-le, drop-drop, ltb-false, ltb-true, le-ltb, subst}
use lib.Seq.{append_snoc}
use borrow.Rule.Slice.PartMut.{put_mid}
use Rattle.std.specs.Prelude.{if◌then◌else◌, cond, Option, Some, None, MatchOption}
use Rattle.std.specs.Prelude.{position}
use Rattle.std.specs.List.{position_or_len}
use Rattle.std.proofs.lemmas.List.Recursion.{is_position_or_len}
use Rattle.laws.proofs.Choice.{if_false}
use Rattle.laws.proofs.Ends.{take_put, drop_put}
use Rattle.syntax.specs.Print.{room, over}
use Rattle.script.specs.Bench.{Left, ran, reply, carried_left, count, text, told}
use Rattle.script.specs.Feed.{Progress, with_line, fed, fed_left, line_end}
use Rattle.script.specs.declared.Bench.{Bench}
use Rattle.script.specs.declared.Ran.{Ran}
use Rattle.script.proofs.Running.{ran_is}

-- a byte before the rest of a line
abbrev after_one : Bool → ℕ → ℕ
after_one t n = if t then 0 else suc n

-- the first line of what is left, where it has an end
module _ (bytes : ℕ) (d : Progress) where
  first_cases : (t : Bool) (acc bs : List ℕ) (b : ℕ) → ltb bytes (length d.printed + room) ≡ false → after_one t (line_end bs) < suc (length bs)
      → ((more : List ℕ) → line_end bs < length bs → fed bytes d more bs ≡ fed bytes (with_line d (more ++ take (line_end bs) bs)) [] (drop (suc (line_end bs)) bs))
      → (if not t then fed bytes d (acc ++ (b ∷ [])) bs else if ltb bytes (length d.printed + room) then d else fed bytes (with_line d acc) [] bs)
      ≡ fed bytes (with_line d (acc ++ take (after_one t (line_end bs)) (b ∷ bs))) [] (drop (suc (after_one t (line_end bs))) (b ∷ bs))
  first_cases true acc bs b r h ih = if_false _ _ _ r ∙ ap (λ (l : List ℕ). fed bytes (with_line d l) [] bs) (sym (append-nil acc))
  first_cases false acc bs b r h ih =
      ih (acc ++ (b ∷ [])) (le_of_suc-le-suc h)
      ∙ ap (λ (l : List ℕ). fed bytes (with_line d l) [] (drop (suc (line_end bs)) bs)) (append_snoc acc b (take (line_end bs) bs))

  pub first : (xs acc : List ℕ) → ltb bytes (length d.printed + room) ≡ false → line_end xs < length xs
      → fed bytes d acc xs ≡ fed bytes (with_line d (acc ++ take (line_end xs) xs)) [] (drop (suc (line_end xs)) xs)
  unfolding fed line_end
  first [] acc r h = absurd (not-suc-le-zero h)
  first (b ∷ bs) acc r h = first_cases (eqb b 10) acc bs b r h (λ (more : List ℕ) (k : line_end bs < length bs). first bs more r k)

  -- or no line, or no room for it
  none_cases : (t : Bool) (acc bs : List ℕ) (b : ℕ) → (ltb bytes (length d.printed + room) ≡ false → suc (length bs) ≤ after_one t (line_end bs))
      → ((more : List ℕ) → (ltb bytes (length d.printed + room) ≡ false → length bs ≤ line_end bs) → fed bytes d more bs ≡ d)
      → (if not t then fed bytes d (acc ++ (b ∷ [])) bs else if ltb bytes (length d.printed + room) then d else fed bytes (with_line d acc) [] bs) ≡ d
  none_cases true acc bs b h ih = full (ltb bytes (length d.printed + room)) refl where
    full : (t : Bool) → ltb bytes (length d.printed + room) ≡ t → (if t then d else fed bytes (with_line d acc) [] bs) ≡ d
    full true e = refl
    full false e = absurd (not-suc-le-zero (h e))
  none_cases false acc bs b h ih = ih (acc ++ (b ∷ [])) (λ e. le_of_suc-le-suc (h e))

  pub none : (xs acc : List ℕ) → (ltb bytes (length d.printed + room) ≡ false → length xs ≤ line_end xs) → fed bytes d acc xs ≡ d
  unfolding fed line_end
  none [] acc h = refl
  none (b ∷ bs) acc h = none_cases (eqb b 10) acc bs b h (λ (more : List ℕ) (k : ltb bytes (length d.printed + room) ≡ false → length bs ≤ line_end bs). none bs more k)

-- the place of the first line end, found or not
pub line_end_is : (l : List ℕ) {o : Option ℕ} → o ≡ position (λ b. eqb b 10) l
    → MatchOption o (length l ≤ line_end l) (λ n. (n ≡ line_end l) × (n < length l))
unfolding line_end
line_end_is l e = subst (λ (o : Option ℕ). MatchOption o (length l ≤ line_end l) (λ n. (n ≡ line_end l) × (n < length l))) (sym e) (by (ltb place (length l)) refl) where
  place : ℕ
  place = position_or_len (λ b. eqb b 10) l

  same : line_end l ≡ place
  same = is_position_or_len line_end (λ b. eqb b 10) refl (λ x xs. ap (λ (k : ℕ). cond (eqb x 10) 0 k) (omega arith)) l

  by : (b : Bool) → ltb place (length l) ≡ b → MatchOption (cond b (Some place) None) (length l ≤ line_end l) (λ n. (n ≡ line_end l) × (n < length l))
  by true h = (sym same, ltb-true _ _ h)
  by false h = omega (arith, same, ltb-false _ _ h)

-- what a feeding has left so far, as progress: the first `size` bytes of the buffer are printed
abbrev pub now_at : Bench → List ℕ → List ℕ → List ℕ → ℕ → ℕ → Progress
now_at b m s out size taken = record { bench = b; memory = m; sector = s; printed = take size out; taken = taken }

-- what a line left, as progress
abbrev progress : Left Ran → List ℕ → ℕ → Progress
progress x p n = record { bench = x.result.bench; memory = x.memory; sector = x.sector; printed = p; taken = n }

-- it stands for the whole: what is left of the text leads where the text leads from the start, and behind what is printed nothing has changed
pub record Stands (bytes : ℕ) (start : Progress) (whole out₀ : List ℕ) (b : Bench) (m s out : List ℕ) (size taken : ℕ) : Type 0 where
  pub leads : fed bytes (now_at b m s out size taken) [] (drop taken whole) ≡ fed bytes start [] whole
  pub behind : drop size out ≡ drop size out₀

module _ (bytes : ℕ) (start : Progress) (whole out₀ : List ℕ) (b : Bench) (m s out : List ℕ) (size taken n : ℕ)
    (st : Stands bytes start whole out₀ b m s out size taken) (lo : length out ≡ bytes) (hs : size ≤ length out) (hr : room ≤ length out - size)
    (he : n < length (drop taken whole)) (ei : n ≡ line_end (drop taken whole)) where
  left_is : fed bytes (now_at b m s out size taken) [] (drop taken whole)
      ≡ fed bytes (with_line (now_at b m s out size taken) (take n (drop taken whole))) [] (drop (taken + (n + 1)) whole)
  left_is =
      let lp : length (take size out) ≡ size = length-take-le size out hs in
      let r : length (take size out) + room ≤ bytes = omega (arith, lp, lo, hs, hr) in
      let h : line_end (drop taken whole) < length (drop taken whole) = omega (arith, ei, he) in
      let q : taken + suc (line_end (drop taken whole)) ≡ taken + (n + 1) = omega (arith, ei) in
      first bytes (now_at b m s out size taken) (drop taken whole) [] (le-ltb _ _ r) h
      ∙ ap₂ (λ (k : ℕ) (rest : List ℕ). fed bytes (with_line (now_at b m s out size taken) (take k (drop taken whole))) [] rest) (sym ei)
      (drop-drop (suc (line_end (drop taken whole))) taken whole ∙ ap (λ (k : ℕ). drop k whole) q)

  pub turned : (w : List ℕ) (R : Ran) (m' s' o : List ℕ) → w ≡ drop size out
      → record { result = R; memory = m'; sector = s'; out = o } ≡ ran b m s (take n (drop taken whole)) w
      → Stands bytes start whole out₀ R.bench m' s' (put_mid size (length out - size) out o) (size + R.size) (taken + (n + 1))
  turned w R m' s' o ew e =
      let line = take n (drop taken whole) in
      let t = text (reply b m s line).answer (count b) in
      let out' = put_mid size (length out - size) out o in
      let lw : length w ≡ length out - size = ap length ew ∙ length-drop size out in
      let et : record { result = R; memory = m'; sector = s'; out = o } ≡ told (reply b m s line) (carried_left b line (reply b m s line).answer.number) (count b) w
      = e ∙ ran_is b m s line w (omega (arith, lw, hr)) in
      let ez : R.size ≡ length t = ap (λ (x : Left Ran). x.result.size) et in
      let eo : o ≡ over t (drop size out) = ap (λ (x : Left Ran). x.out) et ∙ ap (over t) ew in
      let ep : take (size + R.size) out' ≡ take size out ++ t = ap (λ (n : ℕ). take (size + n) out') ez ∙ take_put out t size hs o eo in
      let ll : length line ≡ n = length-take-le n (drop taken whole) (omega (arith, he)) in
      let en : taken + (n + 1) ≡ taken + (length line + 1) = omega (arith, ll) in
      let ed : now_at R.bench m' s' out' (size + R.size) (taken + (n + 1)) ≡ with_line (now_at b m s out size taken) line
      = ap (λ (x : Left Ran). progress x (take (size + R.size) out') (taken + (n + 1))) et ∙ ap₂ (progress (told (reply b m s line) (carried_left b line (reply b m s line).answer.number) (count b) w)) ep en in
      record {
        leads =
            ap (λ (d : Progress). fed bytes d [] (drop (taken + (n + 1)) whole)) ed
            ∙ sym left_is ∙ st.leads;
        behind =
            ap (λ (n : ℕ). drop (size + n) out') ez
            ∙ drop_put out t size hs o eo
            ∙ ap (drop (length t)) st.behind
            ∙ drop-drop (length t) size out₀
            ∙ ap (λ (n : ℕ). drop (size + n) out₀) (sym ez);
      }

-- what the call leaves is what the progress at the end says
left_as : (b : Bench) (m s out out₀ : List ℕ) (size taken : ℕ) (f : Progress) → now_at b m s out size taken ≡ f → size ≤ length out → drop size out ≡ drop size out₀
    → record { result = record { bench = b; taken = taken; size = size }; memory = m; sector = s; out = out } ≡ fed_left f out₀
left_as b m s out out₀ size taken f e h k =
    let n = sym (length-take-le size out h) in
    ap₂ (λ (z : ℕ) (o : List ℕ). record { result = record { bench = b; taken = taken; size = z }; memory = m; sector = s; out = o }) n
    (sym (take-append-drop size out) ∙ ap (λ (l : List ℕ). take size out ++ l) k ∙ ap (λ (z : ℕ). take size out ++ drop z out₀) n)
    ∙ ap (λ (d : Progress). fed_left d out₀) e

-- the end: no line is left, or no room
module _ {bytes : ℕ} {start : Progress} {whole out₀ : List ℕ} {b : Bench} {m s out : List ℕ} {size taken : ℕ} (st : Stands bytes start whole out₀ b m s out size taken)
    (lo : length out ≡ bytes) (hs : size ≤ length out) where
  settled : (bytes < size + room) ⊎ (length (drop taken whole) ≤ line_end (drop taken whole)) → now_at b m s out size taken ≡ fed bytes start [] whole
  settled q = sym (none bytes (now_at b m s out size taken) (drop taken whole) [] (stops q)) ∙ st.leads where
    stops : (bytes < size + room) ⊎ (length (drop taken whole) ≤ line_end (drop taken whole))
        → ltb bytes (length (take size out) + room) ≡ false → length (drop taken whole) ≤ line_end (drop taken whole)
    stops (inl f) e =
        let lp : length (take size out) ≡ size = length-take-le size out hs in
        let r : bytes < length (take size out) + room = omega (arith, lp, f) in
        let z : length (take size out) + room ≤ bytes = ltb-false _ _ e in
        omega (arith, r, z)
    stops (inr g) e = g

  pub left : (bytes < size + room) ⊎ (length (drop taken whole) ≤ line_end (drop taken whole))
      → record { result = record { bench = b; taken = taken; size = size }; memory = m; sector = s; out = out } ≡ fed_left (fed bytes start [] whole) out₀
  left q = left_as b m s out out₀ size taken (fed bytes start [] whole) (settled q) hs st.behind
