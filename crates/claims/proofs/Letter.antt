-- Accounted and NeverAgain of every machine with demand 3, by its book alone. Assumes nothing.
use Prim.Native.Nat.{ℕ, zero, suc, ◌+◌, ◌*◌, ◌<◌, ◌≤◌}
use mathlib.Core.Path.{◌≡◌, refl, sym, ap, ap₂, subst, ◌∙◌}
use mathlib.Core.Bool.{Bool, true, false, ◌&&◌}
use mathlib.Core.List.{List, [], ◌∷◌, ◌++◌, map}
use mathlib.Core.Logic.{inl, inr, ⊎_elim}
use native.Mathlib.Omega.{arith}
use lib.Dec.{eqb}
use lib.ListN.{length, take, drop, get_or, length-append, get_or-append}
use lib.Seq.{get_or-append_seam}
use borrow.Author.Tests.{eqb-true}
use Rattle.laws.specs.Bytes.{word_at}
use Rattle.std.specs.Prelude.{if◌then◌else◌}
use Rattle.calls.specs.declared.Call.TheVariants.{Write, Read, SetBlock, SetWindow, SetExpected, PacketByte, Reset, Command, PacketWord, Status, Srst}
use Rattle.sector.specs.Receive.{received}
use Rattle.controller.specs.Bits.{bit}
use Rattle.controller.specs.Fields.{◌▹◌}
use Rattle.outcomes.specs.Book.{Book, row≔, acmen≔, k≔, first_book, takes, judged, joined, fed, feed}
use Rattle.outcomes.specs.Machine.{Call, plain, sector, look, word, Answer, replied, handed, refused, seen, number, Machine}
use Rattle.claims.specs.Demand3.{Right, Faithful, Demand3}
use Rattle.claims.specs.Letter.{Sub, empty, keep, skip, noted, history, Traced, AccountedRun, Accounted, Ledger, first_ledger, waiting, entry, entered, enter, Rising, Waits, Numbered, Served, Gone, LedgerRun, noted_number, served, Climbing, NeverAgain}

-- Lists with places left out

whole : {A : Type 0} (xs : List A) → Sub xs xs
whole [] = empty
whole (x ∷ xs) = keep (whole xs)

sub_drop : {A : Type 0} {xs ys : List A} (v : ℕ) → Sub xs ys → Sub (drop v xs) ys
sub_drop zero h = h
sub_drop (suc v) empty = empty
sub_drop (suc v) (keep h) = skip (sub_drop v h)
sub_drop (suc v) (skip h) = skip (sub_drop (suc v) h)

sub_take : {A : Type 0} {xs ys : List A} (v : ℕ) → Sub xs ys → Sub (take v xs) ys
sub_take zero h = empty
sub_take (suc v) empty = empty
sub_take (suc v) (keep h) = keep (sub_take v h)
sub_take (suc v) (skip h) = skip (sub_take (suc v) h)

sub_last : {A : Type 0} (z : A) (ys : List A) → Sub (z ∷ []) (ys ++ z ∷ [])
sub_last z [] = keep empty
sub_last z (y ∷ ys) = skip (sub_last z ys)

sub_join : {A : Type 0} {xs ys : List A} (z : A) → Sub xs ys → Sub (xs ++ z ∷ []) (ys ++ z ∷ [])
sub_join z (empty {ys = ys}) = sub_last z ys
sub_join z (keep h) = keep (sub_join z h)
sub_join z (skip h) = skip (sub_join z h)

-- the first of a row stands somewhere in the history
found : {xs ys : List (List ℕ)} → Sub xs ys → (xs ≡ [] → ⊥) → (i : ℕ) × (i < length ys) × (get_or xs 0 [] ≡ get_or ys i [])
found empty some = absurd (some refl)
found (keep h) some = (0, omega arith, refl)
found (skip h) some = let at = found h some in let below = at.1 in (suc at.0, omega arith, at.2)

-- Numbers that rise

rising_from : (low high from : ℕ) (row : List ℕ) → from ≤ low → Rising low row high → Rising from row high
rising_from low high from [] le r = tt
rising_from low high from (i ∷ rest) le r = let first = r.0 in (omega arith, r.1, r.2)

rising_sub : {xs ys : List ℕ} (low high : ℕ) → Sub xs ys → Rising low ys high → Rising low xs high
rising_sub low high empty r = tt
rising_sub low high (keep {x} h) r = (r.0, r.1, rising_sub (x + 1) high h r.2)
rising_sub low high (skip {y} {xs} h) r = let first = r.0 in rising_from (y + 1) high low xs (omega arith) (rising_sub (y + 1) high h r.2)

rising_join : (low high : ℕ) (row : List ℕ) → low ≤ high → Rising low row high → Rising low (row ++ high ∷ []) (high + 1)
rising_join low high [] le r = (le, omega arith, tt)
rising_join low high (i ∷ rest) le r = let below = r.1 in (r.0, omega arith, rising_join (i + 1) high rest (omega arith) r.2)

waits_sub : {xs ys : List ℕ} (i : ℕ) → Sub xs ys → Waits i xs → Waits i ys
waits_sub i empty w = absurd w
waits_sub i (keep h) (inl e) = inl e
waits_sub i (keep h) (inr w) = inr (waits_sub i h w)
waits_sub i (skip h) w = inr (waits_sub i h w)

waits_join : (i n : ℕ) (row : List ℕ) → i < n → Waits i (row ++ n ∷ []) → Waits i row
waits_join i n [] less (inl e) = absurd (omega arith)
waits_join i n [] less (inr w) = absurd w
waits_join i n (j ∷ rest) less (inl e) = inl e
waits_join i n (j ∷ rest) less (inr w) = inr (waits_join i n rest less w)

-- The sectors of a log with these numbers

abbrev sectors_of : List (List ℕ) → List ℕ → List (List ℕ)
sectors_of log row = map (λ (i : ℕ). get_or log i []) row

map_take : {A B : Type 0} (f : A → B) (v : ℕ) (xs : List A) → map f (take v xs) ≡ take v (map f xs)
map_take f zero xs = refl
map_take f (suc v) [] = refl
map_take {B = B} f (suc v) (x ∷ xs) = ap (λ (ys : List B). f x ∷ ys) (map_take f v xs)

map_drop : {A B : Type 0} (f : A → B) (v : ℕ) (xs : List A) → map f (drop v xs) ≡ drop v (map f xs)
map_drop f zero xs = refl
map_drop f (suc v) [] = refl
map_drop f (suc v) (x ∷ xs) = map_drop f v xs

sectors_join :
    (log : List (List ℕ)) (s : List ℕ) (low : ℕ) (row : List ℕ) → Rising low row (length log)
    → sectors_of (log ++ s ∷ []) (row ++ length log ∷ []) ≡ sectors_of log row ++ s ∷ []
sectors_join log s low [] r = ap (λ (x : List ℕ). x ∷ []) (get_or-append_seam log s [] [])
sectors_join log s low (i ∷ rest) r =
    ap₂ (λ (x : List ℕ) (xs : List (List ℕ)). x ∷ xs) (get_or-append log (s ∷ []) [] i r.1) (sectors_join log s (i + 1) rest r.2)

-- where there is a first sector, it is the first number's, and from that number on the row rises
first :
    (log : List (List ℕ)) (row : List ℕ) (low high : ℕ) → Rising low row high → (sectors_of log row ≡ [] → ⊥)
    → Waits (get_or row 0 0) row × (get_or (sectors_of log row) 0 [] ≡ get_or log (get_or row 0 0) [])
    × (low ≤ get_or row 0 0) × (get_or row 0 0 < high) × Rising (get_or row 0 0) row high
first log [] low high r some = absurd (some refl)
first log (i ∷ rest) low high r some = let below = r.1 in (inl refl, refl, r.0, r.1, (omega arith, r.1, r.2))

-- What holds of a row of sectors beside its ledger and the history: no number is below low

record Tracked (low : ℕ) (row : List (List ℕ)) (g : Ledger) (h : List (List ℕ)) : Type 0 where
  listed : Sub row h
  sectors : sectors_of g.log g.row ≡ row
  rising : Rising low g.row (length g.log)
  below : low ≤ length g.log

numbered : (low : ℕ) (b : Book) (g : Ledger) (h : List (List ℕ)) → Tracked low b.row g h → Numbered b g
numbered low b g h t = record { sectors = t.sectors; rising = rising_from low (length g.log) 0 g.row (omega arith) t.rising }

-- a number that was given and does not wait
abbrev Out : ℕ → Ledger → Type 0
Out i g = (i < length g.log) × (Waits i g.row → ⊥)

-- after a call: and a number that is out stays out, for every new one is the log's length
record Next (low : ℕ) (g : Ledger) (row : List (List ℕ)) (k : Ledger) (h : List (List ℕ)) : Type 0 where
  tracked : Tracked low row k h
  out : (i : ℕ) → Out i g → Out i k

-- Every call makes one of five changes

module _ (low : ℕ) (b : Book) (g : Ledger) (h : List (List ℕ)) (t : Tracked low b.row g h) where
  stay : Next low g b.row g h
  stay = record { tracked = t; out = λ i o. o }

  fewer :
      (row : List (List ℕ)) (numbers : List ℕ) (l : List (List ℕ)) → Sub row l → Sub numbers g.row → sectors_of g.log numbers ≡ row
      → Next low g row (waiting numbers g) l
  fewer row numbers l listed sub e =
      record {
        tracked = record { listed = listed; sectors = e; rising = rising_sub low (length g.log) sub t.rising; below = t.below };
        out = λ i o. (o.0, λ w. o.1 (waits_sub i sub w));
      }

  withdraw : (v : ℕ) → Next low g (take v b.row) (waiting (take v g.row) g) h
  withdraw v =
      fewer (take v b.row) (take v g.row) h (sub_take v t.listed) (sub_take v (whole g.row))
      (map_take (λ (i : ℕ). get_or g.log i []) v g.row ∙ ap (take v) t.sectors)

  leave : (v : ℕ) → Next low g (drop v b.row) (waiting (drop v g.row) g) h
  leave v =
      fewer (drop v b.row) (drop v g.row) h (sub_drop v t.listed) (sub_drop v (whole g.row))
      (map_drop (λ (i : ℕ). get_or g.log i []) v g.row ∙ ap (drop v) t.sectors)

  join : (s : List ℕ) → Next low g (b.row ++ s ∷ []) (entry s g) (h ++ s ∷ [])
  join s =
      let le = t.below in
      let longer : length (g.log ++ s ∷ []) ≡ length g.log + 1 = length-append g.log (s ∷ []) in
      record {
        tracked =
            record {
              listed = sub_join s t.listed;
              sectors = sectors_join g.log s low g.row t.rising ∙ ap (λ (r : List (List ℕ)). r ++ s ∷ []) t.sectors;
              rising = rw longer (rising_join low (length g.log) g.row le t.rising);
              below = rw longer (omega arith);
            };
        out = λ i o. let less = o.0 in (rw longer (omega arith), λ w. o.1 (waits_join i (length g.log) g.row less w));
      }

  abbrev Changed : Call → Type 0
  Changed c = Next low g (fed c b).row (entered c b g) (noted c b h)

  written : (reg v : ℕ) → Changed (plain (Write reg v))
  written reg v = by (eqb reg 0x9C) refl
    where
      past : (d e : Bool)
          → Next low g (if d then b ▹ row≔ (take v b.row) else if e then b ▹ row≔ (drop v b.row) else b).row
          (if d then waiting (take v g.row) g else if e then waiting (drop v g.row) g else g) h
      past true e = withdraw v
      past false true = leave v
      past false false = stay

      by : (e : Bool) → eqb reg 0x9C ≡ e
          → Next low g (if e then b ▹ acmen≔ (bit v 6)
          else if eqb reg 0x9D then b ▹ row≔ (take v b.row)
          else if eqb reg 0x9E && b.acmen then b ▹ row≔ (drop v b.row)
          else b).row (entered (plain (Write reg v)) b g) h
      by true e = subst (λ (r : ℕ). Next low g b.row (entered (plain (Write r v)) b g) h) (sym (eqb-true reg 0x9C e)) stay
      by false e = past (eqb reg 0x9D) (eqb reg 0x9E && b.acmen)

  changed : (c : Call) → Changed c
  changed (plain (Write reg v)) = written reg v
  changed (plain Reset) = fewer [] [] [] empty empty refl
  changed (plain (Read reg)) = stay
  changed (plain (SetBlock n)) = stay
  changed (plain (SetWindow o w)) = stay
  changed (plain (SetExpected a)) = stay
  changed (plain (PacketByte i)) = stay
  changed (plain (Command v)) = stay
  changed (plain (PacketWord w)) = stay
  changed (plain Status) = stay
  changed (plain Srst) = stay
  changed (sector s) = by (takes b s)
    where
      by : (e : Bool) → Next low g (if e then joined s (judged s b) else judged s b).row (if e then entry (received b.expected s).bytes g else g)
          (if e then h ++ (received b.expected s).bytes ∷ [] else h)
      by true = join (received b.expected s).bytes
      by false = stay
  changed look = stay
  changed word = by (eqb (b.k + 1) b.words)
    where
      by : (e : Bool) → Next low g (if e then b ▹ row≔ (drop 1 b.row) ▹ k≔ 0 else b ▹ k≔ (b.k + 1)).row
          (if e then waiting (drop 1 g.row) g else g) h
      by true = leave 1
      by false = stay

  changes : (c : Call) (n : ℕ) → Next low g (feed c n b).row (enter c n b g) (history c n b h)
  unfolding feed
  changes c n = by (eqb n 0)
    where
      by : (e : Bool) → Next low g (if e then fed c b else b).row (if e then entered c b g else g) (if e then noted c b h else h)
      by true = changed c
      by false = stay

-- What holds of an answer

record Told (low : ℕ) (a : Answer) (b : Book) (g : Ledger) (h : List (List ℕ)) : Type 0 where
  traced : Traced a b h
  served_first : Served a b g
  -- no number below this one is served from now on
  up : ℕ
  tracked : Tracked up b.row g h
  climbs : (rest : List ℕ) → Climbing up rest → Climbing low (noted_number a g rest)
  kept_out : (i : ℕ) → (Waits i g.row → ⊥) → (rest : List ℕ) → (Waits i rest → ⊥) → Waits i (noted_number a g rest) → ⊥

module _ (low : ℕ) (b : Book) (g : Ledger) (h : List (List ℕ)) (t : Tracked low b.row g h) where
  told_word : (w : ℕ) → Right word (handed w) b → Told low (handed w) b g h
  told_word w right =
      let at = found t.listed right.0 in
      let one = first g.log g.row low (length g.log) t.rising (λ e. right.0 (sym t.sectors ∙ e)) in
      let less = one.3 in
      record {
        traced = (at.0, at.1, right.1 ∙ ap (λ (s : List ℕ). word_at s (b.offset + 2 * b.k)) at.2);
        served_first = (
          one.0,
          right.1
              ∙ ap (λ (s : List ℕ). word_at s (b.offset + 2 * b.k))
              (ap (λ (r : List (List ℕ)). get_or r 0 []) (sym t.sectors) ∙ one.1),
        );
        up = get_or g.row 0 0;
        tracked = record { listed = t.listed; sectors = t.sectors; rising = one.4; below = omega arith };
        climbs = λ rest c. (one.2, c);
        kept_out = λ i out rest later w. ⊎_elim (λ (e : i ≡ get_or g.row 0 0). out (subst (λ (j : ℕ). Waits j g.row) (sym e) one.0)) later w;
      }

  told : (c : Call) (a : Answer) → Right c a b → Told low a b g h
  told word (handed w) right = told_word w right
  told (plain c) (handed w) right = absurd right
  told (sector s) (handed w) right = absurd right
  told look (handed w) right = absurd right
  told c (replied n v) right = record { traced = tt; served_first = tt; up = low; tracked = t; climbs = λ rest e. e; kept_out = λ i out rest later. later }
  told c (refused n) right = record { traced = tt; served_first = tt; up = low; tracked = t; climbs = λ rest e. e; kept_out = λ i out rest later. later }
  told c (seen bytes) right = record { traced = tt; served_first = tt; up = low; tracked = t; climbs = λ rest e. e; kept_out = λ i out rest later. later }

-- Over a list of calls

module _ (M : Machine) where
  record Run (low : ℕ) (cs : List Call) (s : M.State) (b : Book) (g : Ledger) (h : List (List ℕ)) : Type 0 where
    accounted : AccountedRun M cs s b h
    gone : (i : ℕ) → Out i g → Gone i M cs s b g
    unserved : (i : ℕ) → Out i g → Waits i (served M cs s b g) → ⊥
    ledger : LedgerRun M cs s b g
    climbing : Climbing low (served M cs s b g)

  run : (cs : List Call) (low : ℕ) (s : M.State) (b : Book) (g : Ledger) (h : List (List ℕ)) → Faithful M cs s b → Tracked low b.row g h → Run low cs s b g h
  run [] low s b g h f t =
      record {
        accounted = t.listed;
        gone = λ i o. o.1;
        unserved = λ i o w. w;
        ledger = numbered low b g h t;
        climbing = tt;
      }
  run (c ∷ cs) low s b g h f t =
      let n = number (M.answer c s) in
      let d = told low b g h t c (M.answer c s) f.0 in
      let next = changes d.up b g h d.tracked c n in
      let r = run cs d.up (M.step c s) (feed c n b) (enter c n b g) (history c n b h) f.2 next.tracked in
      let gone : (i : ℕ) → Out i g → Gone i M (c ∷ cs) s b g = λ i o. (o.1, r.gone i (next.out i o)) in
      let unserved : (i : ℕ) → Out i g → Waits i (served M (c ∷ cs) s b g) → ⊥ =
      λ i o. d.kept_out i o.1 (served M cs (M.step c s) (feed c n b) (enter c n b g)) (r.unserved i (next.out i o)) in
      record {
        accounted = (t.listed, d.traced, r.accounted);
        gone = gone;
        unserved = unserved;
        ledger = (numbered low b g h t, d.served_first, λ i less out. (gone i (less, out), unserved i (less, out)), r.ledger);
        climbing = d.climbs (served M cs (M.step c s) (feed c n b) (enter c n b g)) r.climbing;
      }

  module _ (d : Demand3 M) where
    from_opening : (n : ℕ) → 3 ≤ n → n ≤ 255 → (x : List ℕ) → length x ≡ n * 2560 → (cs : List Call) → Run 0 cs (M.opened n x) first_book first_ledger []
    from_opening n low high x size cs =
        run cs 0 (M.opened n x) first_book first_ledger [] (d.words n low high x size cs)
        (record { listed = empty; sectors = refl; rising = tt; below = omega arith })

    pub accounted_by : Accounted M
    accounted_by n low high x size cs = (from_opening n low high x size cs).accounted

    pub never_again_by : NeverAgain M
    never_again_by =
        record {
          ledger = λ n low high x size cs. (from_opening n low high x size cs).ledger;
          forward = λ n low high x size cs. (from_opening n low high x size cs).climbing;
        }
