-- How the ring represents a row of sectors after each event of the place, and what is read of its first sector. Assumes nothing.
use Prim.Native.Nat.{ℕ, ◌+◌, ◌-◌, ◌*◌, ◌%◌, ◌<◌, ◌≤◌}
use mathlib.Core.Path.{◌≡◌, refl, sym, ◌∙◌, ap, ap₂}
use mathlib.Core.Logic.{⊎_elim}
use mathlib.Core.List.{List, [], ◌∷◌, ◌++◌}
use native.Mathlib.Nat.{mod-lt, le_refl, add_assoc}
use native.Mathlib.Omega.{arith}
use lib.Dec.{eqb}
use lib.ListN.{length, take, drop, get_or, length-append, length-drop, get_or-append}
use lib.Seq.{get_or-drop, get_or-take, get_or_at, length-take-le}
use Rattle.controller.specs.declared.step.Event.TheVariants.{Store, Advance, Rewind, Move, Clear}
use Rattle.ring.specs.Memory.{base, block, stored}
use Rattle.ring.specs.Place.{PlaceSound, opened, full, place_step}
use Rattle.ring.specs.Represents.{Represents}
use Rattle.ring.specs.declared.Place.{Place}
use Rattle.laws.specs.Bytes.{word_at}
use Rattle.laws.proofs.Wrap.{lt_or_ge, wrap_zero, wrap_add, wrap_apart, wrap_full}
use Rattle.laws.proofs.Window.{get_d_window, window_window}
use Rattle.ring.proofs.Blocks.{within, length_stored, block_stored, block_other}

-- an empty row is represented at any place whose two blocks are the same
empty : (p : Place) (ring : List ℕ) → PlaceSound p → p.b ≡ p.t → length ring ≡ p.n * 2560 → Represents p 0 0 ring []
empty p ring s e w =
    record {
      place = s;
      filled = le_refl 0;
      room = omega (arith, s.least);
      b_after = e ∙ sym (wrap_zero p.t p.n s.t_in);
      whole = w;
      good = refl;
      blocks = λ i l. absurd (omega arith);
      sectors = λ i l. absurd (omega arith);
    }

pub represents_opened : (n : ℕ) (ring : List ℕ) → 3 ≤ n → n ≤ 255 → length ring ≡ n * 2560 → Represents (opened n) 0 0 ring []
represents_opened n ring l m w =
    let z : 0 < n = omega arith in
    empty (opened n) ring (record { least = l; most = m; t_in = z; b_in = z; last_in = z }) refl w

module _ {p : Place} {tcc bufc : ℕ} {ring : List ℕ} {row : List (List ℕ)} (h : Represents p tcc bufc ring row) where
  some : 0 < p.n
  some = omega (arith, h.place.least)

  pub represents_clear : Represents (place_step p Clear) 0 0 ring []
  represents_clear = represents_opened p.n ring h.place.least h.place.most h.whole

  pub represents_move : (t : ℕ) → t < p.n → Represents (place_step p (Move t)) 0 0 ring []
  represents_move t l =
      empty (place_step p (Move t)) ring
      (record { least = h.place.least; most = h.place.most; t_in = l; b_in = l; last_in = h.place.last_in }) refl h.whole

  pub represents_rewind : (k : ℕ) → k ≤ tcc → Represents (place_step p (Rewind k)) k k ring (take k row)
  represents_rewind k l =
      record {
        place =
            record { least = h.place.least; most = h.place.most; t_in = h.place.t_in; b_in = mod-lt _ some; last_in = h.place.last_in };
        filled = le_refl k;
        room = omega (arith, h.filled, h.room);
        b_after = refl;
        whole = h.whole;
        good = length-take-le k row (omega (arith, h.good));
        blocks = λ i m. h.blocks i (omega arith) ∙ sym (get_or-take k row i [] m);
        sectors = λ i m. ap length (get_or-take k row i [] m) ∙ h.sectors i (omega arith);
      }

  pub represents_advance : (k : ℕ) → k ≤ tcc → Represents (place_step p (Advance k)) (tcc - k) (bufc - k) ring (drop k row)
  represents_advance k l =
      let e : k + (bufc - k) ≡ bufc = omega (arith, h.filled) in
      record {
        place =
            record { least = h.place.least; most = h.place.most; t_in = mod-lt _ some; b_in = h.place.b_in; last_in = h.place.last_in };
        filled = omega (arith, h.filled);
        room = omega (arith, h.room);
        b_after = h.b_after ∙ sym (wrap_add p.t k (bufc - k) p.n ∙ ap (λ (x : ℕ). (p.t + x) % p.n) e);
        whole = h.whole;
        good = length-drop k row ∙ ap (λ (x : ℕ). x - k) h.good;
        blocks = λ i m. ap (block ring) (wrap_add p.t k i p.n) ∙ h.blocks (k + i) (omega arith) ∙ sym (get_or-drop k row i []);
        sectors = λ i m. ap length (get_or-drop k row i []) ∙ h.sectors (k + i) (omega arith);
      }

  module _ (s : List ℕ) (room : bufc + 1 < p.n) (size : length s ≡ 2352) where
    -- what a store makes, but for the row
    stepped : PlaceSound (place_step p Store)
    stepped =
        record {
          least = h.place.least;
          most = h.place.most;
          t_in = h.place.t_in;
          b_in = mod-lt _ some;
          last_in = h.place.b_in;
        }

    b_next : (p.b + 1) % p.n ≡ (p.t + (bufc + 1)) % p.n
    b_next = ap (λ (x : ℕ). (x + 1) % p.n) h.b_after ∙ wrap_add p.t bufc 1 p.n

    whole_stored : length (stored ring p.b s) ≡ p.n * 2560
    whole_stored = length_stored ring s p.n p.b h.whole h.place.b_in size ∙ h.whole

    old_block : (i : ℕ) → i < tcc → block (stored ring p.b s) ((p.t + i) % p.n) ≡ get_or row i []
    old_block i l =
        block_other ring s p.n p.b h.whole h.place.b_in size ((p.t + i) % p.n)
        (λ e. wrap_apart p.t i bufc p.n h.place.t_in (omega (arith, h.filled)) h.room (e ∙ h.b_after))
        ∙ h.blocks i l

    new_block : block (stored ring p.b s) ((p.t + bufc) % p.n) ≡ s
    new_block =
        ap (block (stored ring p.b s)) (sym h.b_after) ∙ block_stored ring s p.n p.b h.whole h.place.b_in size

    pub represents_store_bad : Represents (place_step p Store) tcc (bufc + 1) (stored ring p.b s) row
    represents_store_bad =
        record {
          place = stepped;
          filled = omega (arith, h.filled);
          room = room;
          b_after = b_next;
          whole = whole_stored;
          good = h.good;
          blocks = old_block;
          sectors = h.sectors;
        }

    pub represents_store_good : tcc ≡ bufc → Represents (place_step p Store) (tcc + 1) (bufc + 1) (stored ring p.b s) (row ++ s ∷ [])
    represents_store_good all =
        record {
          place = stepped;
          filled = omega arith;
          room = room;
          b_after = b_next;
          whole = whole_stored;
          good = length-append row (s ∷ []) ∙ ap (λ (x : ℕ). x + 1) h.good;
          blocks = λ i l. ⊎_elim (λ (m : i < tcc). old_block i m ∙ sym (kept i m)) (λ (m : tcc ≤ i). last_block i l m) (lt_or_ge i tcc);
          sectors = λ i l.
              ⊎_elim (λ (m : i < tcc). ap length (kept i m) ∙ h.sectors i m) (λ (m : tcc ≤ i). ap length (added i l m) ∙ size) (lt_or_ge i tcc);
        }
      where
        kept : (i : ℕ) → i < tcc → get_or (row ++ s ∷ []) i [] ≡ get_or row i []
        kept i m = get_or-append row (s ∷ []) [] i (rw h.good m)

        added : (i : ℕ) → i < tcc + 1 → tcc ≤ i → get_or (row ++ s ∷ []) i [] ≡ s
        added i l m = get_or_at row s [] [] i (omega (arith, h.good))

        last_block : (i : ℕ) → i < tcc + 1 → tcc ≤ i → block (stored ring p.b s) ((p.t + i) % p.n) ≡ get_or (row ++ s ∷ []) i []
        last_block i l m =
            let e : i ≡ bufc = omega arith in
            ap (λ (x : ℕ). block (stored ring p.b s) ((p.t + x) % p.n)) e ∙ new_block ∙ sym (added i l m)

  -- the place's own stop is the count's
  pub represents_full : full p ≡ eqb (bufc + 1) p.n
  represents_full = ap (λ (x : ℕ). eqb ((x + 1) % p.n) p.t) h.b_after ∙ wrap_full p.t bufc p.n h.place.t_in h.room

  -- the transfer block holds the first sector of the row
  pub represents_first : 0 < tcc → block ring p.t ≡ get_or row 0 []
  represents_first l = ap (block ring) (sym (wrap_zero p.t p.n h.place.t_in)) ∙ h.blocks 0 l

  pub represents_look : (offset words : ℕ) → 0 < tcc → offset + 2 * words ≤ 2352
      → take (2 * words) (drop (base p.t + offset) ring) ≡ take (2 * words) (drop offset (get_or row 0 []))
  represents_look offset words l m =
      window_window (base p.t) 2352 offset (2 * words) ring (within ring p.n p.t h.whole h.place.t_in) m
      ∙ ap (λ (x : List ℕ). take (2 * words) (drop offset x)) (represents_first l)

  pub represents_byte : (o : ℕ) → 0 < tcc → o < 2352 → get_or ring (base p.t + o) 0 ≡ get_or (get_or row 0 []) o 0
  represents_byte o l m = sym (get_d_window (base p.t) 2352 o 0 ring m) ∙ ap (λ (x : List ℕ). get_or x o 0) (represents_first l)

  pub represents_word : (o : ℕ) → 0 < tcc → o + 1 < 2352 → word_at ring (base p.t + o) ≡ word_at (get_or row 0 []) o
  represents_word o l m =
      ap₂ (λ (x y : ℕ). x + 256 * y) (represents_byte o l (omega arith))
      (ap (λ (x : ℕ). get_or ring x 0) (add_assoc (base p.t) o 1) ∙ represents_byte (o + 1) l m)
