-- The elements of a list, written out, and the packet's bytes out of its words. Assumes nothing.
use Rattle.std.proofs.Common.{◌≡◌, sym, ◌∙◌, ap, ℕ, zero, suc, ◌+◌, ◌*◌, ◌<◌, List, [], ◌∷◌, length, drop, get_or, arith}
use lib.Seq.{drop-length}
use Rattle.laws.proofs.Ends.{drop_next}
use Rattle.encoding.specs.Words.{word, low, high, packet_bytes}

-- a list's elements, written out from place i on
abbrev pub spelled : List ℕ → ℕ → ℕ → List ℕ
spelled xs i zero = []
spelled xs i (suc n) = get_or xs i 0 ∷ spelled xs (i + 1) n

pub spelled_is : (xs : List ℕ) (i n : ℕ) → i + n ≡ length xs → spelled xs i n ≡ drop i xs
spelled_is xs i zero e =
    let end : i ≡ length xs = omega (arith, e) in
    sym (ap (λ (n : ℕ). drop n xs) end ∙ drop-length xs)
spelled_is xs i (suc n) e = ap (λ (ys : List ℕ). get_or xs i 0 ∷ ys) (spelled_is xs (i + 1) n (omega (arith, e))) ∙ sym (drop_next xs i (omega (arith, e)))

-- the bytes of the first i words are there
pub record Bytes (ws bytes : List ℕ) (i : ℕ) : Type 0 where
  pub lows : (k : ℕ) → k < i → get_or bytes (2 * k) 0 ≡ low (word ws (22 + k))
  pub highs : (k : ℕ) → k < i → get_or bytes (2 * k + 1) 0 ≡ high (word ws (22 + k))
  pub twelve : length bytes ≡ 12

module _ (ws bytes : List ℕ) (i : ℕ) (so_far : Bytes ws bytes i) where
  pub all_bytes : i ≡ 6 → bytes ≡ packet_bytes ws
  all_bytes six =
      let l = λ (k : ℕ) (h : k < 6). so_far.lows k (omega arith) in
      let h = λ (k : ℕ) (h : k < 6). so_far.highs k (omega arith) in
      sym (spelled_is bytes 0 12 (sym so_far.twelve))
      ∙ simp (
        l 0 (omega arith),
        h 0 (omega arith),
        l 1 (omega arith),
        h 1 (omega arith),
        l 2 (omega arith),
        h 2 (omega arith),
        l 3 (omega arith),
        h 3 (omega arith),
        l 4 (omega arith),
        h 4 (omega arith),
        l 5 (omega arith),
        h 5 (omega arith),
      )
