-- `edc::words::pad` meets its contract: the zeros leave the register empty, and each byte is xored into the zero of its place. Assumes nothing.
use mathlib.Core.Path.{◌≡◌, sym, ap, ◌∙◌}
use mathlib.Core.List.{List}
use Prim.Native.Nat.{ℕ, ◌+◌, ◌-◌}
use native.Mathlib.Omega.{arith}
use lib.ListN.{length, get_or, set, take, drop, length-set}
use lib.Seq.{take_all, get_or-set_other}
use lib.Bits.{bit_xor}
use Rattle.laws.proofs.Fill.{zeros}
use Rattle.edc.specs.Edc.{edc}
use Rattle.edc.proofs.Laws.{edc_end}
use Rattle.edc.proofs.Octets.{edc_zeros, pad_xored}
use Rattle.edc.proofs.words.pad.Goals as goal

pub loop-i-init : goal.loop-i-init
loop-i-init c = let m = 256 - length c.args.bytes.now + 0 in
    let e = c.requires.zeros in record {
      long = omega arith;
      zeros = λ k h. ap (λ (b : List ℕ). get_or b k 0) e ∙ zeros 256 k;
      total = ap (λ (x : ℕ). edc x c.args.bytes.now) (ap (λ (b : List ℕ). edc 0 (take m b)) e ∙ edc_zeros m 256);
    }

pub loop-i-preserved : goal.loop-i-preserved
loop-i-preserved c = let l = c.loop-i in
    let s = c.args.bytes.now in
    let m = 256 - length s + l.i in
    let v = bit_xor (get_or l.run m 0) (get_or s l.i 0) in
    let e : 256 - length s + (l.i + 1) ≡ m + 1 = omega arith in record {
      long = length-set l.run m v ∙ l.invariant.long;
      zeros = λ k h. get_or-set_other l.run m k v 0 (λ z. omega arith) ∙ l.invariant.zeros k (omega arith);
      total = ap (λ (k : ℕ). edc (edc 0 (take k (set l.run m v))) (drop (l.i + 1) s)) e
          ∙ pad_xored s l.run l.i m (omega arith) (omega arith) (l.invariant.zeros m (omega arith)) ∙ l.invariant.total;
    }

pub returns : goal.returns
returns c = let l = c.loop-i in
    let s = c.args.bytes.now in
    let m : 256 ≡ 256 - length s + l.i = omega arith in
    ap (edc 0) (sym (take_all 256 l.run (omega arith)) ∙ ap (λ (k : ℕ). take k l.run) m)
    ∙ sym (edc_end s (edc 0 (take (256 - length s + l.i) l.run)) l.i (omega arith)) ∙ l.invariant.total
