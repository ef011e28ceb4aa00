-- The claims of specs/Claims.antt. Assumes nothing.
use mathlib.Core.Path.{◌≡◌, refl, ap, ◌∙◌}
use native.Mathlib.Omega.{arith}
use Rattle.parity.specs.Field.{times_x}
use Rattle.parity.specs.Parity.{with_parity}
use Rattle.parity.specs.Claims.{FieldClaim, WordClaim, LayoutClaim, ParityClaim}
use Rattle.parity.proofs.FieldLaws as field
use Rattle.parity.proofs.Powers as powers
use Rattle.parity.proofs.WordLaws as words
use Rattle.parity.proofs.Places.{p_place, q_tail, p_inside, q_inside}
use Rattle.parity.proofs.Validity.{length_with, front_with, bytes_with, valid_with, only_with}
use Rattle.parity.proofs.Change as change

eight : field.scaled 8 1 ≡ 0x1D
unfolding field.scaled times_x
eight = refl

pub field_claim : FieldClaim
field_claim =
    record {
      closed = λ a b h. field.product_lt 8 a b h;
      commutes = powers.product_comm;
      associates = powers.product_assoc;
      distributes = field.product_xor_r 8;
      one = powers.product_one_l;
      no_divisors = powers.no_divisors;
      polynomial = field.power_scaled 8 ∙ eight;
      adds = powers.power_add;
      power_255 = powers.power_255;
      not_earlier = powers.order;
      each = powers.exponent;
    }

pub word_claim : WordClaim
word_claim =
    record {
      encoded = λ n g b. record {
        first_byte = words.first_lt n g b;
        second_byte = words.second_lt n g b;
        enough = words.encode_holds n g b;
        needed = words.encode_only n g b;
      };
      detected = words.off_fails;
    }

pub layout_claim : LayoutClaim
layout_claim =
    record {
      in_p = change.in_p;
      in_q = change.in_q;
      p_data = p_inside;
      p_parity = λ v m hv low high. (omega (arith, p_place v m), omega (arith, p_place v m));
      q_data = q_inside;
      q_parity = λ v m hv low high. (omega (arith, q_tail v m low), omega (arith, q_tail v m low));
    }

pub parity_claim : ParityClaim
parity_claim =
    record {
      written = λ z d size b. record {
        count = length_with z d size;
        front = front_with z d size;
        bytes = bytes_with z d size b;
        valid = valid_with z d size b;
        only = λ s all bytes same t. only_with z s all bytes t ∙ ap (with_parity z) same;
      };
      detected = change.detected;
      sync_free = change.sync_free;
      header_free = change.header_free;
    }
