-- The table Pins holds. Assumes nothing.
use mathlib.Core.Path.{refl}
use mathlib.Core.Bool.{true}
use native.Mathlib.Omega.{arith}
use Rattle.controller.specs.Fields.{◌▹◌, tcc≔, bufc≔, ttc≔, expected≔, buflim≔, judgement≔, mbc≔, received≔}
use Rattle.controller.specs.State.{initial}
use Rattle.outcomes.specs.Row.{the_row}
use Rattle.ring.specs.Place.{at}
use Rattle.chip.specs.Chip.{opened}
use Rattle.chip.specs.Machine.{the_chip}
use Rattle.chip.specs.Sound.{sound}
use Rattle.claims.specs.Cases.{address}
use Rattle.claims.specs.Pins.{chip, five, with_window, with_atlim, running, long_running, resting, Pins}
use Rattle.claims.specs.Refinement.{Simulation}
use Rattle.claims.proofs.PinsCalls.{look_block, lent_3, lent_255, outside, inside}
use Rattle.claims.proofs.PinsRuns.{wrong_code, why_kept, look_headers}
use Rattle.claims.proofs.Runs.{by_simulation, telling_simulates}

module _ (S : Simulation the_chip the_row) where
  pub pins : Pins
  unfolding opened sound
  pins =
      record {
        wrong_code = λ u k v h. by_simulation S (omega arith) (omega arith) refl (wrong_code u k v h);
        why_kept = λ u k v h. by_simulation (telling_simulates S) (omega arith) (omega arith) refl (why_kept u k v h);
        look_headers = λ u size. by_simulation S (omega arith) (omega arith) refl (look_headers u size);
        look_block = look_block;
        lent_3 = lent_3;
        lent_255 = lent_255;
        opened_2 = (refl, outside (opened 2).chip refl);
        opened_256 = (refl, outside (opened 256).chip refl);
        n_2 = outside (chip initial (at 2 0 0 0)) refl;
        n_3 = inside (chip initial (at 3 0 0 0)) refl;
        n_255 = inside (chip initial (at 255 0 0 0)) refl;
        n_256 = outside (chip initial (at 256 0 0 0)) refl;
        t_4 = inside (chip initial (at 5 4 0 0)) refl;
        t_5 = outside (chip initial (at 5 5 0 0)) refl;
        b_4 = inside (chip initial (at 5 0 4 0)) refl;
        b_5 = outside (chip initial (at 5 0 5 0)) refl;
        last_4 = inside (chip initial (at 5 0 0 4)) refl;
        last_5 = outside (chip initial (at 5 0 0 5)) refl;
        tcc_4 = inside (five (initial ▹ tcc≔ 4)) refl;
        tcc_5 = outside (five (initial ▹ tcc≔ 5)) refl;
        bufc_4 = inside (five (initial ▹ bufc≔ 4)) refl;
        bufc_5 = outside (five (initial ▹ bufc≔ 5)) refl;
        words_1176 = inside (with_window 0 1176) refl;
        words_1177 = outside (with_window 0 1177) refl;
        end_2352 = inside (with_window 2350 1) refl;
        end_2353 = outside (with_window 2351 1) refl;
        no_window = inside (with_window 2353 0) refl;
        minute_99 = inside (five (initial ▹ expected≔ (address 99 2 0))) refl;
        minute_100 = outside (five (initial ▹ expected≔ (address 100 2 0))) refl;
        second_59 = inside (five (initial ▹ expected≔ (address 0 59 0))) refl;
        second_60 = outside (five (initial ▹ expected≔ (address 0 60 0))) refl;
        frame_74 = inside (five (initial ▹ expected≔ (address 0 2 74))) refl;
        frame_75 = outside (five (initial ▹ expected≔ (address 0 2 75))) refl;
        left_0 = outside (running 0 0) refl;
        left_1 = inside (running 1 0) refl;
        left_2 = inside (running 2 0) refl;
        left_3 = outside (running 3 0) refl;
        left_32 = inside long_running refl;
        position_3 = inside (running 1 3) refl;
        position_4 = outside (running 1 4) refl;
        no_transfer = inside (resting 3 4) refl;
        buflim_3 = inside (five (initial ▹ buflim≔ 3)) refl;
        buflim_4 = outside (five (initial ▹ buflim≔ 4)) refl;
        ttc_255 = inside (five (initial ▹ ttc≔ 255)) refl;
        ttc_256 = outside (five (initial ▹ ttc≔ 256)) refl;
        mbc_31 = inside (five (initial ▹ mbc≔ 31)) refl;
        mbc_32 = outside (five (initial ▹ mbc≔ 32)) refl;
        atlim_31 = inside (with_atlim 31) refl;
        atlim_32 = outside (with_atlim 32) refl;
        packet_5 = inside (five (initial ▹ received≔ 5)) refl;
        packet_6 = outside (five (initial ▹ received≔ 6)) refl;
        facts_15 = inside (five (initial ▹ judgement≔ (record { sync = true; mode = true; edc = true; address = true }))) refl;
      }
