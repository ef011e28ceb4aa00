-- A chip's record as 28 words of sixteen bits: words 0 to 15 are numbers, 16 to 19 bytes, the kept facts as the number why among them, 20 and 21
-- switches, 22 to 27 the packet's bytes. Any 28 words are some record; what soundness asks of it is the chip's to test (paper 01, "Reply
-- numbers"). Assumes nothing.
use Rattle.std.specs.Prelude.{ℕ, ◌/◌, ◌%◌, ◌<◌, ◌≡◌, Bool, List, [], ◌∷◌, length, get_or}
use Rattle.laws.specs.Bytes.{Bytes, pair}
use Rattle.laws.specs.Numbers.{switches}
use Rattle.sector.specs.Judge.{why}
use Rattle.sector.specs.declared.Judgement.{Judgement}
use Rattle.controller.specs.Bits.{bit}
use Rattle.controller.specs.declared.state.Controller.{Controller}
use Rattle.ring.specs.declared.Place.{Place}
use Rattle.chip.specs.declared.Chip.{Chip}

abbrev pub word : List ℕ → ℕ → ℕ
word ws i = get_or ws i 0

-- the switch in bit k of word i
abbrev pub switch : List ℕ → ℕ → ℕ → Bool
switch ws i k = bit (word ws i) k

abbrev pub low : ℕ → ℕ
low w = w % 256

abbrev pub high : ℕ → ℕ
high w = w / 256

-- the facts in the low four bits of a number
abbrev pub judgement_in : ℕ → Judgement
judgement_in w = record { sync = bit w 3; mode = bit w 2; edc = bit w 1; address = bit w 0 }

abbrev pub packet_bytes : List ℕ → List ℕ
packet_bytes ws =
    low (word ws 22) ∷ high (word ws 22) ∷ low (word ws 23) ∷ high (word ws 23) ∷ low (word ws 24) ∷ high (word ws 24)
    ∷ low (word ws 25) ∷ high (word ws 25) ∷ low (word ws 26) ∷ high (word ws 26) ∷ low (word ws 27) ∷ high (word ws 27) ∷ []

abbrev pub controller_in : List ℕ → Controller
controller_in ws =
    record {
      counts = record { tcc = word ws 4; bufc = word ws 5; ttc = word ws 6; held = switch ws 20 0 };
      expected = record { minute = word ws 7; second = word ws 8; frame = word ws 9 };
      buffering = record { decen = switch ws 20 1; blimen = switch ws 20 2; blims = switch ws 20 3; buflim = word ws 10 };
      acctl = record { atten = switch ws 20 4; acmen = switch ws 20 5; tcincen = switch ws 20 6; atlim = low (word ws 16) };
      asctrl =
          record {
            apkten = switch ws 20 8;
            adcen = switch ws 20 9;
            ascen = switch ws 20 10;
            autoen = switch ws 20 11;
            stwcen = switch ws 20 12;
            a0ien = switch ws 20 13;
          };
      atsta =
          record {
            bsy = switch ws 21 0;
            drdy = switch ws 21 1;
            dsc = switch ws 21 2;
            drq = switch ws 21 3;
            corr = switch ws 21 4;
            check = switch ws 21 5;
          };
      ascsta = record { drdy = switch ws 21 8; corr = switch ws 21 9; check = switch ws 21 10 };
      adsc = switch ws 20 7;
      judgement = judgement_in (high (word ws 19));
      task =
          record {
            aterr = low (word ws 17);
            atint = high (word ws 17);
            atblo = low (word ws 18);
            atbhi = high (word ws 18);
            atcmd = low (word ws 19);
          };
      mbc = high (word ws 16);
      window = record { offset = word ws 11; words = word ws 12 };
      transfer = record { running = switch ws 21 6; left = word ws 13; position = word ws 14 };
      packet =
          record {
            apkt = switch ws 21 11;
            fpkt = switch ws 21 12;
            receiving = switch ws 21 13;
            received = word ws 15;
            bytes = packet_bytes ws;
          };
      hirq = switch ws 21 7;
    }

abbrev pub place_in : List ℕ → Place
place_in ws = record { n = word ws 0; t = word ws 1; b = word ws 2; last = word ws 3 }

-- the record that words are
unfoldable pub decoded : List ℕ → Chip
decoded ws = record { controller = controller_in ws; place = place_in ws }

-- the switches of words 20 and 21, the first in bit 0
abbrev pub first_switches : Controller → List Bool
first_switches k =
    k.counts.held ∷ k.buffering.decen ∷ k.buffering.blimen ∷ k.buffering.blims
    ∷ k.acctl.atten ∷ k.acctl.acmen ∷ k.acctl.tcincen ∷ k.adsc
    ∷ k.asctrl.apkten ∷ k.asctrl.adcen ∷ k.asctrl.ascen ∷ k.asctrl.autoen ∷ k.asctrl.stwcen ∷ k.asctrl.a0ien ∷ []

abbrev pub second_switches : Controller → List Bool
second_switches k =
    k.atsta.bsy ∷ k.atsta.drdy ∷ k.atsta.dsc ∷ k.atsta.drq ∷ k.atsta.corr ∷ k.atsta.check
    ∷ k.transfer.running ∷ k.hirq
    ∷ k.ascsta.drdy ∷ k.ascsta.corr ∷ k.ascsta.check ∷ k.packet.apkt ∷ k.packet.fpkt ∷ k.packet.receiving ∷ []

-- the packet's twelve bytes in six words
abbrev pub packet_pairs : List ℕ → List ℕ
packet_pairs bytes =
    pair (get_or bytes 0 0) (get_or bytes 1 0) ∷ pair (get_or bytes 2 0) (get_or bytes 3 0) ∷ pair (get_or bytes 4 0) (get_or bytes 5 0)
    ∷ pair (get_or bytes 6 0) (get_or bytes 7 0) ∷ pair (get_or bytes 8 0) (get_or bytes 9 0) ∷ pair (get_or bytes 10 0) (get_or bytes 11 0) ∷ []

-- the words of a record
unfoldable pub encoded : Chip → List ℕ
encoded c =
    let k = c.controller in
    c.place.n ∷ c.place.t ∷ c.place.b ∷ c.place.last
    ∷ k.counts.tcc ∷ k.counts.bufc ∷ k.counts.ttc
    ∷ k.expected.minute ∷ k.expected.second ∷ k.expected.frame
    ∷ k.buffering.buflim ∷ k.window.offset ∷ k.window.words
    ∷ k.transfer.left ∷ k.transfer.position ∷ k.packet.received
    ∷ pair k.acctl.atlim k.mbc ∷ pair k.task.aterr k.task.atint ∷ pair k.task.atblo k.task.atbhi
    ∷ pair k.task.atcmd (why k.judgement)
    ∷ switches (first_switches k) ∷ switches (second_switches k)
    ∷ packet_pairs k.packet.bytes

-- what the types of a record's fields say of every record: its bytes are below 256, and its packet has twelve
pub record Ranged (c : Chip) : Type 0 where
  pub atlim : c.controller.acctl.atlim < 256
  pub mbc : c.controller.mbc < 256
  pub aterr : c.controller.task.aterr < 256
  pub atint : c.controller.task.atint < 256
  pub atblo : c.controller.task.atblo < 256
  pub atbhi : c.controller.task.atbhi < 256
  pub atcmd : c.controller.task.atcmd < 256
  pub packet : Bytes c.controller.packet.bytes
  pub twelve : length c.controller.packet.bytes ≡ 12

-- decoding the words of a record gives it back
abbrev pub EncodingClaim : Type 0
EncodingClaim = (c : Chip) → Ranged c → decoded (encoded c) ≡ c
