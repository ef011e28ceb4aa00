-- The controller as opened (paper 01, "The ring"; 001, ATBLO and ATBHI for 34h and 35h): the expected address is 00:02:00, 34h and 35h
-- are 14h and EBh, all else is 0. Assumes nothing.
use Rattle.std.specs.Prelude.{false, replicate}
use Rattle.sector.specs.Judge.{no_facts}
use Rattle.controller.specs.declared.state.Controller.{Controller}

abbrev pub initial : Controller
initial =
    record {
      counts = record { tcc = 0; bufc = 0; ttc = 0; held = false };
      expected = record { minute = 0; second = 2; frame = 0 };
      buffering = record { decen = false; blimen = false; blims = false; buflim = 0 };
      acctl = record { atten = false; acmen = false; tcincen = false; atlim = 0 };
      asctrl = record { apkten = false; adcen = false; ascen = false; autoen = false; stwcen = false; a0ien = false };
      atsta = record { bsy = false; drdy = false; dsc = false; drq = false; corr = false; check = false };
      ascsta = record { drdy = false; corr = false; check = false };
      adsc = false;
      judgement = no_facts;
      task = record { aterr = 0; atint = 0; atblo = 0x14; atbhi = 0xEB; atcmd = 0 };
      mbc = 0;
      window = record { offset = 0; words = 0 };
      transfer = record { running = false; left = 0; position = 0 };
      packet = record { apkt = false; fpkt = false; receiving = false; received = 0; bytes = replicate 12 0 };
      hirq = false;
    }
