-- When consistency goes over from one controller to another: by the fields that changed. Assumes nothing.
use Prim.Native.Nat.{ℕ, ◌+◌, ◌*◌, ◌<◌, ◌≤◌}
use mathlib.Core.Path.{◌≡◌, refl, ap, subst}
use mathlib.Core.Bool.{Bool, true, false}
use mathlib.Core.Logic.{◌⊎◌, inl, ⊎_elim}
use native.Mathlib.Omega.{arith}
use lib.Dec.{leb, ltb}
use lib.ListN.{length}
use borrow.Author.Tests.{leb-true}
use Rattle.laws.specs.Numbers.{weight}
use Rattle.laws.proofs.Tests.{and3, clash, or_false}
use Rattle.sector.specs.Address.{valid}
use Rattle.sector.specs.declared.Address.{Address}
use Rattle.sector.specs.declared.Judgement.{Judgement}
use Rattle.controller.specs.Fields.{◌▹◌, counts≔, expected≔, buffering≔, blims≔, buflim≔, acctl≔, atten≔, asctrl≔, apkten≔, ascen≔, autoen≔, stwcen≔, a0ien≔, atsta≔, drdy≔, dsc≔, corr≔, check≔, ascsta≔, adsc≔, judgement≔, task≔, mbc≔, window≔, packet≔, apkt≔, fpkt≔, hirq≔}
use Rattle.controller.specs.Named.{window_fits}
use Rattle.controller.specs.State.{initial}
use Rattle.controller.specs.Transfer.{engaged}
use Rattle.controller.specs.declared.state.Acctl.{Acctl}
use Rattle.controller.specs.declared.state.Buffering.{Buffering}
use Rattle.controller.specs.declared.state.Controller.{Controller}
use Rattle.controller.specs.declared.state.Counts.{Counts}
use Rattle.controller.specs.declared.state.Packet.{Packet}
use Rattle.controller.specs.declared.state.Window.{Window}
use Rattle.outcomes.specs.Invariant.{Running, Consistent}

-- c with what consistency does not look at taken from r
abbrev pub with_rest : Controller → Controller → Controller
with_rest c r =
    c ▹ blims≔ r.buffering.blims ▹ buflim≔ r.buffering.buflim ▹ atten≔ r.acctl.atten
    ▹ apkten≔ r.asctrl.apkten ▹ ascen≔ r.asctrl.ascen ▹ autoen≔ r.asctrl.autoen ▹ stwcen≔ r.asctrl.stwcen ▹ a0ien≔ r.asctrl.a0ien
    ▹ drdy≔ r.atsta.drdy ▹ dsc≔ r.atsta.dsc ▹ corr≔ r.atsta.corr ▹ check≔ r.atsta.check
    ▹ ascsta≔ r.ascsta ▹ adsc≔ r.adsc ▹ judgement≔ r.judgement ▹ task≔ r.task
    ▹ apkt≔ r.packet.apkt ▹ fpkt≔ r.packet.fpkt ▹ hirq≔ r.hirq

abbrev pub relevant : Controller → Controller
relevant c = with_rest c initial

-- a running transfer stays one where what it is made of stays, TCC not being lowered
still_running :
    (c d : Controller) → d.transfer ≡ c.transfer → c.counts.tcc ≤ d.counts.tcc → d.counts.ttc ≡ c.counts.ttc → d.window ≡ c.window
    → d.acctl.acmen ≡ c.acctl.acmen → d.asctrl.adcen ≡ c.asctrl.adcen → d.atsta.drq ≡ c.atsta.drq → d.atsta.bsy ≡ c.atsta.bsy
    → Running c → Running d
still_running c d t more l w a b q y r =
    record {
      some = rw t r.some;
      good = let g = r.good in rw t (omega arith);
      inside = rw (t, w) r.inside;
      acmen = rw a r.acmen;
      adcen = rw b r.adcen;
      drq = rw q r.drq;
      bsy = rw y r.bsy;
      blocks = rw t r.blocks;
      total = rw (t, l) r.total;
    }

consistent_rest : (c r : Controller) → Consistent c → Consistent (with_rest c r)
consistent_rest c r h =
    record {
      ttc = h.ttc;
      mbc = h.mbc;
      atlim = h.atlim;
      received = h.received;
      expected = h.expected;
      window = h.window;
      packet = h.packet;
      buffered = h.buffered;
      held = h.held;
      decen = h.decen;
      running = λ e. still_running c (with_rest c r) refl (omega arith) refl refl refl refl refl refl (h.running e);
      idle = h.idle;
      receiving = h.receiving;
      uncached = h.uncached;
    }

-- it goes over to a controller that differs only where it does not look
pub consistent_like : (c d : Controller) → relevant c ≡ relevant d → Consistent c → Consistent d
consistent_like c d e h = subst (λ (x : Controller). Consistent x) (ap (λ (x : Controller). with_rest x d) e) (consistent_rest c d h)

-- c with ASCTRL, the status, the task registers and HIRQ taken from r
abbrev pub with_status : Controller → Controller → Controller
with_status c r = c ▹ asctrl≔ r.asctrl ▹ atsta≔ r.atsta ▹ task≔ r.task ▹ hirq≔ r.hirq

abbrev pub statusless : Controller → Controller
statusless c = with_status c initial

consistent_status : (c r : Controller) → engaged c ≡ false → Consistent c → Consistent (with_status c r)
consistent_status c r q h =
    let f = or_false c.transfer.running c.packet.receiving q in
    record {
      ttc = h.ttc;
      mbc = h.mbc;
      atlim = h.atlim;
      received = h.received;
      expected = h.expected;
      window = h.window;
      packet = h.packet;
      buffered = h.buffered;
      held = h.held;
      decen = h.decen;
      running = λ e. clash c.transfer.running f.0 e;
      idle = h.idle;
      receiving = λ e. clash c.packet.receiving f.1 e;
      uncached = h.uncached;
    }

-- without a transfer and reception it goes over to one that differs only in those
pub consistent_quiet : (c d : Controller) → engaged c ≡ false → statusless c ≡ statusless d → Consistent c → Consistent d
consistent_quiet c d q e h = subst (λ (x : Controller). Consistent x) (ap (λ (x : Controller). with_status x d) e) (consistent_status c d q h)

-- The decoder's side: TCC not lowered, BUFC, held, the expected address, the buffering switches and the judgement are new.
pub consistent_decoder :
    (c : Controller) (tcc bufc : ℕ) (held : Bool) (a : Address) (b : Buffering) (j : Judgement)
    → c.counts.tcc ≤ tcc → bufc ≡ tcc + weight held 1 → valid a ≡ true
    → (held ≡ true → b.decen ≡ true) → (b.decen ≡ true → (b.blimen ≡ true) × (c.acctl.tcincen ≡ true))
    → Consistent c
    → Consistent (c ▹ counts≔ (record { tcc = tcc; bufc = bufc; ttc = c.counts.ttc; held = held }) ▹ expected≔ a ▹ buffering≔ b ▹ judgement≔ j)
consistent_decoder c tcc bufc held a b j more buffered good on low h =
    let d = c ▹ counts≔ (record { tcc = tcc; bufc = bufc; ttc = c.counts.ttc; held = held }) ▹ expected≔ a ▹ buffering≔ b ▹ judgement≔ j in
    record {
      ttc = h.ttc;
      mbc = h.mbc;
      atlim = h.atlim;
      received = h.received;
      expected = good;
      window = h.window;
      packet = h.packet;
      buffered = buffered;
      held = on;
      decen = low;
      running = λ e. still_running c d refl more refl refl refl refl refl refl (h.running e);
      idle = h.idle;
      receiving = h.receiving;
      uncached = h.uncached;
    }

-- Without a transfer: the counts, ACCTL, MBC and the window are new.
pub consistent_idle :
    (c : Controller) (k : Counts) (x : Acctl) (m : ℕ) (w : Window)
    → c.transfer.running ≡ false
    → k.bufc ≡ k.tcc + weight k.held 1 → (k.held ≡ true → c.buffering.decen ≡ true)
    → k.ttc ≤ 255 → (x.acmen ≡ false → k.ttc ≡ 0)
    → x.atlim ≤ 31 → (c.buffering.decen ≡ true → (c.buffering.blimen ≡ true) × (x.tcincen ≡ true))
    → m ≤ 31
    → (w.words ≡ 0) ⊎ (window_fits w.offset w.words ≡ true)
    → Consistent c
    → Consistent (c ▹ counts≔ k ▹ acctl≔ x ▹ mbc≔ m ▹ window≔ w)
consistent_idle c k x m w off buffered held ttc uncached atlim decen mbc window h =
    record {
      ttc = ttc;
      mbc = mbc;
      atlim = atlim;
      received = h.received;
      expected = h.expected;
      window = window;
      packet = h.packet;
      buffered = buffered;
      held = held;
      decen = decen;
      running = λ e. clash c.transfer.running off e;
      idle = h.idle;
      receiving = h.receiving;
      uncached = uncached;
    }

-- Without a transfer: the packet is new.
pub consistent_packet :
    (c : Controller) (p : Packet)
    → c.transfer.running ≡ false
    → p.received < 6 → length p.bytes ≡ 12 → (p.receiving ≡ true → c.atsta.bsy ≡ false)
    → Consistent c
    → Consistent (c ▹ packet≔ p)
consistent_packet c p off received bytes busy h =
    record {
      ttc = h.ttc;
      mbc = h.mbc;
      atlim = h.atlim;
      received = received;
      expected = h.expected;
      window = h.window;
      packet = bytes;
      buffered = h.buffered;
      held = h.held;
      decen = h.decen;
      running = λ e. clash c.transfer.running off e;
      idle = h.idle;
      receiving = λ e. (busy e, off);
      uncached = h.uncached;
    }

-- The controller as opened.
pub consistent_initial : Consistent initial
consistent_initial =
    record {
      ttc = omega arith;
      mbc = omega arith;
      atlim = omega arith;
      received = omega arith;
      expected = refl;
      window = inl refl;
      packet = refl;
      buffered = refl;
      held = λ (e : false ≡ true). clash false refl e;
      decen = λ (e : false ≡ true). clash false refl e;
      running = λ (e : false ≡ true). clash false refl e;
      idle = λ _. (refl, refl);
      receiving = λ (e : false ≡ true). clash false refl e;
      uncached = λ _. refl;
    }

-- a window that is set ends inside the sector
pub window_end : (o w : ℕ) → (w ≡ 0) ⊎ (window_fits o w ≡ true) → (w ≡ 0 → ⊥) → o + 2 * w ≤ 2352
window_end o w fits some =
    ⊎_elim (λ e. absurd (some e)) (λ e. leb-true (o + 2 * w) 2352 (and3 (ltb 0 w) (leb w 1176) (leb (o + 2 * w) 2352) e).2) fits
