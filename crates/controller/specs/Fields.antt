-- Setters for the controller's fields and groups, since antt has no record update: `c ▹ bsy≔ false ▹ hirq≔ true` is c with those two
-- fields changed. In each line every field but one is c's own. The address, the judgement, the window, 9Ch and 3Eh are set as groups.
-- Assumes nothing.
use Rattle.std.specs.Prelude.{ℕ, Bool, List}
use Rattle.sector.specs.declared.Address.{Address}
use Rattle.sector.specs.declared.Judgement.{Judgement}
use Rattle.controller.specs.declared.state.Acctl.{Acctl}
use Rattle.controller.specs.declared.state.Ascsta.{Ascsta}
use Rattle.controller.specs.declared.state.Asctrl.{Asctrl}
use Rattle.controller.specs.declared.state.Atsta.{Atsta}
use Rattle.controller.specs.declared.state.Buffering.{Buffering}
use Rattle.controller.specs.declared.state.Controller.{Controller}
use Rattle.controller.specs.declared.state.Counts.{Counts}
use Rattle.controller.specs.declared.state.Packet.{Packet}
use Rattle.controller.specs.declared.state.Task.{Task}
use Rattle.controller.specs.declared.state.Transfer.{Transfer}
use Rattle.controller.specs.declared.state.Window.{Window}

infixl 25 ◌▹◌
abbrev pub ◌▹◌ : {A B : Type 0} → A → (A → B) → B
a ▹ f = f a

abbrev pub counts≔ : Counts → Controller → Controller
counts≔ v c = record { counts = v; expected = c.expected; buffering = c.buffering; acctl = c.acctl; asctrl = c.asctrl; atsta = c.atsta; ascsta = c.ascsta; adsc = c.adsc; judgement = c.judgement; task = c.task; mbc = c.mbc; window = c.window; transfer = c.transfer; packet = c.packet; hirq = c.hirq }

abbrev pub tcc≔ : ℕ → Controller → Controller
tcc≔ v c = counts≔ (record { tcc = v; bufc = c.counts.bufc; ttc = c.counts.ttc; held = c.counts.held }) c

abbrev pub bufc≔ : ℕ → Controller → Controller
bufc≔ v c = counts≔ (record { tcc = c.counts.tcc; bufc = v; ttc = c.counts.ttc; held = c.counts.held }) c

abbrev pub ttc≔ : ℕ → Controller → Controller
ttc≔ v c = counts≔ (record { tcc = c.counts.tcc; bufc = c.counts.bufc; ttc = v; held = c.counts.held }) c

abbrev pub held≔ : Bool → Controller → Controller
held≔ v c = counts≔ (record { tcc = c.counts.tcc; bufc = c.counts.bufc; ttc = c.counts.ttc; held = v }) c

abbrev pub expected≔ : Address → Controller → Controller
expected≔ v c = record { counts = c.counts; expected = v; buffering = c.buffering; acctl = c.acctl; asctrl = c.asctrl; atsta = c.atsta; ascsta = c.ascsta; adsc = c.adsc; judgement = c.judgement; task = c.task; mbc = c.mbc; window = c.window; transfer = c.transfer; packet = c.packet; hirq = c.hirq }

abbrev pub buffering≔ : Buffering → Controller → Controller
buffering≔ v c = record { counts = c.counts; expected = c.expected; buffering = v; acctl = c.acctl; asctrl = c.asctrl; atsta = c.atsta; ascsta = c.ascsta; adsc = c.adsc; judgement = c.judgement; task = c.task; mbc = c.mbc; window = c.window; transfer = c.transfer; packet = c.packet; hirq = c.hirq }

abbrev pub decen≔ : Bool → Controller → Controller
decen≔ v c = buffering≔ (record { decen = v; blimen = c.buffering.blimen; blims = c.buffering.blims; buflim = c.buffering.buflim }) c

abbrev pub blimen≔ : Bool → Controller → Controller
blimen≔ v c = buffering≔ (record { decen = c.buffering.decen; blimen = v; blims = c.buffering.blims; buflim = c.buffering.buflim }) c

abbrev pub blims≔ : Bool → Controller → Controller
blims≔ v c = buffering≔ (record { decen = c.buffering.decen; blimen = c.buffering.blimen; blims = v; buflim = c.buffering.buflim }) c

abbrev pub buflim≔ : ℕ → Controller → Controller
buflim≔ v c = buffering≔ (record { decen = c.buffering.decen; blimen = c.buffering.blimen; blims = c.buffering.blims; buflim = v }) c

abbrev pub acctl≔ : Acctl → Controller → Controller
acctl≔ v c = record { counts = c.counts; expected = c.expected; buffering = c.buffering; acctl = v; asctrl = c.asctrl; atsta = c.atsta; ascsta = c.ascsta; adsc = c.adsc; judgement = c.judgement; task = c.task; mbc = c.mbc; window = c.window; transfer = c.transfer; packet = c.packet; hirq = c.hirq }

abbrev pub atten≔ : Bool → Controller → Controller
atten≔ v c = acctl≔ (record { atten = v; acmen = c.acctl.acmen; tcincen = c.acctl.tcincen; atlim = c.acctl.atlim }) c

abbrev pub asctrl≔ : Asctrl → Controller → Controller
asctrl≔ v c = record { counts = c.counts; expected = c.expected; buffering = c.buffering; acctl = c.acctl; asctrl = v; atsta = c.atsta; ascsta = c.ascsta; adsc = c.adsc; judgement = c.judgement; task = c.task; mbc = c.mbc; window = c.window; transfer = c.transfer; packet = c.packet; hirq = c.hirq }

abbrev pub apkten≔ : Bool → Controller → Controller
apkten≔ v c = asctrl≔ (record { apkten = v; adcen = c.asctrl.adcen; ascen = c.asctrl.ascen; autoen = c.asctrl.autoen; stwcen = c.asctrl.stwcen; a0ien = c.asctrl.a0ien }) c

abbrev pub adcen≔ : Bool → Controller → Controller
adcen≔ v c = asctrl≔ (record { apkten = c.asctrl.apkten; adcen = v; ascen = c.asctrl.ascen; autoen = c.asctrl.autoen; stwcen = c.asctrl.stwcen; a0ien = c.asctrl.a0ien }) c

abbrev pub ascen≔ : Bool → Controller → Controller
ascen≔ v c = asctrl≔ (record { apkten = c.asctrl.apkten; adcen = c.asctrl.adcen; ascen = v; autoen = c.asctrl.autoen; stwcen = c.asctrl.stwcen; a0ien = c.asctrl.a0ien }) c

abbrev pub autoen≔ : Bool → Controller → Controller
autoen≔ v c = asctrl≔ (record { apkten = c.asctrl.apkten; adcen = c.asctrl.adcen; ascen = c.asctrl.ascen; autoen = v; stwcen = c.asctrl.stwcen; a0ien = c.asctrl.a0ien }) c

abbrev pub stwcen≔ : Bool → Controller → Controller
stwcen≔ v c = asctrl≔ (record { apkten = c.asctrl.apkten; adcen = c.asctrl.adcen; ascen = c.asctrl.ascen; autoen = c.asctrl.autoen; stwcen = v; a0ien = c.asctrl.a0ien }) c

abbrev pub a0ien≔ : Bool → Controller → Controller
a0ien≔ v c = asctrl≔ (record { apkten = c.asctrl.apkten; adcen = c.asctrl.adcen; ascen = c.asctrl.ascen; autoen = c.asctrl.autoen; stwcen = c.asctrl.stwcen; a0ien = v }) c

abbrev pub atsta≔ : Atsta → Controller → Controller
atsta≔ v c = record { counts = c.counts; expected = c.expected; buffering = c.buffering; acctl = c.acctl; asctrl = c.asctrl; atsta = v; ascsta = c.ascsta; adsc = c.adsc; judgement = c.judgement; task = c.task; mbc = c.mbc; window = c.window; transfer = c.transfer; packet = c.packet; hirq = c.hirq }

abbrev pub bsy≔ : Bool → Controller → Controller
bsy≔ v c = atsta≔ (record { bsy = v; drdy = c.atsta.drdy; dsc = c.atsta.dsc; drq = c.atsta.drq; corr = c.atsta.corr; check = c.atsta.check }) c

abbrev pub drdy≔ : Bool → Controller → Controller
drdy≔ v c = atsta≔ (record { bsy = c.atsta.bsy; drdy = v; dsc = c.atsta.dsc; drq = c.atsta.drq; corr = c.atsta.corr; check = c.atsta.check }) c

abbrev pub dsc≔ : Bool → Controller → Controller
dsc≔ v c = atsta≔ (record { bsy = c.atsta.bsy; drdy = c.atsta.drdy; dsc = v; drq = c.atsta.drq; corr = c.atsta.corr; check = c.atsta.check }) c

abbrev pub drq≔ : Bool → Controller → Controller
drq≔ v c = atsta≔ (record { bsy = c.atsta.bsy; drdy = c.atsta.drdy; dsc = c.atsta.dsc; drq = v; corr = c.atsta.corr; check = c.atsta.check }) c

abbrev pub corr≔ : Bool → Controller → Controller
corr≔ v c = atsta≔ (record { bsy = c.atsta.bsy; drdy = c.atsta.drdy; dsc = c.atsta.dsc; drq = c.atsta.drq; corr = v; check = c.atsta.check }) c

abbrev pub check≔ : Bool → Controller → Controller
check≔ v c = atsta≔ (record { bsy = c.atsta.bsy; drdy = c.atsta.drdy; dsc = c.atsta.dsc; drq = c.atsta.drq; corr = c.atsta.corr; check = v }) c

abbrev pub ascsta≔ : Ascsta → Controller → Controller
ascsta≔ v c = record { counts = c.counts; expected = c.expected; buffering = c.buffering; acctl = c.acctl; asctrl = c.asctrl; atsta = c.atsta; ascsta = v; adsc = c.adsc; judgement = c.judgement; task = c.task; mbc = c.mbc; window = c.window; transfer = c.transfer; packet = c.packet; hirq = c.hirq }

abbrev pub adsc≔ : Bool → Controller → Controller
adsc≔ v c = record { counts = c.counts; expected = c.expected; buffering = c.buffering; acctl = c.acctl; asctrl = c.asctrl; atsta = c.atsta; ascsta = c.ascsta; adsc = v; judgement = c.judgement; task = c.task; mbc = c.mbc; window = c.window; transfer = c.transfer; packet = c.packet; hirq = c.hirq }

abbrev pub judgement≔ : Judgement → Controller → Controller
judgement≔ v c = record { counts = c.counts; expected = c.expected; buffering = c.buffering; acctl = c.acctl; asctrl = c.asctrl; atsta = c.atsta; ascsta = c.ascsta; adsc = c.adsc; judgement = v; task = c.task; mbc = c.mbc; window = c.window; transfer = c.transfer; packet = c.packet; hirq = c.hirq }

abbrev pub task≔ : Task → Controller → Controller
task≔ v c = record { counts = c.counts; expected = c.expected; buffering = c.buffering; acctl = c.acctl; asctrl = c.asctrl; atsta = c.atsta; ascsta = c.ascsta; adsc = c.adsc; judgement = c.judgement; task = v; mbc = c.mbc; window = c.window; transfer = c.transfer; packet = c.packet; hirq = c.hirq }

abbrev pub aterr≔ : ℕ → Controller → Controller
aterr≔ v c = task≔ (record { aterr = v; atint = c.task.atint; atblo = c.task.atblo; atbhi = c.task.atbhi; atcmd = c.task.atcmd }) c

abbrev pub atint≔ : ℕ → Controller → Controller
atint≔ v c = task≔ (record { aterr = c.task.aterr; atint = v; atblo = c.task.atblo; atbhi = c.task.atbhi; atcmd = c.task.atcmd }) c

abbrev pub atblo≔ : ℕ → Controller → Controller
atblo≔ v c = task≔ (record { aterr = c.task.aterr; atint = c.task.atint; atblo = v; atbhi = c.task.atbhi; atcmd = c.task.atcmd }) c

abbrev pub atbhi≔ : ℕ → Controller → Controller
atbhi≔ v c = task≔ (record { aterr = c.task.aterr; atint = c.task.atint; atblo = c.task.atblo; atbhi = v; atcmd = c.task.atcmd }) c

abbrev pub atcmd≔ : ℕ → Controller → Controller
atcmd≔ v c = task≔ (record { aterr = c.task.aterr; atint = c.task.atint; atblo = c.task.atblo; atbhi = c.task.atbhi; atcmd = v }) c

abbrev pub mbc≔ : ℕ → Controller → Controller
mbc≔ v c = record { counts = c.counts; expected = c.expected; buffering = c.buffering; acctl = c.acctl; asctrl = c.asctrl; atsta = c.atsta; ascsta = c.ascsta; adsc = c.adsc; judgement = c.judgement; task = c.task; mbc = v; window = c.window; transfer = c.transfer; packet = c.packet; hirq = c.hirq }

abbrev pub window≔ : Window → Controller → Controller
window≔ v c = record { counts = c.counts; expected = c.expected; buffering = c.buffering; acctl = c.acctl; asctrl = c.asctrl; atsta = c.atsta; ascsta = c.ascsta; adsc = c.adsc; judgement = c.judgement; task = c.task; mbc = c.mbc; window = v; transfer = c.transfer; packet = c.packet; hirq = c.hirq }

abbrev pub transfer≔ : Transfer → Controller → Controller
transfer≔ v c = record { counts = c.counts; expected = c.expected; buffering = c.buffering; acctl = c.acctl; asctrl = c.asctrl; atsta = c.atsta; ascsta = c.ascsta; adsc = c.adsc; judgement = c.judgement; task = c.task; mbc = c.mbc; window = c.window; transfer = v; packet = c.packet; hirq = c.hirq }

abbrev pub running≔ : Bool → Controller → Controller
running≔ v c = transfer≔ (record { running = v; left = c.transfer.left; position = c.transfer.position }) c

abbrev pub left≔ : ℕ → Controller → Controller
left≔ v c = transfer≔ (record { running = c.transfer.running; left = v; position = c.transfer.position }) c

abbrev pub position≔ : ℕ → Controller → Controller
position≔ v c = transfer≔ (record { running = c.transfer.running; left = c.transfer.left; position = v }) c

abbrev pub packet≔ : Packet → Controller → Controller
packet≔ v c = record { counts = c.counts; expected = c.expected; buffering = c.buffering; acctl = c.acctl; asctrl = c.asctrl; atsta = c.atsta; ascsta = c.ascsta; adsc = c.adsc; judgement = c.judgement; task = c.task; mbc = c.mbc; window = c.window; transfer = c.transfer; packet = v; hirq = c.hirq }

abbrev pub apkt≔ : Bool → Controller → Controller
apkt≔ v c = packet≔ (record { apkt = v; fpkt = c.packet.fpkt; receiving = c.packet.receiving; received = c.packet.received; bytes = c.packet.bytes }) c

abbrev pub fpkt≔ : Bool → Controller → Controller
fpkt≔ v c = packet≔ (record { apkt = c.packet.apkt; fpkt = v; receiving = c.packet.receiving; received = c.packet.received; bytes = c.packet.bytes }) c

abbrev pub receiving≔ : Bool → Controller → Controller
receiving≔ v c = packet≔ (record { apkt = c.packet.apkt; fpkt = c.packet.fpkt; receiving = v; received = c.packet.received; bytes = c.packet.bytes }) c

abbrev pub received≔ : ℕ → Controller → Controller
received≔ v c = packet≔ (record { apkt = c.packet.apkt; fpkt = c.packet.fpkt; receiving = c.packet.receiving; received = v; bytes = c.packet.bytes }) c

abbrev pub bytes≔ : List ℕ → Controller → Controller
bytes≔ v c = packet≔ (record { apkt = c.packet.apkt; fpkt = c.packet.fpkt; receiving = c.packet.receiving; received = c.packet.received; bytes = v }) c

abbrev pub hirq≔ : Bool → Controller → Controller
hirq≔ v c = record { counts = c.counts; expected = c.expected; buffering = c.buffering; acctl = c.acctl; asctrl = c.asctrl; atsta = c.atsta; ascsta = c.ascsta; adsc = c.adsc; judgement = c.judgement; task = c.task; mbc = c.mbc; window = c.window; transfer = c.transfer; packet = c.packet; hirq = v }
