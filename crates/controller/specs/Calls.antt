-- One dispatch for the calls that touch no memory: each is one definition's. Assumes nothing.
use Rattle.calls.specs.declared.Call.{Call}
use Rattle.calls.specs.declared.Call.TheVariants.{Write, Read, SetBlock, SetWindow, SetExpected, PacketByte, Reset, Command, PacketWord, Status, Srst}
use Rattle.controller.specs.Step.{Step}
use Rattle.controller.specs.Host.{host_command, packet_word, host_status, host_srst}
use Rattle.controller.specs.Named.{set_block, set_window, set_expected, packet_byte, reset}
use Rattle.controller.specs.Read.{read}
use Rattle.controller.specs.Write.{write}
use Rattle.controller.specs.declared.state.Controller.{Controller}
use Rattle.controller.specs.declared.step.RingFacts.{RingFacts}

-- the ring tells N, T and the last decoded block
unfoldable pub stepped : Controller → Call → RingFacts → Step
stepped c (Write reg v) ring = write c reg v ring.n
stepped c (Read reg) ring = read c reg ring
stepped c (SetBlock t) ring = set_block c t ring.n
stepped c (SetWindow o w) ring = set_window c o w
stepped c (SetExpected a) ring = set_expected c a
stepped c (PacketByte i) ring = packet_byte c i
stepped c Reset ring = reset c
stepped c (Command v) ring = host_command c v
stepped c (PacketWord w) ring = packet_word c w
stepped c Status ring = host_status c
stepped c Srst ring = host_srst c
