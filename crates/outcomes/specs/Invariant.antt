-- What holds of every controller that is reached from an opening, between two calls, and what a call makes of one. Assumes nothing.
use Rattle.std.specs.Prelude.{ℕ, ◌+◌, ◌-◌, ◌<◌, ◌≤◌, ◌≡◌, true, false, List, [], ◌⊎◌, length, take, drop}
use Rattle.laws.specs.Numbers.{weight}
use Rattle.sector.specs.Address.{valid}
use Rattle.controller.specs.Named.{window_fits}
use Rattle.controller.specs.Transfer.{settled}
use Rattle.controller.specs.declared.state.Controller.{Controller}
use Rattle.controller.specs.declared.step.Event.{Event}
use Rattle.controller.specs.declared.step.Event.TheVariants.{Stay, Store, Advance, Rewind, Move, Clear}

-- a running transfer has blocks left, at most 32, not more than TCC, nor than TTC where that is not 0; a position inside its window; ACMEN,
-- ADCEN and DRQ, and no BSY
pub record Running (c : Controller) : Type 0 where
  pub some : 0 < c.transfer.left
  pub good : c.transfer.left ≤ c.counts.tcc
  pub inside : c.transfer.position < c.window.words
  pub acmen : c.acctl.acmen ≡ true
  pub adcen : c.asctrl.adcen ≡ true
  pub drq : c.atsta.drq ≡ true
  pub bsy : c.atsta.bsy ≡ false
  pub blocks : c.transfer.left ≤ 32
  pub total : (c.counts.ttc ≡ 0) ⊎ (c.transfer.left ≤ c.counts.ttc)

-- the facts at the end of a call that do not speak of a start
pub record Consistent (c : Controller) : Type 0 where
  -- kept numbers in their ranges
  pub ttc : c.counts.ttc ≤ 255
  pub mbc : c.mbc ≤ 31
  pub atlim : c.acctl.atlim ≤ 31
  pub received : c.packet.received < 6
  pub expected : valid c.expected ≡ true
  pub window : (c.window.words ≡ 0) ⊎ (window_fits c.window.offset c.window.words ≡ true)
  pub packet : length c.packet.bytes ≡ 12
  -- BUFC is TCC, and one more while held
  pub buffered : c.counts.bufc ≡ c.counts.tcc + weight c.counts.held 1
  -- held only with DECEN, DECEN only with BLIMEN and TCINCEN
  pub held : c.counts.held ≡ true → c.buffering.decen ≡ true
  pub decen : c.buffering.decen ≡ true → (c.buffering.blimen ≡ true) × (c.acctl.tcincen ≡ true)
  pub running : c.transfer.running ≡ true → Running c
  -- a transfer that does not run has no block left and stands at the window's first word
  pub idle : c.transfer.running ≡ false → (c.transfer.left ≡ 0) × (c.transfer.position ≡ 0)
  pub receiving : c.packet.receiving ≡ true → (c.atsta.bsy ≡ false) × (c.transfer.running ≡ false)
  pub uncached : c.acctl.acmen ≡ false → c.counts.ttc ≡ 0

-- and no start is due
pub record Invariant (c : Controller) : Type 0 where
  pub consistent : Consistent c
  pub rested : settled c ≡ c

-- how TCC and BUFC go with an event, from c to d: what the ring has to know of a call
abbrev pub Moves : Event → Controller → Controller → Type 0
Moves Stay c d = (d.counts.tcc ≡ c.counts.tcc) × (d.counts.bufc ≡ c.counts.bufc)
Moves Store c d = (d.counts.tcc + weight d.counts.held 1 ≡ c.counts.tcc + 1) × (d.counts.bufc ≡ c.counts.bufc + 1)
Moves (Advance k) c d = (k ≤ c.counts.tcc) × (d.counts.tcc ≡ c.counts.tcc - k) × (d.counts.bufc ≡ c.counts.bufc - k)
Moves (Rewind k) c d = (k ≤ c.counts.tcc) × (d.counts.tcc ≡ k) × (d.counts.bufc ≡ k)
Moves (Move t) c d = (c.counts.tcc ≡ 0) × (c.counts.bufc ≡ 0) × (d.counts.tcc ≡ 0) × (d.counts.bufc ≡ 0)
Moves Clear c d = (d.counts.tcc ≡ 0) × (d.counts.bufc ≡ 0)

-- what an event makes of the row of good sectors; what a Store adds is the sector's to say
abbrev pub moved : Event → List (List ℕ) → List (List ℕ)
moved Stay row = row
moved Store row = row
moved (Advance k) row = drop k row
moved (Rewind k) row = take k row
moved (Move t) row = []
moved Clear row = []

-- a Move is to a block that the ring has, and no call without a sector stores one
abbrev pub Lands : ℕ → Event → Type 0
Lands n Stay = Unit {0}
Lands n Store = ⊥
Lands n (Advance k) = Unit {0}
Lands n (Rewind k) = Unit {0}
Lands n (Move t) = t < n
Lands n Clear = Unit {0}
