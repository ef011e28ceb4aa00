-- The ring's place (paper 01, "The ring"; 001, TBL (24h), LDDBL (3Ah)): N blocks, T the transfer block, B the next block to fill, and the
-- last decoded block. Assumes nothing.
use Rattle.std.specs.Prelude.{ℕ, ◌+◌, ◌%◌, ◌<◌, ◌≤◌, Bool, eqb}
use Rattle.controller.specs.declared.step.Event.{Event}
use Rattle.controller.specs.declared.step.RingFacts.{RingFacts}
use Rattle.controller.specs.declared.step.Event.TheVariants.{Stay, Store, Advance, Rewind, Move, Clear}
use Rattle.ring.specs.declared.Place.{Place}

abbrev pub at : ℕ → ℕ → ℕ → ℕ → Place
at n t b last = record { n = n; t = t; b = b; last = last }

abbrev pub opened : ℕ → Place
opened n = at n 0 0 0

-- what a call is told of the ring
abbrev pub ring_facts : Place → RingFacts
ring_facts p = record { n = p.n; t = p.t; last = p.last }

-- N is 3..255, and each block number below N
pub record PlaceSound (p : Place) : Type 0 where
  pub least : 3 ≤ p.n
  pub most : p.n ≤ 255
  pub t_in : p.t < p.n
  pub b_in : p.b < p.n
  pub last_in : p.last < p.n

-- the stop with BLIMS low
abbrev pub full : Place → Bool
full p = eqb ((p.b + 1) % p.n) p.t

-- what an event makes of the place
abbrev pub place_step : Place → Event → Place
place_step p Stay = p
place_step p Store = at p.n p.t ((p.b + 1) % p.n) p.b
place_step p (Advance k) = at p.n ((p.t + k) % p.n) p.b p.last
place_step p (Rewind k) = at p.n p.t ((p.t + k) % p.n) p.last
place_step p (Move k) = at p.n k k p.last
place_step p Clear = opened p.n
