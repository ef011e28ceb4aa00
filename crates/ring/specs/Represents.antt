-- How a ring represents a row of sectors: tcc good ones from block T on, and bufc blocks that are filled. Assumes nothing.
use Rattle.std.specs.Prelude.{ℕ, ◌+◌, ◌*◌, ◌%◌, ◌<◌, ◌≤◌, ◌≡◌, List, [], length, get_or}
use Rattle.ring.specs.Memory.{block}
use Rattle.ring.specs.Place.{PlaceSound}
use Rattle.ring.specs.declared.Place.{Place}

pub record Represents (p : Place) (tcc bufc : ℕ) (ring : List ℕ) (row : List (List ℕ)) : Type 0 where
  pub place : PlaceSound p
  -- the good blocks are among the filled ones, and one block stays free
  pub filled : tcc ≤ bufc
  pub room : bufc < p.n
  -- B stands bufc blocks after T
  pub b_after : p.b ≡ (p.t + bufc) % p.n
  -- the memory has N blocks, and block T+i holds sector i of the row
  pub whole : length ring ≡ p.n * 2560
  pub good : length row ≡ tcc
  pub blocks : (i : ℕ) → i < tcc → block ring ((p.t + i) % p.n) ≡ get_or row i []
  pub sectors : (i : ℕ) → i < tcc → length (get_or row i []) ≡ 2352
