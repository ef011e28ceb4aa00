-- The lent memory: N blocks of 2,560 bytes (source document 002). A block holds a descrambled sector in bytes 0 to 2,351; its last 208 bytes
-- are never written (paper 01, "The part and its papers"). Assumes nothing.
use Rattle.std.specs.Prelude.{ℕ, ◌+◌, ◌*◌, List, ◌++◌, take, drop}

-- the first byte of block b
abbrev pub base : ℕ → ℕ
base b = b * 2560

-- the sector that block b holds
abbrev pub block : List ℕ → ℕ → List ℕ
block ring b = take 2352 (drop (base b) ring)

-- the ring with the sector s in block b
abbrev pub stored : List ℕ → ℕ → List ℕ → List ℕ
stored ring b s = take (base b) ring ++ (s ++ drop (base b + 2352) ring)
