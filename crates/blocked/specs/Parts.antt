-- A region copied part by part.
use Rattle.std.specs.Prelude.{ℕ, ◌+◌, ◌-◌, ◌*◌, ◌/◌, List, [], ◌∷◌}
use Rattle.split.specs.declared.region.Region.{Region}
use Rattle.split.specs.Regions as regions
use Rattle.tile.specs.Blocks.{pasted}

-- how many of n rows or columns are in whole tiles
abbrev pub in_tiles : ℕ → ℕ → ℕ
in_tiles side n = n / side * side

-- a band as high as a tile: its tiles, then the right edge
abbrev pub band_pasted : {X : Type 0} → ℕ → ℕ → ℕ → ℕ → ℕ → ℕ → List X → List X → List X
band_pasted side cols rows x wide y input output =
    pasted cols rows (x + in_tiles side wide) (wide - in_tiles side wide) y side input
    (pasted cols rows x (in_tiles side wide) y side input output)

-- a region that is given as a record
abbrev pub region_pasted : {X : Type 0} → ℕ → ℕ → List X → Region → List X → List X
region_pasted cols rows input r output =
    pasted cols rows r.col_start (regions.cols r) r.row_start (regions.rows r) input output

-- regions, one after another
abbrev pub leaves_pasted : {X : Type 0} → ℕ → ℕ → List X → List Region → List X → List X
leaves_pasted cols rows input [] output = output
leaves_pasted cols rows input (r ∷ rs) output = leaves_pasted cols rows input rs (region_pasted cols rows input r output)
