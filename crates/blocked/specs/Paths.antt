-- Which way a matrix is copied, how many tiles that takes, and which kernel counts them.
use Rattle.std.specs.Prelude.{ℕ, ◌*◌, cond, nat_le}
use Rattle.split.specs.Tiles.{whole_tiles, split_tiles}
use Rattle.tile.specs.Kernels.{raised}
use Rattle.blocked.specs.declared.path.Path.{Path}
use Rattle.blocked.specs.declared.path.Path.TheVariants.{Single, Tiled, Split}

-- by the number of cells
abbrev pub path_of : ℕ → Path
path_of cells = cond (nat_le cells 255) Single (cond (nat_le cells 1048576) Tiled Split)

-- the tiles of a way, for a kernel of side s that tiles a region and one of side t that tiles leaves
abbrev pub tiles_on : ℕ → ℕ → ℕ → ℕ → Path → ℕ
tiles_on s t width height Single = 0
tiles_on s t width height Tiled = whole_tiles s height width
tiles_on s t width height Split = split_tiles t height width

-- the tiles of a matrix, for such a pair of kernels
abbrev pub tiles_for : ℕ → ℕ → ℕ → ℕ → ℕ
tiles_for s t width height = tiles_on s t width height (path_of (width * height))

-- the count of the kernel that tiles a region, after a copy of n tiles
abbrev pub tiled_count : Path → ℕ → ℕ → ℕ
tiled_count Single count n = count
tiled_count Tiled count n = raised count n
tiled_count Split count n = count

-- the count of the kernel that tiles leaves, after a copy of n tiles
abbrev pub leaf_count : Path → ℕ → ℕ → ℕ
leaf_count Single count n = count
leaf_count Tiled count n = count
leaf_count Split count n = raised count n
