-- What is promised of split matrices.
use Rattle.std.specs.Prelude.{◌≡◌, ℕ, ◌+◌, ◌-◌, ◌*◌, ◌/◌, ◌^◌, ◌<◌, ◌≤◌, true, false, cond}
use Rattle.split.specs.declared.region.Region.{Region}
use Rattle.split.specs.Tiles.{leaf, whole_tiles, split_tiles}
use Rattle.split.specs.Regions.{rows, cols, has, Lies, deep, leaves, All, holders, tiles_of}

-- the tiles of a matrix: of a leaf those that it has, of any other the sum over its halves
pub record Counted : Type 0 where
  pub of_leaf : (s r c : ℕ) → leaf r c ≡ true → split_tiles s r c ≡ whole_tiles s r c
  pub by_rows : (s r c : ℕ) → leaf r c ≡ false → c ≤ r → split_tiles s r c ≡ split_tiles s (r / 2) c + split_tiles s (r - r / 2) c
  pub by_cols : (s r c : ℕ) → leaf r c ≡ false → r < c → split_tiles s r c ≡ split_tiles s r (c / 2) + split_tiles s r (c - c / 2)

-- the leaves of a region: each is one, every cell of the region is in exactly one of them and no other cell is in any,
-- they lie in the matrix if the region does, and their tiles are the region's
pub record Parted : Type 0 where
  pub each : (r : Region) → All (λ a. leaf (rows a) (cols a) ≡ true) (leaves r)
  pub once : (x y : ℕ) (r : Region) → holders x y (leaves r) ≡ cond (has x y r) 1 0
  pub lie : (w h : ℕ) (r : Region) → Lies w h r → All (Lies w h) (leaves r)
  pub tiles : (s : ℕ) (r : Region) → tiles_of s (leaves r) ≡ split_tiles s (rows r) (cols r)

-- n halvings, one inside the other, are enough for every matrix of at most 2 ^ (n + 8) cells
abbrev pub Roomy : Type 0
Roomy = (n r c : ℕ) → r * c ≤ 2 ^ (n + 8) → deep n r c ≡ true
