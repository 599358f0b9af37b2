-- Parts of a matrix, the halves of a part, and its leaves.
use Rattle.std.specs.Prelude.{◌≡◌, ℕ, zero, suc, ◌+◌, ◌-◌, ◌/◌, ◌<◌, ◌≤◌, Bool, cond, ◌&&◌, ◌||◌, true, List, [], ◌∷◌, ◌++◌, length, slice_index_or, nat_le, nat_lt}
use Rattle.split.specs.declared.region.Region.{Region}
use Rattle.split.specs.Tiles.{leaf, whole_tiles}

abbrev pub rows : Region → ℕ
rows r = r.row_end - r.row_start

abbrev pub cols : Region → ℕ
cols r = r.col_end - r.col_start

-- no side ends before it starts
abbrev pub Ordered : Region → Type 0
Ordered r = (r.row_start ≤ r.row_end) × (r.col_start ≤ r.col_end)

-- the region lies in a matrix of `height` rows of `width` cells
pub record Lies (width height : ℕ) (r : Region) : Type 0 where
  pub rows_go : r.row_start ≤ r.row_end
  pub cols_go : r.col_start ≤ r.col_end
  pub bottom : r.row_end ≤ height
  pub right : r.col_end ≤ width

-- the cell in column x and row y is one of the region's
abbrev pub has : ℕ → ℕ → Region → Bool
has x y r =
    (nat_le r.col_start x && nat_lt x r.col_end) && (nat_le r.row_start y && nat_lt y r.row_end)

abbrev pub region : ℕ → ℕ → ℕ → ℕ → Region
region r0 r1 c0 c1 = record { row_start = r0; row_end = r1; col_start = c0; col_end = c1 }

-- the halves by rows, and those by columns; the first has the smaller half
abbrev pub upper : Region → Region
upper r = region r.row_start (r.row_start + rows r / 2) r.col_start r.col_end

abbrev pub lower : Region → Region
lower r = region (r.row_start + rows r / 2) r.row_end r.col_start r.col_end

abbrev pub left_half : Region → Region
left_half r = region r.row_start r.row_end r.col_start (r.col_start + cols r / 2)

abbrev pub right_half : Region → Region
right_half r = region r.row_start r.row_end (r.col_start + cols r / 2) r.col_end

-- a and b are the halves of r: by rows if it has at least as many rows as columns, else by columns
pub record Halves (r a b : Region) : Type 0 where
  pub by_rows : cols r ≤ rows r → (a ≡ upper r) × (b ≡ lower r)
  pub by_cols : rows r < cols r → (a ≡ left_half r) × (b ≡ right_half r)

-- the same as functions
unfoldable pub first : Region → Region
first r = cond (nat_le (cols r) (rows r)) (upper r) (left_half r)

unfoldable pub rest : Region → Region
rest r = cond (nat_le (cols r) (rows r)) (lower r) (right_half r)

-- after at most k halvings, one inside the other, there are only leaves
unfoldable pub deep : ℕ → ℕ → ℕ → Bool
deep zero r c = leaf r c
deep (suc k) r c = leaf r c
    || cond (nat_le c r) (deep k (r / 2) c && deep k (r - r / 2) c) (deep k r (c / 2) && deep k r (c - c / 2))

-- an ordered region that k halvings are enough for
unfoldable pub sound : ℕ → Region → Bool
sound k r = nat_le r.row_start r.row_end && (nat_le r.col_start r.col_end && deep k (rows r) (cols r))

-- of regions that wait in k places, for the one at place i as many halvings are enough as there are places from i on
abbrev pub AllSound : ℕ → List Region → Type 0
AllSound k rs = (i : ℕ) (d : Region) → i < length rs → sound (k - i) (slice_index_or rs i d) ≡ true

-- the leaves from first to last, after at most `fuel` halvings
unfoldable pub leaves_within : ℕ → Region → List Region
leaves_within zero r = r ∷ []
leaves_within (suc fuel) r =
    cond (leaf (rows r) (cols r)) (r ∷ []) (leaves_within fuel (first r) ++ leaves_within fuel (rest r))

-- the same without a limit: a halving makes the sum of the sides smaller
unfoldable pub leaves : Region → List Region
leaves r = leaves_within (rows r + cols r) r

-- the leaves of regions that wait, of which the last comes first
unfoldable pub pending : List Region → List Region
pending [] = []
pending (r ∷ rs) = pending rs ++ leaves r

-- what holds of every region
abbrev pub All : (Region → Type 0) → List Region → Type 0
All P [] = Unit {0}
All P (r ∷ rs) = P r × All P rs

-- how many of the regions have the cell in column x and row y
abbrev pub holders : ℕ → ℕ → List Region → ℕ
holders x y [] = 0
holders x y (r ∷ rs) = cond (has x y r) 1 0 + holders x y rs

-- the whole tiles of regions that are each tiled as they are
abbrev pub tiles_of : ℕ → List Region → ℕ
tiles_of side [] = 0
tiles_of side (r ∷ rs) = whole_tiles side (rows r) (cols r) + tiles_of side rs
