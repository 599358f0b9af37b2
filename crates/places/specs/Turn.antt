-- The turn of a matrix: rows become columns.
-- A matrix of `height` rows of `width` cells has the cell in row y and column x at the place y * width + x.
use Rattle.std.specs.Prelude.{◌≡◌, ℕ, ◌+◌, ◌*◌, ◌/◌, ◌%◌, ◌<◌, List, slice_index_or}
use Rattle.places.specs.Places.{placed}
use Rattle.places.specs.Orders.{order}

-- after[x * height + y] is before[y * width + x], for every cell of the matrix
abbrev pub Cells : {X : Type 0} → ℕ → ℕ → List X → List X → Type 0
Cells {X} width height before after =
    (x y : ℕ) (d : X) → x < width → y < height → slice_index_or after (x * height + y) d ≡ slice_index_or before (y * width + x) d

-- the place before the turn of what stands at q = x * height + y after it
unfoldable pub turned : ℕ → ℕ → ℕ → ℕ
turned width height q = q % height * width + q / height

abbrev pub turn : ℕ → ℕ → List ℕ
turn width height = order (width * height) (turned width height)

-- the matrix after the turn
unfoldable pub transposed : {X : Type 0} → ℕ → ℕ → List X → List X
transposed width height xs = placed (turn width height) xs
