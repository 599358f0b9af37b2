-- What a tile kernel answers and counts.
use Rattle.std.specs.Prelude.{ℕ, ◌+◌, ◌*◌, min, Bool, not, ◌&&◌, [], ◌∷◌, ◌==◌, nat_le}
use Rattle.fault.specs.declared.Refusal.TheVariants.{Outside}
use Rattle.fault.specs.Makers.{plain}
use Rattle.fault.specs.Tests.{Answer, declines, tested}

-- both buffers hold the matrix, and the tile whose first cell is in column x and row y lies in it
abbrev pub tile_fits : ℕ → ℕ → ℕ → ℕ → ℕ → ℕ → ℕ → Bool
tile_fits side input output cols rows x y =
    (input == cols * rows && output == cols * rows) && (nat_le (x + side) cols && nat_le (y + side) rows)

-- what a kernel of this side answers
abbrev pub tileable : ℕ → ℕ → ℕ → ℕ → ℕ → ℕ → ℕ → Answer
tileable side input output cols rows x y = tested (declines (not (tile_fits side input output cols rows x y)) (plain Outside) ∷ [])

-- a count that n tiles more are added to: it stops at the largest number of 64 bits
abbrev pub raised : ℕ → ℕ → ℕ
raised count n = min (count + n) 18446744073709551615
