-- When a matrix is halved, and how many whole tiles its parts have.
use Rattle.std.specs.Prelude.{ℕ, zero, suc, ◌+◌, ◌-◌, ◌*◌, ◌/◌, Bool, cond, ◌&&◌, ◌||◌, nat_le}

-- a part is not halved any more: neither side is above 128, or one is 2 or less
abbrev pub leaf : ℕ → ℕ → Bool
leaf rows cols = (nat_le rows 128 && nat_le cols 128) || (nat_le rows 2 || nat_le cols 2)

-- the whole tiles of a part that is tiled as it is
abbrev pub whole_tiles : ℕ → ℕ → ℕ → ℕ
whole_tiles side rows cols = (rows / side) * (cols / side)

-- the whole tiles of all leaves, after at most `deep` halvings one inside the other
abbrev pub tiles_within : ℕ → ℕ → ℕ → ℕ → ℕ
tiles_within zero side rows cols = whole_tiles side rows cols
tiles_within (suc deep) side rows cols =
    cond (leaf rows cols) (whole_tiles side rows cols)
    (cond (nat_le cols rows)
    (tiles_within deep side (rows / 2) cols + tiles_within deep side (rows - rows / 2) cols)
    (tiles_within deep side rows (cols / 2) + tiles_within deep side rows (cols - cols / 2)))

-- the same without a limit: a halving makes the sum of the sides smaller, so there are no more halvings than that sum
unfoldable pub split_tiles : ℕ → ℕ → ℕ → ℕ
split_tiles side rows cols = tiles_within (rows + cols) side rows cols
