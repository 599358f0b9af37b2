use Rattle.std.proofs.Common.{◌+◌}
use Rattle.split.proofs.count.+split_tiles.Given as goal

-- the sum of the sides falls
abbrev pub decreases-split_tiles : goal.decreases-split_tiles
decreases-split_tiles l = l.nbr_rows + l.nbr_cols
