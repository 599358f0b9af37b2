use Rattle.std.proofs.Common.{◌≡◌, ◌*◌, ◌/◌}
use Rattle.matrix.specs.Blocks.{block}
use Rattle.tile.specs.Blocks.{block_pasted}
use Rattle.tile.specs.Kernels.{raised}
use Rattle.blocked.proofs.region.transpose_bands.Given as goal

-- the bands so far
abbrev pub invariant-loop-y_tile : goal.invariant-loop-y_tile
invariant-loop-y_tile g l =
    (l.output ≡ block_pasted l.matrix (block l.region.x l.region.wide l.region.y (l.y_tile * g.K.TileKernel.SIDE)) l.initial.output)
    × (g.K.TileKernel.count l.kernel ≡ raised (g.K.TileKernel.count l.initial.kernel) (l.y_tile * (l.region.wide / g.K.TileKernel.SIDE)))
