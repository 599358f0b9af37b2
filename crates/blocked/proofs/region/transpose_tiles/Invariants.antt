use Rattle.std.proofs.Common.{◌≡◌, ◌*◌}
use Rattle.matrix.specs.Blocks.{block}
use Rattle.tile.specs.Blocks.{block_pasted}
use Rattle.tile.specs.Kernels.{raised}
use Rattle.blocked.proofs.region.transpose_tiles.Given as goal

-- the tiles so far
abbrev pub invariant-loop-x_tile : goal.invariant-loop-x_tile
invariant-loop-x_tile g l =
    (l.output ≡ block_pasted l.matrix (block l.band.x (l.x_tile * g.K.TileKernel.SIDE) l.band.y g.K.TileKernel.SIDE) l.initial.output)
    × (g.K.TileKernel.count l.kernel ≡ raised (g.K.TileKernel.count l.initial.kernel) l.x_tile)
