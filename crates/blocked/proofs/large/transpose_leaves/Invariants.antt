use Rattle.std.proofs.Common.{◌≡◌}
use Rattle.split.specs.Left.{left}
use Rattle.split.specs.Regions.{All, Lies, tiles_of}
use Rattle.tile.specs.Kernels.{raised}
use Rattle.blocked.specs.Parts.{leaves_pasted}
use Rattle.blocked.proofs.large.transpose_leaves.Given as goal

-- the leaves to come lie in the matrix; with them, copy and count are what they are to be
abbrev pub invariant-loop-row_start : goal.invariant-loop-row_start
invariant-loop-row_start g l =
    All (Lies l.matrix.width l.matrix.height) (left l.row_start-iterator)
    × (leaves_pasted l.matrix.width l.matrix.height l.matrix.cells.now (left l.row_start-iterator) l.output
    ≡ leaves_pasted l.matrix.width l.matrix.height l.matrix.cells.now (left l.fn.walk) l.fn.output)
    × (raised (g.K.TileKernel.count l.kernel) (tiles_of g.K.TileKernel.SIDE (left l.row_start-iterator))
    ≡ raised (g.K.TileKernel.count l.fn.kernel) (tiles_of g.K.TileKernel.SIDE (left l.fn.walk)))
