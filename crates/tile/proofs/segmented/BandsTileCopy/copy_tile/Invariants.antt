use Rattle.std.proofs.Common.{◌≡◌, ◌*◌}
use Rattle.tile.specs.Blocks.{pasted}
use Rattle.tile.proofs.segmented.BandsTileCopy.copy_tile.Given as goal

-- the bands so far
abbrev pub invariant-loop-segment : goal.invariant-loop-segment
invariant-loop-segment g l =
    l.output ≡ pasted l.matrix.width l.matrix.height l.x 16 l.y (l.segment * 4) l.matrix.cells.now l.initial.output
