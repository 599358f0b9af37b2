use Rattle.std.proofs.Common.{◌≡◌}
use Rattle.tile.specs.Blocks.{pasted}
use Rattle.tile.proofs.block.transpose_runs.Given as goal

-- the columns so far
abbrev pub invariant-loop-inner_x : goal.invariant-loop-inner_x
invariant-loop-inner_x g l =
    l.output ≡ pasted l.matrix.width l.matrix.height l.block.x l.inner_x l.block.y l.block.high l.matrix.cells.now l.initial.output
