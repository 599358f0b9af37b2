use Rattle.std.proofs.Common.{rules}
use Rattle.tile.proofs.Runs.{in_column}
use Rattle.tile.proofs.block.IndexedRunFill.fill_run.Goals as goal

pub offset_bounds-matrix-y : goal.offset_bounds-matrix-y
offset_bounds-matrix-y g c =
    let e = in_column c.args.y c.loop-k.k _ c.args.matrix.width c.args.x _ c.loop-k-test.true c.requires.column c.requires.rows in search rules
