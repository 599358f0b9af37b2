use Rattle.std.proofs.Common.{◌≡◌, ℕ, ◌+◌, ◌*◌, ◌<◌, length, get_or}
use Rattle.tile.proofs.block.SteppedRunFill.fill_run.Given as goal

-- the cells so far
abbrev pub invariant-loop-cell : goal.invariant-loop-cell
invariant-loop-cell g l =
    ((j : ℕ) (d : g.row.T.Denot) → j < l.cell-index → get_or l.run j d ≡ get_or l.matrix.cells.now ((l.y + j) * l.matrix.width + l.x) d)
    × (l.cell-index < length l.run → l.at ≡ (l.y + l.cell-index) * l.matrix.width + l.x)
