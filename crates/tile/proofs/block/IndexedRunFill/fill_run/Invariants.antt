use Rattle.std.proofs.Common.{◌≡◌, ℕ, ◌+◌, ◌*◌, ◌<◌, get_or}
use Rattle.tile.proofs.block.IndexedRunFill.fill_run.Given as goal

-- the cells so far
abbrev pub invariant-loop-k : goal.invariant-loop-k
invariant-loop-k g l =
    (j : ℕ) (d : g.row.T.Denot) → j < l.k → get_or l.run j d ≡ get_or l.matrix.cells.now ((l.y + j) * l.matrix.width + l.x) d
