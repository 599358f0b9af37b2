use Rattle.std.proofs.Common.{◌≡◌, ℕ, ◌<◌, get_or}
use Rattle.demo.proofs.rules.fill.Given as goal

-- the elements so far
abbrev pub invariant-loop-k : goal.invariant-loop-k
invariant-loop-k g l = (j : ℕ) (d : g.row.R-Item.Denot) → j < l.k → get_or l.page j d ≡ g.R.Rule.at j
