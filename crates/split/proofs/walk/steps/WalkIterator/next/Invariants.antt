use Rattle.std.proofs.Common.{◌≡◌, ◌-◌, true, ◌++◌, length}
use Rattle.split.specs.Left.{left}
use Rattle.split.specs.Regions.{leaves, sound}
use Rattle.split.proofs.walk.steps.WalkIterator.next.Given as goal

-- `here` comes next, and its halves find room
abbrev pub invariant-loop-here : goal.invariant-loop-here
invariant-loop-here g l =
    (sound (g.row.N - length l.self.waiting.items) l.here ≡ true)
    × (left l.fn.self ≡ leaves l.here ++ left l.self)

abbrev pub decreases-loop-here : goal.decreases-loop-here
decreases-loop-here g l = g.row.N - length l.self.waiting.items
