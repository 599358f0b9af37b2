-- What a count of tiles answers, from the sides.
use Rattle.std.specs.Prelude.{ℕ, ◌*◌, ◌^◌, [], ◌∷◌, nat_le, nat_lt}
use Rattle.fault.specs.declared.Refusal.TheVariants.{TooManyCells, TooLong}
use Rattle.fault.specs.Makers.{plain}
use Rattle.fault.specs.Tests.{Answer, declines, tested}

-- the tests of a count of tiles, in their order
abbrev pub countable : ℕ → ℕ → Answer
countable width height = tested (
    declines (nat_le (2 ^ 64) (width * height)) (plain TooManyCells)
    ∷ declines (nat_lt 16777216 (width * height)) (plain TooLong) ∷ [])
