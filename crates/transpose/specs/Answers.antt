-- What a transposition answers, from its sides and the two lengths.
use Rattle.std.specs.Prelude.{ℕ, ◌*◌, ◌^◌, not, List, [], ◌∷◌, ◌==◌, nat_le}
use Rattle.fault.specs.declared.Refusal.TheVariants.{TooManyCells, InputLength, OutputLength}
use Rattle.fault.specs.Makers.{plain}
use Rattle.fault.specs.Tests.{Test, Answer, declines, tested}

-- its tests, in their order
abbrev pub turn_tests : ℕ → ℕ → ℕ → ℕ → List Test
turn_tests width height input output =
    declines (nat_le (2 ^ 64) (width * height)) (plain TooManyCells)
    ∷ declines (not (input == width * height)) (plain InputLength)
    ∷ declines (not (output == width * height)) (plain OutputLength) ∷ []

abbrev pub transposable : ℕ → ℕ → ℕ → ℕ → Answer
transposable width height input output = tested (turn_tests width height input output)
