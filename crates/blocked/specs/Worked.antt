-- Counts of tiles that were worked out by hand.
use Rattle.std.specs.Prelude.{◌≡◌, ℕ, List, [], ◌∷◌, Ok}
use Rattle.fault.specs.Tests.{answering}
use Rattle.blocked.specs.Answers.{countable}
use Rattle.blocked.specs.Paths.{tiles_for}

pub data Count : Type 0 where
  -- two kernels of side 16 copy a matrix of this width and height in so many tiles
  counts : ℕ → ℕ → ℕ → Count

-- that a count is as the rules have it
abbrev pub Counted : Count → Type 0
Counted (counts w h n) = answering (countable w h) (tiles_for 16 16 w h) ≡ Ok n

abbrev pub AllCounted : List Count → Type 0
AllCounted [] = Unit {0}
AllCounted (c ∷ cs) = Counted c × AllCounted cs

abbrev pub worked_counts : List Count
worked_counts = counts 15 17 0 ∷ counts 16 16 1 ∷ counts 17 16 1 ∷ []
