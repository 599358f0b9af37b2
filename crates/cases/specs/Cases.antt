-- Worked cases of the rules, as anyone can follow them by hand.
use Rattle.std.specs.Prelude.{◌≡◌, ℕ, ◌*◌, List, [], ◌∷◌, length, Some, Ok, codes, slice_index_or}
use Rattle.places.specs.Turn.{transposed}
use Rattle.transpose.specs.Answers.{transposable}
use Rattle.signal.specs.declared.shape.Shape.{Shape}
use Rattle.signal.specs.Pages.{shape_of, interleaved}

pub data Case : Type 0 where
  -- a matrix of this width and height is accepted, and what it is before and after its transposition
  transposes : ℕ → ℕ → List ℕ → List ℕ → Case
  -- in a page of this name the symbol at the first place is sent at the second
  sends : List ℕ → ℕ → ℕ → Case

-- that a case is as the rules have it, for pages of any element type
abbrev pub Holds : Type 0 → Case → Type 0
Holds X (transposes w h before after) = (transposable w h (length before) (length after) ≡ Ok tt) × (transposed w h before ≡ after)
Holds X (sends name from to) =
    (s : Shape) × (shape_of name ≡ Some s) × ((page : List X) (d : X) → length page ≡ s.width * s.height → slice_index_or (interleaved name page) to d ≡ slice_index_or page from d)

abbrev pub All : (Case → Type 0) → List Case → Type 0
All P [] = Unit {0}
All P (c ∷ cs) = P c × All P cs

abbrev pub cases : List Case
cases =
    transposes 2 3 (codes "abcdef") (codes "acebdf")
    ∷ transposes 0 5 [] []
    ∷ sends (codes "I/NAV") 1 30
    ∷ sends (codes "I/NAV") 8 1
    ∷ sends (codes "L1C") 1 38 ∷ []
