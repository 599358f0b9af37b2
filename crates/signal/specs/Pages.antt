-- The pages of the signals, by name, and how they are interleaved.
use Rattle.std.specs.Prelude.{◌≡◌, ℕ, cond, List, Some, None, Err, codes, Option, ◌≢◌}
use Rattle.std.specs.Str.{bytes_eq}
use Rattle.fault.specs.declared.Refusal.TheVariants.{NoShape}
use Rattle.fault.specs.Makers.{plain}
use Rattle.fault.specs.Tests.{Answer}
use Rattle.places.specs.Turn.{Cells, transposed}
use Rattle.transpose.specs.Answers.{transposable}
use Rattle.signal.specs.declared.shape.Shape.{Shape}

abbrev pub sides : ℕ → ℕ → Shape
sides w h = record { width = w; height = h }

-- r is the shape of the name, told name by name, letter by letter
pub record Shaped (name : List ℕ) (r : Option Shape) : Type 0 where
  pub f_nav : name ≡ codes "F/NAV" → r ≡ Some (sides 8 61)
  pub i_nav : name ≡ codes "I/NAV" → r ≡ Some (sides 8 30)
  pub l1c : name ≡ codes "L1C" → r ≡ Some (sides 46 38)
  pub other : (name ≢ codes "F/NAV") → (name ≢ codes "I/NAV") → (name ≢ codes "L1C") → r ≡ None

-- the same as a function
unfoldable pub shape_of : List ℕ → Option Shape
shape_of name =
    cond (bytes_eq name (codes "F/NAV")) (Some (sides 8 61))
    (cond (bytes_eq name (codes "I/NAV")) (Some (sides 8 30)) (cond (bytes_eq name (codes "L1C")) (Some (sides 46 38)) None))

-- the way back: the two sides exchanged
abbrev pub flipped : Option Shape → Option Shape
flipped None = None
flipped (Some s) = Some (sides s.height s.width)

-- what a move by a shape answers, for two lengths
abbrev pub fits : Option Shape → ℕ → ℕ → Answer
fits None input output = Err (plain NoShape)
fits (Some s) input output = transposable s.width s.height input output

-- the symbols after a move by a shape
abbrev pub moved : {X : Type 0} → Option Shape → List X → List X
moved None xs = xs
moved (Some s) xs = transposed s.width s.height xs

-- symbol y * width + x of a page of this shape stands at x * height + y of what is sent
abbrev pub Symbols : {X : Type 0} → Option Shape → List X → List X → Type 0
Symbols o page sent =
    (s : Shape) → o ≡ Some s → Cells s.width s.height page sent

-- a page as it is sent, and a page that was sent put in order again
abbrev pub interleaved : {X : Type 0} → List ℕ → List X → List X
interleaved name xs = moved (shape_of name) xs

abbrev pub deinterleaved : {X : Type 0} → List ℕ → List X → List X
deinterleaved name xs = moved (flipped (shape_of name)) xs
