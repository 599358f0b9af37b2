-- What is promised of pages, in the words of the signals.
use Rattle.std.specs.Prelude.{◌≡◌, ℕ, ◌*◌, List, length, Some}
use Rattle.signal.specs.declared.shape.Shape.{Shape}
use Rattle.signal.specs.Pages.{Shaped, shape_of, interleaved, deinterleaved}

-- three names have their shape, and no other text has one
abbrev pub Shapes : Type 0
Shapes = (name : List ℕ) → Shaped name (shape_of name)

-- a page of each name comes back whole, whichever way it goes first
pub record Restored (X : Type 0) : Type 0 where
  pub sent_first : (name : List ℕ) (s : Shape) (page : List X) → shape_of name ≡ Some s → length page ≡ s.width * s.height →
      deinterleaved name (interleaved name page) ≡ page
  pub ordered_first : (name : List ℕ) (s : Shape) (page : List X) → shape_of name ≡ Some s → length page ≡ s.width * s.height →
      interleaved name (deinterleaved name page) ≡ page
