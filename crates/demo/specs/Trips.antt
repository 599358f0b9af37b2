-- What comes of sending a page and taking it back.
use Rattle.std.specs.Prelude.{ℕ, List}
use Rattle.fault.specs.Tests.{Answer, and_then}
use Rattle.signal.specs.Pages.{shape_of, fits}

-- the answer to a page of n elements that is to go into m places, either way
abbrev pub paged : List ℕ → ℕ → ℕ → Answer
paged name n m = fits (shape_of name) n m

-- the answer to a page of n elements that is sent into m places and taken back into k
abbrev pub tripped : List ℕ → ℕ → ℕ → ℕ → Answer
tripped name n m k = and_then (paged name n m) (paged name m k)
