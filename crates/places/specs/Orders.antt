-- An order: a function on places, and the list of what it gives.
use Rattle.std.specs.Prelude.{◌≡◌, ℕ, ◌<◌, List, map}
use Rattle.places.specs.Places.{same}

-- f q at each place q below n
abbrev pub order : ℕ → (ℕ → ℕ) → List ℕ
order n f = map f (same n)

-- below n, f and g stay below n and undo each other
pub record Inverses (n : ℕ) (f g : ℕ → ℕ) : Type 0 where
  pub there : (q : ℕ) → q < n → f q < n
  pub back : (q : ℕ) → q < n → g q < n
  pub there_back : (q : ℕ) → q < n → g (f q) ≡ q
  pub back_there : (q : ℕ) → q < n → f (g q) ≡ q
