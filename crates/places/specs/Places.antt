-- Lists of places: which element stands where after a move, at any element type.
-- A place is an index counted from 0.
use Rattle.std.specs.Prelude.{◌≡◌, ℕ, suc, ◌<◌, cond, List, [], ◌∷◌, map, length, ◌==◌, slice_index, slice_index_or}
use Rattle.std.specs.List.{range_with_len}

-- the list whose element q is the element of xs at the place L[q]
abbrev pub placed : {X : Type 0} → List ℕ → List X → List X
placed L [] = []
placed L (d ∷ xs) = map (λ i. slice_index_or (d ∷ xs) i d) L

-- 0, 1, .., n - 1: every place where it is
abbrev pub same : ℕ → List ℕ
same n = range_with_len 0 n

-- L is a permutation of 0 .. n - 1: it has each of these places exactly once, and no other
pub record Once (n : ℕ) (L : List ℕ) : Type 0 where
  pub long : length L ≡ n
  pub below : (q : ℕ) → q < n → slice_index L q < n
  pub each : (p : ℕ) → p < n → (q : ℕ) × (q < n) × (slice_index L q ≡ p) × ((j : ℕ) → j < n → slice_index L j ≡ p → j ≡ q)

-- the first index at which L has the place p
abbrev pub place_of : ℕ → List ℕ → ℕ
place_of p [] = 0
place_of p (i ∷ L) = cond (i == p) 0 (suc (place_of p L))

-- the list that says of each place at which index of L it stands
abbrev pub inverse : List ℕ → List ℕ
inverse L = map (λ p. place_of p L) (same (length L))
