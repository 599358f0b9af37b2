-- The laws of places, orders and the turn.
use Rattle.std.specs.Prelude.{◌≡◌, ℕ, ◌+◌, ◌*◌, ◌<◌, List, length, slice_index, slice_index_or}
use Rattle.places.specs.Places.{placed, same, Once, inverse}
use Rattle.places.specs.Orders.{order, Inverses}
use Rattle.places.specs.Turn.{Cells, turned, turn, transposed}

-- moving by a list of places, at any element type: what stands where, moves one after the other, and the way back
pub record Moving (X : Type 0) : Type 0 where
  pub at : (L : List ℕ) (xs : List X) (q : ℕ) (d : X) → q < length L → slice_index L q < length xs →
      slice_index_or (placed L xs) q d ≡ slice_index_or xs (slice_index L q) d
  pub unmoved : (xs : List X) → placed (same (length xs)) xs ≡ xs
  pub in_turn : (K L : List ℕ) (xs : List X) → placed K (placed L xs) ≡ placed (placed K L) xs
  pub there_back : (L : List ℕ) (xs : List X) → Once (length xs) L → placed (inverse L) (placed L xs) ≡ xs
  pub back_there : (L : List ℕ) (xs : List X) → Once (length xs) L → placed L (placed (inverse L) xs) ≡ xs

-- no place is lost or doubled: by no move, by one after another, by the way back, by an order that can be undone
pub record Permuting : Type 0 where
  pub unmoved : (n : ℕ) → Once n (same n)
  pub in_turn : (n : ℕ) (K L : List ℕ) → Once n K → Once n L → Once n (placed K L)
  pub back : (n : ℕ) (L : List ℕ) → Once n L → Once n (inverse L)
  pub ordered : (n : ℕ) (f g : ℕ → ℕ) → Inverses n f g → Once n (order n f)
  pub undone : (n : ℕ) (f g : ℕ → ℕ) → Inverses n f g → inverse (order n f) ≡ order n g

-- the turn puts the cell of row y and column x at x * height + y, has each place once,
-- and is undone by the turn with the two sides exchanged
pub record Turning : Type 0 where
  pub cell : (w h x y : ℕ) → y < h → turned w h (x * h + y) ≡ y * w + x
  pub once : (w h : ℕ) → Once (w * h) (turn w h)
  pub undone : (w h : ℕ) → inverse (turn w h) ≡ turn h w

-- the same of the matrix itself
pub record Transposing (X : Type 0) : Type 0 where
  pub cells : (w h : ℕ) (xs : List X) → length xs ≡ w * h → Cells w h xs (transposed w h xs)
  pub long : (w h : ℕ) (xs : List X) → length xs ≡ w * h → length (transposed w h xs) ≡ w * h
  pub twice : (w h : ℕ) (xs : List X) → length xs ≡ w * h → transposed h w (transposed w h xs) ≡ xs
