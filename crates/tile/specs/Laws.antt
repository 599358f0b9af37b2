-- What makes `pasted` the copy of a block.
use Rattle.std.specs.Prelude.{◌≡◌, ℕ, ◌+◌, ◌*◌, List, length}
use Rattle.places.specs.Turn.{transposed}
use Rattle.tile.specs.Blocks.{Inside, Copied, pasted}
use Rattle.tile.specs.Kernels.{raised}

-- a block's cells go to their places and no other cell changes; blocks side by side or one below the other make one block,
-- a block with no cells changes nothing, and the block of all cells is the transposed matrix
pub record Pasting (X : Type 0) : Type 0 where
  pub cells : (c r x w y h : ℕ) (input old : List X) → Inside (length input) (length old) c r x w y h →
      Copied c r x w y h input old (pasted c r x w y h input old)
  pub long : (c r x w y h : ℕ) (input old : List X) → length (pasted c r x w y h input old) ≡ length old
  pub beside : (c r x a b y h : ℕ) (input old : List X) →
      pasted c r (x + a) b y h input (pasted c r x a y h input old) ≡ pasted c r x (a + b) y h input old
  pub below : (c r x w y a b : ℕ) (input old : List X) →
      pasted c r x w (y + a) b input (pasted c r x w y a input old) ≡ pasted c r x w y (a + b) input old
  pub no_column : (c r x y h : ℕ) (input old : List X) → pasted c r x 0 y h input old ≡ old
  pub no_row : (c r x w y : ℕ) (input old : List X) → pasted c r x w y 0 input old ≡ old
  pub whole : (c r : ℕ) (input old : List X) → length input ≡ c * r → length old ≡ c * r →
      pasted c r 0 c 0 r input old ≡ transposed c r input

-- tiles may be counted one by one or together
abbrev pub Counting : Type 0
Counting = (n a b : ℕ) → raised (raised n a) b ≡ raised n (a + b)
