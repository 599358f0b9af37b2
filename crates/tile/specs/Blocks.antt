-- A block of a matrix, and what copying it leaves.
-- The matrix has `rows` rows of `cols` cells. The output is its transpose, with `cols` rows of `rows` cells,
-- so the cell in column u and row v belongs at the place u * rows + v of the output.
-- The block has the `wide` columns from x on, of the `high` rows from y on.
use Rattle.std.specs.Prelude.{◌≡◌, ℕ, suc, ◌+◌, ◌*◌, ◌/◌, ◌%◌, ◌<◌, ◌≤◌, Bool, cond, ◌&&◌, List, [], ◌∷◌, length, nat_le, nat_lt, slice_index_or}
use Rattle.places.specs.Turn.{turned}
use Rattle.matrix.specs.declared.Matrix.{Matrix}
use Rattle.matrix.specs.declared.block.Block.{Block}

-- two buffers of these lengths hold the matrix, and the block lies in it
pub record Inside (input output cols rows x wide y high : ℕ) : Type 0 where
  pub input_len : input ≡ cols * rows
  pub output_len : output ≡ cols * rows
  pub right : x + wide ≤ cols
  pub bottom : y + high ≤ rows

-- the place q of the output is for a cell of the block
unfoldable pub in_block : ℕ → ℕ → ℕ → ℕ → ℕ → ℕ → Bool
in_block rows x wide y high q =
    (nat_le x (q / rows) && nat_lt (q / rows) (x + wide)) && (nat_le y (q % rows) && nat_lt (q % rows) (y + high))

-- each element by f, which is told the element's place; the first one's is k
abbrev pub each_at : {X : Type 0} → (ℕ → X → X) → ℕ → List X → List X
each_at f k [] = []
each_at f k (a ∷ bs) = f k a ∷ each_at f (suc k) bs

-- the output once the block's cells are copied to their places in it
unfoldable pub pasted : {X : Type 0} → ℕ → ℕ → ℕ → ℕ → ℕ → ℕ → List X → List X → List X
pasted cols rows x wide y high input output =
    each_at (λ q a. cond (in_block rows x wide y high q) (slice_index_or input (turned cols rows q) a) a) 0 output

-- what a copy of the block is, cell by cell: the cells of the block are at their places in `new`,
-- and every other cell is as it was in `old`
pub record Copied {X : Type 0} (cols rows x wide y high : ℕ) (input old new : List X) : Type 0 where
  pub placed : (u v : ℕ) (d : X) → x ≤ u → u < x + wide → y ≤ v → v < y + high →
      slice_index_or new (u * rows + v) d ≡ slice_index_or input (v * cols + u) d
  pub others : (u v : ℕ) (d : X) → u < cols → v < rows → (x ≤ u → u < x + wide → y ≤ v → v < y + high → ⊥) →
      slice_index_or new (u * rows + v) d ≡ slice_index_or old (u * rows + v) d

-- the same of a matrix and a block of it
abbrev pub BlockInside : {X : Type 0} → Matrix X → ℕ → Block → Type 0
BlockInside m output b = Inside (length m.cells.now) output m.width m.height b.x b.wide b.y b.high

abbrev pub block_pasted : {X : Type 0} → Matrix X → Block → List X → List X
block_pasted m b output = pasted m.width m.height b.x b.wide b.y b.high m.cells.now output
