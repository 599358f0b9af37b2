-- Blocks, by their numbers.
use Rattle.std.specs.Prelude.{ℕ}
use Rattle.matrix.specs.declared.block.Block.{Block}

-- the `wide` columns from x on, of the `high` rows from y on
abbrev pub block : ℕ → ℕ → ℕ → ℕ → Block
block x wide y high = record { x = x; y = y; wide = wide; high = high }

-- the same with as many rows as columns
abbrev pub square : ℕ → ℕ → ℕ → Block
square x y side = block x side y side
