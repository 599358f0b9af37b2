-- The tiles of a matrix in the words of the rules.
use Rattle.std.specs.Prelude.{◌≡◌, ℕ, ◌*◌, ◌/◌, ◌<◌, ◌≤◌}
use Rattle.split.specs.Tiles.{split_tiles}
use Rattle.blocked.specs.Paths.{path_of, tiles_for, tiled_count, leaf_count}

-- Up to 255 cells no tile is counted; up to 1,048,576 the whole tiles of the matrix, by the first kernel;
-- above that those of its leaves, by the second. The other kernel's count stays.
pub record Paths : Type 0 where
  pub single : (s t w h a b n : ℕ) → w * h ≤ 255 →
      (tiles_for s t w h ≡ 0) × (tiled_count (path_of (w * h)) a n ≡ a) × (leaf_count (path_of (w * h)) b n ≡ b)
  pub tiled : (s t w h b n : ℕ) → 255 < w * h → w * h ≤ 1048576 →
      (tiles_for s t w h ≡ (h / s) * (w / s)) × (leaf_count (path_of (w * h)) b n ≡ b)
  pub split : (s t w h a n : ℕ) → 1048576 < w * h →
      (tiles_for s t w h ≡ split_tiles t h w) × (tiled_count (path_of (w * h)) a n ≡ a)
