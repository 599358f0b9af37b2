-- What comes of transposing a frame with two fresh kernels.
use Rattle.std.specs.Prelude.{ℕ, ◌*◌}
use Rattle.fault.specs.Tests.{Answer, and_then}
use Rattle.transpose.specs.Answers.{transposable}
use Rattle.blocked.specs.Answers.{countable}
use Rattle.blocked.specs.Paths.{path_of, tiles_for, tiled_count, leaf_count}
use Rattle.framing.specs.declared.Counts.{Counts}

-- the tiles are counted beforehand, then the frame is moved
abbrev pub framed : ℕ → ℕ → ℕ → ℕ → Answer
framed width height input output = and_then (countable width height) (transposable width height input output)

-- the counts of two kernels with the library's side
abbrev pub counts_of : ℕ → ℕ → Counts
counts_of width height = record {
  announced = tiles_for 16 16 width height;
  tiled = tiled_count (path_of (width * height)) 0 (tiles_for 16 16 width height);
  leaf = leaf_count (path_of (width * height)) 0 (tiles_for 16 16 width height);
}
