-- The rules by which the program makes its pages.
use Rattle.std.specs.Prelude.{ℕ, ◌/◌, ◌%◌, ◌^◌, pos, ◌-ℤ◌, count_ones}
use Rattle.sample.specs.declared.Sample.{Sample}

-- 1 where the place has an odd number of one bits
abbrev pub symbol_at : ℕ → ℕ
symbol_at k = count_ones k % 2

-- the place itself, as far as 32 bits go
abbrev pub number_at : ℕ → ℕ
number_at k = k % 2 ^ 32

-- the low seven bits of the place and the seven above them, each less 64
abbrev pub sample_at : ℕ → Sample
sample_at k = record { i = pos (k % 128) -ℤ pos 64; q = pos (k / 128 % 128) -ℤ pos 64 }
