-- Tiles side by side, bands one below the other, and a region from its parts.
use Rattle.std.proofs.Common.{◌≡◌, ℕ, ◌+◌, ◌-◌, ◌*◌, ◌^◌, ◌<◌, ◌≤◌, List, sym, ap, ◌∙◌, arith}
use Rattle.std.proofs.lemmas.Nat.{div-add-mod'}
use Rattle.tile.specs.Blocks.{pasted}
use Rattle.tile.specs.Kernels.{raised}
use Rattle.tile.proofs.Pasted.{beside, above, beside_more, below_more, no_column, no_row}
use Rattle.transpose.proofs.Whole.{whole_places, whole_cells}
use Rattle.blocked.specs.Parts.{in_tiles, band_pasted}

-- a region: the rows below the whole bands, which are the bottom edge with the corner, then the bands
abbrev pub parts_pasted : {X : Type 0} → ℕ → ℕ → ℕ → ℕ → ℕ → ℕ → ℕ → List X → List X → List X
parts_pasted side cols rows x wide y high input output =
    pasted cols rows x wide y (in_tiles side high) input
    (pasted cols rows x wide (y + in_tiles side high) (high - in_tiles side high) input output)

-- whole tiles end within what they are in
pub tiles_end : (side n : ℕ) → in_tiles side n ≤ n
tiles_end side n = omega (arith, div-add-mod' n side)

-- nothing is counted yet
pub none_raised : (n : ℕ) → n < 2 ^ 64 → n ≡ raised n 0
none_raised n l = omega arith

module _ {X : Type 0} (c r : ℕ) (input : List X) where
  pub no_tiles : (x s y h : ℕ) (old : List X) → old ≡ pasted c r x (0 * s) y h input old
  no_tiles x s y h old = let e : 0 ≡ 0 * s = omega arith in sym (no_column c r input x y h old) ∙ ap (λ n. pasted c r x n y h input old) e

  pub no_bands : (x w y s : ℕ) (old : List X) → old ≡ pasted c r x w y (0 * s) input old
  no_bands x w y s old = let e : 0 ≡ 0 * s = omega arith in sym (no_row c r input x w y old) ∙ ap (λ n. pasted c r x w y n input old) e

  -- one tile more; the code reads the side as e
  pub tile_more : (x s y k e : ℕ) (old mid new : List X) → e ≡ s → mid ≡ pasted c r x (k * s) y s input old →
      new ≡ pasted c r (x + k * e) s y s input mid → new ≡ pasted c r x ((k + 1) * s) y s input old
  tile_more x s y k e old mid new f a b =
      beside_more c r input x (k * s) s ((k + 1) * s) y s old mid new a (b ∙ ap (λ n. pasted c r (x + k * n) s y s input mid) f) (omega arith)

  -- a band is all its columns
  pub band_whole : (side x w y : ℕ) (old : List X) → band_pasted side c r x w y input old ≡ pasted c r x w y side input old
  band_whole side x w y old =
      let l = tiles_end side w in
      let e : in_tiles side w + (w - in_tiles side w) ≡ w = omega arith in
      beside c r input x (in_tiles side w) (w - in_tiles side w) y side old ∙ ap (λ n. pasted c r x n y side input old) e

  -- one band more
  pub band_more : (x w s y k e : ℕ) (old mid new : List X) → e ≡ s → mid ≡ pasted c r x w y (k * s) input old →
      new ≡ band_pasted s c r x w (y + k * e) input mid → new ≡ pasted c r x w y ((k + 1) * s) input old
  band_more x w s y k e old mid new f a b =
      below_more c r input x w y (k * s) s ((k + 1) * s) old mid new a
      (b ∙ band_whole s x w (y + k * e) mid ∙ ap (λ n. pasted c r x w (y + k * n) s input mid) f) (omega arith)

  -- the parts are the region
  pub parts_whole : (side x w y h : ℕ) (old : List X) → parts_pasted side c r x w y h input old ≡ pasted c r x w y h input old
  parts_whole side x w y h old =
      let l = tiles_end side h in
      let e : in_tiles side h + (h - in_tiles side h) ≡ h = omega arith in
      above c r input x w y (in_tiles side h) (h - in_tiles side h) old ∙ ap (λ n. pasted c r x w y n input old) e

-- what the copy of all cells is, for a function that names these rules
pub ruleset whole_rules = (whole_places, whole_cells)
