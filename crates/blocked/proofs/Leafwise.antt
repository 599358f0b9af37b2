-- A matrix that is copied leaf by leaf.
use Rattle.std.proofs.Common.{◌≡◌, ℕ, ◌+◌, ◌-◌, ◌/◌, false, List, [], ◌∷◌, ◌++◌, sym, refl, ap, ◌∙◌, subst, ap₂, arith}
use Rattle.split.specs.declared.region.Region.{Region}
use Rattle.split.specs.Tiles.{leaf, split_tiles}
use Rattle.split.specs.Regions.{rows, cols, region, Lies, first, rest, leaves, All, tiles_of}
use Rattle.split.proofs.Tiling.{thick}
use Rattle.split.proofs.Halving.{by_cut, by_leaves}
use Rattle.split.proofs.Leaves.{lie, leaves-tiles}
use Rattle.tile.specs.Blocks.{pasted}
use Rattle.tile.proofs.Pasted.{beside_more, below_more}
use Rattle.blocked.specs.Parts.{region_pasted, leaves_pasted}

module _ {X : Type 0} (c r : ℕ) (input : List X) where
  all_both : (us vs : List Region) (old : List X) → leaves_pasted c r input (us ++ vs) old ≡ leaves_pasted c r input vs (leaves_pasted c r input us old)
  all_both [] vs old = refl
  all_both (u ∷ us) vs old = all_both us vs (region_pasted c r input u old)

  -- both halves are the region
  halves_pasted : (p : Region) → leaf (rows p) (cols p) ≡ false → (old : List X) →
      region_pasted c r input (rest p) (region_pasted c r input (first p) old) ≡ region_pasted c r input p old
  halves_pasted p e old =
      let t = thick (rows p) (cols p) e in
      by_cut p (λ a b. region_pasted c r input b (region_pasted c r input a old) ≡ region_pasted c r input p old)
      (λ _.
      let u : p.row_start + rows p / 2 - p.row_start ≡ rows p / 2 = omega arith in
      let v : p.row_end - (p.row_start + rows p / 2) ≡ rows p - rows p / 2 = omega arith in
      below_more c r input p.col_start (cols p) p.row_start (rows p / 2) (p.row_end - (p.row_start + rows p / 2)) (rows p)
      old _ _ (ap (λ n. pasted c r p.col_start (cols p) p.row_start n input old) u) refl (omega arith))
      (λ _.
      let u : p.col_start + cols p / 2 - p.col_start ≡ cols p / 2 = omega arith in
      beside_more c r input p.col_start (cols p / 2) (p.col_end - (p.col_start + cols p / 2)) (cols p) p.row_start (rows p)
      old _ _ (ap (λ n. pasted c r p.col_start n p.row_start (rows p) input old) u) refl (omega arith))

  leaves_pasted-leaves : (p : Region) (old : List X) → leaves_pasted c r input (leaves p) old ≡ region_pasted c r input p old
  leaves_pasted-leaves =
      by_leaves (λ p ls. (old : List X) → leaves_pasted c r input ls old ≡ region_pasted c r input p old)
      (λ p e old. refl)
      (λ p us vs e f g old.
      all_both us vs old ∙ g (leaves_pasted c r input us old) ∙ ap (region_pasted c r input (rest p)) (f old) ∙ halves_pasted p e old)

-- the leaves of the whole matrix
module _ {X : Type 0} (c r : ℕ) (input : List X) (left : List Region) (e : left ≡ leaves (region 0 r 0 c)) where
  pub whole_lies : All (Lies c r) left
  whole_lies = subst (All (Lies c r)) (sym e)
      (lie c r (region 0 r 0 c) record { rows_go = omega arith; cols_go = omega arith; bottom = omega arith; right = omega arith })

  pub whole_pasted : (old : List X) → leaves_pasted c r input left old ≡ pasted c r 0 c 0 r input old
  whole_pasted old =
      let h : r - 0 ≡ r = omega arith in
      let w : c - 0 ≡ c = omega arith in
      ap (λ l. leaves_pasted c r input l old) e ∙ leaves_pasted-leaves c r input (region 0 r 0 c) old
      ∙ ap₂ (λ a b. pasted c r 0 a 0 b input old) w h

  pub whole_counted : (side : ℕ) → tiles_of side left ≡ split_tiles side r c
  whole_counted side =
      let h : r - 0 ≡ r = omega arith in
      let w : c - 0 ≡ c = omega arith in
      ap (tiles_of side) e ∙ leaves-tiles side (region 0 r 0 c) ∙ ap₂ (split_tiles side) h w
