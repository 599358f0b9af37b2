-- A matrix that is copied as one block.
use Rattle.std.proofs.Common.{◌≡◌, ℕ, ◌+◌, ◌*◌, List, length, get_or, ap, ◌∙◌, arith}
use Rattle.places.specs.Turn.{Cells, transposed}
use Rattle.places.proofs.Turned.{transposed_cells, transposed_from}
use Rattle.tile.specs.Blocks.{pasted}
use Rattle.tile.proofs.Pasted.{whole}

-- the region of all cells is the transposed matrix
module _ {X : Type 0} (w h : ℕ) (input old new : List X) (i : length input ≡ w * h) (o : length old ≡ w * h) (e : new ≡ pasted w h 0 w 0 h input old) where
  pub whole_places : new ≡ transposed w h input
  whole_places = e ∙ whole w h input old i o

  pub whole_cells : Cells w h input new
  whole_cells x y d a b =
      ap (λ l. get_or l (x * h + y) d) whole_places ∙ transposed_cells w h input i x y d a b

-- a matrix of no cells is its transpose
module _ {X : Type 0} (w h : ℕ) (input output : List X) (i : length input ≡ w * h) (o : length output ≡ w * h) (e : h ≡ 0) where
  pub none_places : output ≡ transposed w h input
  none_places =
      let z = ap (λ n. w * n) e in
      transposed_from w h input i output o (λ q d l. absurd (omega arith))

  pub none_cells : Cells w h input output
  none_cells x y d a b = absurd (omega arith)
