-- Each worked case, worked.
use Rattle.std.proofs.Common.{◌≡◌, ℕ, ◌+◌, ◌*◌, ◌<◌, List, [], Some, codes, refl, lit<}
use Rattle.places.specs.Turn.{turned, transposed}
use Rattle.signal.specs.declared.shape.Shape.{Shape}
use Rattle.signal.specs.Pages.{shape_of}
use Rattle.signal.proofs.Names.{shapes}
use Rattle.signal.proofs.Restores.{symbols_by}
use Rattle.cases.specs.Cases.{transposes, sends, Holds, All, cases}

module _ (X : Type 0) where
  letters : Holds X (transposes 2 3 (codes "abcdef") (codes "acebdf"))
  unfolding turned transposed
  letters = (refl, refl)

  nothing : Holds X (transposes 0 5 [] [])
  unfolding turned transposed
  nothing = (refl, refl)

  -- the symbol of row y and column x
  sent : (name : List ℕ) (s : Shape) → shape_of name ≡ Some s → (x y : ℕ) → x < s.width → y < s.height →
      Holds X (sends name (y * s.width + x) (x * s.height + y))
  sent name s e x y a b = (s, e, λ page d long. symbols_by (shape_of name) s page e long s e x y d a b)

  pub shown : All (Holds X) cases
  shown = (
    letters,
    (
      nothing,
      (
        sent _ _ ((shapes _).i_nav refl) 1 0 (lit< tt) (lit< tt),
        (
          sent _ _ ((shapes _).i_nav refl) 0 1 (lit< tt) (lit< tt),
          (sent _ _ ((shapes _).l1c refl) 1 0 (lit< tt) (lit< tt), tt),
        ),
      ),
    ),
  )
