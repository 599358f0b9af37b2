-- Which texts have a shape.
use Rattle.std.proofs.Common.{◌≡◌, ℕ, false, ◌⊎◌, List, codes, Option, sym, ap, ◌∙◌, inl, inr, ⊎_elim, arith}
use Rattle.std.specs.Str.{bytes_eq}
use Rattle.std.proofs.lemmas.Slice.Eq.{bytes_eq-Decides}
use Rattle.std.proofs.lemmas.Bool.{cases_Bool, cond-false, both_ways}
use Rattle.signal.specs.declared.shape.Shape.{Shape}
use Rattle.signal.specs.Pages.{Shaped, shape_of}
use Rattle.signal.specs.Laws.{Shapes}

differ : (xs ys : List ℕ) → (xs ≡ ys → ⊥) → bytes_eq xs ys ≡ false
differ xs ys n = grind (arith, bytes_eq-Decides)

named : (xs ys : List ℕ) → (xs ≡ ys) ⊎ (xs ≡ ys → ⊥)
named xs ys = ⊎_elim
    (λ t. inl ((bytes_eq-Decides xs ys).0 t))
    (λ f. inr (λ e. both_ways _ f ((bytes_eq-Decides xs ys).1 e)))
    (cases_Bool (bytes_eq xs ys))

pub shapes : Shapes
unfolding shape_of
shapes name = record {
  f_nav = ap shape_of;
  i_nav = ap shape_of;
  l1c = ap shape_of;
  other = λ a b c. cond-false _ _ _ (differ name _ a) ∙ cond-false _ _ _ (differ name _ b) ∙ cond-false _ _ _ (differ name _ c);
}

-- what is told name by name is the function
pub shape_told : (name : List ℕ) (r : Option Shape) → Shaped name r → r ≡ shape_of name
shape_told name r t =
    let s = shapes name in
    ⊎_elim
    (λ a. t.f_nav a ∙ sym (s.f_nav a))
    (λ a. ⊎_elim
    (λ b. t.i_nav b ∙ sym (s.i_nav b))
    (λ b. ⊎_elim (λ c. t.l1c c ∙ sym (s.l1c c)) (λ c. t.other a b c ∙ sym (s.other a b c)) (named name (codes "L1C")))
    (named name (codes "I/NAV")))
    (named name (codes "F/NAV"))
