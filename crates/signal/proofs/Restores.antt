-- A page that is moved by a shape, and by that shape with its sides exchanged.
use Rattle.std.proofs.Common.{◌≡◌, ℕ, ◌+◌, ◌*◌, true, List, length, get_or, is_ok, Some, None, Ok, Err, Option, sym, refl, ap, ◌∙◌, subst, mul_comm}
use Rattle.fault.specs.Tests.{Answer, after_call}
use Rattle.fault.proofs.Left.{left_accepted}
use Rattle.places.proofs.Turned.{transposed_twice, transposed_cells}
use Rattle.transpose.proofs.Accepts.{fitting, transposable_flipped}
use Rattle.signal.specs.declared.shape.Shape.{Shape}
use Rattle.signal.specs.Pages.{sides, shape_of, flipped, fits, moved, Symbols}
use Rattle.signal.specs.Laws.{Restored}

-- a page of this shape has n symbols
abbrev Long : Option Shape → ℕ → Type 0
Long None n = ⊥
Long (Some s) n = n ≡ s.width * s.height

pub symbols_flipped : {X : Type 0} (o : Option Shape) (a b : List X) → Symbols (flipped o) a b → Symbols o b a
symbols_flipped o a b h s e x y d p q = sym (h (sides s.height s.width) (ap flipped e) y x d q p)

there_back : {X : Type 0} (o : Option Shape) (xs : List X) → Long o (length xs) → moved (flipped o) (moved o xs) ≡ xs
there_back None xs l = absurd l
there_back (Some s) xs l = transposed_twice s.width s.height xs l

long_flipped : (o : Option Shape) (n : ℕ) → Long o n → Long (flipped o) n
long_flipped None n l = l
long_flipped (Some s) n l = l ∙ mul_comm s.width s.height

flipped-flipped : (o : Option Shape) → flipped (flipped o) ≡ o
flipped-flipped None = refl
flipped-flipped (Some s) = refl

back_there : {X : Type 0} (o : Option Shape) (xs : List X) → Long o (length xs) → moved o (moved (flipped o) xs) ≡ xs
back_there o xs l =
    ap (λ p. moved p (moved (flipped o) xs)) (sym (flipped-flipped o)) ∙ there_back (flipped o) xs (long_flipped o (length xs) l)

long_by : (o : Option Shape) (s : Shape) (n : ℕ) → o ≡ Some s → n ≡ s.width * s.height → Long o n
long_by o s n e l = subst (λ p. Long p n) (sym e) l

pub restored : {X : Type 0} → Restored X
restored = record {
  sent_first = λ name s page e long. there_back (shape_of name) page (long_by _ s _ e long);
  ordered_first = λ name s page e long. back_there (shape_of name) page (long_by _ s _ e long);
}

-- an accepted page has its length
long_accepted : (o : Option Shape) (r : Answer) (i n : ℕ) → r ≡ fits o i n → is_ok r ≡ true → Long o i
long_accepted None r i n e ok = cc
long_accepted (Some s) (Err f) i n e ok = cc
long_accepted (Some s) (Ok u) i n e ok = (fitting s.width s.height i n e).input

symbols_moved : {X : Type 0} (o : Option Shape) (xs : List X) → Long o (length xs) → Symbols o xs (moved o xs)
symbols_moved o xs l s e x y d a b =
    let long : length xs ≡ s.width * s.height = subst (λ p. Long p (length xs)) e l in
    ap (λ p. get_or (moved p xs) (x * s.height + y) d) e ∙ transposed_cells s.width s.height xs long x y d a b

pub symbols_by : {X : Type 0} (o : Option Shape) (s : Shape) (xs : List X) → o ≡ Some s → length xs ≡ s.width * s.height → Symbols o xs (moved o xs)
symbols_by o s xs e long = symbols_moved o xs (long_by o s _ e long)

-- a call that answered r moved `old` by the shape o, and left `new`
module _ {X : Type 0} (o : Option Shape) (r : Answer) (old new found : List X) (n : ℕ) (answer : r ≡ fits o (length old) n)
    (places : new ≡ after_call r (moved o old) found) (ok : is_ok r ≡ true) where
  page_long : Long o (length old)
  page_long = long_accepted o r (length old) n answer ok

  page_moved : new ≡ moved o old
  page_moved = places ∙ left_accepted r (moved o old) found ok

  pub page_symbols : Symbols o old new
  page_symbols = subst (Symbols o old) (sym page_moved) (symbols_moved o old page_long)

  pub page_restored : moved (flipped o) new ≡ old
  page_restored = ap (moved (flipped o)) page_moved ∙ there_back o old page_long

  -- where the shape is that of the way back
  pub page_ordered : (p : Option Shape) → o ≡ flipped p → (page : List X) → length page ≡ length old → old ≡ moved p page → new ≡ page
  page_ordered p e page m f =
      let long : Long p (length page) = subst (λ q. Long q (length page)) (ap flipped e ∙ flipped-flipped p) (long_flipped o (length page) (subst (Long o) (sym m) page_long)) in
      page_moved ∙ ap (λ q. moved q old) e ∙ ap (moved (flipped p)) f ∙ there_back p page long

-- what a call by name adds to the move of its page, either way
pub ruleset page_rules = (transposable_flipped, symbols_flipped, page_symbols, page_restored, page_ordered)
