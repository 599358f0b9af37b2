-- Laws of `placed`, at any element type.
use Rattle.std.proofs.Common.{◌≡◌, ℕ, zero, suc, ◌<◌, List, [], ◌∷◌, map, length, get_or, sym, refl, ap, ◌∙◌, arith}
use mathlib.Core.List.{map-map}
use Rattle.std.proofs.lemmas.List.{length-map, same_lists, get_or-map, get_or_default}
use Rattle.std.proofs.lemmas.List.FromFn.{length-range_with_len, get_or-range_with_len}
use Rattle.places.specs.Places.{placed, same}

module _ {X Y : Type 0} where
  -- a read of a mapped list, at the default that is mapped too
  get_or-map_at : (f : X → Y) (xs : List X) (i : ℕ) (d : X) → get_or (map f xs) i (f d) ≡ f (get_or xs i d)
  get_or-map_at f [] i d = refl
  get_or-map_at f (x ∷ xs) zero d = refl
  get_or-map_at f (x ∷ xs) (suc i) d = get_or-map_at f xs i d

  map_same : (f g : X → Y) → ((x : X) → f x ≡ g x) → (xs : List X) → map f xs ≡ map g xs
  map_same f g e [] = refl
  map_same f g e (x ∷ xs) = let r = map_same f g e xs in let h = e x in cc

module _ {X : Type 0} where
  pub placed-placed : (K L : List ℕ) (xs : List X) → placed K (placed L xs) ≡ placed (placed K L) xs
  placed-placed K L [] = refl
  placed-placed K [] (d ∷ xs) = refl
  placed-placed K (a ∷ L) (d ∷ xs) =
      map_same _ _ (λ i. get_or-map_at (λ k. get_or (d ∷ xs) k d) (a ∷ L) i a) K
      ∙ sym (map-map (λ k. get_or (d ∷ xs) k d) (λ i. get_or (a ∷ L) i a) K)

  pub length-placed : (L : List ℕ) (xs : List X) → length L ≡ length xs → length (placed L xs) ≡ length xs
  length-placed L [] e = refl
  length-placed L (d ∷ xs) e = length-map L (λ i. get_or (d ∷ xs) i d) ∙ e

  -- what stands at q
  pub get_or-placed : (L : List ℕ) (xs : List X) (q : ℕ) (d : X) → q < length L → get_or L q 0 < length xs →
      get_or (placed L xs) q d ≡ get_or xs (get_or L q 0) d
  get_or-placed L [] q d l m = absurd (omega arith)
  get_or-placed L (e ∷ xs) q d l m =
      get_or-map (λ i. get_or (e ∷ xs) i e) L q 0 d l ∙ get_or_default (e ∷ xs) (get_or L q 0) e d m

  -- a list with the elements of xs at the places of L is `placed L xs`
  pub placed_from : (L : List ℕ) (xs ys : List X) → length L ≡ length xs → length ys ≡ length xs →
      ((q : ℕ) → q < length xs → get_or L q 0 < length xs) →
      ((q : ℕ) (d : X) → q < length xs → get_or ys q d ≡ get_or xs (get_or L q 0) d) → ys ≡ placed L xs
  placed_from L xs ys a b within at =
      let p = length-placed L xs a in
      same_lists ys (placed L xs) (omega arith) (λ q d l.
      at q d (omega arith) ∙ sym (get_or-placed L xs q d (omega arith) (within q (omega arith))))

  pub placed_same : (xs : List X) → placed (same (length xs)) xs ≡ xs
  placed_same xs =
      let n = length-range_with_len 0 (length xs) in
      let at : (q : ℕ) → q < length xs → get_or (same (length xs)) q 0 ≡ q = λ q l. let g = get_or-range_with_len 0 (length xs) q 0 l in omega arith in
      sym (placed_from (same (length xs)) xs xs n refl
      (λ q l. let e = at q l in omega arith)
      (λ q d l. ap (λ i. get_or xs i d) (sym (at q l))))
