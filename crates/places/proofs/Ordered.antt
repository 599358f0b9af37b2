-- Orders that can be undone are permutations.
use Rattle.std.proofs.Common.{◌≡◌, ℕ, ◌<◌, List, length, get_or, sym, ap, ◌∙◌, arith}
use Rattle.std.proofs.lemmas.List.FromFn.{length-map-range_with_len, get_or-map-range_with_len}
use Rattle.places.specs.Places.{placed, Once, inverse}
use Rattle.places.specs.Orders.{order, Inverses}
use Rattle.places.specs.Laws.{Moving, Permuting}
use Rattle.places.proofs.Moved.{placed-placed, get_or-placed, placed_from, placed_same}
use Rattle.places.proofs.Permuted.{Once-same, Once-placed, Once-inverse, inverse_from, there_back, back_there}

pub length-order : (n : ℕ) (f : ℕ → ℕ) → length (order n f) ≡ n
length-order n f = length-map-range_with_len f 0 n

pub get_or-order : (n : ℕ) (f : ℕ → ℕ) (q d : ℕ) → q < n → get_or (order n f) q d ≡ f q
get_or-order n f q d l = get_or-map-range_with_len f 0 n q q d l (omega arith)

module _ (n : ℕ) (f g : ℕ → ℕ) (i : Inverses n f g) where
  pub Once-order : Once n (order n f)
  Once-order = record {
    long = length-order n f;
    below = λ q l. let e = get_or-order n f q 0 l in let b = i.there q l in omega arith;
    each = λ p l. (
      g p,
      i.back p l,
      get_or-order n f (g p) 0 (i.back p l) ∙ i.back_there p l,
      λ j k e. sym (i.there_back j k) ∙ ap g (sym (get_or-order n f j 0 k) ∙ e),
    );
  }

  pub inverse-order : inverse (order n f) ≡ order n g
  inverse-order = inverse_from n (order n f) Once-order (order n g) (length-order n g)
      (λ p l. let e = get_or-order n g p 0 l in let b = i.back p l in omega arith)
      (λ p l.
      let e = get_or-order n g p 0 l in
      ap (λ k. get_or (order n f) k 0) e ∙ get_or-order n f (g p) 0 (i.back p l) ∙ i.back_there p l)

-- a list of n elements, with the element of f q at each place q
pub ordered_from : {X : Type 0} (n : ℕ) (f : ℕ → ℕ) (xs ys : List X) → length xs ≡ n → length ys ≡ n → ((q : ℕ) → q < n → f q < n) →
    ((q : ℕ) (d : X) → q < n → get_or ys q d ≡ get_or xs (f q) d) → ys ≡ placed (order n f) xs
ordered_from n f xs ys a b below at =
    let m = length-order n f in
    placed_from (order n f) xs ys (omega arith) (omega arith)
    (λ q l. let e = get_or-order n f q 0 (omega arith) in let u = below q (omega arith) in omega arith)
    (λ q d l.
    let l' : q < n = omega arith in
    at q d l' ∙ ap (λ i. get_or xs i d) (sym (get_or-order n f q 0 l')))

pub get_or-ordered : {X : Type 0} (n : ℕ) (f : ℕ → ℕ) (xs : List X) → length xs ≡ n → (q : ℕ) (d : X) → q < n → f q < n →
    get_or (placed (order n f) xs) q d ≡ get_or xs (f q) d
get_or-ordered n f xs e q d l b =
    let m = length-order n f in
    let g = get_or-order n f q 0 l in
    get_or-placed (order n f) xs q d (omega arith) (omega arith) ∙ ap (λ i. get_or xs i d) g

pub moving : {X : Type 0} → Moving X
moving = record { at = get_or-placed; unmoved = placed_same; in_turn = placed-placed; there_back = there_back; back_there = back_there }

pub permuting : Permuting
permuting = record { unmoved = Once-same; in_turn = Once-placed; back = Once-inverse; ordered = Once-order; undone = inverse-order }
