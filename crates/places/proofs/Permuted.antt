-- Permutations of places: they follow one another, and each has an inverse.
use Rattle.std.proofs.Common.{◌≡◌, ℕ, zero, suc, ◌<◌, List, [], ◌∷◌, length, get_or, sym, refl, ap, ◌∙◌, ⊎_elim, arith}
use Rattle.std.proofs.lemmas.List.{same_lists, get_or_default}
use Rattle.std.proofs.lemmas.List.FromFn.{length-range_with_len, get_or-range_with_len, get_or-map-range_with_len, length-map-range_with_len}
use Rattle.std.proofs.lemmas.Bool.{cases_eq, eq-eqb, ne_eqb}
use Rattle.places.specs.Places.{placed, same, Once, place_of, inverse}
use Rattle.places.proofs.Moved.{placed-placed, length-placed, get_or-placed, placed_same}

pub same_at : (n q d : ℕ) → q < n → get_or (same n) q d ≡ q
same_at n q d l = let g = get_or-range_with_len 0 n q d l in omega arith

pub Once-same : (n : ℕ) → Once n (same n)
Once-same n = record {
  long = length-range_with_len 0 n;
  below = λ q l. let e = same_at n q 0 l in omega arith;
  each = λ p l. (p, l, same_at n p 0 l, λ j k e. let g = same_at n j 0 k in omega arith);
}

-- what stands at q after K, of what L has brought there
pub placed_at : (n : ℕ) (K L : List ℕ) → Once n K → Once n L → (q : ℕ) → q < n → get_or (placed K L) q 0 ≡ get_or L (get_or K q 0) 0
placed_at n K L a b q l =
    let k = a.long in
    let m = b.long in
    let u = a.below q l in
    get_or-placed K L q 0 (omega arith) (omega arith)

pub Once-placed : (n : ℕ) (K L : List ℕ) → Once n K → Once n L → Once n (placed K L)
Once-placed n K L a b = record {
  long = let k = a.long in let m = b.long in length-placed K L (omega arith) ∙ m;
  below = λ q l.
      let e = placed_at n K L a b q l in
      let u = b.below (get_or K q 0) (a.below q l) in
      omega arith;
  each = λ p l.
      let u = b.each p l in
      let v = a.each u.0 u.1 in (
        v.0,
        v.1,
        placed_at n K L a b v.0 v.1 ∙ ap (λ i. get_or L i 0) v.2 ∙ u.2,
        λ j k e. v.3 j k (u.3 (get_or K j 0) (a.below j k) (sym (placed_at n K L a b j k) ∙ e)),
      );
}

-- two indices do not have one place
pub once_apart : (n : ℕ) (L : List ℕ) → Once n L → (i j : ℕ) → i < n → j < n → get_or L i 0 ≡ get_or L j 0 → i ≡ j
once_apart n L o i j a b e =
    let u = o.each (get_or L j 0) (o.below j b) in u.3 i a e ∙ sym (u.3 j b refl)

-- ---- the inverse

place_of_finds : (L : List ℕ) (p k : ℕ) → k < length L → get_or L k 0 ≡ p → (place_of p L < length L) × (get_or L (place_of p L) 0 ≡ p)
place_of_finds [] p k l e = absurd (omega arith)
place_of_finds (i ∷ L) p zero l e = let t = eq-eqb i p e in rw t (omega arith, e)
place_of_finds (i ∷ L) p (suc k) l e = ⊎_elim
    (λ t. let t' = eq-eqb i p t in rw t' (omega arith, t))
    (λ t. let t' = ne_eqb i p t in let r = place_of_finds L p k (omega arith) e in rw t' (omega arith, r.1))
    (cases_eq i p)

pub length-inverse : (L : List ℕ) → length (inverse L) ≡ length L
length-inverse L = length-map-range_with_len (λ p. place_of p L) 0 (length L)

module _ (n : ℕ) (L : List ℕ) (o : Once n L) where
  get_or-inverse : (p : ℕ) → p < n → get_or (inverse L) p 0 ≡ place_of p L
  get_or-inverse p l =
      let m = o.long in get_or-map-range_with_len (λ p. place_of p L) 0 (length L) p p 0 (omega arith) (omega arith)

  inverse_finds : (p : ℕ) → p < n → (get_or (inverse L) p 0 < n) × (get_or L (get_or (inverse L) p 0) 0 ≡ p)
  inverse_finds p l =
      let m = o.long in
      let u = o.each p l in
      let f = place_of_finds L p u.0 (omega arith) u.2 in
      let g = get_or-inverse p l in
      (omega arith, ap (λ i. get_or L i 0) g ∙ f.1)

  -- where the place of index q stands is q
  inverse_back : (q : ℕ) → q < n → get_or (inverse L) (get_or L q 0) 0 ≡ q
  inverse_back q l =
      let f = inverse_finds (get_or L q 0) (o.below q l) in once_apart n L o _ q f.0 l f.1

  pub Once-inverse : Once n (inverse L)
  Once-inverse = record {
    long = length-inverse L ∙ o.long;
    below = λ p l. (inverse_finds p l).0;
    each = λ q l. (
      get_or L q 0,
      o.below q l,
      inverse_back q l,
      λ j k e. sym (inverse_finds j k).1 ∙ ap (λ i. get_or L i 0) e,
    );
  }

  pub inverse_left : placed (inverse L) L ≡ same n
  inverse_left =
      let p = (Once-placed n (inverse L) L Once-inverse o).long in
      let s = length-range_with_len 0 n in
      same_lists _ _ (omega arith) (λ q d l.
      let l' : q < n = omega arith in
      get_or_default (placed (inverse L) L) q d 0 l ∙ placed_at n (inverse L) L Once-inverse o q l' ∙ (inverse_finds q l').1 ∙ sym (same_at n q d l'))

  pub inverse_right : placed L (inverse L) ≡ same n
  inverse_right =
      let p = (Once-placed n L (inverse L) o Once-inverse).long in
      let s = length-range_with_len 0 n in
      same_lists _ _ (omega arith) (λ q d l.
      let l' : q < n = omega arith in
      get_or_default (placed L (inverse L)) q d 0 l ∙ placed_at n L (inverse L) o Once-inverse q l' ∙ inverse_back q l' ∙ sym (same_at n q d l'))

  -- a list that leads back from L is its inverse
  pub inverse_from : (K : List ℕ) → length K ≡ n → ((p : ℕ) → p < n → get_or K p 0 < n) → ((p : ℕ) → p < n → get_or L (get_or K p 0) 0 ≡ p) → inverse L ≡ K
  inverse_from K long below back =
      let i = Once-inverse.long in
      same_lists (inverse L) K (omega arith) (λ p d l.
      let l' : p < n = omega arith in
      let f = inverse_finds p l' in
      get_or_default (inverse L) p d 0 l
      ∙ once_apart n L o _ _ f.0 (below p l') (f.1 ∙ sym (back p l'))
      ∙ get_or_default K p 0 d (omega arith))

-- ---- laws at any element type

pub there_back : {X : Type 0} (L : List ℕ) (xs : List X) → Once (length xs) L → placed (inverse L) (placed L xs) ≡ xs
there_back L xs o =
    placed-placed (inverse L) L xs ∙ ap (λ l. placed l xs) (inverse_left (length xs) L o) ∙ placed_same xs

pub back_there : {X : Type 0} (L : List ℕ) (xs : List X) → Once (length xs) L → placed L (placed (inverse L) xs) ≡ xs
back_there L xs o =
    placed-placed L (inverse L) xs ∙ ap (λ l. placed l xs) (inverse_right (length xs) L o) ∙ placed_same xs
