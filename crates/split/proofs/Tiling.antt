-- The tiles of a matrix, from those of its halves.
use Rattle.std.proofs.Common.{◌≡◌, ℕ, zero, suc, ◌+◌, ◌-◌, ◌*◌, ◌/◌, ◌<◌, ◌≤◌, true, false, cond, ◌&&◌, ◌||◌, leb, sym, refl, ap, ◌∙◌, inl, inr, div-le_self, arith}
use Rattle.std.proofs.lemmas.Nat.{mul-le}
use Rattle.std.proofs.lemmas.Bool.{cases_Bool, cond-true, cond-false, cond_both, or_parts, or_left, or_right, leb-false, le-leb, lt-leb}
use Rattle.split.specs.Tiles.{leaf, whole_tiles, tiles_within, split_tiles}

thin : (r c : ℕ) → r ≤ 2 → leaf r c ≡ true
thin r c h = or_right (leb r 128 && leb c 128) (leb r 2 || leb c 2) (or_left (leb r 2) (leb c 2) (le-leb r 2 h))

-- both sides of what is no leaf can be halved
pub thick : (r c : ℕ) → leaf r c ≡ false → (2 < r) × (2 < c)
thick r c e =
    let p = or_parts (leb r 2) (leb c 2) (or_parts (leb r 128 && leb c 128) (leb r 2 || leb c 2) e).1 in
    (leb-false r 2 p.0, leb-false c 2 p.1)

pub halves_rows : (r c : ℕ) → r / 2 * c + (r - r / 2) * c ≡ r * c
halves_rows r c = let e : r / 2 + (r - r / 2) ≡ r = omega arith in omega (arith, ap (λ (n : ℕ). n * c) e)

pub halves_cols : (r c : ℕ) → r * (c / 2) + r * (c - c / 2) ≡ r * c
halves_cols r c = let e : c / 2 + (c - c / 2) ≡ c = omega arith in omega (arith, ap (λ (n : ℕ). r * n) e)

module _ (s : ℕ) where
  in_leaf : (n r c : ℕ) → leaf r c ≡ true → tiles_within n s r c ≡ whole_tiles s r c
  in_leaf zero r c e = refl
  in_leaf (suc n) r c e = cond-true (leaf r c) _ _ e

  opened : (n r c : ℕ) → leaf r c ≡ false → tiles_within (suc n) s r c
      ≡ cond (leb c r) (tiles_within n s (r / 2) c + tiles_within n s (r - r / 2) c) (tiles_within n s r (c / 2) + tiles_within n s r (c - c / 2))
  opened n r c e = cond-false (leaf r c) _ _ e

  -- halvings past those that there are change nothing
  enough : (n m r c : ℕ) → r + c ≤ n → r + c ≤ m → tiles_within n s r c ≡ tiles_within m s r c
  enough zero m r c p q = sym (in_leaf m r c (thin r c (omega arith)))
  enough (suc n) zero r c p q = in_leaf (suc n) r c (thin r c (omega arith))
  enough (suc n) (suc m) r c p q = elim (cases_Bool (leaf r c)) [
    | inl e ↦ in_leaf (suc n) r c e ∙ sym (in_leaf (suc m) r c e)
    | inr e ↦
        let t = thick r c e in
        let a = enough n m (r / 2) c (omega arith) (omega arith) in
        let b = enough n m (r - r / 2) c (omega arith) (omega arith) in
        let d = enough n m r (c / 2) (omega arith) (omega arith) in
        let f = enough n m r (c - c / 2) (omega arith) (omega arith) in
        cc (opened n r c e, opened m r c e)
  ]

  pub at_leaf : (r c : ℕ) → leaf r c ≡ true → split_tiles s r c ≡ whole_tiles s r c
  unfolding split_tiles
  at_leaf r c e = in_leaf (r + c) r c e

  module _ (r c : ℕ) (e : leaf r c ≡ false) where
    whole : split_tiles s r c ≡ tiles_within (suc (r + c)) s r c
    unfolding split_tiles
    whole = enough (r + c) (suc (r + c)) r c (omega arith) (omega arith)

    pub by_rows : c ≤ r → split_tiles s r c ≡ split_tiles s (r / 2) c + split_tiles s (r - r / 2) c
    unfolding split_tiles
    by_rows h =
        let a = enough (r + c) (r / 2 + c) (r / 2) c (omega arith) (omega arith) in
        let b = enough (r + c) (r - r / 2 + c) (r - r / 2) c (omega arith) (omega arith) in
        whole ∙ opened (r + c) r c e ∙ cond-true (leb c r) _ _ (le-leb c r h) ∙ (cc)

    pub by_cols : r < c → split_tiles s r c ≡ split_tiles s r (c / 2) + split_tiles s r (c - c / 2)
    unfolding split_tiles
    by_cols h =
        let a = enough (r + c) (r + c / 2) r (c / 2) (omega arith) (omega arith) in
        let b = enough (r + c) (r + (c - c / 2)) r (c - c / 2) (omega arith) (omega arith) in
        whole ∙ opened (r + c) r c e ∙ cond-false (leb c r) _ _ (lt-leb c r h) ∙ (cc)

  -- no more tiles than cells
  pub product : (r c : ℕ) → whole_tiles s r c ≤ r * c
  product r c = mul-le (r / s) (c / s) r c (div-le_self r s) (div-le_self c s)

  below : (n r c : ℕ) → tiles_within n s r c ≤ r * c
  below zero r c = product r c
  below (suc n) r c =
      cond_both (leaf r c) _ _ (λ x. x ≤ r * c) (λ _. product r c)
      (λ _. cond_both (leb c r) _ _ (λ x. x ≤ r * c)
      (λ _. omega (arith, below n (r / 2) c, below n (r - r / 2) c, halves_rows r c))
      (λ _. omega (arith, below n r (c / 2), below n r (c - c / 2), halves_cols r c)))

  pub tiles_below : (r c : ℕ) → split_tiles s r c ≤ r * c
  unfolding split_tiles
  tiles_below r c = below (r + c) r c

  -- the sum over both halves
  pub below_rows : (r c : ℕ) → split_tiles s (r / 2) c + split_tiles s (r - r / 2) c ≤ r * c
  below_rows r c = omega (arith, tiles_below (r / 2) c, tiles_below (r - r / 2) c, halves_rows r c)

  pub below_cols : (r c : ℕ) → split_tiles s r (c / 2) + split_tiles s r (c - c / 2) ≤ r * c
  below_cols r c = omega (arith, tiles_below r (c / 2), tiles_below r (c - c / 2), halves_cols r c)

pub ruleset counting = (thick, halves_rows, halves_cols, at_leaf, by_rows, by_cols, below_rows, below_cols)
