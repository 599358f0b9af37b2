-- How often a matrix can be halved before it has only leaves.
use Rattle.std.proofs.Common.{◌≡◌, ℕ, zero, suc, ◌+◌, ◌-◌, ◌*◌, ◌/◌, ◌^◌, ◌<◌, ◌≤◌, true, false, cond, ◌&&◌, ◌||◌, leb, ◌⊎◌, sym, refl, ap, ◌∙◌, inl, inr, arith, pow_pos, pow_mono, pow-add}
use native.Mathlib.Nat.{two-pow-succ}
use Rattle.std.proofs.lemmas.Nat.{mul-le}
use Rattle.std.proofs.lemmas.Bool.{cases_Bool, cases_lt, cond-true, cond-false, and_from, and_parts, and_cases, or_parts, or_cases, or_left, or_right, both_ways, leb-true, leb-false, le-leb}
use Rattle.split.specs.Tiles.{leaf}
use Rattle.split.proofs.Tiling.{thick}
use Rattle.split.specs.Regions.{deep}

-- the longer side of what is no leaf
pub long : (r c : ℕ) → leaf r c ≡ false → (128 < r) ⊎ (128 < c)
long r c e = elim (and_cases (leb r 128) (leb c 128) (or_parts (leb r 128 && leb c 128) (leb r 2 || leb c 2) e).0) [
  | inl h ↦ inl (leb-false r 128 h)
  | inr h ↦ inr (leb-false c 128 h)
]

small : (r c : ℕ) → r ≤ 128 → c ≤ 128 → leaf r c ≡ true
small r c p q = or_left (leb r 128 && leb c 128) (leb r 2 || leb c 2) (and_from _ _ (le-leb r 128 p) (le-leb c 128 q))

pub deep_leaf : (k r c : ℕ) → leaf r c ≡ true → deep k r c ≡ true
unfolding deep
deep_leaf zero r c e = e
deep_leaf (suc k) r c e = or_left _ _ e

deep_rows : (k r c : ℕ) → leb c r ≡ true → deep k (r / 2) c ≡ true → deep k (r - r / 2) c ≡ true → deep (suc k) r c ≡ true
unfolding deep
deep_rows k r c f p q = or_right (leaf r c) _ (cond-true (leb c r) _ _ f ∙ and_from _ _ p q)

deep_cols : (k r c : ℕ) → leb c r ≡ false → deep k r (c / 2) ≡ true → deep k r (c - c / 2) ≡ true → deep (suc k) r c ≡ true
unfolding deep
deep_cols k r c f p q = or_right (leaf r c) _ (cond-false (leb c r) _ _ f ∙ and_from _ _ p q)

-- what is no leaf is halved at least once, and its halves once less
pub deep_halved : (r c : ℕ) → leaf r c ≡ false → deep zero r c ≡ true → ⊥
unfolding deep
deep_halved r c e h = both_ways _ e h

opened : (k r c : ℕ) → leaf r c ≡ false → deep (suc k) r c ≡ true →
    cond (leb c r) (deep k (r / 2) c && deep k (r - r / 2) c) (deep k r (c / 2) && deep k r (c - c / 2)) ≡ true
unfolding deep
opened k r c e h = elim (or_cases (leaf r c) _ h) [ inl t ↦ absurd (both_ways _ e t) | inr t ↦ t ]

pub halves_rows : (k r c : ℕ) → leaf r c ≡ false → leb c r ≡ true → deep (suc k) r c ≡ true →
    (deep k (r / 2) c ≡ true) × (deep k (r - r / 2) c ≡ true)
halves_rows k r c e f h = and_parts _ _ (sym (cond-true (leb c r) _ _ f) ∙ opened k r c e h)

pub halves_cols : (k r c : ℕ) → leaf r c ≡ false → leb c r ≡ false → deep (suc k) r c ≡ true →
    (deep k r (c / 2) ≡ true) × (deep k r (c - c / 2) ≡ true)
halves_cols k r c e f h = and_parts _ _ (sym (cond-false (leb c r) _ _ f) ∙ opened k r c e h)

-- more halvings than it takes
pub deep_more : (k r c : ℕ) → deep k r c ≡ true → deep (suc k) r c ≡ true
deep_more zero r c h = elim (cases_Bool (leaf r c)) [
  | inl e ↦ deep_leaf 1 r c e
  | inr e ↦ absurd (deep_halved r c e h)
]
deep_more (suc k) r c h = elim (cases_Bool (leaf r c)) [
  | inl e ↦ deep_leaf (suc (suc k)) r c e
  | inr e ↦ elim (cases_Bool (leb c r)) [
    | inl f ↦
        let p = halves_rows k r c e f h in
        deep_rows (suc k) r c f (deep_more k (r / 2) c p.0) (deep_more k (r - r / 2) c p.1)
    | inr f ↦
        let p = halves_cols k r c e f h in
        deep_cols (suc k) r c f (deep_more k r (c / 2) p.0) (deep_more k r (c - c / 2) p.1)
  ]
]

-- a side of more than 128 can be halved, and both halves have an exponent less
half_of : (a r : ℕ) → 128 < r → r ≤ 128 * 2 ^ a →
    (0 < a) × (r / 2 ≤ 128 * 2 ^ (a - 1)) × (r - r / 2 ≤ 128 * 2 ^ (a - 1))
half_of zero r p q = absurd (omega arith)
half_of (suc a) r p q =
    let e = two-pow-succ a in
    let f : 2 ^ (suc a - 1) ≡ 2 ^ a = ap (λ (n : ℕ). 2 ^ n) (omega arith) in
    (omega arith, omega arith, omega arith)

-- sides of at most 128 * 2 ^ a and 128 * 2 ^ b take at most a + b halvings
pub deep_enough : (k a b r c : ℕ) → a + b ≤ k → r ≤ 128 * 2 ^ a → c ≤ 128 * 2 ^ b → deep k r c ≡ true
deep_enough zero a b r c s p q =
    let e : 2 ^ a ≡ 1 = ap (λ (n : ℕ). 2 ^ n) {y = 0} (omega arith) in
    let f : 2 ^ b ≡ 1 = ap (λ (n : ℕ). 2 ^ n) {y = 0} (omega arith) in
    deep_leaf zero r c (small r c (omega arith) (omega arith))
deep_enough (suc k) a b r c s p q = elim (cases_Bool (leaf r c)) [
  | inl e ↦ deep_leaf (suc k) r c e
  | inr e ↦ elim (cases_Bool (leb c r)) [
    | inl f ↦
        let l = leb-true c r f in
        let g : 128 < r = elim (long r c e) [ inl h ↦ h | inr h ↦ omega arith ] in
        let h = half_of a r g p in
        deep_rows k r c f (deep_enough k (a - 1) b (r / 2) c (omega arith) h.1 q) (deep_enough k (a - 1) b (r - r / 2) c (omega arith) h.2 q)
    | inr f ↦
        let l = leb-false c r f in
        let g : 128 < c = elim (long r c e) [ inl h ↦ omega arith | inr h ↦ h ] in
        let h = half_of b c g q in
        deep_cols k r c f (deep_enough k a (b - 1) r (c / 2) (omega arith) p h.1) (deep_enough k a (b - 1) r (c - c / 2) (omega arith) p h.2)
  ]
]

-- the exponent of a side, and that none less does
exponent : (r : ℕ) → (a : ℕ) × (r ≤ 128 * 2 ^ a) × ((a ≡ 0) ⊎ (64 * 2 ^ a < r))
exponent zero = (0, omega arith, inl refl)
exponent (suc r) =
    let was = exponent r in
    elim (cases_lt r (128 * 2 ^ was.0)) [
      | inl l ↦ (was.0, omega arith, elim was.2 [ inl z ↦ inl z | inr h ↦ inr (omega arith) ])
      | inr l ↦ let e = two-pow-succ was.0 in (suc was.0, omega (arith, pow_pos was.0), inr (omega (arith, was.1)))
    ]

over : (n m : ℕ) → n < m → 2 ^ (n + 8) ≤ 128 * 2 ^ m
over n m h =
    let p : 2 ^ (n + 1) ≤ 2 ^ m = pow_mono (omega arith) in
    omega (arith, pow-add 2 n 8, pow-add 2 n 1)

-- a matrix of at most 2 ^ (n + 8) cells takes at most n halvings
pub room : (n r c : ℕ) → r * c ≤ 2 ^ (n + 8) → deep n r c ≡ true
room n r c h = elim (cases_Bool (leaf r c)) [
  | inl e ↦ deep_leaf n r c e
  | inr e ↦ deep_enough n a.0 b.0 r c (few e) a.1 b.1
]
  where
    a : (a : ℕ) × (r ≤ 128 * 2 ^ a) × ((a ≡ 0) ⊎ (64 * 2 ^ a < r))
    a = exponent r

    b : (b : ℕ) × (c ≤ 128 * 2 ^ b) × ((b ≡ 0) ⊎ (64 * 2 ^ b < c))
    b = exponent c

    few : leaf r c ≡ false → a.0 + b.0 ≤ n
    few e = let t = thick r c e in elim (cases_lt n (a.0 + b.0)) [
      | inr l ↦ l
      | inl l ↦ let o = over n (a.0 + b.0) l in elim a.2 [
        | inl x ↦ elim b.2 [
          | inl y ↦ omega arith
          | inr y ↦
              let s : 2 ^ (a.0 + b.0) ≡ 2 ^ b.0 = ap (λ (n : ℕ). 2 ^ n) (omega arith) in
              omega (arith, mul-le 3 (64 * 2 ^ b.0 + 1) r c (omega arith) (omega arith))
        ]
        | inr x ↦ elim b.2 [
          | inl y ↦
              let s : 2 ^ (a.0 + b.0) ≡ 2 ^ a.0 = ap (λ (n : ℕ). 2 ^ n) (omega arith) in
              omega (arith, mul-le (64 * 2 ^ a.0 + 1) 3 r c (omega arith) (omega arith))
          | inr y ↦
              omega (arith, pow-add 2 a.0 b.0, pow_pos (a.0 + b.0), mul-le (64 * 2 ^ a.0) (64 * 2 ^ b.0) r c (omega arith) (omega arith))
        ]
      ]
    ]
