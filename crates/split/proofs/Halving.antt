-- The halves of a region, and its leaves by theirs.
use Rattle.std.proofs.Common.{◌≡◌, ℕ, zero, suc, ◌+◌, ◌-◌, ◌*◌, ◌/◌, ◌^◌, ◌<◌, ◌≤◌, Bool, true, false, cond, leb, List, [], ◌∷◌, ◌++◌, length, get_or, sym, refl, ap, ◌∙◌, subst, inl, inr, arith}
use Rattle.std.proofs.lemmas.List.{append_assoc, append-nil, length-append, get_or_append_left}
use Rattle.std.proofs.Math.Seq.{get_or-append_seam}
use Rattle.std.proofs.lemmas.Bool.{cases_Bool, cases_lt, cond-true, cond-false, and_from, and_parts, le-leb, leb-true}
use Rattle.split.specs.Tiles.{leaf}
use Rattle.split.proofs.Tiling.{thick}
use Rattle.split.specs.declared.region.Region.{Region}
use Rattle.split.specs.Regions.{rows, cols, Ordered, upper, lower, left_half, right_half, first, rest, deep, sound, AllSound, leaves_within, leaves, pending}
use Rattle.split.proofs.Room.{deep_halved, halves_rows, halves_cols, deep_more, room}

cond_pair : {A : Type 0} (b : Bool) (x y u v : A) (P : A → A → Type 0) → (b ≡ true → P x u) → (b ≡ false → P y v) →
    P (cond b x y) (cond b u v)
cond_pair true x y u v P f g = f refl
cond_pair false x y u v P f g = g refl

-- what holds of both pairs of halves holds of those along the longer side
pub by_cut : (r : Region) (P : Region → Region → Type 0) → (leb (cols r) (rows r) ≡ true → P (upper r) (lower r)) →
    (leb (cols r) (rows r) ≡ false → P (left_half r) (right_half r)) → P (first r) (rest r)
unfolding first rest
by_cut r P f g = cond_pair (leb (cols r) (rows r)) (upper r) (left_half r) (lower r) (right_half r) P f g

-- the sides of the halves
pub by_sizes : (r : Region) → leaf (rows r) (cols r) ≡ false → (P : ℕ → ℕ → ℕ → ℕ → Type 0) →
    (leb (cols r) (rows r) ≡ true → P (rows r / 2) (cols r) (rows r - rows r / 2) (cols r)) →
    (leb (cols r) (rows r) ≡ false → P (rows r) (cols r / 2) (rows r) (cols r - cols r / 2)) →
    P (rows (first r)) (cols (first r)) (rows (rest r)) (cols (rest r))
by_sizes r e P f g =
    let t = thick (rows r) (cols r) e in
    by_cut r (λ a b. P (rows a) (cols a) (rows b) (cols b))
    (λ q.
    let u : r.row_start + rows r / 2 - r.row_start ≡ rows r / 2 = omega arith in
    let v : r.row_end - (r.row_start + rows r / 2) ≡ rows r - rows r / 2 = omega arith in
    rw (u, v) (f q))
    (λ q.
    let u : r.col_start + cols r / 2 - r.col_start ≡ cols r / 2 = omega arith in
    let v : r.col_end - (r.col_start + cols r / 2) ≡ cols r - cols r / 2 = omega arith in
    rw (u, v) (g q))

pub ordered : (k : ℕ) (r : Region) → sound k r ≡ true → Ordered r
unfolding sound
ordered k r h =
    let p = and_parts _ _ h in
    (leb-true _ _ p.0, leb-true _ _ (and_parts _ _ p.1).0)

pub sound_deep : (k : ℕ) (r : Region) → sound k r ≡ true → deep k (rows r) (cols r) ≡ true
unfolding sound
sound_deep k r h =
    (and_parts (leb r.col_start r.col_end) (deep k (rows r) (cols r)) (and_parts (leb r.row_start r.row_end) _ h).1).1

pub make_sound : (k : ℕ) (r : Region) → Ordered r → deep k (rows r) (cols r) ≡ true → sound k r ≡ true
unfolding sound
make_sound k r o d = and_from _ _ (le-leb _ _ o.0) (and_from _ _ (le-leb _ _ o.1) d)

pub sound_more : (k : ℕ) (r : Region) → sound k r ≡ true → sound (suc k) r ≡ true
sound_more k r h = make_sound (suc k) r (ordered k r h) (deep_more k (rows r) (cols r) (sound_deep k r h))

pub sound_splits : (k : ℕ) (r : Region) → leaf (rows r) (cols r) ≡ false → sound k r ≡ true → 0 < k
sound_splits zero r e h = absurd (deep_halved _ _ e (sound_deep zero r h))
sound_splits (suc k) r e h = omega arith

pub sound_halves : (k : ℕ) (r : Region) → leaf (rows r) (cols r) ≡ false → sound (suc k) r ≡ true →
    (sound k (first r) ≡ true) × (sound k (rest r) ≡ true)
sound_halves k r e h =
    let o = ordered (suc k) r h in
    let t = by_cut r (λ a b. Ordered a × Ordered b) (λ _. ((omega arith, omega arith), (omega arith, omega arith)))
    (λ _. ((omega arith, omega arith), (omega arith, omega arith))) in
    let p = by_sizes r e (λ m n u v. (deep k m n ≡ true) × (deep k u v ≡ true))
    (λ f. halves_rows k _ _ e f (sound_deep (suc k) r h)) (λ f. halves_cols k _ _ e f (sound_deep (suc k) r h)) in
    (make_sound k (first r) t.0 p.0, make_sound k (rest r) t.1 p.1)

-- With n of k places taken, what is no leaf finds one more, and both halves do.
pub turn : (k n : ℕ) (r : Region) → leaf (rows r) (cols r) ≡ false → sound (k - n) r ≡ true →
    (n < k) × (sound (k - (n + 1)) (first r) ≡ true) × (sound (k - n) (rest r) ≡ true)
turn k n r e h =
    let l = sound_splits (k - n) r e h in
    let s : k - n ≡ suc (k - (n + 1)) = omega arith in
    let p = sound_halves (k - (n + 1)) r e (subst (λ (j : ℕ). sound j r ≡ true) s h) in
    (omega arith, p.0, subst (λ (j : ℕ). sound j (rest r) ≡ true) (sym s) (sound_more (k - (n + 1)) (rest r) p.1))

-- only one region waits
pub sound_one : (k : ℕ) (r : Region) (i : ℕ) (d : Region) → Ordered r → rows r * cols r ≤ 2 ^ (k + 8) → i < 1 →
    sound (k - i) (get_or (r ∷ []) i d) ≡ true
sound_one k r zero d o h b = let e : k - 0 ≡ k = omega arith in rw e (make_sound k r o (room k _ _ h))
sound_one k r (suc i) d o h b = absurd (omega arith)

pub pending_one : (r : Region) → pending (r ∷ []) ≡ leaves r
unfolding pending
pending_one r = refl

-- one region more waits
pub sound_push : (k : ℕ) (rs : List Region) (r : Region) → AllSound k rs → sound (k - length rs) r ≡ true → AllSound k (rs ++ r ∷ [])
sound_push k rs r all h i d b = elim (cases_lt i (length rs)) [
  | inl p ↦ rw (get_or_append_left rs (r ∷ []) d i p) (all i d p)
  | inr p ↦ let e : i ≡ length rs = omega (arith, length-append rs (r ∷ [])) in rw (e, get_or-append_seam rs r [] d) h
]

pub sound_last : (k : ℕ) (rs : List Region) (r : Region) → AllSound k (rs ++ r ∷ []) → sound (k - length rs) r ≡ true
sound_last k rs r all = rw (sym (get_or-append_seam rs r [] r)) (all (length rs) r (omega (arith, length-append rs (r ∷ []))))

thin : (r : Region) → rows r + cols r ≤ 0 → leaf (rows r) (cols r) ≡ true
thin r h = elim (cases_Bool (leaf (rows r) (cols r))) [
  | inl e ↦ e
  | inr e ↦ let t = thick (rows r) (cols r) e in absurd (omega arith)
]

-- each half has a side that is shorter
shorter : (r : Region) → leaf (rows r) (cols r) ≡ false →
    (rows (first r) + cols (first r) < rows r + cols r) × (rows (rest r) + cols (rest r) < rows r + cols r)
shorter r e =
    let t = thick (rows r) (cols r) e in
    by_sizes r e (λ m n u v. (m + n < rows r + cols r) × (u + v < rows r + cols r)) (λ f. (omega arith, omega arith))
    (λ f. (omega arith, omega arith))

in_leaf : (n : ℕ) (r : Region) → leaf (rows r) (cols r) ≡ true → leaves_within n r ≡ r ∷ []
unfolding leaves_within
in_leaf zero r e = refl
in_leaf (suc n) r e = cond-true (leaf (rows r) (cols r)) _ _ e

in_halves : (n : ℕ) (r : Region) → leaf (rows r) (cols r) ≡ false →
    leaves_within (suc n) r ≡ leaves_within n (first r) ++ leaves_within n (rest r)
unfolding leaves_within
in_halves n r e = cond-false (leaf (rows r) (cols r)) _ _ e

-- more halvings than there are to make change nothing
enough : (n m : ℕ) (r : Region) → rows r + cols r ≤ n → rows r + cols r ≤ m → leaves_within n r ≡ leaves_within m r
enough zero m r p q = let e = thin r (omega arith) in in_leaf zero r e ∙ sym (in_leaf m r e)
enough (suc n) zero r p q = let e = thin r (omega arith) in in_leaf (suc n) r e ∙ sym (in_leaf zero r e)
enough (suc n) (suc m) r p q = elim (cases_Bool (leaf (rows r) (cols r))) [
  | inl e ↦ in_leaf (suc n) r e ∙ sym (in_leaf (suc m) r e)
  | inr e ↦
      let s = shorter r e in
      let a = enough n m (first r) (omega arith) (omega arith) in
      let b = enough n m (rest r) (omega arith) (omega arith) in
      cc (in_halves n r e, in_halves m r e)
]

pub leaves-leaf : (r : Region) → leaf (rows r) (cols r) ≡ true → leaves r ≡ r ∷ []
unfolding leaves
leaves-leaf r e = in_leaf _ r e

pub leaves_halves : (r : Region) → leaf (rows r) (cols r) ≡ false → leaves r ≡ leaves (first r) ++ leaves (rest r)
unfolding leaves
leaves_halves r e =
    let n = rows r + cols r in
    let s = shorter r e in
    let a = enough n (rows (first r) + cols (first r)) (first r) (omega arith) (omega arith) in
    let b = enough n (rows (rest r) + cols (rest r)) (rest r) (omega arith) (omega arith) in
    let w = enough n (suc n) r (omega arith) (omega arith) in
    cc (in_halves n r e)

-- What holds of leaves, and of a region's leaves if it does of its halves', holds of the leaves of each region.
module _ (P : Region → List Region → Type 0) (tip : (r : Region) → leaf (rows r) (cols r) ≡ true → P r (r ∷ []))
    (join : (r : Region) (us vs : List Region) → leaf (rows r) (cols r) ≡ false → P (first r) us → P (rest r) vs → P r (us ++ vs)) where
  up_to : (n : ℕ) (r : Region) → rows r + cols r ≤ n → P r (leaves r)
  up_to zero r h = let e = thin r h in subst (P r) (sym (leaves-leaf r e)) (tip r e)
  up_to (suc n) r h = elim (cases_Bool (leaf (rows r) (cols r))) [
    | inl e ↦ subst (P r) (sym (leaves-leaf r e)) (tip r e)
    | inr e ↦
        let s = shorter r e in
        subst (P r) (sym (leaves_halves r e)) (join r _ _ e (up_to n (first r) (omega arith)) (up_to n (rest r) (omega arith)))
  ]

  pub by_leaves : (r : Region) → P r (leaves r)
  by_leaves r = up_to (rows r + cols r) r (omega arith)

pub pending_none : (rs : List Region) → ¬ (0 < length rs) → pending rs ≡ []
unfolding pending
pending_none [] h = refl
pending_none (r ∷ rs) h = absurd (h (omega arith))

-- one region more waits
pub pending_push : (rs : List Region) (r : Region) → pending (rs ++ r ∷ []) ≡ leaves r ++ pending rs
unfolding pending
pending_push [] r = sym (append-nil (leaves r))
pending_push (x ∷ xs) r = ap (λ l. l ++ leaves x) (pending_push xs r) ∙ append_assoc (leaves r) (pending xs) (leaves x)

-- a half waits, and the other is next
pub pending_more : (rs : List Region) (r : Region) → leaf (rows r) (cols r) ≡ false →
    leaves (first r) ++ pending (rs ++ rest r ∷ []) ≡ leaves r ++ pending rs
pending_more rs r e =
    let p = pending_push rs (rest r) in
    let q = append_assoc (leaves (first r)) (leaves (rest r)) (pending rs) in
    cc (leaves_halves r e)

-- what a step of a walk rests on
pub ruleset walking = (leaves-leaf, sound_last, pending_push, ordered)
