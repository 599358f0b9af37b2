-- The laws of pasted blocks.
use Rattle.std.proofs.Common.{◌≡◌, ℕ, zero, suc, ◌+◌, ◌*◌, ◌/◌, ◌%◌, ◌<◌, ◌≤◌, Bool, true, false, cond, ◌&&◌, ◌||◌, ltb, leb, List, [], ◌∷◌, length, get_or, sym, refl, ap, ◌∙◌, ap₂, inl, inr, arith}
use Rattle.std.proofs.lemmas.Nat.{div-mul-add, mod-mul-add, mul-add-lt}
use Rattle.std.proofs.lemmas.List.{get_or_default}
use Rattle.std.proofs.lemmas.Bool.{cases_Bool, cond-true, cond-false, and_from, and_parts, and_left, and_right, leb-true, ltb-true, le-leb, lt-ltb}
use Rattle.std.proofs.lemmas.Bool.Decides.{nat_tests}
use Rattle.places.specs.Turn.{turned, transposed}
use Rattle.places.proofs.Turned.{turned_at, turned_below, column_below, row_below, transposed_from}
use Rattle.tile.specs.Blocks.{Inside, Copied, in_block, each_at, pasted}
use Rattle.tile.specs.Laws.{Pasting, Counting}

-- ---- each element by its place

length-each_at : {X : Type 0} (f : ℕ → X → X) (k : ℕ) (xs : List X) → length (each_at f k xs) ≡ length xs
length-each_at f k [] = refl
length-each_at f k (a ∷ bs) = ap suc (length-each_at f (suc k) bs)

get_or-each_at : {X : Type 0} (f : ℕ → X → X) (k i : ℕ) (xs : List X) (d : X) → i < length xs →
    get_or (each_at f k xs) i d ≡ f (k + i) (get_or xs i d)
get_or-each_at f k i [] d l = absurd (omega arith)
get_or-each_at f k zero (a ∷ bs) d l = let e : k ≡ k + 0 = omega arith in ap (λ n. f n a) e
get_or-each_at f k (suc i) (a ∷ bs) d l =
    let e : suc k + i ≡ k + suc i = omega arith in
    get_or-each_at f (suc k) i bs d (omega arith) ∙ ap (λ n. f n (get_or bs i d)) e

-- one after the other, and both at once
each_at_then : {X : Type 0} (f g h : ℕ → X → X) → ((q : ℕ) (a : X) → g q (f q a) ≡ h q a) → (k : ℕ) (xs : List X) →
    each_at g k (each_at f k xs) ≡ each_at h k xs
each_at_then f g h e k [] = refl
each_at_then f g h e k (a ∷ bs) = ap₂ (λ z zs. z ∷ zs) (e k a) (each_at_then f g h e (suc k) bs)

each_at_none : {X : Type 0} (f : ℕ → X → X) → ((q : ℕ) (a : X) → f q a ≡ a) → (k : ℕ) (xs : List X) → each_at f k xs ≡ xs
each_at_none f e k [] = refl
each_at_none f e k (a ∷ bs) = ap₂ (λ z zs. z ∷ zs) (e k a) (each_at_none f e (suc k) bs)

-- ---- two blocks, one after the other

read_again : {X : Type 0} (xs : List X) (i : ℕ) (a : X) → get_or xs i (get_or xs i a) ≡ get_or xs i a
read_again [] i a = refl
read_again (x ∷ xs) zero a = refl
read_again (x ∷ xs) (suc i) a = read_again xs i a

laid : {X : Type 0} (xs : List X) (i : ℕ) (a : X) (p q : Bool) →
    cond q (get_or xs i (cond p (get_or xs i a) a)) (cond p (get_or xs i a) a) ≡ cond (p || q) (get_or xs i a) a
laid xs i a true true = read_again xs i a
laid xs i a true false = refl
laid xs i a false true = refl
laid xs i a false false = refl

-- u is one of the n numbers from x on
abbrev from : ℕ → ℕ → ℕ → Bool
from x n u = leb x u && ltb u (x + n)

-- a stretch of numbers that is cut in two
cut : (x a b u : ℕ) → from x (a + b) u ≡ (from x a u || from (x + a) b u)
cut x a b u = grind (arith, nat_tests)

empty : (x u : ℕ) → from x 0 u ≡ false
empty x u = grind (arith, nat_tests)

both_and : (p q v : Bool) → ((p || q) && v) ≡ ((p && v) || (q && v))
both_and true q true = refl
both_and true true false = refl
both_and true false false = refl
both_and false q v = refl

and_both : (v p q : Bool) → (v && (p || q)) ≡ ((v && p) || (v && q))
and_both true p q = refl
and_both false p q = refl

or_comm : (p q : Bool) → (p || q) ≡ (q || p)
or_comm true true = refl
or_comm true false = refl
or_comm false true = refl
or_comm false false = refl

module _ {X : Type 0} (c r : ℕ) (input : List X) where
  -- what is in the one or in the other block
  joined : (x w y h x1 w1 y1 h1 x2 w2 y2 h2 : ℕ) →
      ((q : ℕ) → in_block r x w y h q ≡ (in_block r x1 w1 y1 h1 q || in_block r x2 w2 y2 h2 q)) → (old : List X) →
      pasted c r x2 w2 y2 h2 input (pasted c r x1 w1 y1 h1 input old) ≡ pasted c r x w y h input old
  unfolding pasted
  joined x w y h x1 w1 y1 h1 x2 w2 y2 h2 e old =
      each_at_then _ _ _
      (λ q a. laid input (turned c r q) a (in_block r x1 w1 y1 h1 q) (in_block r x2 w2 y2 h2 q) ∙ ap (λ b. cond b (get_or input (turned c r q) a) a) (sym (e q)))
      0 old

  nothing : (x w y h : ℕ) → ((q : ℕ) → in_block r x w y h q ≡ false) → (old : List X) → pasted c r x w y h input old ≡ old
  unfolding pasted
  nothing x w y h e old = each_at_none _ (λ q a. cond-false _ _ _ (e q)) 0 old

  pub beside : (x a b y h : ℕ) (old : List X) →
      pasted c r (x + a) b y h input (pasted c r x a y h input old) ≡ pasted c r x (a + b) y h input old
  unfolding in_block
  beside x a b y h = joined x (a + b) y h x a y h (x + a) b y h
      (λ q. ap (λ p. p && from y h (q % r)) (cut x a b (q / r)) ∙ both_and (from x a (q / r)) (from (x + a) b (q / r)) (from y h (q % r)))

  pub below : (x w y a b : ℕ) (old : List X) →
      pasted c r x w (y + a) b input (pasted c r x w y a input old) ≡ pasted c r x w y (a + b) input old
  unfolding in_block
  below x w y a b = joined x w y (a + b) x w y a x w (y + a) b
      (λ q. ap (λ p. from x w (q / r) && p) (cut y a b (q % r)) ∙ and_both (from x w (q / r)) (from y a (q % r)) (from (y + a) b (q % r)))

  -- the lower one may come first
  pub above : (x w y a b : ℕ) (old : List X) →
      pasted c r x w y a input (pasted c r x w (y + a) b input old) ≡ pasted c r x w y (a + b) input old
  unfolding in_block
  above x w y a b = joined x w y (a + b) x w (y + a) b x w y a
      (λ q.
      ap (λ p. from x w (q / r) && p) (cut y a b (q % r))
      ∙ and_both (from x w (q / r)) (from y a (q % r)) (from (y + a) b (q % r))
      ∙ or_comm (from x w (q / r) && from y a (q % r)) (from x w (q / r) && from (y + a) b (q % r)))

  -- the same as a loop needs it: `mid` has the first part, and `new` the second too
  pub beside_more : (x a b n y h : ℕ) (old mid new : List X) → mid ≡ pasted c r x a y h input old →
      new ≡ pasted c r (x + a) b y h input mid → a + b ≡ n → new ≡ pasted c r x n y h input old
  beside_more x a b n y h old mid new e f m =
      f ∙ ap (pasted c r (x + a) b y h input) e ∙ beside x a b y h old ∙ ap (λ k. pasted c r x k y h input old) m

  pub below_more : (x w y a b n : ℕ) (old mid new : List X) → mid ≡ pasted c r x w y a input old →
      new ≡ pasted c r x w (y + a) b input mid → a + b ≡ n → new ≡ pasted c r x w y n input old
  below_more x w y a b n old mid new e f m =
      f ∙ ap (pasted c r x w (y + a) b input) e ∙ below x w y a b old ∙ ap (λ k. pasted c r x w y k input old) m

  pub no_column : (x y h : ℕ) (old : List X) → pasted c r x 0 y h input old ≡ old
  unfolding in_block
  no_column x y h = nothing x 0 y h (λ q. and_left _ _ (empty x (q / r)))

  pub no_row : (x w y : ℕ) (old : List X) → pasted c r x w y 0 input old ≡ old
  unfolding in_block
  no_row x w y = nothing x w y 0 (λ q. and_right _ _ (empty y (q % r)))

  pub long : (x w y h : ℕ) (old : List X) → length (pasted c r x w y h input old) ≡ length old
  unfolding pasted
  long x w y h old = length-each_at _ 0 old

  -- ---- cell by cell

  -- what stands at q
  pub pasted_at : (x w y h : ℕ) (old : List X) (q : ℕ) (d : X) → q < length old → turned c r q < length input →
      get_or (pasted c r x w y h input old) q d ≡ cond (in_block r x w y h q) (get_or input (turned c r q) d) (get_or old q d)
  unfolding pasted
  pasted_at x w y h old q d l m =
      let e : 0 + q ≡ q = omega arith in
      get_or-each_at _ 0 q old d l
      ∙ ap (λ n. cond (in_block r x w y h n) (get_or input (turned c r n) (get_or old q d)) (get_or old q d)) e
      ∙ ap (λ v. cond (in_block r x w y h q) v (get_or old q d)) (get_or_default input (turned c r q) (get_or old q d) d m)

-- the place of the cell in column u and row v
module _ (r x w y h u v : ℕ) (l : v < r) where
  pub cell_in_block : x ≤ u → u < x + w → y ≤ v → v < y + h → in_block r x w y h (u * r + v) ≡ true
  unfolding in_block
  cell_in_block a b c d =
      rw (div-mul-add u r v l, mod-mul-add u r v l)
      (and_from _ _ (and_from _ _ (le-leb _ _ a) (lt-ltb _ _ b)) (and_from _ _ (le-leb _ _ c) (lt-ltb _ _ d)))

  pub off_block : (x ≤ u → u < x + w → y ≤ v → v < y + h → ⊥) → in_block r x w y h (u * r + v) ≡ false
  unfolding in_block
  off_block n =
      rw (div-mul-add u r v l, mod-mul-add u r v l)
      (elim (cases_Bool (from x w u && from y h v)) [
        | inl t ↦
            let p = and_parts _ _ t in
            let s = and_parts _ _ p.0 in
            let z = and_parts _ _ p.1 in
            absurd (n (leb-true _ _ s.0) (ltb-true _ _ s.1) (leb-true _ _ z.0) (ltb-true _ _ z.1))
        | inr f ↦ f
      ])

pub cells : {X : Type 0} (c r x w y h : ℕ) (input old : List X) → Inside (length input) (length old) c r x w y h →
    Copied c r x w y h input old (pasted c r x w y h input old)
cells c r x w y h input old f = record {
  placed = λ u v d i j k m.
      let l : v < r = omega arith in
      let in-old = mul-add-lt u r v c (omega arith) l in
      let to = turned_at c r u v l in
      let in-new = mul-add-lt v c u r l (omega arith) in
      pasted_at c r input x w y h old (u * r + v) d (omega arith) (omega arith)
      ∙ cond-true _ _ _ (cell_in_block r x w y h u v l i j k m) ∙ ap (λ q. get_or input q d) to;
  others = λ u v d i l n.
      let in-old = mul-add-lt u r v c i l in
      let to = turned_at c r u v l in
      let in-new = mul-add-lt v c u r l i in
      pasted_at c r input x w y h old (u * r + v) d (omega arith) (omega arith)
      ∙ cond-false _ _ _ (off_block r x w y h u v l n);
}

every : (c r q : ℕ) → q < c * r → in_block r 0 c 0 r q ≡ true
unfolding in_block
every c r q l =
    let u = column_below c r q l in
    let v = row_below c r q l in
    and_from _ _ (and_from _ _ (le-leb 0 (q / r) (omega arith)) (lt-ltb (q / r) (0 + c) (omega arith)))
    (and_from _ _ (le-leb 0 (q % r) (omega arith)) (lt-ltb (q % r) (0 + r) (omega arith)))

-- the block of all cells
pub whole : {X : Type 0} (c r : ℕ) (input old : List X) → length input ≡ c * r → length old ≡ c * r →
    pasted c r 0 c 0 r input old ≡ transposed c r input
whole c r input old i o =
    let n = long c r input 0 c 0 r old in
    transposed_from c r input i (pasted c r 0 c 0 r input old) (omega arith)
    (λ q d l.
    let t = turned_below c r q l in
    pasted_at c r input 0 c 0 r old q d (omega arith) (omega arith) ∙ cond-true _ _ _ (every c r q l))

pub pasting : {X : Type 0} → Pasting X
pasting = record {
  cells = cells;
  long = λ c r x w y h input old. long c r input x w y h old;
  beside = λ c r x a b y h input old. beside c r input x a b y h old;
  below = λ c r x w y a b input old. below c r input x w y a b old;
  no_column = λ c r x y h input old. no_column c r input x y h old;
  no_row = λ c r x w y input old. no_row c r input x w y old;
  whole = whole;
}

pub counting : Counting
counting n a b = omega arith
