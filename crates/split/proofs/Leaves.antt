-- The leaves of a region: what holds of them all, where they lie, and their tiles.
use Rattle.std.proofs.Common.{◌≡◌, ℕ, ◌+◌, true, false, cond, List, [], ◌∷◌, ◌++◌, sym, ◌∙◌, ap₂, arith, rules}
use Rattle.std.proofs.lemmas.Bool.{leb-true, leb-false}
use Rattle.std.proofs.lemmas.Bool.Decides.{nat_tests}
use Rattle.split.specs.declared.region.Region.{Region}
use Rattle.split.specs.Tiles.{leaf, split_tiles}
use Rattle.split.specs.Regions.{rows, cols, has, Lies, Halves, first, rest, leaves, All, holders, tiles_of}
use Rattle.split.specs.Laws.{Counted, Parted}
use Rattle.split.proofs.Tiling.{thick, at_leaf, by_rows, by_cols}
use Rattle.split.proofs.Halving.{by_cut, by_sizes, by_leaves}

pub counted : Counted
counted = record { of_leaf = at_leaf; by_rows = by_rows; by_cols = by_cols }

-- halves told by cases are the halves
pub halves_are : (r a b : Region) → Halves r a b → (a ≡ first r) × (b ≡ rest r)
halves_are r a b h = by_cut r (λ u v. (a ≡ u) × (b ≡ v)) (λ e. h.by_rows (leb-true _ _ e)) (λ e. h.by_cols (leb-false _ _ e))

all_both : (P : Region → Type 0) (us vs : List Region) → All P us → All P vs → All P (us ++ vs)
all_both P [] vs a b = b
all_both P (x ∷ xs) vs a b = (a.0, all_both P xs vs a.1 b)

each : (r : Region) → All (λ a. leaf (rows a) (cols a) ≡ true) (leaves r)
each = by_leaves (λ r ls. All (λ a. leaf (rows a) (cols a) ≡ true) ls) (λ r e. (e, tt))
    (λ r us vs e f g. all_both (λ a. leaf (rows a) (cols a) ≡ true) us vs f g)

pub lie : (w h : ℕ) (r : Region) → Lies w h r → All (Lies w h) (leaves r)
lie w h =
    by_leaves (λ r ls. Lies w h r → All (Lies w h) ls)
    (λ r e l. (l, tt))
    (λ r us vs e f g l.
    let p = by_cut r (λ a b. Lies w h a × Lies w h b) (λ _. (search rules, search rules)) (λ _. (search rules, search rules)) in
    all_both (Lies w h) us vs (f p.0) (g p.1))

holders_both : (x y : ℕ) (us vs : List Region) → holders x y (us ++ vs) ≡ holders x y us + holders x y vs
holders_both x y [] vs = omega arith
holders_both x y (r ∷ rs) vs = omega (arith, holders_both x y rs vs)

-- a cell of a region is in one of its halves, and not in both
one_half : (x y : ℕ) (r : Region) → leaf (rows r) (cols r) ≡ false →
    cond (has x y (first r)) 1 0 + cond (has x y (rest r)) 1 0 ≡ cond (has x y r) 1 0
one_half x y r e =
    let t = thick (rows r) (cols r) e in
    by_cut r (λ a b. cond (has x y a) 1 0 + cond (has x y b) 1 0 ≡ cond (has x y r) 1 0)
    (λ _. grind (arith, nat_tests)) (λ _. grind (arith, nat_tests))

once : (x y : ℕ) (r : Region) → holders x y (leaves r) ≡ cond (has x y r) 1 0
once x y = by_leaves (λ r ls. holders x y ls ≡ cond (has x y r) 1 0) (λ r e. omega arith)
    (λ r us vs e f g. holders_both x y us vs ∙ ap₂ (λ a b. a + b) f g ∙ one_half x y r e)

tiles_both : (s : ℕ) (us vs : List Region) → tiles_of s (us ++ vs) ≡ tiles_of s us + tiles_of s vs
tiles_both s [] vs = omega arith
tiles_both s (x ∷ xs) vs = omega (arith, tiles_both s xs vs)

pub leaves-tiles : (s : ℕ) (r : Region) → tiles_of s (leaves r) ≡ split_tiles s (rows r) (cols r)
leaves-tiles s =
    by_leaves (λ r ls. tiles_of s ls ≡ split_tiles s (rows r) (cols r))
    (λ r e. let l = at_leaf s (rows r) (cols r) e in omega arith)
    (λ r us vs e f g.
    tiles_both s us vs ∙ ap₂ (λ a b. a + b) f g
    ∙ by_sizes r e (λ m n u v. split_tiles s m n + split_tiles s u v ≡ split_tiles s (rows r) (cols r)) (λ q. sym (by_rows s _ _ e (leb-true _ _ q)))
    (λ q. sym (by_cols s _ _ e (leb-false _ _ q))))

pub parted : Parted
parted = record { each = each; once = once; lie = lie; tiles = leaves-tiles }
