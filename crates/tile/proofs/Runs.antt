-- A column of a block is one run of the output.
use Rattle.std.proofs.Common.{◌≡◌, ℕ, ◌+◌, ◌-◌, ◌*◌, ◌/◌, ◌%◌, ◌<◌, ◌≤◌, ◌⊎◌, List, length, get_or, sym, ap, ◌∙◌, inl, inr, arith, rules}
use borrow.Rule.Slice.PartMut.{put_mid}
use Rattle.std.specs.List.{between}
use Rattle.std.proofs.lemmas.Nat.{mul-add-lt, mul-le, div-add-mod'}
use Rattle.std.proofs.lemmas.List.Edits.{length-between}
use Rattle.std.proofs.lemmas.List.{places, same_lists, length-append, length-take, length-drop}
use Rattle.std.proofs.lemmas.Bool.{cases_lt, cond-true, cond-false}
use Rattle.places.specs.Turn.{turned}
use Rattle.places.proofs.Turned.{turned_at, turned_below, row_below}
use Rattle.tile.specs.Blocks.{Inside, in_block, pasted}
use Rattle.tile.proofs.Pasted.{beside, long, pasted_at, cell_in_block, off_block}

-- the cell in row y + k and column x lies in an input that has n rows from y on
pub in_column : (y k n cols x len : ℕ) → k < n → x < cols → (y + n) * cols ≤ len →
    ((y + k) * cols + x < len) × (y + k ≤ (y + k) * cols)
in_column y k n cols x len p q h = (
  omega (arith, mul-add-lt (y + k) cols x (y + n) (omega arith) q),
  omega (arith, mul-le (y + k) 1 (y + k) cols (omega arith) (omega arith)),
)

-- what a write to the n cells from a on leaves, in these cells and outside
module _ {X : Type 0} (a n : ℕ) (xs run : List X) (within : a + n ≤ length xs) (l : length run ≡ n) where
  put_long : length (put_mid a n xs run) ≡ length xs
  put_long = simp (length-append, length-take, length-drop) (omega arith)

  put_in : (k : ℕ) (d : X) → k < n → get_or (put_mid a n xs run) (a + k) d ≡ get_or run k d
  put_in k d h = search (rules, places)

  put_out : (q : ℕ) (d : X) → (q < a) ⊎ (a + n ≤ q) → get_or (put_mid a n xs run) q d ≡ get_or xs q d
  put_out q d (inl h) = search (rules, places)
  put_out q d (inr h) = search (rules, places)

-- column i of a block that lies in the matrix
module _ {X : Type 0} (input output : List X) (cols rows x wide y high : ℕ)
    (f : Inside (length input) (length output) cols rows x wide y high) (i : ℕ) (p : i < wide) where
  pub run_ends : (x + i) * rows + y + high ≤ length output
  run_ends = omega (arith, mul-le (x + i + 1) rows cols rows (omega arith) (omega arith))

  pub run_long : (mid : List X) → length mid ≡ length output →
      length (between ((x + i) * rows + y) ((x + i) * rows + y + high) mid) ≡ high
  run_long mid n =
      length-between mid ((x + i) * rows + y) ((x + i) * rows + y + high) (omega (arith, run_ends)) ∙ omega arith

  -- the rows that the run is read from
  pub rows_in : (y + high) * cols ≤ length input
  rows_in = omega (arith, mul-le (y + high) cols rows cols (omega arith) (omega arith))

  -- the run is written
  module _ (mid run : List X) (m : length mid ≡ length output) (l : length run ≡ high)
      (is : (k : ℕ) (d : X) → k < high → get_or run k d ≡ get_or input ((y + k) * cols + (x + i)) d) where
    at : ℕ
    at = (x + i) * rows + y

    -- at a place of the run
    hit : (k : ℕ) (d : X) → k < high →
        get_or (put_mid at high mid run) (at + k) d ≡ get_or (pasted cols rows (x + i) 1 y high input mid) (at + k) d
    unfolding at
    hit k d h =
        let e : at + k ≡ (x + i) * rows + (y + k) = omega arith in
        let r : y + k < rows = omega arith in
        let b : at + k < cols * rows = omega (arith, run_ends) in
        let t = ap (turned cols rows) e ∙ turned_at cols rows (x + i) (y + k) r in
        let u = turned_below cols rows (at + k) b in
        put_in at high mid run (omega (arith, run_ends)) l k d h ∙ is k d h
        ∙ sym (pasted_at cols rows input (x + i) 1 y high mid (at + k) d (omega arith) (omega arith)
        ∙ cond-true _ _ _ (ap (in_block rows (x + i) 1 y high) e
        ∙ cell_in_block rows (x + i) 1 y high (x + i) (y + k) r (omega arith) (omega arith) (omega arith) (omega arith))
        ∙ ap (λ p. get_or input p d) t)

    -- at any other
    miss : (q : ℕ) (d : X) → q < cols * rows → (q < at) ⊎ (at + high ≤ q) →
        get_or (put_mid at high mid run) q d ≡ get_or (pasted cols rows (x + i) 1 y high input mid) q d
    unfolding at
    miss q d b o =
        let e = div-add-mod' q rows in
        let r = row_below cols rows q b in
        let u = turned_below cols rows q b in
        let w = run_ends in
        put_out at high mid run (omega arith) l q d o
        ∙ sym (pasted_at cols rows input (x + i) 1 y high mid q d (omega arith) (omega arith)
        ∙ cond-false _ _ _ (ap (in_block rows (x + i) 1 y high) (sym e)
        ∙ off_block rows (x + i) 1 y high (q / rows) (q % rows) r
        (λ a1 a2 a3 a4.
        let c : q / rows ≡ x + i = omega arith in
        let z = ap (λ n. n * rows) c in
        elim o [ inl h ↦ omega arith | inr h ↦ omega arith ])))

    written : put_mid at high mid run ≡ pasted cols rows (x + i) 1 y high input mid
    unfolding at
    written =
        let w = run_ends in
        let n = put_long at high mid run (omega arith) l in
        let p = long cols rows input (x + i) 1 y high mid in
        same_lists _ _ (omega arith)
        (λ q d b.
        let b' : q < cols * rows = omega arith in
        elim (cases_lt q at) [
          | inl h ↦ miss q d b' (inl h)
          | inr h ↦ elim (cases_lt q (at + high)) [ inl k ↦ let e : at + (q - at) ≡ q = omega arith in rw e at (hit (q - at) d (omega arith)) | inr k ↦ miss q d b' (inr k) ]
        ])

    -- one column more
    pub column_more : (old : List X) (n : ℕ) → n ≡ high → mid ≡ pasted cols rows x i y high input old →
        put_mid ((x + i) * rows + y) n mid run ≡ pasted cols rows x (i + 1) y high input old
    unfolding at
    column_more old n e so =
        ap (λ k. put_mid ((x + i) * rows + y) k mid run) e ∙ written ∙ ap (pasted cols rows (x + i) 1 y high input) so
        ∙ beside cols rows input x i 1 y high old
