-- The turn's order, and the matrix after the turn.
use Rattle.std.proofs.Common.{◌≡◌, ℕ, ◌+◌, ◌*◌, ◌/◌, ◌%◌, ◌<◌, List, length, get_or, sym, ap, ◌∙◌, subst, ap₂, ⊎_elim, mul_comm, arith}
use Rattle.std.proofs.lemmas.Nat.{div-mul-add, mod-mul-add, div_below, mod_below, mul-add-lt, div-add-mod'}
use Rattle.std.proofs.lemmas.Bool.{cases_eq}
use Rattle.places.specs.Places.{placed, Once, inverse}
use Rattle.places.specs.Orders.{order, Inverses}
use Rattle.places.specs.Turn.{Cells, turned, turn, transposed}
use Rattle.places.specs.Laws.{Turning, Transposing}
use Rattle.places.proofs.Moved.{length-placed}
use Rattle.places.proofs.Permuted.{there_back}
use Rattle.places.proofs.Ordered.{length-order, Once-order, inverse-order, ordered_from, get_or-ordered}

pub turned_at : (w h x y : ℕ) → y < h → turned w h (x * h + y) ≡ y * w + x
unfolding turned
turned_at w h x y l = ap₂ (λ a b. a * w + b) (mod-mul-add x h y l) (div-mul-add x h y l)

-- the row and the column of a place, and the place by them
module _ (w h q : ℕ) (l : q < w * h) where
  high : 0 < h
  high = ⊎_elim (λ (e : h ≡ 0). let z = ap (λ k. w * k) e in absurd (omega arith)) (λ n. omega arith) (cases_eq h 0)

  pub column_below : q / h < w
  column_below = div_below q h w high l

  pub row_below : q % h < h
  row_below = mod_below q h high

  pub turned_below : turned w h q < w * h
  unfolding turned
  turned_below = mul-add-lt (q % h) w (q / h) h row_below column_below

  pub turned_back : turned h w (turned w h q) ≡ q
  unfolding turned
  turned_back = turned_at h w (q % h) (q / h) column_below ∙ div-add-mod' q h

pub turn_inverses : (w h : ℕ) → Inverses (w * h) (turned w h) (turned h w)
turn_inverses w h =
    let c = mul_comm w h in
    record {
      there = turned_below w h;
      back = λ q l. let b = turned_below h w q (omega arith) in omega arith;
      there_back = turned_back w h;
      back_there = λ q l. turned_back h w q (omega arith);
    }

pub turn_once : (w h : ℕ) → Once (w * h) (turn w h)
turn_once w h = Once-order _ _ _ (turn_inverses w h)

pub turn_undone : (w h : ℕ) → inverse (turn w h) ≡ turn h w
turn_undone w h = inverse-order _ _ _ (turn_inverses w h) ∙ ap (λ n. order n (turned h w)) (mul_comm w h)

pub turning : Turning
turning = record { cell = turned_at; once = turn_once; undone = turn_undone }

module _ {X : Type 0} (w h : ℕ) (xs : List X) (long : length xs ≡ w * h) where
  pub length-transposed : length (transposed w h xs) ≡ w * h
  unfolding transposed
  length-transposed = let m = length-order (w * h) (turned w h) in length-placed (turn w h) xs (omega arith) ∙ long

  pub transposed_cells : Cells w h xs (transposed w h xs)
  unfolding transposed
  transposed_cells x y d a b =
      let l : x * h + y < w * h = omega (arith, mul-add-lt x h y w a b) in
      get_or-ordered (w * h) (turned w h) xs long (x * h + y) d l (turned_below w h (x * h + y) l)
      ∙ ap (λ i. get_or xs i d) (turned_at w h x y b)

  pub transposed_twice : transposed h w (transposed w h xs) ≡ xs
  unfolding transposed
  transposed_twice =
      ap (λ l. placed l (placed (turn w h) xs)) (sym (turn_undone w h))
      ∙ there_back (turn w h) xs (subst (λ n. Once n (turn w h)) (sym long) (turn_once w h))

  -- a list with the cells of xs in the turn's order is the matrix after the turn
  pub transposed_from : (ys : List X) → length ys ≡ w * h → ((q : ℕ) (d : X) → q < w * h → get_or ys q d ≡ get_or xs (turned w h q) d) →
      ys ≡ transposed w h xs
  unfolding transposed
  transposed_from ys e at = ordered_from (w * h) (turned w h) xs ys long e (turned_below w h) at

pub transposing : {X : Type 0} → Transposing X
transposing = record { cells = transposed_cells; long = length-transposed; twice = transposed_twice }
