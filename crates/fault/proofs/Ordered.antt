-- The first test whose condition holds decides.
use Rattle.std.proofs.Common.{◌≡◌, ℕ, zero, suc, ◌-◌, ◌<◌, true, false, List, [], ◌∷◌, length, get_or, Ok, Err, refl, ⊎_elim, arith}
use Rattle.std.proofs.lemmas.Bool.{cases_Bool}
use Rattle.std.proofs.lemmas.Grind.{common_steps}
use Rattle.fault.specs.declared.Fault.{Fault}
use Rattle.fault.specs.Tests.{Test, tested}
use Rattle.fault.specs.Laws.{InOrder}

pub declined : (ts : List Test) (k : ℕ) (d : Test) → k < length ts → (get_or ts k d).holds ≡ true →
    ((j : ℕ) → j < k → (get_or ts j d).holds ≡ false) → tested ts ≡ Err (get_or ts k d).fault
declined [] k d h y e = grind arith
declined (t ∷ ts) zero d h y e = grind arith
declined (t ∷ ts) (suc k) d h y e = grind (arith, e 0, declined ts k d (omega arith) y (λ j l. e (suc j) (omega arith)))

pub accepted : (ts : List Test) (d : Test) → ((j : ℕ) → j < length ts → (get_or ts j d).holds ≡ false) → tested ts ≡ Ok tt
accepted [] d e = refl
accepted (t ∷ ts) d e = grind (arith, e 0, accepted ts d (λ j l. e (suc j) (omega arith)))

pub only_declined : (ts : List Test) (d : Test) (f : Fault) → tested ts ≡ Err f →
    (k : ℕ) × (k < length ts) × ((get_or ts k d).holds ≡ true) × ((get_or ts k d).fault ≡ f) × ((j : ℕ) → j < k → (get_or ts j d).holds ≡ false)
only_declined [] d f e = grind arith
only_declined (t ∷ ts) d f e = ⊎_elim
    (λ (y : t.holds ≡ true). (0, omega arith, y, grind arith, λ j l. grind arith))
    (λ (n : t.holds ≡ false).
    let r = only_declined ts d f (grind arith) in
    (suc r.0, omega arith, r.2, r.3, λ j l. grind (arith, common_steps, r.4 (j - 1))))
    (cases_Bool t.holds)

pub only_accepted : (ts : List Test) (d : Test) → tested ts ≡ Ok tt → (j : ℕ) → j < length ts → (get_or ts j d).holds ≡ false
only_accepted [] d e j l = grind arith
only_accepted (t ∷ ts) d e zero l = grind arith
only_accepted (t ∷ ts) d e (suc j) l = grind (arith, only_accepted ts d)

pub in_order : InOrder
in_order = record { declined = declined; accepted = accepted; only_declined = only_declined; only_accepted = only_accepted }
