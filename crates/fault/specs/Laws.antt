-- What makes the definitions of this crate the rules of refusals.
use Rattle.std.specs.Prelude.{◌≡◌, ℕ, ◌<◌, ◌≤◌, true, false, ◌⊎◌, List, length, Ok, Err, slice_index_or}
use Rattle.fault.specs.declared.Refusal.{Refusal}
use Rattle.fault.specs.declared.Fault.{Fault}
use Rattle.fault.specs.Numbers.{number_of, numbers}
use Rattle.fault.specs.Makers.{plain, at_record, in_step}
use Rattle.fault.specs.Tests.{Test, tested}

-- the refusals are numbered 1 to 17, each number once, and a fault's five numbers say all of it
pub record Numbered : Type 0 where
  pub within : (r : Refusal) → (1 ≤ number_of r) × (number_of r ≤ 17)
  pub apart : (r s : Refusal) → number_of r ≡ number_of s → r ≡ s
  pub every : (n : ℕ) → 1 ≤ n → n ≤ 17 → (r : Refusal) × (number_of r ≡ n)
  pub whole : (f g : Fault) → numbers f ≡ numbers g → f ≡ g

-- a fault names a record only if its number is 10, 11, 12 or 14, and a step and a cause only if it is 14
pub record Applies (f : Fault) : Type 0 where
  pub recorded : ((10 ≤ (numbers f).number) × ((numbers f).number ≤ 12)) ⊎ (((numbers f).number ≡ 14) ⊎ ((numbers f).record_no ≡ 0))
  pub stepped : ((numbers f).number ≡ 14) ⊎ (((numbers f).step_no ≡ 0) × ((numbers f).cause_no ≡ 0))

-- so does every fault that is made
pub record Made : Type 0 where
  pub plain : (r : Refusal) → Applies (plain r)
  pub at_record : (r : Refusal) (i : ℕ) → Applies (at_record r i)
  pub in_step : (i k : ℕ) (below : Fault) → Applies (in_step i k below)

-- a call is declined by a test if and only if its condition holds and that of no earlier one does,
-- and accepted if and only if none holds
pub record InOrder : Type 0 where
  pub declined : (ts : List Test) (k : ℕ) (d : Test) → k < length ts → (slice_index_or ts k d).holds ≡ true →
      ((j : ℕ) → j < k → (slice_index_or ts j d).holds ≡ false) → tested ts ≡ Err (slice_index_or ts k d).fault
  pub accepted : (ts : List Test) (d : Test) → ((j : ℕ) → j < length ts → (slice_index_or ts j d).holds ≡ false) → tested ts ≡ Ok tt
  pub only_declined : (ts : List Test) (d : Test) (f : Fault) → tested ts ≡ Err f →
      (k : ℕ) × (k < length ts) × ((slice_index_or ts k d).holds ≡ true) × ((slice_index_or ts k d).fault ≡ f) × ((j : ℕ) → j < k → (slice_index_or ts j d).holds ≡ false)
  pub only_accepted : (ts : List Test) (d : Test) → tested ts ≡ Ok tt → (j : ℕ) → j < length ts → (slice_index_or ts j d).holds ≡ false
