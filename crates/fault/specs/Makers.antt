-- The three kinds of fault.
use Rattle.std.specs.Prelude.{ℕ, Bool, cond, ◌&&◌, Some, None, nat_le}
use Rattle.fault.specs.declared.Refusal.{Refusal}
use Rattle.fault.specs.declared.Refusal.TheVariants.{StepRefused}
use Rattle.fault.specs.declared.Fault.{Fault}
use Rattle.fault.specs.Numbers.{number_of}

-- no record, no step and no cause
abbrev pub plain : Refusal → Fault
plain r = record { refusal = r; «record» = 0; below = None }

-- whether a refusal is about one record of a plan's table, by itself: 10, 11 and 12 are
abbrev pub of_record : Refusal → Bool
of_record r = nat_le 10 (number_of r) && nat_le (number_of r) 12

-- at a record of a plan's table, where the refusal is about one
abbrev pub at_record : Refusal → ℕ → Fault
at_record r i = record { refusal = r; «record» = cond (of_record r) i 0; below = None }

-- step k of a plan, in record i, was declined for the reason of the fault below
abbrev pub in_step : ℕ → ℕ → Fault → Fault
in_step i k below = record { refusal = StepRefused; «record» = i; below = Some (record { step = k; cause = below.refusal }) }
