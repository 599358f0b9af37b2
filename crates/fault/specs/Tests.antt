-- The tests that a call begins with, and what a call leaves.
use Rattle.std.specs.Prelude.{Bool, cond, List, [], ◌∷◌, is_ok, Ok, Err, Result}
use Rattle.fault.specs.declared.Fault.{Fault}

-- what a call answers
abbrev pub Answer : Type 0
Answer = Result (Unit {0}) Fault

-- a condition under which a call is declined, and the fault that it then answers
pub record Test : Type 0 where
  pub holds : Bool
  pub fault : Fault

abbrev pub declines : Bool → Fault → Test
declines b f = record { holds = b; fault = f }

-- the tests in order: the first whose condition holds decides
abbrev pub tested : List Test → Answer
tested [] = Ok tt
tested (t ∷ ts) = cond t.holds (Err t.fault) (tested ts)

-- what a buffer holds after a call: `new` where it was accepted, as found where it was declined
abbrev pub after_call : {X : Type 0} → Answer → X → X → X
after_call r new found = cond (is_ok r) new found

-- two calls, the second made only where the first was accepted
abbrev pub and_then : Answer → Answer → Answer
and_then (Ok u) second = second
and_then (Err f) second = Err f

-- a value where the call was accepted, its fault where it was declined
abbrev pub answering : {X : Type 0} → Answer → X → Result X Fault
answering (Ok u) x = Ok x
answering (Err f) x = Err f
