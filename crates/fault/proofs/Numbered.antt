-- Each refusal has a number of its own, and a fault names what applies to it.
use Rattle.std.proofs.Common.{◌≡◌, ℕ, ◌+◌, ◌-◌, ◌<◌, List, [], ◌∷◌, get_or, Option, arith, rules}
use Rattle.fault.specs.declared.Refusal.{Refusal}
use Rattle.fault.specs.declared.Refusal.TheVariants.{TooManyCells, InputLength, OutputLength, SquareSides, SquareOutside, NotPowerOfTwo, BitLength, BlockLength, Outside, NoRecord, BadRecord, TooManySteps, TooLong, StepRefused, FittedLength, NoShape, TableBytes}
use Rattle.fault.specs.declared.DeclinedStep.{DeclinedStep}
use Rattle.fault.specs.declared.Fault.{Fault}
use Rattle.fault.specs.Numbers.{number_of, step_of, cause_of, numbers}
use Rattle.fault.specs.Laws.{Numbered, Made}

-- the refusals in the order of their numbers
abbrev all : List Refusal
all = TooManyCells ∷ InputLength ∷ OutputLength ∷ SquareSides ∷ SquareOutside ∷ NotPowerOfTwo ∷ BitLength ∷ BlockLength ∷ Outside ∷ NoRecord ∷ BadRecord ∷ TooManySteps ∷ TooLong ∷ StepRefused ∷ FittedLength ∷ NoShape ∷ TableBytes ∷ []

listed : (k : ℕ) → k < 17 → number_of (get_or all k TooManyCells) ≡ 1 + k
listed k h = grind arith

apart : (r s : Refusal) → number_of r ≡ number_of s → r ≡ s
apart r s e = grind arith

below_apart : (a b : Option DeclinedStep) → step_of a ≡ step_of b → cause_of a ≡ cause_of b → a ≡ b
below_apart a b d e = grind arith

whole : (f g : Fault) → numbers f ≡ numbers g → f ≡ g
whole f g e =
    let r = apart f.refusal g.refusal in
    let b = below_apart f.below g.below in
    grind arith

pub numbered : Numbered
numbered = record {
  within = λ r. grind arith;
  apart = apart;
  every = λ n a b. (get_or all (n - 1) TooManyCells, let l = listed (n - 1) (omega arith) in omega arith);
  whole = whole;
}

pub made : Made
made = search rules
