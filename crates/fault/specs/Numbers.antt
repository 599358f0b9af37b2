-- The five numbers by which a fault is told: promises about refusals speak through these.
use Rattle.std.specs.Prelude.{ℕ, cond, Some, None, Option, ◌==◌, nat_lt}
use Rattle.fault.specs.declared.Refusal.{Refusal}
use Rattle.fault.specs.declared.Refusal.TheVariants.{TooManyCells, InputLength, OutputLength, SquareSides, SquareOutside, NotPowerOfTwo, BitLength, BlockLength, Outside, NoRecord, BadRecord, TooManySteps, TooLong, StepRefused, FittedLength, NoShape, TableBytes}
use Rattle.fault.specs.declared.Layer.{Layer}
use Rattle.fault.specs.declared.Layer.TheVariants.{Tile, Move, Plan, Signal}
use Rattle.fault.specs.declared.DeclinedStep.{DeclinedStep}
use Rattle.fault.specs.declared.Fault.{Fault}

abbrev pub number_of : Refusal → ℕ
number_of TooManyCells = 1
number_of InputLength = 2
number_of OutputLength = 3
number_of SquareSides = 4
number_of SquareOutside = 5
number_of NotPowerOfTwo = 6
number_of BitLength = 7
number_of BlockLength = 8
number_of Outside = 9
number_of NoRecord = 10
number_of BadRecord = 11
number_of TooManySteps = 12
number_of TooLong = 13
number_of StepRefused = 14
number_of FittedLength = 15
number_of NoShape = 16
number_of TableBytes = 17

-- the layer that a number belongs to: below 9 a move, 9 a row or a tile, 16 a signal, all others a plan
abbrev pub layer_of : ℕ → ℕ
layer_of n = cond (nat_lt n 9) 2 (cond (n == 9) 1 (cond (n == 16) 4 3))

abbrev pub layer_number : Layer → ℕ
layer_number Tile = 1
layer_number Move = 2
layer_number Plan = 3
layer_number Signal = 4

-- the step that was declined, counted from 1, and the number of the refusal for which it was; 0 for none
abbrev pub step_of : Option DeclinedStep → ℕ
step_of None = 0
step_of (Some below) = below.step

abbrev pub cause_of : Option DeclinedStep → ℕ
cause_of None = 0
cause_of (Some below) = number_of below.cause

-- what a fault says: its number, the layer, the record and the step of the plan that it names,
-- and the number of the refusal below; 0 for what it does not name
pub record Numbers : Type 0 where
  pub number : ℕ
  pub layer : ℕ
  pub record_no : ℕ
  pub step_no : ℕ
  pub cause_no : ℕ

abbrev pub numbers : Fault → Numbers
numbers f = record { number = number_of f.refusal; layer = layer_of (number_of f.refusal); record_no = f.«record»; step_no = step_of f.below; cause_no = cause_of f.below }
