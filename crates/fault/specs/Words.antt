-- The line that a fault is shown as.
use Rattle.std.specs.Prelude.{ℕ, cond, List, [], ◌++◌, Some, None, codes, decimal, Option, ◌==◌}
use Rattle.fault.specs.declared.Refusal.{Refusal}
use Rattle.fault.specs.declared.Refusal.TheVariants.{TooManyCells, InputLength, OutputLength, SquareSides, SquareOutside, NotPowerOfTwo, BitLength, BlockLength, Outside, NoRecord, BadRecord, TooManySteps, TooLong, StepRefused, FittedLength, NoShape, TableBytes}
use Rattle.fault.specs.declared.DeclinedStep.{DeclinedStep}
use Rattle.fault.specs.declared.Fault.{Fault}
use Rattle.fault.specs.Numbers.{number_of, step_of}
use Rattle.fault.specs.Makers.{of_record}

-- what was refused
abbrev pub words_of : Refusal → List ℕ
words_of TooManyCells = codes "width times height is 2^64 or more"
words_of InputLength = codes "the input or front does not hold width times height elements"
words_of OutputLength = codes "the output or spare does not hold width times height elements"
words_of SquareSides = codes "log_stride is above 40, or log_size is above log_stride"
words_of SquareOutside = codes "the last cell of the square is not in the row"
words_of NotPowerOfTwo = codes "the size is not a power of two"
words_of BitLength = codes "there are more than 64 bits, or none for a number that is not 0"
words_of BlockLength = codes "the size is not that of all blocks together"
words_of Outside = codes "the place or tile is not inside"
words_of NoRecord = codes "the table is empty, or next leads past its end"
words_of BadRecord = codes "the record is no step"
words_of TooManySteps = codes "the plan has more than 64 steps"
words_of TooLong = codes "there are more than 16777216 elements"
words_of StepRefused = codes "the step does not fit the length"
words_of FittedLength = codes "a buffer does not have the length that the plan is fitted to"
words_of NoShape = codes "the name has no shape"
words_of TableBytes = codes "the bytes are not 20 for each record of the table"

-- "refusal 11: the record is no step"
abbrev pub reason : Refusal → List ℕ
reason r = codes "refusal " ++ (decimal (number_of r) ++ (codes ": " ++ words_of r))

-- where in the plan, if the refusal is about a record of it: "record 4, " or "record 4, step 2, "
abbrev pub position : Refusal → ℕ → ℕ → List ℕ
position r i k = cond (of_record r)
    (codes "record " ++ (decimal i ++ codes ", "))
    (cond (number_of r == 14) (codes "record " ++ (decimal i ++ (codes ", step " ++ (decimal k ++ codes ", ")))) [])

-- " (refusal 2: ..)" for the refusal below
abbrev pub because : Option DeclinedStep → List ℕ
because None = []
because (Some below) = codes " (" ++ (reason below.cause ++ codes ")")

abbrev pub line : Fault → List ℕ
line f = position f.refusal f.«record» (step_of f.below) ++ (reason f.refusal ++ because f.below)
