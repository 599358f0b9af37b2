-- An answer as one number, for callers that know no fault.
use Rattle.std.specs.Prelude.{ℕ, Ok, Err}
use Rattle.fault.specs.Numbers.{numbers}
use Rattle.fault.specs.Tests.{Answer}

-- 0 where the call was accepted, else the fault's number, which is never 0
abbrev pub status_of : Answer → ℕ
status_of (Ok u) = 0
status_of (Err f) = (numbers f).number
