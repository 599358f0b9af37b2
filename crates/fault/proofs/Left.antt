-- What an accepted call leaves.
use Rattle.std.proofs.Common.{◌≡◌, true, is_ok, arith}
use Rattle.fault.specs.Tests.{Answer, after_call}

pub left_accepted : {X : Type 0} (r : Answer) (new found : X) → is_ok r ≡ true → after_call r new found ≡ new
left_accepted r new found e = grind arith
