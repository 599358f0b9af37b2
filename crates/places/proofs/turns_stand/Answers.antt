use Rattle.places.proofs.Turned.{turning, transposing}
use Rattle.places.proofs.turns_stand.Goals as goal

pub returns : goal.returns
returns g c = record { turning = turning; transposing = transposing }
