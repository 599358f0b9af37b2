use Rattle.places.proofs.Ordered.{moving, permuting}
use Rattle.places.proofs.orders_stand.Goals as goal

pub returns : goal.returns
returns g c = record { moving = moving; permuting = permuting }
