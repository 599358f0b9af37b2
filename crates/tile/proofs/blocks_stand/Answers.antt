use Rattle.tile.proofs.Pasted.{pasting, counting}
use Rattle.tile.proofs.blocks_stand.Goals as goal

pub returns : goal.returns
returns g c = record { pasting = pasting; counting = counting }
