use Rattle.cases.proofs.Shown.{shown}
use Rattle.cases.proofs.worked_cases.Goals as goal

pub returns : goal.returns
returns g c = shown _
