use Rattle.survey.proofs.sums_add_up.Goals as goal
use Rattle.survey.proofs.Totals.{adds_up}

pub returns : goal.returns
returns c = adds_up
