use Rattle.publication.proofs.audit.barred_has_a_bar.Goals as goal
use Rattle.publication.proofs.OneAnswer.{barred_by_bar}

pub returns : goal.returns
returns c = barred_by_bar
