use Rattle.cut.proofs.bar_shows_no_witness.Goals as goal
use Rattle.cut.proofs.BarLaw.{bar_law}

pub returns : goal.returns
returns c = bar_law
