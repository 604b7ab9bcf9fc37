use Rattle.cut.proofs.witness_or_bar.Goals as goal
use Rattle.cut.proofs.OneOrOther.{one_or_other}

pub returns : goal.returns
returns c = one_or_other
