use Rattle.pattern.proofs.hiding_more_never_harms.Goals as goal
use Rattle.pattern.proofs.Guard.{more_hidden}

pub returns : goal.returns
returns c = more_hidden
