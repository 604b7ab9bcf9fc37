use Rattle.pattern.proofs.lacking_nothing_is_safe.Goals as goal
use Rattle.pattern.proofs.Guard.{by_itself}

pub returns : goal.returns
returns c = by_itself
