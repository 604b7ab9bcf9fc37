use Rattle.pattern.proofs.safe_may_be_unprotected.Goals as goal
use Rattle.pattern.proofs.Converse.{safe_unprotected}

pub returns : goal.returns
returns c = safe_unprotected
