use Rattle.search.proofs.search_has_one_outcome.Goals as goal
use Rattle.search.proofs.One.{one_outcome}

pub returns : goal.returns
returns c = one_outcome
