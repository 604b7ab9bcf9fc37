use Rattle.search.proofs.search_has_an_outcome.Goals as goal
use Rattle.search.proofs.Existence.{some_outcome}

pub returns : goal.returns
returns c = some_outcome
