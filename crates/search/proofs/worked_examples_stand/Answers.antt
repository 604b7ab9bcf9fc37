use Rattle.search.proofs.worked_examples_stand.Goals as goal
use Rattle.search.proofs.Examples.{worked_examples}

pub returns : goal.returns
returns c = worked_examples
