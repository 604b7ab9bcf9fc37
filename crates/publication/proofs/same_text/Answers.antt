use Rattle.publication.proofs.same_text.Goals as goal
use Rattle.publication.proofs.Same.{same_text}

pub returns : goal.returns
returns c = same_text
