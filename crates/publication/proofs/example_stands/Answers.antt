use Rattle.publication.proofs.example_stands.Goals as goal
use Rattle.publication.proofs.Example.{small_page}

pub returns : goal.returns
returns c = small_page
