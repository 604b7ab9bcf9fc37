use Rattle.publication.proofs.audit.printed_is_open.Goals as goal
use Rattle.publication.proofs.OneAnswer.{printed_open}

pub returns : goal.returns
returns c = printed_open
