use Rattle.publication.proofs.audit.audit_has_one_answer.Goals as goal
use Rattle.publication.proofs.OneAnswer.{one_answer}

pub returns : goal.returns
returns c = one_answer
