use Rattle.pattern.proofs.protected_is_safe.Goals as goal
use Rattle.pattern.proofs.Guard.{guard}

pub returns : goal.returns
returns c = guard
