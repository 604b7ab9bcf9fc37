use Rattle.sensitivity.proofs.two_largest_stand.Goals as goal
use Rattle.sensitivity.proofs.TwoLargest.{two_largest}

pub returns : goal.returns
returns c = two_largest
