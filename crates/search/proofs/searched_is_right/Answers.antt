use Rattle.search.proofs.searched_is_right.Goals as goal
use Rattle.search.proofs.Right.{searched_right}

pub returns : goal.returns
returns c = searched_right
