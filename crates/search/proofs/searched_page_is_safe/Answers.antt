use Rattle.search.proofs.searched_page_is_safe.Goals as goal
use Rattle.search.proofs.Right.{searched_safe}

pub returns : goal.returns
returns c = searched_safe
