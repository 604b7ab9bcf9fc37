-- So many cells are as the rule says.
use Rattle.std.proofs.Common.{ℕ, ◌<◌, false, get_or}
use Rattle.pattern.proofs.blanks.fill_cells.Given as goal

abbrev pub invariant-loop-d : goal.invariant-loop-d
invariant-loop-d g l = (k : ℕ) → k < l.d → goal.F-post g l.blank k (get_or l.cell-items k false)
