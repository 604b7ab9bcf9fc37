-- So many marks are set.
use Rattle.std.proofs.Common.{◌≡◌, ℕ, ◌<◌, false, None, is_some, length, get_or}
use Rattle.flow.proofs.search.marks.Given as goal

abbrev pub invariant-loop-i : goal.invariant-loop-i
invariant-loop-i l = ((i : ℕ) → i < l.i → get_or l.mark-items i false ≡ is_some (get_or l.steps i None)) × (length l.mark-items ≡ 40)
