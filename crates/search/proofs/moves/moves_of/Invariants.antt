-- The bits of so many rows.
use Rattle.std.proofs.Common.{◌≡◌, length}
use Rattle.search.specs.Moves.{MovesOf}
use Rattle.search.proofs.moves.moves_of.Given as goal

abbrev pub invariant-loop-row : goal.invariant-loop-row
invariant-loop-row l = (length l.bits-items ≡ l.fn.rows) × MovesOf l.row l.columns l.sums l.other l.bits-items
