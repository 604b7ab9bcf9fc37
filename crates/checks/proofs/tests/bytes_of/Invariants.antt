-- The head, and six bytes for each workshop so far.
use Rattle.std.proofs.Common.{◌≡◌, ◌+◌, ◌*◌, vec_len}
use Rattle.checks.proofs.tests.bytes_of.Given as goal

abbrev pub invariant-loop-cell : goal.invariant-loop-cell
invariant-loop-cell l = vec_len l.bytes ≡ 5 + 6 * l.cell-index
