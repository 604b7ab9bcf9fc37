-- The bits of the columns from this one on.
use Rattle.std.proofs.Common.{◌+◌}
use Rattle.search.specs.Moves.{differs}
use Rattle.search.proofs.Bits.{BitsFrom}
use Rattle.search.proofs.moves.row_bits.Given as goal

abbrev pub invariant-loop-k : goal.invariant-loop-k
invariant-loop-k l = BitsFrom (λ k. differs l.sums l.other (l.start + k)) l.k l.columns l.bits
