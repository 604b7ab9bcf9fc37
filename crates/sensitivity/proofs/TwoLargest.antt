-- No two workshops of a cell have more together than its two largest, and these two are there.
use Rattle.std.proofs.Common.{arith}
use Rattle.survey.specs.Promise.{TwoLargest, Attained}
use Rattle.survey.proofs.Cells.{pair_le_two, attained}

-- the two largest of a survey's cell: what the bare lists have, read off the survey
pub two_largest : TwoLargest
unfolding TwoLargest Attained
two_largest s c sound = (
  (λ a b ne p q. let e = sound.each in pair_le_two c a b s.cells s.values ne (omega arith) (omega arith) p.1 q.1),
  attained c s.cells s.values sound.each,
)
