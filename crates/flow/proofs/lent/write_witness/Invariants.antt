-- So many entries are the sums as they stand.
use Rattle.flow.specs.Standing.{survey_of}
use Rattle.flow.specs.Ways.{raised_sums}
use Rattle.flow.proofs.Filled.{First}
use Rattle.flow.proofs.lent.write_witness.Given as goal

abbrev pub invariant-loop-d : goal.invariant-loop-d
invariant-loop-d l = First (raised_sums (survey_of l.standing.raised) l.standing.raised.cell l.by l.standing.falls.now l.standing.rises.now) l.d l.witness
