-- So many entries are the survey's sums.
use Rattle.survey.specs.Model.{model}
use Rattle.survey.specs.Page.{true_sum}
use Rattle.flow.proofs.Filled.{First}
use Rattle.flow.proofs.lent.fill_sums.Given as goal

abbrev pub invariant-loop-d : goal.invariant-loop-d
invariant-loop-d l = First (true_sum (model l.table.survey)) l.d l.sums
