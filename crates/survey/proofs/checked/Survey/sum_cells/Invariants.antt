-- The sums of so many workshops.
use Rattle.survey.specs.Model.{model, size}
use Rattle.survey.proofs.Pushed.{Summed}
use Rattle.survey.proofs.checked.Survey.sum_cells.Given as goal

abbrev pub invariant-loop-workshop : goal.invariant-loop-workshop
invariant-loop-workshop l = Summed l.workshop-items l.workshop-index (size (model l.self)) l.initial.sums l.sums
