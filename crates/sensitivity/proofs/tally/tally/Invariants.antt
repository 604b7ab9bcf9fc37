-- The profiles of so many workshops.
use Rattle.survey.specs.Model.{model, size}
use Rattle.sensitivity.proofs.Pushed.{Tallied}
use Rattle.sensitivity.proofs.tally.tally.Given as goal

abbrev pub invariant-loop-workshop : goal.invariant-loop-workshop
invariant-loop-workshop l = Tallied l.workshop-items l.workshop-index (size (model l.survey)) l.initial.profiles l.profiles
