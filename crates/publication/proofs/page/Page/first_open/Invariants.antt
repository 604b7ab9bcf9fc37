-- The cells before have witnesses.
use Rattle.survey.specs.Model.{model, size}
use Rattle.cut.specs.Scratched.{Roomy}
use Rattle.search.proofs.Deciding.{Served}
use Rattle.publication.proofs.page.Page.first_open.Given as goal

abbrev pub invariant-loop-cell : goal.invariant-loop-cell
invariant-loop-cell l =
    record { roomy : Roomy (size (model l.self.table.now.survey)) l.scratch; served : Served (model l.self.table.now.survey) l.self.pattern.now l.cell }
