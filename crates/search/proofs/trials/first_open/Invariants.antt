-- The cells before have witnesses.
use Rattle.survey.specs.Model.{model, size}
use Rattle.cut.specs.Scratched.{Roomy}
use Rattle.search.proofs.Listing.{Served}
use Rattle.search.proofs.trials.first_open.Given as goal

abbrev pub invariant-loop-lack : goal.invariant-loop-lack
invariant-loop-lack l =
    let s = model l.table.survey in
    record {
      room : Roomy (size s) l.scratch;
      served : Served s l.pattern l.lack-index;
    }
