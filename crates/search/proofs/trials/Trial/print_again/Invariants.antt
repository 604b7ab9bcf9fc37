-- The cells before have witnesses with the cell printed; what is known of those from here on is of the pattern as it was.
use Rattle.std.proofs.Common.{◌≡◌, false, set}
use Rattle.survey.specs.Model.{model, size}
use Rattle.cut.specs.Scratched.{Roomy}
use Rattle.search.specs.Lacking.{AllKnown, cells_lacking, lacking_cells}
use Rattle.search.proofs.Printing.{Printing}
use Rattle.search.proofs.trials.Trial.print_again.Given as goal

abbrev pub invariant-loop-lack : goal.invariant-loop-lack
invariant-loop-lack l =
    let s = model l.table.now.survey in
    record {
      pattern : l.pattern.items ≡ set l.fn.self.pattern l.cell false;
      listed : cells_lacking l.lack-items ≡ lacking_cells s;
      roomy : Roomy (size s) l.scratch;
      so_far : Printing s l.fn.self.pattern l.cell l.lack-items l.lack-index;
      known : AllKnown l.lack-items;
    }
