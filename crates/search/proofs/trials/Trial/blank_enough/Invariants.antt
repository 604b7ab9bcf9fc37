-- So many are blank, and fewer were not enough; the cells before have witnesses.
use Rattle.std.proofs.Common.{◌≡◌, ℕ, ◌-◌, true, length}
use Rattle.std.specs.List.{AllWithin}
use Rattle.std.specs.Option.{is_some}
use Rattle.survey.specs.Model.{model, size}
use Rattle.survey.specs.Page.{hidden}
use Rattle.cut.specs.Scratched.{Roomy}
use Rattle.search.specs.Ranking.{cells_of}
use Rattle.search.specs.Trials.{Tries}
use Rattle.search.specs.declared.lacking.Lacking.{Lacking}
use Rattle.search.proofs.Blanking.{Blanking}
use Rattle.search.proofs.Listing.{Served}
use Rattle.search.proofs.trials.Trial.blank_enough.Given as goal

abbrev pub invariant-loop-lack : goal.invariant-loop-lack
invariant-loop-lack l =
    let s = model l.table.now.survey in
    record {
      tries : Tries s l.pattern.items l.lack-items l.scratch;
      so_far : Blanking s (cells_of l.order) l.k l.pattern.items;
      served : Served s l.pattern.items l.lack-index;
      known : AllWithin (λ (d : Lacking). is_some d.moves ≡ true) l.lack-items 0 l.lack-index;
    }

-- no fewer cells are blank than before the loop
abbrev pub invariant-blanks : goal.invariant-blanks
invariant-blanks l =
    let s = model l.table.now.survey in
    record {
      roomy : Roomy (size s) l.scratch;
      long : length l.pattern.items ≡ size s;
      more : (d : ℕ) → hidden l.initial.pattern.items d ≡ true → hidden l.pattern.items d ≡ true;
      so_far : Blanking s (cells_of l.order) l.k l.pattern.items;
    }

abbrev pub decreases-blanks : goal.decreases-blanks
decreases-blanks l = length l.order - l.k
