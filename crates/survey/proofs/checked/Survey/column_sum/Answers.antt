-- A cell lies in the column that its remainder gives.
use Rattle.std.proofs.Common.{rules, ℕ, ◌%◌, eqb, List, sym, ap, ◌∙◌}
use Rattle.survey.proofs.Marks.{sum_marked}
use Rattle.survey.proofs.Totals.{columns_of_map}
use Rattle.survey.specs.Model.{model}
use Rattle.survey.specs.Survey.{sum_at}
use Rattle.survey.proofs.checked.Survey.column_sum.Goals as goal

pub returns : goal.returns
returns c =
    let s = c.args.self.now in
    let column : ℕ → ℕ = λ cell. cell % s.columns in
    c.sum_where.ensures (λ cell. eqb (column cell) c.args.column) (λ cell b p. search rules) ∙ sum_marked column c.args.column s.workshops.items
    ∙ ap (λ (ms : List ℕ). sum_at c.args.column ms (model s).values) (sym (columns_of_map s.columns (model s).cells))
