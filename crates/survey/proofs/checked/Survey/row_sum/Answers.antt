-- A cell lies in the row that its quotient gives.
use Rattle.std.proofs.Common.{rules, ℕ, ◌/◌, eqb, List, sym, ap, ◌∙◌}
use Rattle.survey.proofs.Marks.{sum_marked}
use Rattle.survey.proofs.Totals.{rows_of_map}
use Rattle.survey.specs.Model.{model}
use Rattle.survey.specs.Survey.{sum_at}
use Rattle.survey.proofs.checked.Survey.row_sum.Goals as goal

pub returns : goal.returns
returns c =
    let s = c.args.self.now in
    let row : ℕ → ℕ = λ cell. cell / s.columns in
    c.sum_where.ensures (λ cell. eqb (row cell) c.args.row) (λ cell b p. search rules) ∙ sum_marked row c.args.row s.workshops.items
    ∙ ap (λ (ms : List ℕ). sum_at c.args.row ms (model s).values) (sym (rows_of_map s.columns (model s).cells))
