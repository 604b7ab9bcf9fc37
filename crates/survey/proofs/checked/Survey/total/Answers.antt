-- Every workshop has the mark 0.
use Rattle.std.proofs.Common.{rules, true, ◌∙◌}
use Rattle.survey.proofs.Facts.{model_sound}
use Rattle.survey.proofs.Marks.{sum_marked}
use Rattle.survey.proofs.Totals.{one_mark}
use Rattle.survey.specs.Model.{model}
use Rattle.survey.proofs.checked.Survey.total.Goals as goal

pub returns : goal.returns
returns c =
    let s = c.args.self.now in
    c.sum_where.ensures (λ cell. true) (λ cell b p. search rules) ∙ sum_marked (λ cell. 0) 0 s.workshops.items
    ∙ one_mark 0 (model s).cells (model s).values (model_sound s).each
