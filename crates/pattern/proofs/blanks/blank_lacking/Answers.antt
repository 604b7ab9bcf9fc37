use Rattle.std.proofs.Common.{rules, ltb}
use Rattle.survey.specs.Model.{model}
use Rattle.survey.specs.Page.{need}
use Rattle.pattern.proofs.blanks.blank_lacking.Goals as goal

pub returns : goal.returns
returns c = let filled = c.fill_cells.ensures (λ d. ltb 0 (need (model c.args.table.now.survey) d)) (λ d b below said. search rules) in search rules
