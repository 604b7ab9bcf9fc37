-- What is found of the cell: a witness, or a cut that shows that there is none.
use Rattle.std.proofs.Common.{◌≡◌, vec_items, ap, ◌∙◌}
use Rattle.survey.proofs.Facts.{model_sound}
use Rattle.survey.specs.Model.{model}
use Rattle.search.specs.Moves.{MovesOf}
use Rattle.cut.proofs.BarLaw.{barred_none}
use Rattle.search.proofs.Shown.{finds_shows, finds_bars, kept_shown}
use Rattle.search.proofs.looking.look.Goals as goal

pub returns-in-Ok-Shown-clause-found : goal.returns-in-Ok-Shown-clause-found
returns-in-Ok-Shown-clause-found c =
    let s = model c.args.table.now.survey in
    let shows = finds_shows _ _ _ _ _ _ _ _ _ _ _ c.in-Ok-Shown.field-0 c.in-Ok-Shown.ensures.found c.in-Ok-Shown.field-0-is in
    let height : c.rows.result ≡ s.rows = c.rows.ensures ∙ ap (λ t. (model t).rows) c.survey-survey.ensures in
    let width : c.columns.result ≡ s.columns = c.columns.ensures ∙ ap (λ t. (model t).columns) c.survey-survey.ensures in
    let changed : MovesOf s.rows s.columns (vec_items c.judge.new.self.sums) (vec_items c.judge.new.self.witness) c.moves_of.result.rows =
    rw (← c.deref.ensures.value, ← c.deref-in-Ok-Shown.ensures.value, ← height, ← width) c.moves_of.ensures in
    kept_shown _ _ _ c.requires.inside _ _ _ _ _ _ _ _ shows c.moves_of.result changed

pub returns-in-Ok-Barred-clause-found : goal.returns-in-Ok-Barred-clause-found
returns-in-Ok-Barred-clause-found c =
    barred_none _ _ _ (model_sound c.args.table.now.survey) c.requires.inside _ _ _ _ _ _ _ _ _
    (finds_bars _ _ _ _ _ _ _ _ _ _ _ c.in-Ok-Barred.field-0 c.in-Ok-Barred.ensures.found c.in-Ok-Barred.field-0-0 c.in-Ok-Barred.field-0-is)
