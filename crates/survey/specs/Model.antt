-- The statements' survey that a checked survey stands for. Assumes nothing: these are definitions.
use Rattle.std.specs.Prelude.{ℕ, ◌*◌, List, map, vec_items}
use Rattle.survey.specs.Page as page
use Rattle.survey.specs.declared.checked.Survey as checked
use Rattle.survey.specs.declared.workshop.Workshop.{Workshop}

-- each workshop's cell
abbrev pub cells_of : List Workshop → List ℕ
cells_of ws = map (λ (w : Workshop). w.cell) ws

-- each workshop's turnover
abbrev pub turnovers_of : List Workshop → List ℕ
turnovers_of ws = map (λ (w : Workshop). w.turnover) ws

-- the survey as the statements have it
abbrev pub model : checked.Survey → page.Survey
model s = record {
  rows = s.rows;
  columns = s.columns;
  percent = s.percent;
  cells = cells_of (vec_items s.workshops);
  values = turnovers_of (vec_items s.workshops);
}

-- how many cells the table has
abbrev pub size : page.Survey → ℕ
size s = s.rows * s.columns
