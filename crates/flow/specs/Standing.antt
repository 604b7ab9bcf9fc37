-- What stands behind a cell that is raised: the survey, and the sums as they stand. Assumes nothing: these are definitions.
use Rattle.std.specs.Prelude.{ℕ}
use Rattle.survey.specs.Model.{model}
use Rattle.survey.specs.Page.{Survey}
use Rattle.flow.specs.Ways.{standing}
use Rattle.flow.specs.declared.standing.Raised.{Raised}
use Rattle.flow.specs.declared.standing.Standing.{Standing}

-- the survey that a raised cell is of
abbrev pub survey_of : Raised → Survey
survey_of r = model r.table.now.survey

-- the sum of each cell as it stands
abbrev pub stands : Standing → ℕ → ℕ
stands x = standing (survey_of x.raised) x.falls.now x.rises.now
