-- The definition of what a cell lacks, at the cell's profile.
use Rattle.std.proofs.Common.{◌∙◌}
use Rattle.survey.specs.Survey.{lacks}
use Rattle.sensitivity.specs.Profiles.{lack_of}
use Rattle.sensitivity.proofs.table.Table.lack.Goals as goal

pub returns : goal.returns
unfolding lacks
returns c = c.lack.ensures ∙ (λ i. lack_of (c.percent.ensures i) (c.profile.ensures i))
