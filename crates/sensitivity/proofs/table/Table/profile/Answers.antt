-- Past the table no cell has a workshop.
use Rattle.std.proofs.Common.{arith}
use Rattle.std.proofs.lemmas.Grind.{common_steps}
use Rattle.survey.proofs.Facts.{model_sound}
use Rattle.sensitivity.proofs.Empty.{profile_past}
use Rattle.sensitivity.specs.Profiles.{no_profile}
use Rattle.sensitivity.proofs.table.Table.profile.Goals as goal

pub returns : goal.returns
returns c =
    let past = profile_past _ c.args.cell (model_sound c.args.self.now.survey) in
    let known = c.args.self.now.known c.args.cell no_profile in
    grind (arith, common_steps, past, known, c.args.self.now.each)
