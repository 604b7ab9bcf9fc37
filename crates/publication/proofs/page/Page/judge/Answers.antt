-- A cell that lacks nothing, and what is found of one that lacks something.
use Rattle.std.proofs.Common.{arith}
use Rattle.survey.proofs.Facts.{model_sound}
use Rattle.survey.specs.Model.{model}
use Rattle.publication.proofs.Auditing.{judged, judged_nothing}
use Rattle.publication.proofs.page.Page.judge.Goals as goal

pub returns-then-lack-eq0-clause-judged : goal.returns-then-lack-eq0-clause-judged
returns-then-lack-eq0-clause-judged c =
    judged_nothing (model c.args.self.now.table.now.survey) c.args.self.now.pattern.now c.args.cell (omega (arith, c.lack.ensures, c.if-lack-eq0.true))

pub returns-clause-judged : goal.returns-clause-judged
returns-clause-judged c =
    judged (model c.args.self.now.table.now.survey) c.args.self.now.pattern.now c.args.cell (model_sound c.args.self.now.table.now.survey) c.requires.inside
    (omega (arith, c.lack.ensures, c.if-lack-eq0.false)) _ _ _ _ _ _ _ _ c.in-Ok.finding c.in-Ok.ensures.found
