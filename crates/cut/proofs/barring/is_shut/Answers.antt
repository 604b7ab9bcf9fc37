use Rattle.std.proofs.Common.{◌≡◌, refl, rules, arith}
use borrow.Author.Tests.{tests}
use Rattle.std.proofs.lemmas.Iterator.{cases_from_all, YieldsList-from_range}
use Rattle.survey.specs.Model.{model}
use Rattle.cut.proofs.Leaving.{RowKeeps, RowBreaks, told_by, shut_told}
use Rattle.cut.proofs.barring.is_shut.Goals as goal

pub returns : goal.returns
returns c =
    let s = c.args.table.now.survey in
    let rows : c.rows.result ≡ s.rows = cc in
    let keeps = RowKeeps (model s) c.args.pattern.now c.args.cut.now.rows c.args.cut.now.columns in
    let breaks = RowBreaks (model s) c.args.pattern.now c.args.cut.now.rows c.args.cut.now.columns in
    let (sound, whole) = shut_told (model s) c.args.pattern.now c.args.cut.now.rows c.args.cut.now.columns c.all.result
    (told_by s.rows keeps breaks c.all.result
    (cases_from_all _ _ _ keeps breaks c.all.ensures.ran (YieldsList-from_range 0 c.rows.result s.rows refl (omega arith))
    (λ x q k. search (rules, tests)) (λ x q k. search (rules, tests)))) in
    record { sound = sound; whole = whole }
