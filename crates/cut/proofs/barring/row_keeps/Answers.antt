use Rattle.std.proofs.Common.{◌≡◌, true, false, refl, rules, arith}
use borrow.Author.Tests.{tests}
use Rattle.std.proofs.lemmas.Iterator.{cases_from_all, YieldsList-from_range}
use Rattle.survey.specs.Model.{model}
use Rattle.cut.specs.Barring.{keeps}
use Rattle.cut.proofs.Leaving.{told_by}
use Rattle.cut.proofs.barring.row_keeps.Goals as goal

pub returns-else-cut-row : goal.returns-else-cut-row
returns-else-cut-row c =
    let s = c.args.table.now.survey in
    let columns : c.columns.result ≡ s.columns = cc in
    let kept = keeps (model s) c.args.pattern.now c.args.cut.now.rows c.args.cut.now.columns c.args.row in
    told_by s.columns (λ k. kept k ≡ true) (λ k. kept k ≡ false) c.all.result
    (cases_from_all _ _ _ (λ k. kept k ≡ true) (λ k. kept k ≡ false) c.all.ensures.ran (YieldsList-from_range 0 c.columns.result s.columns refl (omega arith))
    (λ x q k. search (rules, tests)) (λ x q k. search (rules, tests)))
