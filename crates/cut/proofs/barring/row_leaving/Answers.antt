use Rattle.std.proofs.Common.{◌≡◌, ◌^◌, ◌∙◌, rules, arith}
use Rattle.std.proofs.lemmas.Iterator.{YieldsList-from_range, YieldsList-from_map}
use Rattle.std.proofs.lemmas.Iterator.Consumers.{sum_by_from_yields_List, fits_by_from_yields_list}
use Rattle.std.specs.List.{range_with_len}
use Rattle.survey.specs.Model.{model}
use Rattle.cut.specs.Barring.{way_out}
use Rattle.cut.proofs.Leaving.{row_fits, row_sum}
use Rattle.cut.proofs.barring.row_leaving.Goals as goal

pub sum-requires-clause-fits : goal.sum-requires-clause-fits
sum-requires-clause-fits c =
    let s = c.args.table.now.survey in
    let columns : c.columns.result ≡ s.columns = cc in
    let out = way_out (model s) c.args.pattern.now c.args.cell c.args.cut.now.rows c.args.cut.now.columns c.args.row in
    fits_by_from_yields_list out (range_with_len 0 s.columns) c.map.result (2 ^ 64)
    (YieldsList-from_map _ _ (YieldsList-from_range 0 c.columns.result s.columns c.map.ensures.source (omega arith)) c.map.ensures.closure (λ x r q k. search rules))
    (omega (arith, row_fits s c.args.pattern.now c.args.cell c.args.cut.now.rows c.args.cut.now.columns c.args.row))

pub returns : goal.returns
returns c =
    let s = c.args.table.now.survey in
    let columns : c.columns.result ≡ s.columns = cc in
    let out = way_out (model s) c.args.pattern.now c.args.cell c.args.cut.now.rows c.args.cut.now.columns c.args.row in
    sum_by_from_yields_List out (range_with_len 0 s.columns) c.map.result c.sum.result c.sum.ensures.ran
    (YieldsList-from_map _ _ (YieldsList-from_range 0 c.columns.result s.columns c.map.ensures.source (omega arith)) c.map.ensures.closure (λ x r q k. search rules))
    ∙ row_sum s c.args.pattern.now c.args.cell c.args.cut.now.rows c.args.cut.now.columns c.args.row
