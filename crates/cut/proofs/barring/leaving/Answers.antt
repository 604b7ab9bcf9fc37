use Rattle.std.proofs.Common.{◌≡◌, ◌^◌, ◌∙◌, rules, arith}
use Rattle.std.proofs.lemmas.Iterator.{YieldsList-from_range, YieldsList-from_map}
use Rattle.std.proofs.lemmas.Iterator.Consumers.{sum_by_from_yields_List, fits_by_from_yields_list}
use Rattle.std.specs.List.{range_with_len}
use Rattle.survey.specs.Model.{model}
use Rattle.cut.specs.Barring.{row_leaves}
use Rattle.cut.proofs.Leaving.{rows_fit, rows_leave}
use Rattle.cut.proofs.barring.leaving.Goals as goal

pub sum-requires-clause-fits : goal.sum-requires-clause-fits
sum-requires-clause-fits c =
    let s = c.args.table.now.survey in
    let rows : c.rows.result ≡ s.rows = cc in
    let out = row_leaves (model s) c.args.pattern.now c.args.cell c.args.cut.now.rows c.args.cut.now.columns in
    fits_by_from_yields_list out (range_with_len 0 s.rows) c.map.result (2 ^ 64)
    (YieldsList-from_map _ _ (YieldsList-from_range 0 c.rows.result s.rows c.map.ensures.source (omega arith)) c.map.ensures.closure (λ x r q k. search rules))
    (rows_fit s c.args.pattern.now c.args.cell c.args.cut.now.rows c.args.cut.now.columns)

pub returns : goal.returns
returns c =
    let s = c.args.table.now.survey in
    let rows : c.rows.result ≡ s.rows = cc in
    let out = row_leaves (model s) c.args.pattern.now c.args.cell c.args.cut.now.rows c.args.cut.now.columns in
    sum_by_from_yields_List out (range_with_len 0 s.rows) c.map.result c.sum.result c.sum.ensures.ran
    (YieldsList-from_map _ _ (YieldsList-from_range 0 c.rows.result s.rows c.map.ensures.source (omega arith)) c.map.ensures.closure (λ x r q k. search rules))
    ∙ rows_leave s c.args.pattern.now c.args.cell c.args.cut.now.rows c.args.cut.now.columns
