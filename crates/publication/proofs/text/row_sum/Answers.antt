-- The cells that are given are the row's.
use Rattle.std.proofs.Common.{◌≡◌, ◌+◌, ◌*◌, arith, rules, ◌∙◌}
use Rattle.std.proofs.lemmas.Iterator.{YieldsList-from_range, YieldsList-from_map}
use Rattle.survey.specs.Model.{model}
use Rattle.survey.specs.Page.{true_sum}
use Rattle.publication.proofs.Sums.{line_few, line_sum, row_added}
use Rattle.publication.proofs.text.row_sum.Goals as goal

pub sum_of-requires-clause-few : goal.sum_of-requires-clause-few
sum_of-requires-clause-few c =
    let wide = c.columns-columns.result in
    line_few (λ k. c.args.row * wide + k) wide (omega arith)
    (YieldsList-from_map _ _ (YieldsList-from_range 0 wide wide c.map.ensures.source (omega arith)) c.map.ensures.closure (λ x r q k. search rules))

pub returns : goal.returns
returns c =
    let s = c.args.table.now.survey in
    let wide = c.columns-columns.result in
    let (ds, all, sum) = c.sum_of.ensures in
    let is : wide ≡ s.columns = cc in
    sum ∙ line_sum (λ k. c.args.row * wide + k) wide (true_sum (model s)) ds all
    (YieldsList-from_map _ _ (YieldsList-from_range 0 wide wide c.map.ensures.source (omega arith)) c.map.ensures.closure (λ x r q k. search rules))
    ∙ rw is (row_added s c.args.row)
