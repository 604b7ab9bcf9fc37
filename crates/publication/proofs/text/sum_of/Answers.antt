-- Forty cells' sums fit, and the sum is that of the cells that were given.
use Rattle.std.proofs.Common.{◌≡◌, ◌+◌, true, arith, rules, subst, ◌∙◌}
use Rattle.std.specs.Iterator.{DrainsIf}
use Rattle.std.proofs.iter.runs.Made.{took}
use Rattle.survey.specs.Model.{model}
use Rattle.survey.specs.Page.{true_sum}
use Rattle.publication.proofs.Sums.{profile_sum, cells_small}
use Rattle.publication.proofs.text.sum_of.Goals as goal

pub sum-requires-clause-fits : goal.sum-requires-clause-fits
sum-requires-clause-fits g c p seen from =
    let t = c.args.table.now.survey in
    let (q, q_from, m) = c.map.ensures.runs p seen from in
    let (u, yields, none) = subst (λ v. DrainsIf g.I.Iterator.next_gives (q.whole ≡ true) v q.items) q_from (took q) in
    let same = m.4 (λ a y. a + y) (λ a d. a + true_sum (model t) d) 0 (λ x y f' a k. search (rules, profile_sum)) in
    omega (arith, same, cells_small t q.items, c.requires.few q.items u yields)

pub returns : goal.returns
returns g c =
    let t = c.args.table.now.survey in
    let (p, from, whole, sum) = c.sum.ensures.runs tt in
    let (q, q_from, m) = c.map.ensures.runs p p.seen from in
    let (u, yields, none) = subst (λ v. DrainsIf g.I.Iterator.next_gives (q.whole ≡ true) v q.items) q_from (took q) in
    let ended = none (m.0 ∙ whole) in
    let same = m.4 (λ a y. a + y) (λ a d. a + true_sum (model t) d) 0 (λ x y f' a k. search (rules, profile_sum)) in
    (q.items, (ended.0, (u, yields, ended.1)), sum ∙ same)
