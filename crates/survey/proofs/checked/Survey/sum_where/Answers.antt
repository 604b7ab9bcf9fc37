-- The chain's sum, and that it fits: at most 20,000 turnovers.
use Rattle.std.proofs.Common.{rules, arith, ◌^◌, refl}
use borrow.Author.Tests.{tests}
use Rattle.std.proofs.lemmas.Iterator.{YieldsList-from_slice, YieldsList-from_map}
use Rattle.std.proofs.lemmas.Iterator.Adapters.{fits_from_length, at_most_from_yields_List}
use Rattle.std.proofs.lemmas.Iterator.Consumers.{YieldsList-at, sum_by_from_yields_List}
use Rattle.survey.proofs.Facts.{few_items}
use Rattle.survey.specs.Survey.{pick}
use Rattle.survey.specs.declared.workshop.Workshop.{Workshop}
use Rattle.survey.proofs.checked.Survey.sum_where.Goals as goal

pub sum-requires-clause-fits : goal.sum-requires-clause-fits
sum-requires-clause-fits g c =
    fits_from_length _ _ 20000 (2 ^ 64)
    (at_most_from_yields_List
    (YieldsList-at c.map.ensures.source (YieldsList-from_slice c.args.self.now.workshops.items (cc)))
    (few_items c.args.self.now _ refl))
    c.map.ensures.closure (omega arith) (λ x r q k. search (rules, tests))

pub returns : goal.returns
returns g c = λ holds says.
    sum_by_from_yields_List (λ (w : Workshop). pick (holds w.cell) w.turnover 0) c.args.self.now.workshops.items c.map.result c.sum.result c.sum.ensures.ran
    (YieldsList-from_map _ (λ (w : Workshop). pick (holds w.cell) w.turnover 0)
    (YieldsList-at c.map.ensures.source (YieldsList-from_slice c.args.self.now.workshops.items (cc)))
    c.map.ensures.closure (λ x r q k. search (rules, tests, says)))
