-- Each workshop's cell is in the table and its turnover in range, by the survey's invariant.
use Rattle.survey.proofs.Facts.{item_inside, item_in_range}
use Rattle.survey.proofs.Pushed.{summed_none, summed_more}
use Rattle.survey.proofs.checked.Survey.sum_cells.Goals as goal
use Rattle.survey.specs.declared.workshop.Workshop.{Workshop}

pub loop-workshop-init : goal.loop-workshop-init
loop-workshop-init c = summed_none _ _ _ c.requires.clear

pub loop-workshop-preserved : goal.loop-workshop-preserved
loop-workshop-preserved c =
    let s = c.args.self.now in
    let i = c.loop-workshop.workshop-index in
    let ws = c.deref-workshop-items.result.now in
    let is = c.deref-workshop-items.ensures.value in
    let z : Workshop = record { cell = 0; turnover = 0 } in
    summed_more ws i _ _ _ z c.loop-workshop.invariant c.requires.enough c.loop-workshop-test.true
    (item_inside s ws is i z c.loop-workshop-test.true) (item_in_range s ws is i z c.loop-workshop-test.true)
