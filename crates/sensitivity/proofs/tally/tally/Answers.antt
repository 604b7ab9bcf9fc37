-- Each workshop joins its cell's profile.
use Rattle.std.proofs.Common.{arith}
use Rattle.survey.proofs.Facts.{item_inside, item_in_range}
use Rattle.survey.specs.declared.workshop.Workshop.{Workshop}
use Rattle.sensitivity.proofs.Pushed.{tallied_none, tallied_more}
use Rattle.sensitivity.proofs.tally.tally.Goals as goal

pub loop-workshop-init : goal.loop-workshop-init
loop-workshop-init c = tallied_none _ _ _ (λ d below. c.requires.empty d (omega (arith, c.requires.each)))

pub loop-workshop-preserved : goal.loop-workshop-preserved
loop-workshop-preserved c =
    let s = c.args.survey.now in
    let ws = c.workshops-workshop-items.result.now in
    let is = c.workshops-workshop-items.ensures in
    let i = c.loop-workshop.workshop-index in
    let z : Workshop = record { cell = 0; turnover = 0 } in
    tallied_more ws i _ _ _ z c.join.result c.loop-workshop.invariant (omega (arith, c.requires.each)) c.loop-workshop-test.true
    (item_inside s ws is i z c.loop-workshop-test.true) (item_in_range s ws is i z c.loop-workshop-test.true) c.join.ensures
