use Rattle.std.proofs.Common.{◌<◌, arith}
use Rattle.survey.specs.Model.{size}
use Rattle.flow.specs.Standing.{survey_of}
use Rattle.survey.proofs.Cells.{pick_same, pick_other}
use Rattle.flow.specs.Ways.{raised_sums, standing}
use Rattle.flow.proofs.Filled.{first_more}
use Rattle.flow.proofs.lent.write_witness.Goals as goal
use Rattle.flow.proofs.lent.write_witness.Goals.{then-d-standing, else-d-standing}

pub loop-d-preserved : goal.loop-d-preserved
unfolding raised_sums
loop-d-preserved c =
    let d = c.loop-d.d in
    let cell = c.args.standing.now.raised.cell in
    first_more _ _ _ _ c.loop-d.invariant (omega arith)
    (elim c.if-d-standing.branch [
      | then-d-standing w ↦ omega (arith, w.own-is, c.sum.ensures, pick_same d cell c.args.by 0 w.if-d-standing.true)
      | else-d-standing w ↦ omega (arith, w.own-is, c.sum.ensures, pick_other d cell c.args.by 0 w.if-d-standing.false)
    ])

pub overflow_add-sum : goal.overflow_add-sum
unfolding standing
overflow_add-sum c =
    let inside : c.loop-d.d < size (survey_of c.args.standing.now.raised) = omega arith in
    omega (arith, c.sum.ensures, c.args.standing.now.afoot.small c.loop-d.d inside)
