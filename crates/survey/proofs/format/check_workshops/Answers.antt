-- One workshop is looked at, and what is left is one fewer.
use Rattle.std.proofs.Common.{◌≡◌, suc, ◌+◌, ◌-◌, sym, ap, ◌∙◌, arith}
use Rattle.survey.specs.Format.{first_bad}
use Rattle.survey.proofs.format.check_workshops.Goals as goal

pub loop-i-preserved : goal.loop-i-preserved
loop-i-preserved c =
    let i = c.loop-i.i in
    let left : c.args.workshops - i ≡ suc (c.args.workshops - (i + 1)) = omega arith in
    sym (c.in_ok-checked_workshop.ensures.rest (c.args.workshops - (i + 1))) ∙ sym (ap (first_bad c.args.bytes.now c.args.cells i) left) ∙ c.loop-i.invariant
