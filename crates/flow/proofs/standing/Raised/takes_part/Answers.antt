use Rattle.std.proofs.Common.{sym, ap}
use Rattle.sensitivity.specs.declared.profile.Profile.{Profile}
use Rattle.flow.proofs.Parts.{part_test, part_own, part_printed}
use Rattle.flow.proofs.standing.Raised.takes_part.Goals as goal
use Rattle.flow.proofs.standing.Raised.takes_part.Goals.{then-not-self-d-via-then-not-self-d, then-not-self-d-via-else-not-self-d+then-d-self}

pub returns-then-not-self-d : goal.returns-then-not-self-d
returns-then-not-self-d c = elim c.then-not-self-d.branch [
  | then-not-self-d-via-then-not-self-d w ↦ sym (part_printed _ _ _ _ w.if-not-self-d.true)
  | then-not-self-d-via-else-not-self-d+then-d-self w ↦ sym (part_own _ _ _ _ w.if-d-self.true)
]

pub returns : goal.returns
returns c = part_test _ _ _ _ _ c.if-not-self-d.false c.if-d-self.false (ap (λ (p : Profile). p.workshops) c.profile.ensures)
