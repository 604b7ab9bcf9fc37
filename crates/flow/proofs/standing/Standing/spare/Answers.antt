use Rattle.std.proofs.Common.{ap, arith}
use Rattle.sensitivity.specs.declared.profile.Profile.{Profile}
use Rattle.flow.specs.Ways.{spare}
use Rattle.flow.proofs.standing.Standing.spare.Goals as goal

pub returns : goal.returns
unfolding spare
returns c = omega (arith, c.sum.ensures, ap (λ (p : Profile). p.largest) c.profile.ensures)
