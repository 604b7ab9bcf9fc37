use Rattle.std.proofs.Common.{arith}
use Rattle.flow.specs.Ways.{standing}
use Rattle.flow.proofs.standing.Standing.sum.Goals as goal

pub returns : goal.returns
unfolding standing
returns c = omega (arith, c.args.self.now.afoot.known c.args.d c.requires)
