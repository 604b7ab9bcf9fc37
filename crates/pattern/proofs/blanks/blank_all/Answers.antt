use Rattle.std.proofs.Common.{rules, true}
use Rattle.pattern.proofs.blanks.blank_all.Goals as goal

pub returns : goal.returns
returns c = c.fill_cells.ensures (λ d. true) (λ d b below said. search rules)
