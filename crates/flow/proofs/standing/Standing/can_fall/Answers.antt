use Rattle.std.proofs.Common.{sym, ◌∙◌}
use Rattle.flow.proofs.Parts.{fall_test, no_part_fall}
use Rattle.flow.proofs.standing.Standing.can_fall.Goals as goal

pub returns-then-takes_part : goal.returns-then-takes_part
returns-then-takes_part c = fall_test _ _ _ _ _ _ (sym c.takes_part.ensures ∙ c.if-takes_part.true) c.spare.ensures

pub returns-else-takes_part : goal.returns-else-takes_part
returns-else-takes_part c =
    c.if-takes_part.false ∙ sym (no_part_fall _ _ _ _ _ (sym c.takes_part.ensures ∙ c.if-takes_part.false))
