-- The rest of the walk makes the whole walk's result.
use Rattle.std.proofs.Common.{◌-◌}
use Rattle.flow.specs.Searching.{parents}
use Rattle.flow.specs.Standing.{survey_of}
use Rattle.flow.specs.Ways.{standing}
use Rattle.flow.proofs.Back.{Carries}
use Rattle.flow.proofs.standing.Raised.carry.Given as goal

abbrev pub invariant-loop : goal.invariant-loop
invariant-loop l =
    Carries (survey_of l.self) l.self.pattern.now l.self.cell (standing (survey_of l.self) l.initial.falls l.initial.rises)
    (parents l.search.rows) (parents l.search.columns) l.amount (l.level - l.counter) l.k l.initial.falls l.initial.rises l.falls l.rises
