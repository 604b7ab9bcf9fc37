-- What is left of the way, and the least so far, make what it carries.
use Rattle.std.proofs.Common.{◌-◌}
use Rattle.flow.specs.Searching.{parents}
use Rattle.flow.specs.Standing.{survey_of, stands}
use Rattle.flow.proofs.Back.{Measures}
use Rattle.flow.proofs.standing.Standing.room.Given as goal

abbrev pub invariant-loop : goal.invariant-loop
invariant-loop l =
    Measures (survey_of l.self.raised) l.self.raised.pattern.now l.self.raised.cell (stands l.self)
    (parents l.search.rows) (parents l.search.columns) l.lacking (l.level - l.counter) l.k l.most
