-- The scan from the columns of this round, one after another, over all rows.
use Rattle.std.proofs.Common.{◌≡◌, ◌+◌, length}
use Rattle.flow.specs.Searching.{rounds, parents}
use Rattle.flow.specs.Standing.{survey_of}
use Rattle.flow.proofs.Scanning.{Scan, Onward, some_reached}
use Rattle.flow.proofs.Tests.{can_rise_in, in_round}
use Rattle.flow.proofs.standing.Raised.reach_rows.Given as goal

abbrev pub invariant-loop-k : goal.invariant-loop-k
invariant-loop-k l =
    Scan (can_rise_in (survey_of l.self) l.self.pattern.now l.self.cell) (in_round (rounds l.columns) l.round)
    (survey_of l.self).columns (survey_of l.self).rows (l.round + 1)
    (rounds l.initial.rows) (parents l.initial.rows) l.k 0 (rounds l.rows) (parents l.rows)
    × (l.more ≡ some_reached (rounds l.rows) (l.round + 1) (survey_of l.self).rows)
    × (length l.rows ≡ 40)

abbrev pub invariant-loop-r : goal.invariant-loop-r
invariant-loop-r l =
    Onward (can_rise_in (survey_of l.self) l.self.pattern.now l.self.cell) (in_round (rounds l.columns) l.round)
    (survey_of l.self).columns (survey_of l.self).rows (l.round + 1)
    l.k l.r (rounds l.initial.rows) (parents l.initial.rows) (rounds l.rows) (parents l.rows)
    × (l.more ≡ some_reached (rounds l.rows) (l.round + 1) (survey_of l.self).rows)
    × (length l.rows ≡ 40)
