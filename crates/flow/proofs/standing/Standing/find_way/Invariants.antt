-- The search before a round, and in the middle of one.
use Rattle.std.proofs.Common.{◌≡◌, ◌-◌, length}
use Rattle.flow.specs.Standing.{survey_of, stands}
use Rattle.flow.proofs.Searches.{Lists, lists, Round, Going}
use Rattle.flow.proofs.standing.Standing.find_way.Given as goal

abbrev pub invariant-search : goal.invariant-search
invariant-search l = Round (survey_of l.self.raised) l.self.raised.pattern.now l.self.raised.cell (stands l.self) l.round (lists l.search.rows l.search.columns)

abbrev pub decreases-search : goal.decreases-search
decreases-search l = 40 - l.round

abbrev pub invariant-loop-r : goal.invariant-loop-r
invariant-loop-r l =
    Going (survey_of l.self.raised) l.self.raised.pattern.now l.self.raised.cell (stands l.self) l.round l.r 0 (lists l.initial.search.rows l.initial.search.columns) (lists l.search.rows l.search.columns)
    × (length l.search.rows ≡ 40)
    × (length l.search.columns ≡ 40)

abbrev pub invariant-loop-k : goal.invariant-loop-k
invariant-loop-k l =
    ((q₀ : Lists) →
    Round (survey_of l.self.raised) l.self.raised.pattern.now l.self.raised.cell (stands l.self) l.round q₀ →
    Going (survey_of l.self.raised) l.self.raised.pattern.now l.self.raised.cell (stands l.self) l.round l.r 0 q₀ (lists l.initial.search.rows l.initial.search.columns) →
    Going (survey_of l.self.raised) l.self.raised.pattern.now l.self.raised.cell (stands l.self) l.round l.r l.k q₀ (lists l.search.rows l.search.columns))
    × (l.search.rows ≡ l.initial.search.rows)
    × (length l.search.columns ≡ 40)
