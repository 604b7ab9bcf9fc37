-- What a cell does to a cut, as it is looked at alone. Assumes nothing: these are definitions.
use Rattle.std.specs.Prelude.{ℕ, ◌+◌, ◌*◌, Bool, false, not, ◌&&◌, ◌||◌, List, nat_le, slice_index_or}
use Rattle.survey.specs.Survey.{pick, many}
use Rattle.survey.specs.Page.{Survey, Pattern, hidden, span}
use Rattle.survey.specs.Promise.{may_give}

-- whether the cell in row r and column k keeps the marked columns shut: it lies in a marked row or in no marked column, is
-- printed, or has one workshop or none
abbrev pub keeps : Survey → Pattern → List Bool → List Bool → ℕ → ℕ → Bool
keeps s h rs ks r k =
    slice_index_or rs r false
    || (not (slice_index_or ks k false) || (not (hidden h (r * s.columns + k)) || nat_le (many (r * s.columns + k) s.cells) 1))

-- what may leave by the cell in row r and column k where cell c is raised: what it may give, where the row is marked and the
-- column is not
abbrev pub way_out : Survey → Pattern → ℕ → List Bool → List Bool → ℕ → ℕ → ℕ
way_out s h c rs ks r k = pick (slice_index_or rs r false && not (slice_index_or ks k false)) (may_give s h c (r * s.columns + k)) 0

-- what may leave by the cells of row r
abbrev pub row_leaves : Survey → Pattern → ℕ → List Bool → List Bool → ℕ → ℕ
row_leaves s h c rs ks r = span (λ k. way_out s h c rs ks r k) s.columns
