-- Closed rows and columns: a bar, but for how much may leave. Assumes nothing: these are definitions.
use Rattle.std.specs.Prelude.{◌≡◌, ℕ, ◌+◌, ◌*◌, ◌/◌, ◌%◌, ◌<◌, ◌≤◌, Bool, true, false, List, slice_index_or}
use Rattle.survey.specs.Survey.{many}
use Rattle.survey.specs.Page.{Survey, Pattern, hidden}

-- no hidden cell of two workshops or more lies in a marked column outside the marked rows
abbrev pub Shut : Survey → Pattern → List Bool → List Bool → Type 0
Shut s h rs ks = (r k : ℕ) → r < s.rows → k < s.columns → slice_index_or rs r false ≡ false → slice_index_or ks k false ≡ true →
    hidden h (r * s.columns + k) ≡ true → many (r * s.columns + k) s.cells ≤ 1

-- marked rows and columns are closed around cell c: its row is marked and its column is not, and they are shut
pub record Closed (s : Survey) (h : Pattern) (c : ℕ) (rs ks : List Bool) : Type 0 where
  pub row : slice_index_or rs (c / s.columns) false ≡ true
  pub column : slice_index_or ks (c % s.columns) false ≡ false
  pub closed : Shut s h rs ks
