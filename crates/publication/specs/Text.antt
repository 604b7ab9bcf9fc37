-- The published page as text: one line a row, and the sums of the columns last. Assumes nothing: these are definitions.
use Rattle.std.specs.Prelude.{ℕ, zero, suc, ◌+◌, ◌*◌, List, [], ◌∷◌, ◌++◌, decimal}
use Rattle.survey.specs.Page.{Survey, Pattern, hidden, true_sum}
use Rattle.survey.specs.Survey.{pick, row_sum, column_sum, sum_of_all}

-- a number or a dash, and a space after it
abbrev pub spaced : List ℕ → List ℕ
spaced bytes = bytes ++ (32 ∷ [])

-- a number at a line's end, and the newline
abbrev pub ended : List ℕ → List ℕ
ended bytes = bytes ++ (10 ∷ [])

-- what stands for cell d: a dash where it is blank, else its sum
unfoldable pub entry : Survey → Pattern → ℕ → List ℕ
entry s h d = pick (hidden h d) (45 ∷ []) (decimal (true_sum s d))

-- the first n cells of row r
unfoldable pub row_text : Survey → Pattern → ℕ → ℕ → List ℕ
row_text s h r zero = []
row_text s h r (suc n) = row_text s h r n ++ spaced (entry s h (r * s.columns + n))

-- the line of row r: its cells, and its sum
unfoldable pub row_line : Survey → Pattern → ℕ → List ℕ
row_line s h r = row_text s h r s.columns ++ ended (decimal (row_sum s.columns s.cells s.values r))

-- the lines of the first n rows
unfoldable pub row_lines : Survey → Pattern → ℕ → List ℕ
row_lines s h zero = []
row_lines s h (suc n) = row_lines s h n ++ row_line s h n

-- the sums of the first n columns
unfoldable pub column_text : Survey → ℕ → List ℕ
column_text s zero = []
column_text s (suc n) = column_text s n ++ spaced (decimal (column_sum s.columns s.cells s.values n))

-- the last line: the sum of each column, and the sum of all turnovers
unfoldable pub sums_line : Survey → List ℕ
sums_line s = column_text s s.columns ++ ended (decimal (sum_of_all s.values))

-- the page
unfoldable pub page_text : Survey → Pattern → List ℕ
page_text s h = row_lines s h s.rows ++ sums_line s
