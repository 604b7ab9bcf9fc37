-- The published page, turnovers that give the same page, and what protects a cell. Assumes nothing: these are definitions.
use Rattle.std.specs.Prelude.{◌≡◌, ℕ, zero, suc, ◌+◌, ◌*◌, ◌<◌, ◌≤◌, Bool, false, ◌≢◌, List, length, slice_index, slice_index_or}
use Rattle.survey.specs.Survey.{cell_sum, row_sum, column_sum, largest, many, open_above, lacks}

-- the survey: the table's rows and columns, the percentage, and for each workshop its cell and its turnover
pub record Survey : Type 0 where
  pub rows : ℕ
  pub columns : ℕ
  pub percent : ℕ
  pub cells : List ℕ
  pub values : List ℕ

-- a pattern of blanks: true where a cell is hidden; a cell past the end of the list is printed
abbrev pub Pattern : Type 0
Pattern = List Bool

-- whether cell c is blank
abbrev pub hidden : Pattern → ℕ → Bool
hidden h c = slice_index_or h c false

-- other turnovers that give the same page: all row sums, all column sums, and the cells that are printed
pub record Agrees (s : Survey) (h : Pattern) (w : List ℕ) : Type 0 where
  pub each : length w ≡ length s.values
  pub rows : (r : ℕ) → row_sum s.columns s.cells w r ≡ row_sum s.columns s.cells s.values r
  pub columns : (k : ℕ) → column_sum s.columns s.cells w k ≡ column_sum s.columns s.cells s.values k
  pub printed : (c : ℕ) → hidden h c ≡ false → cell_sum s.cells w c ≡ cell_sum s.cells s.values c

-- workshop a, knowing the page and its own turnover, can't tell that workshop b's is below b's own and p per cent more
pub record Open (s : Survey) (h : Pattern) (a b : ℕ) : Type 0 where
  pub world : List ℕ
  pub agrees : Agrees s h world
  pub own : slice_index world a ≡ slice_index s.values a
  pub above : slice_index s.values b + open_above s.percent (slice_index s.values b) ≤ slice_index world b

-- each workshop is open to each other one
unfoldable pub Safe : Survey → Pattern → Type 0
Safe s h = (a b : ℕ) → a < length s.values → b < length s.values → a ≢ b → Open s h a b

-- f 0 + .. + f (n - 1)
unfoldable pub span : (ℕ → ℕ) → ℕ → ℕ
span f zero = 0
span f (suc n) = f n + span f n

-- the survey's sum of cell c
abbrev pub true_sum : Survey → ℕ → ℕ
true_sum s c = cell_sum s.cells s.values c

-- what cell c lacks
abbrev pub need : Survey → ℕ → ℕ
need s c = lacks s.percent s.cells s.values c

-- the survey is in order: each workshop's cell is in the table, and each workshop has a turnover
pub record Sound (s : Survey) : Type 0 where
  pub some_columns : 0 < s.columns
  pub each : length s.values ≡ length s.cells
  pub inside : (i : ℕ) → i < length s.cells → slice_index s.cells i < s.rows * s.columns

-- other cell sums that give the same page: cell c is higher by what it lacks, no other cell falls below its largest
-- workshop, and other cells with one workshop or none stay as they are
pub record Witness (s : Survey) (h : Pattern) (c : ℕ) : Type 0 where
  pub sums : ℕ → ℕ
  pub by_row : (r : ℕ) → r < s.rows → span (λ k. sums (r * s.columns + k)) s.columns ≡ span (λ k. true_sum s (r * s.columns + k)) s.columns
  pub by_column : (k : ℕ) → k < s.columns → span (λ r. sums (r * s.columns + k)) s.rows ≡ span (λ r. true_sum s (r * s.columns + k)) s.rows
  pub printed : (d : ℕ) → hidden h d ≡ false → sums d ≡ true_sum s d
  pub higher : true_sum s c + need s c ≤ sums c
  pub not_below : (d : ℕ) → d ≢ c → largest d s.cells s.values ≤ sums d
  pub alone : (d : ℕ) → d ≢ c → many d s.cells ≤ 1 → sums d ≡ true_sum s d

-- a pattern protects: each cell that lacks something has a witness
unfoldable pub Protected : Survey → Pattern → Type 0
Protected s h = (c : ℕ) → c < s.rows * s.columns → 0 < need s c → Witness s h c
