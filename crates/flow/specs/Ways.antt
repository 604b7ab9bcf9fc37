-- The ways of raising a cell: which cells may fall and rise for it, which rows and columns are reached so, the way that
-- is taken, what it can carry, and a whole run. No second answer fits any of these. Assumes nothing: these are definitions.
use Rattle.std.specs.Prelude.{◌≡◌, ℕ, zero, suc, ◌+◌, ◌-◌, ◌*◌, ◌/◌, ◌%◌, ◌<◌, min, Bool, true, false, not, ◌&&◌, ◌||◌, List, map, ◌==◌, nat_lt, slice_index, slice_set}
use Rattle.std.specs.List.{range_with_len}
use Rattle.survey.specs.Survey.{pick, largest, many}
use Rattle.survey.specs.Page.{Survey, Pattern, hidden, true_sum}

-- whether some number below n has p
unfoldable pub any_below : (ℕ → Bool) → ℕ → Bool
any_below p zero = false
any_below p (suc n) = p n || any_below p n

-- the least number below n that has p; n where there is none
unfoldable pub least : (ℕ → Bool) → ℕ → ℕ
least p zero = 0
least p (suc n) = pick (any_below p n) (least p n) (pick (p n) n (suc n))

-- whether cell d takes part where cell c is raised: a hidden cell of two workshops or more, other than c
unfoldable pub takes_part : Survey → Pattern → ℕ → ℕ → Bool
takes_part s h c d = hidden h d && (not (d == c) && nat_lt 1 (many d s.cells))

-- how far cell d, whose sum is y d, stands above its largest workshop
unfoldable pub spare : Survey → (ℕ → ℕ) → ℕ → ℕ
spare s y d = y d - largest d s.cells s.values

-- whether cell d can fall: it takes part and stands above its largest workshop
unfoldable pub can_fall : Survey → Pattern → ℕ → (ℕ → ℕ) → ℕ → Bool
can_fall s h c y d = takes_part s h c d && nat_lt (largest d s.cells s.values) (y d)

-- the columns in which a cell of the rows p can fall
unfoldable pub next_columns : Survey → Pattern → ℕ → (ℕ → ℕ) → (ℕ → Bool) → ℕ → Bool
next_columns s h c y p k = any_below (λ r. p r && can_fall s h c y (r * s.columns + k)) s.rows

-- the rows in which a cell of the columns q can rise
unfoldable pub next_rows : Survey → Pattern → ℕ → (ℕ → Bool) → ℕ → Bool
next_rows s h c q r = any_below (λ k. q k && takes_part s h c (r * s.columns + k)) s.columns

-- the rows reached from the row of cell c with at most n rises
unfoldable pub row_reached : Survey → Pattern → ℕ → (ℕ → ℕ) → ℕ → ℕ → Bool
row_reached s h c y zero r = r == c / s.columns
row_reached s h c y (suc n) r =
    row_reached s h c y n r || next_rows s h c (next_columns s h c y (row_reached s h c y n)) r

-- the columns reached from the row of cell c with at most n rises
unfoldable pub column_reached : Survey → Pattern → ℕ → (ℕ → ℕ) → ℕ → ℕ → Bool
column_reached s h c y n k = next_columns s h c y (row_reached s h c y n) k

-- the marks of those numbers below n that have p
unfoldable pub marks : (ℕ → Bool) → ℕ → List Bool
marks p n = map p (range_with_len 0 n)

-- all the rows that are reached, as marks: as many rounds as there are rows are enough
unfoldable pub reached_rows : Survey → Pattern → ℕ → (ℕ → ℕ) → List Bool
reached_rows s h c y = marks (row_reached s h c y s.rows) s.rows

-- all the columns that are reached, as marks
unfoldable pub reached_columns : Survey → Pattern → ℕ → (ℕ → ℕ) → List Bool
reached_columns s h c y = marks (column_reached s h c y s.rows) s.columns

-- whether a way is left: whether the column of cell c is reached
unfoldable pub way_left : Survey → Pattern → ℕ → (ℕ → ℕ) → Bool
way_left s h c y = any_below (λ n. column_reached s h c y n (c % s.columns)) s.rows

-- the rises of the way that is taken: as few as can be
unfoldable pub way_level : Survey → Pattern → ℕ → (ℕ → ℕ) → ℕ
way_level s h c y = least (λ n. column_reached s h c y n (c % s.columns)) s.rows

-- the row from which the way comes to column k after n rises: the first one that will do
unfoldable pub parent_row : Survey → Pattern → ℕ → (ℕ → ℕ) → ℕ → ℕ → ℕ
parent_row s h c y n k = least (λ r. row_reached s h c y n r && can_fall s h c y (r * s.columns + k)) s.rows

-- the column from which the way comes to row r after n rises: the first one that will do
unfoldable pub parent_column : Survey → Pattern → ℕ → (ℕ → ℕ) → ℕ → ℕ → ℕ
parent_column s h c y n r = least (λ k. column_reached s h c y n k && takes_part s h c (r * s.columns + k)) s.columns

-- the cell of column k that falls on the way that comes there after n rises
unfoldable pub falling : Survey → Pattern → ℕ → (ℕ → ℕ) → ℕ → ℕ → ℕ
falling s h c y n k = parent_row s h c y n k * s.columns + k

-- the column before column k on the way that comes there after n + 1 rises
unfoldable pub column_before : Survey → Pattern → ℕ → (ℕ → ℕ) → ℕ → ℕ → ℕ
column_before s h c y n k = parent_column s h c y n (parent_row s h c y (suc n) k)

-- the last cell that rises on the way that comes to column k after n + 1 rises
unfoldable pub rising : Survey → Pattern → ℕ → (ℕ → ℕ) → ℕ → ℕ → ℕ
rising s h c y n k = parent_row s h c y (suc n) k * s.columns + column_before s h c y n k

-- what the way that comes to column k after n rises can carry: the least that a falling cell has to spare
unfoldable pub room : Survey → Pattern → ℕ → (ℕ → ℕ) → ℕ → ℕ → ℕ
room s h c y zero k = spare s y (falling s h c y zero k)
room s h c y (suc n) k = min (spare s y (falling s h c y (suc n) k)) (room s h c y n (column_before s h c y n k))

-- the list with x more at place d
unfoldable pub add_at : List ℕ → ℕ → ℕ → List ℕ
add_at xs d x = slice_set xs d (slice_index xs d + x)

-- what each cell fell once the way that comes to column k after n rises carries x, walked from its end
unfoldable pub fallen : Survey → Pattern → ℕ → (ℕ → ℕ) → ℕ → ℕ → ℕ → List ℕ → List ℕ
fallen s h c y zero k x falls = add_at falls (falling s h c y zero k) x
fallen s h c y (suc n) k x falls = fallen s h c y n (column_before s h c y n k) x (add_at falls (falling s h c y (suc n) k) x)

-- what each cell rose once the way that comes to column k after n rises carries x, walked from its end
unfoldable pub risen : Survey → Pattern → ℕ → (ℕ → ℕ) → ℕ → ℕ → ℕ → List ℕ → List ℕ
risen s h c y zero k x rises = rises
risen s h c y (suc n) k x rises = risen s h c y n (column_before s h c y n k) x (add_at rises (rising s h c y n k) x)

-- the sums as they stand: what each cell fell and rose so far; cell c itself is left out
unfoldable pub standing : Survey → List ℕ → List ℕ → ℕ → ℕ
standing s falls rises d = true_sum s d + slice_index rises d - slice_index falls d

-- the sums as they stand, with cell c raised by e
unfoldable pub raised_sums : Survey → ℕ → ℕ → List ℕ → List ℕ → ℕ → ℕ
raised_sums s c e falls rises d = standing s falls rises d + pick (d == c) e 0

-- what the next way carries: as much as it can, up to what is lacking
unfoldable pub carried : Survey → Pattern → ℕ → (ℕ → ℕ) → ℕ → ℕ
carried s h c y lacking = min (room s h c y (way_level s h c y) (c % s.columns)) lacking

-- what each cell fell after the next way
unfoldable pub next_falls : Survey → Pattern → ℕ → (ℕ → ℕ) → ℕ → List ℕ → List ℕ
next_falls s h c y lacking falls =
    fallen s h c y (way_level s h c y) (c % s.columns) (carried s h c y lacking) falls

-- what each cell rose after the next way
unfoldable pub next_rises : Survey → Pattern → ℕ → (ℕ → ℕ) → ℕ → List ℕ → List ℕ
next_rises s h c y lacking rises =
    risen s h c y (way_level s h c y) (c % s.columns) (carried s h c y lacking) rises

-- a whole run, from what is lacking, what fell and what rose to the same at its end: nothing is lacking, no way is left,
-- or the next way carries what it can and the run goes on from there
pub data Run (s : Survey) (h : Pattern) (c : ℕ) : ℕ → List ℕ → List ℕ → ℕ → List ℕ → List ℕ → Type 0 where
  nothing_lacks : {l : ℕ} {falls rises : List ℕ} → l ≡ 0 → Run s h c l falls rises l falls rises
  no_way : {l : ℕ} {falls rises : List ℕ} → 0 < l → way_left s h c (standing s falls rises) ≡ false →
      Run s h c l falls rises l falls rises
  one_way : {l : ℕ} {falls rises : List ℕ} {l' : ℕ} {falls' rises' : List ℕ} → 0 < l →
      way_left s h c (standing s falls rises) ≡ true →
      Run s h c (l - carried s h c (standing s falls rises) l)
      (next_falls s h c (standing s falls rises) l falls) (next_rises s h c (standing s falls rises) l rises) l' falls' rises' →
      Run s h c l falls rises l' falls' rises'

-- a run has one result at most
unfoldable pub OneRun : Type 0
OneRun =
    (s : Survey) (h : Pattern) (c l : ℕ) (falls rises : List ℕ) (l₁ : ℕ) (falls₁ rises₁ : List ℕ) (l₂ : ℕ) (falls₂ rises₂ : List ℕ) →
    Run s h c l falls rises l₁ falls₁ rises₁ → Run s h c l falls rises l₂ falls₂ rises₂ → (l₁ ≡ l₂) × (falls₁ ≡ falls₂) × (rises₁ ≡ rises₂)
