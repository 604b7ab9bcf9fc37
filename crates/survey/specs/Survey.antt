-- The survey: which workshop lies in which cell with which turnover; sums of cells, rows and columns; what must stay
-- open above a turnover, and what a cell lacks by itself. Assumes nothing: these are definitions.
use Rattle.std.specs.Prelude.{ℕ, ◌+◌, ◌-◌, ◌*◌, ◌/◌, ◌%◌, max, Bool, true, false, List, [], ◌∷◌, ◌==◌, nat_lt}

-- the first where the test is true, else the second
abbrev pub pick : {A : Type 0} → Bool → A → A → A
pick true a b = a
pick false a b = b

-- the sum of the turnovers of those workshops whose mark is k; marks and turnovers stand in the same order
unfoldable pub sum_at : ℕ → List ℕ → List ℕ → ℕ
sum_at k [] vs = 0
sum_at k (m ∷ ms) [] = 0
sum_at k (m ∷ ms) (v ∷ vs) = pick (m == k) v 0 + sum_at k ms vs

-- the sum of all turnovers
unfoldable pub sum_of_all : List ℕ → ℕ
sum_of_all [] = 0
sum_of_all (v ∷ vs) = v + sum_of_all vs

-- each workshop's row in a table of n columns: a cell's number is row * columns + column
unfoldable pub rows_of : ℕ → List ℕ → List ℕ
rows_of n [] = []
rows_of n (c ∷ cs) = c / n ∷ rows_of n cs

-- each workshop's column in a table of n columns
unfoldable pub columns_of : ℕ → List ℕ → List ℕ
columns_of n [] = []
columns_of n (c ∷ cs) = c % n ∷ columns_of n cs

-- the sum of cell c
abbrev pub cell_sum : List ℕ → List ℕ → ℕ → ℕ
cell_sum cells values c = sum_at c cells values

-- the sum of row r in a table of n columns
abbrev pub row_sum : ℕ → List ℕ → List ℕ → ℕ → ℕ
row_sum n cells values r = sum_at r (rows_of n cells) values

-- the sum of column k in a table of n columns
abbrev pub column_sum : ℕ → List ℕ → List ℕ → ℕ → ℕ
column_sum n cells values k = sum_at k (columns_of n cells) values

-- the largest turnover in cell k, 0 where the cell has no workshop
unfoldable pub largest : ℕ → List ℕ → List ℕ → ℕ
largest k [] vs = 0
largest k (m ∷ ms) [] = 0
largest k (m ∷ ms) (v ∷ vs) = max (pick (m == k) v 0) (largest k ms vs)

-- how many workshops lie in cell k
unfoldable pub many : ℕ → List ℕ → ℕ
many k [] = 0
many k (m ∷ ms) = pick (m == k) 1 0 + many k ms

-- the largest turnover in cell k when one workshop that has the largest is left out; two equal ones count as both
unfoldable pub second : ℕ → List ℕ → List ℕ → ℕ
second k [] vs = 0
second k (m ∷ ms) [] = 0
second k (m ∷ ms) (v ∷ vs) = pick (m == k) (pick (nat_lt v (largest k ms vs)) (max v (second k ms vs)) (largest k ms vs)) (second k ms vs)

-- so much above a turnover must stay possible: p per cent of it, rounded up
abbrev pub open_above : ℕ → ℕ → ℕ
open_above p v = (v * p + 99) / 100

-- what cell c lacks by itself: what must stay open above its largest workshop, less what the workshops besides the two
-- largest have together; 0 where that is enough
unfoldable pub lacks : ℕ → List ℕ → List ℕ → ℕ → ℕ
lacks p cells values c = open_above p (largest c cells values) - (cell_sum cells values c - (largest c cells values + second c cells values))
