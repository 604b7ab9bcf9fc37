-- Lists with an entry for each cell: how one more at one cell changes the entries and the row and column sums.
use Rattle.std.proofs.Common.{◌≡◌, ℕ, ◌+◌, ◌*◌, ◌<◌, List, length, get_or, refl, ◌∙◌, inl, inr, arith}
use Rattle.std.proofs.lemmas.List.{length-set, get_or-set_same, get_or-set_other}
use Rattle.std.proofs.lemmas.Bool.{cases_eq}
use Rattle.std.proofs.lemmas.Nat.{mul-add-lt}
use Rattle.survey.specs.Page.{span}
use Rattle.survey.proofs.Spans.{span_cong, span_add}
use Rattle.flow.specs.Ways.{add_at}
use Rattle.flow.proofs.Tables.{at_cell, at_cell_here, at_cell_other, row_of_cell, column_of_cell}

-- the list is as long as before
pub length_add_at : (xs : List ℕ) (d x : ℕ) → length (add_at xs d x) ≡ length xs
unfolding add_at
length_add_at xs d x = length-set xs d _

-- an entry is higher by x at that place, and the same elsewhere
pub get_or_add_at : (xs : List ℕ) (d x i : ℕ) → d < length xs → get_or (add_at xs d x) i 0 ≡ get_or xs i 0 + at_cell d x i
unfolding add_at
get_or_add_at xs d x i l = elim (cases_eq i d) [
  | inl same ↦ rw same (omega (arith, get_or-set_same xs d (get_or xs d 0 + x) 0 l, at_cell_here d x d refl))
  | inr off ↦ omega (arith, get_or-set_other xs d i (get_or xs d 0 + x) 0 off, at_cell_other d x i off)
]

-- the sum of row r in a table of n columns
abbrev pub row_total : ℕ → List ℕ → ℕ → ℕ
row_total n xs r = span (λ k. get_or xs (r * n + k) 0) n

-- the sum of column k in a table of m rows and n columns
abbrev pub column_total : ℕ → ℕ → List ℕ → ℕ → ℕ
column_total m n xs k = span (λ r. get_or xs (r * n + k) 0) m

module _ (m n : ℕ) (xs : List ℕ) (long : length xs ≡ m * n) (i j x : ℕ) (p : i < m) (q : j < n) where
  -- the place is in the list
  place_inside : i * n + j < length xs
  place_inside = omega (arith, mul-add-lt i n j m p q)

  -- a row sum is higher by x in that row, and the same elsewhere
  pub row_add_at : (r : ℕ) → row_total n (add_at xs (i * n + j) x) r ≡ row_total n xs r + at_cell i x r
  row_add_at r =
      span_cong _ _ n (λ k l. get_or_add_at xs (i * n + j) x (r * n + k) place_inside)
      ∙ omega (arith, span_add (λ k. get_or xs (r * n + k) 0) (λ k. at_cell (i * n + j) x (r * n + k)) n, row_of_cell n i j x r q)

  -- a column sum is higher by x in that column, and the same elsewhere
  pub column_add_at : (k : ℕ) → k < n → column_total m n (add_at xs (i * n + j) x) k ≡ column_total m n xs k + at_cell j x k
  column_add_at k l =
      span_cong _ _ m (λ r _. get_or_add_at xs (i * n + j) x (r * n + k) place_inside)
      ∙ omega (arith, span_add (λ r. get_or xs (r * n + k) 0) (λ r. at_cell (i * n + j) x (r * n + k)) m, column_of_cell m n i j x k p q l)
