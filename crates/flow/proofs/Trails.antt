-- The parents that a search leaves lead back along the way.
use Rattle.std.proofs.Common.{◌≡◌, ℕ, zero, suc, ◌<◌, false, ◌≢◌, List, get_or, refl, ◌∙◌, subst, arith}
use Rattle.survey.specs.Page.{Survey, Pattern}
use Rattle.flow.specs.Ways.{row_reached, column_reached, parent_row, column_before}
use Rattle.flow.specs.Searching.{never, Trail}
use Rattle.flow.proofs.Reach.{OnWay, parent_inside, parent_reached, parent_fresh, on_before}
use Rattle.flow.proofs.Rounds.{Rows, Columns, RowFrom, ColumnFrom, side_exact}

module _ (s : Survey) (h : Pattern) (c : ℕ) (y : ℕ → ℕ) (n : ℕ) (rr rp cr cp parents : List ℕ) (soon : n < never)
    (rows : Rows s h c y (suc n) rr rp) (columns : Columns s h c y n cr cp)
    (kept : (k : ℕ) → get_or cr k 0 ≢ never → get_or parents k 0 ≡ get_or cp k 0) where
  -- from the row that the way comes from to the column before
  row_back : (m k : ℕ) → m < n → OnWay s h c y (suc m) k → get_or rp (parent_row s h c y (suc m) k) 0 ≡ column_before s h c y m k
  unfolding RowFrom column_before
  row_back m k l on =
      let r = parent_row s h c y (suc m) k in
      let inside = parent_inside s h c y (suc m) k on in
      let exact : get_or rr r 0 ≡ suc m = side_exact (row_reached s h c y) (RowFrom s h c y) s.rows (suc n) rr rp rows (suc m) r (omega arith) inside
      (parent_reached s h c y (suc m) k on)
      (λ i e. subst (λ j. row_reached s h c y j r ≡ false) (omega arith) (parent_fresh s h c y m k on)) in
      subst (λ i. RowFrom s h c y i r (get_or rp r 0)) exact (rows.from r inside (omega arith))

  -- from a column to the row that the way comes from
  column_back : (m k : ℕ) → m < n → OnWay s h c y m k → get_or parents k 0 ≡ parent_row s h c y m k
  unfolding ColumnFrom
  column_back m k l on =
      let exact : get_or cr k 0 ≡ m = side_exact (column_reached s h c y) (ColumnFrom s h c y) s.columns n cr cp columns m k l on.inside on.reached on.fresh in
      kept k (omega arith) ∙ subst (λ i. ColumnFrom s h c y i k (get_or cp k 0)) exact (columns.from k on.inside (omega arith))

  -- back along a way that takes fewer rises
  trail_below : (m k : ℕ) → m < n → OnWay s h c y m k → Trail s h c y rp parents m k
  trail_below zero k l on = column_back zero k l on
  trail_below (suc m) k l on = (
    column_back (suc m) k l on,
    row_back m k (omega arith) on,
    trail_below m (column_before s h c y m k) (omega arith) (on_before s h c y m k on),
  )

  -- back along a way that takes n rises
  trail_from : (m k : ℕ) → m ≡ n → OnWay s h c y m k → get_or parents k 0 ≡ parent_row s h c y m k → Trail s h c y rp parents m k
  trail_from zero k e on is = is
  trail_from (suc m) k e on is = (
    is,
    row_back m k (omega arith) on,
    trail_below m (column_before s h c y m k) (omega arith) (on_before s h c y m k on),
  )

  pub trail_here : (k : ℕ) → OnWay s h c y n k → get_or parents k 0 ≡ parent_row s h c y n k → Trail s h c y rp parents n k
  trail_here k on is = trail_from n k refl on is
