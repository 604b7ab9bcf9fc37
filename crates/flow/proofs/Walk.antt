-- A walk back along a way: which cells it touches, and that at each moment only the raised cell's row and the column
-- where the walk stands are off.
use Rattle.std.proofs.Common.{◌≡◌, ℕ, zero, suc, ◌+◌, ◌*◌, ◌/◌, ◌%◌, ◌<◌, ◌≤◌, false, ◌≢◌, ◌⊎◌, List, length, get_or, refl, ◌∙◌, subst, inl, inr, arith}
use Rattle.std.proofs.lemmas.Bool.{both_ways, cases_eq, false_from_ne_true}
use Rattle.survey.specs.Page.{Survey, Pattern}
use Rattle.survey.proofs.Cells.{pick_eqb}
use Rattle.flow.specs.Ways.{takes_part, spare, row_reached, parent_row, falling, column_before, rising, room, add_at, fallen, risen}
use Rattle.flow.proofs.Tables.{at_cell, at_cell_here, at_cell_other, row_of_place}
use Rattle.flow.proofs.Parts.{fall_part}
use Rattle.flow.proofs.Moves.{length_add_at, get_or_add_at, row_total, column_total, row_add_at, column_add_at}
use Rattle.flow.proofs.Reach.{OnWay, only_own_row, row_kept, parent_inside, parent_reached, parent_fresh, falling_falls, falling_inside, rising_part, rising_inside, on_before}

-- what fell and rose in a table of m rows and n columns: each row fell by row_up more than it rose, and each column by
-- column-up more, less column-down
pub record Balanced (m n : ℕ) (falls rises : List ℕ) (row_up column_up column_down : ℕ → ℕ) : Type 0 where
  pub long_falls : length falls ≡ m * n
  pub long_rises : length rises ≡ m * n
  pub rows : (r : ℕ) → r < m → row_total n rises r + row_up r ≡ row_total n falls r
  pub columns : (k : ℕ) → k < n → column_total m n rises k + column_up k ≡ column_total m n falls k + column_down k

-- an amount at a place in two parts
at_cell_add : (d a b i : ℕ) → at_cell d (a + b) i ≡ at_cell d a i + at_cell d b i
at_cell_add d a b i = omega (arith, pick_eqb i d (a + b) 0, pick_eqb i d a 0, pick_eqb i d b 0)

module _ (s : Survey) (h : Pattern) (c : ℕ) (y : ℕ → ℕ) where
  -- the falling cell's row is the row that the way comes from
  pub falling_row : (n k : ℕ) → OnWay s h c y n k → falling s h c y n k / s.columns ≡ parent_row s h c y n k
  unfolding falling
  falling_row n k on = row_of_place (parent_row s h c y n k) k s.columns _ on.inside refl

  -- a cell whose row is not reached is not the falling one
  not_falling : (n k d : ℕ) → OnWay s h c y n k → row_reached s h c y n (d / s.columns) ≡ false → d ≢ falling s h c y n k
  not_falling n k d on f same = both_ways _ f
      (rw (same, falling_row n k on) (parent_reached s h c y n k on))

  -- nor is a cell that takes no part
  not_falling_still : (n k d : ℕ) → OnWay s h c y n k → takes_part s h c d ≡ false → d ≢ falling s h c y n k
  not_falling_still n k d on f same = both_ways _ f (rw same (fall_part s h c _ y (falling_falls s h c y n k on)))

  -- a row that is not reached later was not reached before
  pub row_before : (n r : ℕ) → row_reached s h c y (suc n) r ≡ false → row_reached s h c y n r ≡ false
  row_before n r f = false_from_ne_true _ (λ t. both_ways _ f (row_kept s h c y n r t))

  module _ (x : ℕ) where
    -- the first fall of a walk, at the falling cell
    pub first_fall : (n k : ℕ) (falls : List ℕ) (d : ℕ) → length falls ≡ s.rows * s.columns → OnWay s h c y n k →
        get_or (add_at falls (falling s h c y n k) x) d 0 ≡ get_or falls d 0 + at_cell (falling s h c y n k) x d
    first_fall n k falls d long on =
        get_or_add_at falls (falling s h c y n k) x d (omega (arith, falling_inside s h c y n k on))

    -- the first rise of a walk, at the rising cell
    pub first_rise : (n k : ℕ) (rises : List ℕ) (d : ℕ) → length rises ≡ s.rows * s.columns → OnWay s h c y (suc n) k →
        get_or (add_at rises (rising s h c y n k) x) d 0 ≡ get_or rises d 0 + at_cell (rising s h c y n k) x d
    first_rise n k rises d long on =
        get_or_add_at rises (rising s h c y n k) x d (omega (arith, rising_inside s h c y n k on))

    -- a walk changes no cell whose row is not reached by then
    fallen_above : (n k : ℕ) (falls : List ℕ) (d : ℕ) → length falls ≡ s.rows * s.columns → OnWay s h c y n k →
        row_reached s h c y n (d / s.columns) ≡ false → get_or (fallen s h c y n k x falls) d 0 ≡ get_or falls d 0
    unfolding fallen
    fallen_above zero k falls d long on f =
        omega (arith, first_fall zero k falls d long on, at_cell_other (falling s h c y zero k) x d (not_falling zero k d on f))
    fallen_above (suc n) k falls d long on f =
        omega (
          arith,
          first_fall (suc n) k falls d long on,
          at_cell_other (falling s h c y (suc n) k) x d (not_falling (suc n) k d on f),
          fallen_above n (column_before s h c y n k) (add_at falls (falling s h c y (suc n) k) x) d
              (length_add_at falls _ x ∙ long) (on_before s h c y n k on) (row_before n _ f),
        )

    -- a walk changes no cell that takes no part
    pub fallen_still : (n k : ℕ) (falls : List ℕ) (d : ℕ) → length falls ≡ s.rows * s.columns → OnWay s h c y n k →
        takes_part s h c d ≡ false → get_or (fallen s h c y n k x falls) d 0 ≡ get_or falls d 0
    unfolding fallen
    fallen_still zero k falls d long on f =
        omega (arith, first_fall zero k falls d long on, at_cell_other (falling s h c y zero k) x d (not_falling_still zero k d on f))
    fallen_still (suc n) k falls d long on f =
        omega (
          arith,
          first_fall (suc n) k falls d long on,
          at_cell_other (falling s h c y (suc n) k) x d (not_falling_still (suc n) k d on f),
          fallen_still n (column_before s h c y n k) (add_at falls (falling s h c y (suc n) k) x) d
              (length_add_at falls _ x ∙ long) (on_before s h c y n k on) f,
        )

    -- a cell does not fall on a walk, or it falls once, and no more than it has to spare
    pub fallen_at : (n k : ℕ) (falls : List ℕ) (d : ℕ) → length falls ≡ s.rows * s.columns → OnWay s h c y n k →
        x ≤ room s h c y n k → (get_or (fallen s h c y n k x falls) d 0 ≡ get_or falls d 0)
        ⊎ ((get_or (fallen s h c y n k x falls) d 0 ≡ get_or falls d 0 + x) × (x ≤ spare s y d))
    unfolding fallen room
    fallen_at zero k falls d long on fits = elim (cases_eq d (falling s h c y zero k)) [
      | inl same ↦ inr (omega (arith, first_fall zero k falls d long on, at_cell_here (falling s h c y zero k) x d same), rw same fits)
      | inr off ↦ inl (omega (arith, first_fall zero k falls d long on, at_cell_other (falling s h c y zero k) x d off))
    ]
    fallen_at (suc n) k falls d long on fits = elim (cases_eq d (falling s h c y (suc n) k)) [
      | inl same ↦ inr (
        omega (
          arith,
          first_fall (suc n) k falls d long on,
          at_cell_here (falling s h c y (suc n) k) x d same,
          fallen_above n (column_before s h c y n k) (add_at falls (falling s h c y (suc n) k) x) d long' (on_before s h c y n k on)
              (rw (same, falling_row (suc n) k on) (parent_fresh s h c y n k on)),
        ),
        rw same (omega arith),
      )
      | inr off ↦ more off (fallen_at n (column_before s h c y n k) (add_at falls (falling s h c y (suc n) k) x) d long' (on_before s h c y n k on) (omega arith))
    ]
      where
        long' : length (add_at falls (falling s h c y (suc n) k) x) ≡ s.rows * s.columns
        long' = length_add_at falls _ x ∙ long

        rest : List ℕ
        rest = fallen s h c y n (column_before s h c y n k) x (add_at falls (falling s h c y (suc n) k) x)

        more : d ≢ falling s h c y (suc n) k →
            (get_or rest d 0 ≡ get_or (add_at falls (falling s h c y (suc n) k) x) d 0)
            ⊎ ((get_or rest d 0 ≡ get_or (add_at falls (falling s h c y (suc n) k) x) d 0 + x) × (x ≤ spare s y d)) →
            (get_or rest d 0 ≡ get_or falls d 0) ⊎ ((get_or rest d 0 ≡ get_or falls d 0 + x) × (x ≤ spare s y d))
        more off (inl e) = inl (omega (arith, first_fall (suc n) k falls d long on, at_cell_other (falling s h c y (suc n) k) x d off))
        more off (inr (e, l)) = inr (omega (arith, first_fall (suc n) k falls d long on, at_cell_other (falling s h c y (suc n) k) x d off), l)

    -- a walk raises no cell that takes no part
    pub risen_still : (n k : ℕ) (rises : List ℕ) (d : ℕ) → length rises ≡ s.rows * s.columns → OnWay s h c y n k →
        takes_part s h c d ≡ false → get_or (risen s h c y n k x rises) d 0 ≡ get_or rises d 0
    unfolding risen
    risen_still zero k rises d long on f = refl
    risen_still (suc n) k rises d long on f =
        omega (
          arith,
          first_rise n k rises d long on,
          at_cell_other (rising s h c y n k) x d (λ same. both_ways _ f (rw same (rising_part s h c y n k on))),
          risen_still n (column_before s h c y n k) (add_at rises (rising s h c y n k) x) d
              (length_add_at rises _ x ∙ long) (on_before s h c y n k on) f,
        )

    -- what rose is not taken back
    pub risen_le : (n k : ℕ) (rises : List ℕ) (d : ℕ) → length rises ≡ s.rows * s.columns → OnWay s h c y n k →
        get_or rises d 0 ≤ get_or (risen s h c y n k x rises) d 0
    unfolding risen
    risen_le zero k rises d long on = omega arith
    risen_le (suc n) k rises d long on =
        omega (
          arith,
          first_rise n k rises d long on,
          risen_le n (column_before s h c y n k) (add_at rises (rising s h c y n k) x) d
              (length_add_at rises _ x ∙ long) (on_before s h c y n k on),
        )

    module _ (raised : ℕ) where
      -- the walk stands at column k: cell c was raised by x more, its row and column k are off
      abbrev Midway : ℕ → List ℕ → List ℕ → Type 0
      Midway k falls rises =
          Balanced s.rows s.columns falls rises (at_cell (c / s.columns) raised) (at_cell (c % s.columns) (raised + x)) (at_cell k x)

      -- cell c was raised by x more, and all is even
      abbrev After : List ℕ → List ℕ → Type 0
      After falls rises =
          Balanced s.rows s.columns falls rises (at_cell (c / s.columns) (raised + x)) (at_cell (c % s.columns) (raised + x)) (λ k. 0)

      -- one step of the walk
      midway_next : (n k : ℕ) (falls rises : List ℕ) → OnWay s h c y (suc n) k → Midway k falls rises →
          Midway (column_before s h c y n k) (add_at falls (falling s h c y (suc n) k) x) (add_at rises (rising s h c y n k) x)
      unfolding falling rising
      midway_next n k falls rises on b = record {
        long_falls = length_add_at falls _ x ∙ b.long_falls;
        long_rises = length_add_at rises _ x ∙ b.long_rises;
        rows = λ r l. omega (
          arith,
          b.rows r l,
          row_add_at s.rows s.columns falls b.long_falls (parent_row s h c y (suc n) k) k x (parent_inside s h c y (suc n) k on) on.inside r,
          row_add_at s.rows s.columns rises b.long_rises (parent_row s h c y (suc n) k) (column_before s h c y n k) x (parent_inside s h c y (suc n) k on) (on_before s h c y n k on).inside r,
        );
        columns = λ j l. omega (
          arith,
          b.columns j l,
          column_add_at s.rows s.columns falls b.long_falls (parent_row s h c y (suc n) k) k x (parent_inside s h c y (suc n) k on) on.inside j l,
          column_add_at s.rows s.columns rises b.long_rises (parent_row s h c y (suc n) k) (column_before s h c y n k) x (parent_inside s h c y (suc n) k on) (on_before s h c y n k on).inside j l,
        );
      }

      -- the walk's last step
      midway_last : (k : ℕ) (falls rises : List ℕ) → OnWay s h c y zero k → Midway k falls rises →
          After (add_at falls (falling s h c y zero k) x) rises
      unfolding falling
      midway_last k falls rises on b = record {
        long_falls = length_add_at falls _ x ∙ b.long_falls;
        long_rises = b.long_rises;
        rows = λ r l. omega (
          arith,
          b.rows r l,
          at_cell_add (c / s.columns) raised x r,
          subst (λ i. row_total s.columns (add_at falls (parent_row s h c y zero k * s.columns + k) x) r ≡ row_total s.columns falls r + at_cell i x r)
              (only_own_row s h c y (parent_row s h c y zero k) (parent_reached s h c y zero k on))
              (row_add_at s.rows s.columns falls b.long_falls (parent_row s h c y zero k) k x (parent_inside s h c y zero k on) on.inside r),
        );
        columns = λ j l. omega (
          arith,
          b.columns j l,
          column_add_at s.rows s.columns falls b.long_falls (parent_row s h c y zero k) k x (parent_inside s h c y zero k on) on.inside j l,
        );
      }

      -- the whole walk
      walk : (n k : ℕ) (falls rises : List ℕ) → OnWay s h c y n k → Midway k falls rises →
          After (fallen s h c y n k x falls) (risen s h c y n k x rises)
      unfolding fallen risen
      walk zero k falls rises on b = midway_last k falls rises on b
      walk (suc n) k falls rises on b = walk n (column_before s h c y n k) _ _ (on_before s h c y n k on) (midway_next n k falls rises on b)

      -- the walk from the raised cell's column
      pub whole_walk : (n : ℕ) (falls rises : List ℕ) → OnWay s h c y n (c % s.columns) →
          Balanced s.rows s.columns falls rises (at_cell (c / s.columns) raised) (at_cell (c % s.columns) raised) (λ k. 0) →
          After (fallen s h c y n (c % s.columns) x falls) (risen s h c y n (c % s.columns) x rises)
      whole_walk n falls rises on b = walk n (c % s.columns) falls rises on (record {
        long_falls = b.long_falls;
        long_rises = b.long_rises;
        rows = b.rows;
        columns = λ k l. omega (arith, b.columns k l, at_cell_add (c % s.columns) raised x k);
      })
