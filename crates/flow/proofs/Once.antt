-- A walk adds to each cell once at most.
use Rattle.std.proofs.Common.{◌≡◌, ℕ, zero, suc, ◌+◌, ◌*◌, ◌/◌, ◌%◌, ◌<◌, ◌≤◌, true, false, List, length, get_or, refl, ◌∙◌, inl, inr, arith}
use Rattle.std.proofs.lemmas.Bool.{both_ways, cases_eq}
use Rattle.survey.specs.Page.{Survey, Pattern}
use Rattle.flow.specs.Ways.{row_reached, parent_row, falling, column_before, rising, room, add_at, fallen, risen, way_left, way_level, carried, next_falls, next_rises}
use Rattle.flow.proofs.Tables.{at_cell_here, at_cell_other, row_of_place}
use Rattle.flow.proofs.Moves.{length_add_at}
use Rattle.flow.proofs.Reach.{OnWay, parent_reached, parent_fresh, on_before, way_on, carried_fits}
use Rattle.flow.proofs.Walk.{first_fall, first_rise, row_before, fallen_at, risen_le}

module _ (s : Survey) (h : Pattern) (c : ℕ) (y : ℕ → ℕ) where
  -- the rising cell's row is the row that the way comes from
  rising_row : (n k : ℕ) → OnWay s h c y (suc n) k → rising s h c y n k / s.columns ≡ parent_row s h c y (suc n) k
  unfolding rising
  rising_row n k on = row_of_place (parent_row s h c y (suc n) k) (column_before s h c y n k) s.columns _ (on_before s h c y n k on).inside refl

  module _ (x : ℕ) where
    -- what fell is not taken back
    pub fallen_le : (n k : ℕ) (falls : List ℕ) (d : ℕ) → length falls ≡ s.rows * s.columns → OnWay s h c y n k →
        get_or falls d 0 ≤ get_or (fallen s h c y n k x falls) d 0
    unfolding fallen
    fallen_le zero k falls d long on = omega (arith, first_fall s h c y x zero k falls d long on)
    fallen_le (suc n) k falls d long on =
        omega (
          arith,
          first_fall s h c y x (suc n) k falls d long on,
          fallen_le n (column_before s h c y n k) (add_at falls (falling s h c y (suc n) k) x) d
              (length_add_at falls _ x ∙ long) (on_before s h c y n k on),
        )

    -- the falling cell falls by x at least
    pub fallen_here : (n k : ℕ) (falls : List ℕ) → length falls ≡ s.rows * s.columns → OnWay s h c y n k →
        get_or falls (falling s h c y n k) 0 + x ≤ get_or (fallen s h c y n k x falls) (falling s h c y n k) 0
    unfolding fallen
    fallen_here zero k falls long on =
        omega (arith, first_fall s h c y x zero k falls (falling s h c y zero k) long on, at_cell_here (falling s h c y zero k) x _ refl)
    fallen_here (suc n) k falls long on =
        omega (
          arith,
          first_fall s h c y x (suc n) k falls (falling s h c y (suc n) k) long on,
          at_cell_here (falling s h c y (suc n) k) x _ refl,
          fallen_le n (column_before s h c y n k) (add_at falls (falling s h c y (suc n) k) x) (falling s h c y (suc n) k)
              (length_add_at falls _ x ∙ long) (on_before s h c y n k on),
        )

    -- the rising cell rises by x at least
    pub risen_here : (n k : ℕ) (rises : List ℕ) → length rises ≡ s.rows * s.columns → OnWay s h c y (suc n) k →
        get_or rises (rising s h c y n k) 0 + x ≤ get_or (risen s h c y (suc n) k x rises) (rising s h c y n k) 0
    unfolding risen
    risen_here n k rises long on =
        omega (
          arith,
          first_rise s h c y x n k rises (rising s h c y n k) long on,
          at_cell_here (rising s h c y n k) x _ refl,
          risen_le s h c y x n (column_before s h c y n k) (add_at rises (rising s h c y n k) x) (rising s h c y n k)
              (length_add_at rises _ x ∙ long) (on_before s h c y n k on),
        )

    -- a walk raises no cell whose row is not reached by then
    risen_above : (n k : ℕ) (rises : List ℕ) (d : ℕ) → length rises ≡ s.rows * s.columns → OnWay s h c y n k →
        row_reached s h c y n (d / s.columns) ≡ false → get_or (risen s h c y n k x rises) d 0 ≡ get_or rises d 0
    unfolding risen
    risen_above zero k rises d long on f = refl
    risen_above (suc n) k rises d long on f =
        omega (
          arith,
          first_rise s h c y x n k rises d long on,
          at_cell_other (rising s h c y n k) x d
              (λ same. both_ways _ f (rw (same, rising_row n k on) (parent_reached s h c y (suc n) k on))),
          risen_above n (column_before s h c y n k) (add_at rises (rising s h c y n k) x) d
              (length_add_at rises _ x ∙ long) (on_before s h c y n k on) (row_before s h c y n _ f),
        )

    -- a cell rises once at most
    pub risen_once : (n k : ℕ) (rises : List ℕ) (d : ℕ) → length rises ≡ s.rows * s.columns → OnWay s h c y n k →
        get_or (risen s h c y n k x rises) d 0 ≤ get_or rises d 0 + x
    unfolding risen
    risen_once zero k rises d long on = omega arith
    risen_once (suc n) k rises d long on = elim (cases_eq d (rising s h c y n k)) [
      | inl same ↦ omega (
        arith,
        first_rise s h c y x n k rises d long on,
        at_cell_here (rising s h c y n k) x d same,
        risen_above n (column_before s h c y n k) (add_at rises (rising s h c y n k) x) d (length_add_at rises _ x ∙ long) (on_before s h c y n k on)
            (rw (same, rising_row n k on) (parent_fresh s h c y n k on)),
      )
      | inr off ↦ omega (
        arith,
        first_rise s h c y x n k rises d long on,
        at_cell_other (rising s h c y n k) x d off,
        risen_once n (column_before s h c y n k) (add_at rises (rising s h c y n k) x) d (length_add_at rises _ x ∙ long) (on_before s h c y n k on),
      )
    ]

    -- a cell falls once at most
    pub fallen_once : (n k : ℕ) (falls : List ℕ) (d : ℕ) → length falls ≡ s.rows * s.columns → OnWay s h c y n k →
        x ≤ room s h c y n k → get_or (fallen s h c y n k x falls) d 0 ≤ get_or falls d 0 + x
    fallen_once n k falls d long on fits = elim (fallen_at s h c y x n k falls d long on fits) [
      | inl same ↦ omega arith
      | inr more ↦ omega (arith, more.0)
    ]

  module _ (l : ℕ) (some : 0 < s.columns) (w : way_left s h c y ≡ true) where
    -- the next way lets each cell fall by what it carries at most
    pub next_falls_le : (falls : List ℕ) (d : ℕ) → length falls ≡ s.rows * s.columns →
        get_or (next_falls s h c y l falls) d 0 ≤ get_or falls d 0 + carried s h c y l
    unfolding next_falls
    next_falls_le falls d long = fallen_once (carried s h c y l) (way_level s h c y) (c % s.columns) falls d long (way_on s h c y some w) (carried_fits s h c y l)

    -- and rise
    pub next_rises_le : (rises : List ℕ) (d : ℕ) → length rises ≡ s.rows * s.columns →
        get_or (next_rises s h c y l rises) d 0 ≤ get_or rises d 0 + carried s h c y l
    unfolding next_rises
    next_rises_le rises d long = risen_once (carried s h c y l) (way_level s h c y) (c % s.columns) rises d long (way_on s h c y some w)
