-- Which rows and columns are reached, from where, and what the way back goes through.
use Rattle.std.proofs.Common.{◌≡◌, ℕ, zero, suc, ◌+◌, ◌*◌, ◌/◌, ◌%◌, ◌<◌, true, false, ◌&&◌, sym, refl, subst, inl, inr, arith, ◌≤◌}
use Rattle.std.proofs.lemmas.Bool.{both_ways, and_parts, and_from, or_cases, or_left, or_right, eqb-true, eq-eqb, false_from_ne_true}
use Rattle.std.proofs.lemmas.Nat.{mul-add-lt, mod_below}
use Rattle.survey.specs.Page.{Survey, Pattern}
use Rattle.flow.specs.Ways.{any_below, takes_part, can_fall, spare, next_columns, next_rows, row_reached, column_reached, way_left, way_level, parent_row, parent_column, falling, column_before, rising, room, carried}
use Rattle.flow.proofs.Below.{any_below_from, any_below_has, any_below_none, Least, least_is}
use Rattle.flow.proofs.Parts.{fall_above}

module _ (s : Survey) (h : Pattern) (c : ℕ) (y : ℕ → ℕ) where
  -- with no rise the raised cell's row is reached
  pub own_row : row_reached s h c y 0 (c / s.columns) ≡ true
  unfolding row_reached
  own_row = eq-eqb _ _ refl

  -- and no other
  pub only_own_row : (r : ℕ) → row_reached s h c y 0 r ≡ true → r ≡ c / s.columns
  unfolding row_reached
  only_own_row r t = eqb-true _ _ t

  -- a row stays reached
  pub row_kept : (n r : ℕ) → row_reached s h c y n r ≡ true → row_reached s h c y (suc n) r ≡ true
  unfolding row_reached
  row_kept n r t = or_left _ _ t

  -- a row with a cell that can rise in a reached column is reached next
  pub row_from : (n r k : ℕ) → k < s.columns → column_reached s h c y n k ≡ true →
      takes_part s h c (r * s.columns + k) ≡ true → row_reached s h c y (suc n) r ≡ true
  unfolding row_reached next_rows column_reached
  row_from n r k l t u = or_right _ _ (any_below_from _ _ k l (and_from _ _ t u))

  -- a row newly reached has such a cell
  pub row_new : (n r : ℕ) → row_reached s h c y (suc n) r ≡ true → row_reached s h c y n r ≡ false →
      any_below (λ k. column_reached s h c y n k && takes_part s h c (r * s.columns + k)) s.columns ≡ true
  unfolding row_reached next_rows column_reached
  row_new n r t f = elim (or_cases (row_reached s h c y n r) _ t) [ inl u ↦ absurd (both_ways _ f u) | inr u ↦ u ]

  -- a column with a cell that can fall in a reached row is reached
  pub column_from : (n r k : ℕ) → r < s.rows → row_reached s h c y n r ≡ true →
      can_fall s h c y (r * s.columns + k) ≡ true → column_reached s h c y n k ≡ true
  unfolding column_reached next_columns
  column_from n r k l t u = any_below_from _ _ r l (and_from _ _ t u)

  -- a reached column has such a cell
  pub column_has : (n k : ℕ) → column_reached s h c y n k ≡ true → (r : ℕ) × (r < s.rows)
      × (row_reached s h c y n r ≡ true) × (can_fall s h c y (r * s.columns + k) ≡ true)
  unfolding column_reached next_columns
  column_has n k t =
      let (r, l, u) = any_below_has _ _ t in
      let both = and_parts (row_reached s h c y n r) _ u in (r, l, both.0, both.1)

  -- a column stays reached
  pub column_kept : (n k : ℕ) → column_reached s h c y n k ≡ true → column_reached s h c y (suc n) k ≡ true
  column_kept n k t =
      let (r, l, u, v) = column_has n k t in column_from (suc n) r k l (row_kept n r u) v

  -- the row from which the way comes to a reached column
  parent_row_is : (n k : ℕ) → column_reached s h c y n k ≡ true →
      Least (λ r. row_reached s h c y n r && can_fall s h c y (r * s.columns + k)) s.rows (parent_row s h c y n k)
  unfolding column_reached next_columns parent_row
  parent_row_is n k t = least_is _ _ t

  -- the way stands at column k after n rises, and could not with fewer
  pub record OnWay (n k : ℕ) : Type 0 where
    pub inside : k < s.columns
    pub reached : column_reached s h c y n k ≡ true
    pub fresh : (m : ℕ) → n ≡ suc m → column_reached s h c y m k ≡ false

  module _ (n k : ℕ) (on : OnWay n k) where
    -- the row that the way comes from is in the table
    pub parent_inside : parent_row s h c y n k < s.rows
    parent_inside = (parent_row_is n k on.reached).below

    -- and is reached
    pub parent_reached : row_reached s h c y n (parent_row s h c y n k) ≡ true
    parent_reached = (and_parts _ _ (parent_row_is n k on.reached).has).0

    -- the falling cell can fall
    pub falling_falls : can_fall s h c y (falling s h c y n k) ≡ true
    unfolding falling
    falling_falls = (and_parts (row_reached s h c y n (parent_row s h c y n k)) _ (parent_row_is n k on.reached).has).1

    -- and has something to spare
    pub falling_spare : 0 < spare s y (falling s h c y n k)
    unfolding spare
    falling_spare = omega (arith, fall_above s h c _ y falling_falls)

    -- and is in the table
    pub falling_inside : falling s h c y n k < s.rows * s.columns
    unfolding falling
    falling_inside = omega (arith, mul-add-lt (parent_row s h c y n k) s.columns k s.rows parent_inside on.inside)

  module _ (n k : ℕ) (on : OnWay (suc n) k) where
    -- the row that the way comes from was not reached before
    pub parent_fresh : row_reached s h c y n (parent_row s h c y (suc n) k) ≡ false
    unfolding falling
    parent_fresh = false_from_ne_true _ (λ t. both_ways _ (on.fresh n refl)
        (column_from n (parent_row s h c y (suc n) k) k (parent_inside (suc n) k on) t (falling_falls (suc n) k on)))

    -- the column before
    before_is : Least (λ j. column_reached s h c y n j && takes_part s h c (parent_row s h c y (suc n) k * s.columns + j)) s.columns (column_before s h c y n k)
    unfolding column_before parent_column
    before_is = least_is _ _ (row_new n (parent_row s h c y (suc n) k) (parent_reached (suc n) k on) parent_fresh)

    -- the rising cell takes part
    pub rising_part : takes_part s h c (rising s h c y n k) ≡ true
    unfolding rising
    rising_part = (and_parts (column_reached s h c y n (column_before s h c y n k)) _ before_is.has).1

    -- and is in the table
    pub rising_inside : rising s h c y n k < s.rows * s.columns
    unfolding rising
    rising_inside =
        omega (arith, mul-add-lt (parent_row s h c y (suc n) k) s.columns (column_before s h c y n k) s.rows (parent_inside (suc n) k on) before_is.below)

    -- the way stands at the column before after one rise less
    pub on_before : OnWay n (column_before s h c y n k)
    on_before = record {
      inside = before_is.below;
      reached = (and_parts _ _ before_is.has).0;
      fresh = λ m e. false_from_ne_true _ (λ t. both_ways _ parent_fresh
          (subst (λ i. row_reached s h c y i (parent_row s h c y (suc n) k) ≡ true) (sym e)
          (row_from m (parent_row s h c y (suc n) k) (column_before s h c y n k) before_is.below t (unfold rising in rising_part))));
    }

  -- a way that is left stands at the raised cell's column after its rises
  pub way_on : 0 < s.columns → way_left s h c y ≡ true → OnWay (way_level s h c y) (c % s.columns)
  unfolding way_left way_level
  way_on some t =
      let m = least_is _ _ t in
      record { inside = mod_below c s.columns some; reached = m.has; fresh = λ n e. m.first n (omega arith) }

  -- where no way is left the raised cell's column is not reached
  pub way_none : (n : ℕ) → way_left s h c y ≡ false → n < s.rows → column_reached s h c y n (c % s.columns) ≡ false
  unfolding way_left
  way_none n f l = any_below_none (λ i. column_reached s h c y i (c % s.columns)) _ n f l

  -- a way can carry something
  pub room_some : (n k : ℕ) → OnWay n k → 0 < room s h c y n k
  unfolding room
  room_some zero k on = falling_spare zero k on
  room_some (suc n) k on =
      omega (arith, falling_spare (suc n) k on, room_some n (column_before s h c y n k) (on_before n k on))

  -- what the next way carries is no more than it can
  pub carried_fits : (l : ℕ) → carried s h c y l ≤ room s h c y (way_level s h c y) (c % s.columns)
  unfolding carried
  carried_fits l = omega arith
