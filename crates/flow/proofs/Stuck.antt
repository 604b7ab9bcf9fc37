-- Where no way is left: what is reached is closed, and lets leave just what the cell is raised by; no closed rows and
-- columns let less leave, and those that let as little leave have all that is reached among them.
use Rattle.std.proofs.Common.{◌≡◌, ℕ, zero, suc, ◌+◌, ◌*◌, ◌%◌, ◌<◌, ◌≤◌, Bool, true, false, not, ◌&&◌, List, get_or, sym, refl, ◌∙◌, inl, inr, arith}
use Rattle.std.proofs.lemmas.List.FromFn.{get_or-map-range_with_len}
use Rattle.std.proofs.lemmas.Bool.{both_ways, and_parts, cases_eq, cases_Bool, cases_lt, false_from_ne_true}
use Rattle.std.proofs.lemmas.Nat.{div_below, mod_below}
use Rattle.survey.specs.Survey.{pick, largest, many}
use Rattle.survey.specs.Page.{Survey, Pattern, true_sum}
use Rattle.survey.specs.Promise.{may_give, leaves}
use Rattle.survey.proofs.Spans.{span_add}
use Rattle.survey.proofs.Cells.{largest_le_sum}
use Rattle.flow.specs.Closed.{Closed}
use Rattle.flow.specs.Ways.{marks, takes_part, can_fall, row_reached, column_reached, reached_rows, reached_columns, way_left, standing, raised_sums}
use Rattle.flow.proofs.Below.{any_below_has}
use Rattle.flow.proofs.Tables.{over_one, side, crossing_even, at_cell, at_cell_other, row_of_number, column_of_number, column_of_place}
use Rattle.flow.proofs.Parts.{part_hidden, part_many, part_from, may_give_is, fall_part, fall_above, no_fall}
use Rattle.flow.proofs.Balance.{balance, balance_more, raised_leaves}
use Rattle.flow.proofs.Reach.{only_own_row, row_from, row_new, column_from, column_has}
use Rattle.flow.proofs.Settled.{settled, column_free, Settled, own_stays}
use Rattle.flow.proofs.Partial.{Partial, partial_raised, standing_sum}

-- a mark tells what it was made from
pub get_or_marks : (p : ℕ → Bool) (n i : ℕ) → i < n → get_or (marks p n) i false ≡ p i
unfolding marks
get_or_marks p n i l = get_or-map-range_with_len p 0 n i i false l (omega arith)

module _ (s : Survey) (h : Pattern) (c : ℕ) (y : ℕ → ℕ) where
  -- a row's mark tells whether it is reached
  pub row_mark : (r : ℕ) → r < s.rows → get_or (reached_rows s h c y) r false ≡ row_reached s h c y s.rows r
  unfolding reached_rows
  row_mark r l = get_or_marks _ s.rows r l

  -- a column's mark tells whether it is reached
  pub column_mark : (k : ℕ) → k < s.columns → get_or (reached_columns s h c y) k false ≡ column_reached s h c y s.rows k
  unfolding reached_columns
  column_mark k l = get_or_marks _ s.columns k l

  module _ (some : 0 < s.columns) (inside : c < s.rows * s.columns) (none : way_left s h c y ≡ false) where
    -- a cell that takes part, in a reached column, lies in a reached row
    reached_closed : (r k : ℕ) → r < s.rows → k < s.columns → column_reached s h c y s.rows k ≡ true →
        takes_part s h c (r * s.columns + k) ≡ true → row_reached s h c y s.rows r ≡ true
    unfolding Settled
    reached_closed r k i j q t = settled s h c y some inside r i (row_from s h c y s.rows r k j q t)

    -- what is reached is closed
    pub stuck_closed : Closed s h c (reached_rows s h c y) (reached_columns s h c y)
    stuck_closed = record {
      row = row_mark _ (div_below c s.columns s.rows some inside) ∙ own_stays s h c y s.rows;
      column = free;
      closed = λ r k i j p q hid. elim (cases_lt 1 (many (r * s.columns + k) s.cells)) [
        | inl two ↦ absurd (both_ways _ (sym (row_mark r i) ∙ p) (reached_closed r k i j (sym (column_mark k j) ∙ q)
            (part_from s h c _ hid (λ same. both_ways _ free (rw (column_of_place r k s.columns c j same) q)) two)))
        | inr few ↦ few
      ];
    }
      where
        free : get_or (reached_columns s h c y) (c % s.columns) false ≡ false
        free = column_mark _ (mod_below c s.columns some) ∙ column_free s h c y some inside none

-- one cell of two tables, where all is even
one_cell_even : (p q : Bool) (f g w l : ℕ) → (p ≡ true → q ≡ false → f + w ≡ g + l) → (p ≡ false → q ≡ true → g ≡ f) →
    ((p ≡ true → q ≡ false → ⊥) → w ≡ 0) → side p q f g w ≡ side p q g f (pick (p && not q) l 0)
one_cell_even true true f g w l leaving entering elsewhere = omega (arith, elsewhere (λ a b. both_ways true b refl))
one_cell_even true false f g w l leaving entering elsewhere = omega (arith, leaving refl refl)
one_cell_even false true f g w l leaving entering elsewhere =
    omega (arith, entering refl refl, elsewhere (λ a b. both_ways false refl a))
one_cell_even false false f g w l leaving entering elsewhere = omega (arith, elsewhere (λ a b. both_ways false refl a))

module _ (s : Survey) (h : Pattern) (c e : ℕ) (falls rises : List ℕ) (part : Partial s h c e falls rises)
    (some : 0 < s.columns) (inside : c < s.rows * s.columns) (none : way_left s h c (standing s falls rises) ≡ false) where
  -- the sums as they stand, and the rows and columns that are reached
  abbrev now_sums : ℕ → ℕ
  now_sums = standing s falls rises

  abbrev rs : List Bool
  rs = reached_rows s h c now_sums

  abbrev ks : List Bool
  ks = reached_columns s h c now_sums

  -- what is reached is closed
  shut : Closed s h c rs ks
  shut = stuck_closed s h c now_sums some inside none

  module _ (r k : ℕ) (i : r < s.rows) (j : k < s.columns) where
    -- the cell's number
    abbrev here : ℕ
    here = r * s.columns + k

    -- a cell that takes part in a reached row outside the reached columns has fallen all it can
    all_fallen : get_or rs r false ≡ true → get_or ks k false ≡ false → takes_part s h c here ≡ true →
        true_sum s here + get_or rises here 0 ≡ largest here s.cells s.values + get_or falls here 0
    all_fallen p q t =
        omega (
          arith,
          standing_sum s h c e falls rises part some here,
          part.not_below here t,
          no_fall s h c here now_sums t (false_from_ne_true _ (λ u. both_ways _ (sym (column_mark s h c now_sums k j) ∙ q)
              (column_from s h c now_sums s.rows r k i (sym (row_mark s h c now_sums r i) ∙ p) u))),
        )

    -- a cell that may leave: what fell is what rose and what it may give
    stuck_leaving : get_or rs r false ≡ true → get_or ks k false ≡ false →
        get_or falls here 0 + at_cell c e here ≡ get_or rises here 0 + at_cell c e here + may_give s h c here
    stuck_leaving p q = elim (cases_Bool (takes_part s h c here)) [
      | inl t ↦ omega (arith, all_fallen p q t, largest_le_sum here s.cells s.values, rw t at (may_give_is s h c here))
      | inr f ↦ omega (arith, part.still_falls here f, part.still_rises here f, rw f at (may_give_is s h c here))
    ]

    -- a cell that may enter stands still
    stuck_entering : get_or rs r false ≡ false → get_or ks k false ≡ true → get_or rises here 0 + at_cell c e here ≡ get_or falls here 0
    stuck_entering p q = elim (cases_eq here c) [
      | inl same ↦ absurd (both_ways _ p (raised_leaves s h c rs ks shut r k j same).0)
      | inr off ↦ elim (cases_Bool (takes_part s h c here)) [
        | inl t ↦ omega (arith, shut.closed r k i j p q (part_hidden s h c here t), part_many s h c here t)
        | inr f ↦ omega (arith, part.still_falls here f, part.still_rises here f, at_cell_other c e here off)
      ]
    ]

    -- the raised cell may leave
    stuck_elsewhere : (get_or rs r false ≡ true → get_or ks k false ≡ false → ⊥) → at_cell c e here ≡ 0
    stuck_elsewhere f = elim (cases_eq here c) [
      | inl same ↦ let at = raised_leaves s h c rs ks shut r k j same in absurd (f at.0 at.1)
      | inr off ↦ at_cell_other c e here off
    ]

    -- the balance of one cell, which is even
    stuck_cell :
        side (get_or rs r false) (get_or ks k false) (get_or falls here 0) (get_or rises here 0 + at_cell c e here) (at_cell c e here)
        ≡ side (get_or rs r false) (get_or ks k false) (get_or rises here 0 + at_cell c e here) (get_or falls here 0) (pick (get_or rs r false && not (get_or ks k false)) (may_give s h c here) 0)
    stuck_cell = one_cell_even (get_or rs r false) (get_or ks k false) _ _ _ _ stuck_leaving stuck_entering stuck_elsewhere

  -- what is reached lets leave just what the cell is raised by
  pub stuck_leaves : leaves s h c rs ks ≡ e
  unfolding leaves
  stuck_leaves =
      let n = s.columns in
      omega (
        arith,
        over_one s.rows n c e some inside,
        crossing_even (λ r. get_or rs r false) (λ k. get_or ks k false) (λ r k. get_or falls (r * n + k) 0)
            (λ r k. get_or rises (r * n + k) 0 + at_cell c e (r * n + k)) (λ r k. at_cell c e (r * n + k))
            (λ r k. pick (get_or rs r false && not (get_or ks k false)) (may_give s h c (r * n + k)) 0) s.rows n
            (λ r l. omega (
              arith,
              part.balanced.rows r l,
              row_of_number n c e r some,
              span_add (λ k. get_or rises (r * n + k) 0) (λ k. at_cell c e (r * n + k)) n,
            ))
            (λ k l. omega (
              arith,
              part.balanced.columns k l,
              column_of_number s.rows n c e k some inside l,
              span_add (λ r. get_or rises (r * n + k) 0) (λ r. at_cell c e (r * n + k)) s.rows,
            ))
            stuck_cell,
      )

module _ (s : Survey) (h : Pattern) (c e : ℕ) (falls rises : List ℕ) (part : Partial s h c e falls rises)
    (some : 0 < s.columns) (inside : c < s.rows * s.columns) (rs ks : List Bool) (shut : Closed s h c rs ks) where
  -- closed rows and columns let leave what the cell is raised by
  pub others_leave : e ≤ leaves s h c rs ks
  others_leave = balance s h c e _ (partial_raised s h c e falls rises part some inside) rs ks shut some inside

  module _ (little : leaves s h c rs ks ≤ e) where
    -- where no more leaves, a column in which a cell of the marked rows can fall is marked
    column_marked : (r k : ℕ) → r < s.rows → k < s.columns → get_or rs r false ≡ true →
        can_fall s h c (standing s falls rises) (r * s.columns + k) ≡ true → get_or ks k false ≡ true
    column_marked r k i j p t = elim (cases_Bool (get_or ks k false)) [
      | inl q ↦ q
      | inr q ↦ let u = fall_part s h c _ (standing s falls rises) t in
          absurd (omega (
            arith,
            balance_more s h c e _ (partial_raised s h c e falls rises part some inside) rs ks shut some inside r k i j p q u
                (unfold raised_sums in omega (arith, fall_above s h c _ (standing s falls rises) t)),
          ))
    ]

    -- a row with a cell that takes part in a marked column is marked
    row_marked : (r k : ℕ) → r < s.rows → k < s.columns → get_or ks k false ≡ true →
        takes_part s h c (r * s.columns + k) ≡ true → get_or rs r false ≡ true
    row_marked r k i j q t = elim (cases_Bool (get_or rs r false)) [
      | inl p ↦ p
      | inr p ↦ absurd (omega (arith, shut.closed r k i j p q (part_hidden s h c _ t), part_many s h c _ t))
    ]

    -- a column that is reached after n rises is marked, if the rows are
    column_among : (n k : ℕ) → ((r : ℕ) → r < s.rows → row_reached s h c (standing s falls rises) n r ≡ true → get_or rs r false ≡ true) →
        k < s.columns → column_reached s h c (standing s falls rises) n k ≡ true → get_or ks k false ≡ true
    column_among n k rows j t =
        let (r, i, u, v) = column_has s h c (standing s falls rises) n k t in column_marked r k i j (rows r i u) v

    -- a row that is reached after n rises is marked
    row_among : (n r : ℕ) → r < s.rows → row_reached s h c (standing s falls rises) n r ≡ true → get_or rs r false ≡ true
    row_among zero r i t = rw (only_own_row s h c (standing s falls rises) r t) shut.row
    row_among (suc n) r i t = elim (cases_Bool (row_reached s h c (standing s falls rises) n r)) [
      | inl u ↦ row_among n r i u
      | inr u ↦
          let (k, j, v) = any_below_has _ _ (row_new s h c (standing s falls rises) n r t u) in
          let both = and_parts (column_reached s h c (standing s falls rises) n k) _ v in
          row_marked r k i j (column_among n k (row_among n) j both.0) both.1
    ]

    -- the rows that are reached are among the marked ones
    pub rows_among : (r : ℕ) → r < s.rows → get_or (reached_rows s h c (standing s falls rises)) r false ≡ true → get_or rs r false ≡ true
    rows_among r i t = row_among s.rows r i (sym (row_mark s h c (standing s falls rises) r i) ∙ t)

    -- and so are the columns
    pub columns_among : (k : ℕ) → k < s.columns → get_or (reached_columns s h c (standing s falls rises)) k false ≡ true → get_or ks k false ≡ true
    columns_among k j t =
        column_among s.rows k (row_among s.rows) j (sym (column_mark s h c (standing s falls rises) k j) ∙ t)
