-- The reach has stopped growing after as many rounds as there are rows: each round before that adds a row.
use Rattle.std.proofs.Common.{◌≡◌, ℕ, zero, suc, ◌-◌, ◌*◌, ◌/◌, ◌%◌, ◌<◌, ◌≤◌, Bool, true, false, not, ◌&&◌, ◌⊎◌, sym, refl, subst, inl, inr, arith}
use Rattle.std.proofs.lemmas.Bool.{both_ways, and_parts, and_from, not-true, not_from_false, cases_Bool, cases_eq, cases_lt, false_from_ne_true}
use Rattle.std.proofs.lemmas.Nat.{div_below}
use Rattle.survey.specs.Survey.{pick}
use Rattle.survey.specs.Page.{Survey, Pattern, span}
use Rattle.survey.proofs.Spans.{span_spare, span_term}
use Rattle.survey.proofs.Cells.{pick_true, pick_false}
use Rattle.flow.specs.Ways.{any_below, row_reached, column_reached, way_left}
use Rattle.flow.proofs.Below.{any_below_has, any_below_none}
use Rattle.flow.proofs.Tables.{span_ones}
use Rattle.flow.proofs.Reach.{own_row, only_own_row, row_kept, row_from, row_new, column_from, way_none, column_has}

-- a mark counts as much where it stays
mark_le : (a b : Bool) → (a ≡ true → b ≡ true) → pick a 1 0 ≤ pick b 1 0
mark_le true true f = omega arith
mark_le true false f = absurd (both_ways false refl (f refl))
mark_le false true f = omega arith
mark_le false false f = omega arith

-- a mark counts one at most
mark_one : (a : Bool) → pick a 1 0 ≤ 1
mark_one true = omega arith
mark_one false = omega arith

module _ (s : Survey) (h : Pattern) (c : ℕ) (y : ℕ → ℕ) where
  -- the next round adds no row
  unfoldable pub Settled : ℕ → Type 0
  Settled n = (r : ℕ) → r < s.rows → row_reached s h c y (suc n) r ≡ true → row_reached s h c y n r ≡ true

  -- how many rows are reached
  reached_many : ℕ → ℕ
  reached_many n = span (λ r. pick (row_reached s h c y n r) 1 0) s.rows

  -- the next round adds a row, or none
  settled_or_grows : (n : ℕ) → Settled n ⊎ (reached_many n < reached_many (suc n))
  unfolding Settled reached_many
  settled_or_grows n = at (any_below (λ r. row_reached s h c y (suc n) r && not (row_reached s h c y n r)) s.rows) refl
    where
      at : (b : Bool) → any_below (λ r. row_reached s h c y (suc n) r && not (row_reached s h c y n r)) s.rows ≡ b →
          ((r : ℕ) → r < s.rows → row_reached s h c y (suc n) r ≡ true → row_reached s h c y n r ≡ true)
          ⊎ (span (λ r. pick (row_reached s h c y n r) 1 0) s.rows < span (λ r. pick (row_reached s h c y (suc n) r) 1 0) s.rows)
      at true e =
          let (r, l, t) = any_below_has _ _ e in
          let both = and_parts (row_reached s h c y (suc n) r) _ t in
          inr (omega (
            arith,
            span_spare _ _ s.rows r 1 l (λ i _. mark_le _ _ (row_kept s h c y n i))
                (omega (arith, pick_true {A = ℕ} _ 1 0 both.0, pick_false {A = ℕ} _ 1 0 (not-true _ both.1))),
          ))
      at false e = inl (λ r l t. elim (cases_Bool (row_reached s h c y n r)) [
        | inl u ↦ u
        | inr u ↦ absurd (both_ways _ (any_below_none _ _ r e l) (and_from _ _ t (not_from_false _ u)))
      ])

  -- where the reach has stopped, no column is added
  pub column_settled : (n k : ℕ) → Settled n → column_reached s h c y (suc n) k ≡ true → column_reached s h c y n k ≡ true
  unfolding Settled
  column_settled n k st t =
      let (r, l, u, v) = column_has s h c y (suc n) k t in column_from s h c y n r k l (st r l u) v

  -- and none later
  settled_next : (n : ℕ) → Settled n → Settled (suc n)
  unfolding Settled
  settled_next n st r l t = elim (cases_Bool (row_reached s h c y (suc n) r)) [
    | inl u ↦ u
    | inr u ↦
        let (k, j, v) = any_below_has _ _ (row_new s h c y (suc n) r t u) in
        let both = and_parts (column_reached s h c y (suc n) k) _ v in
        row_from s h c y n r k j (column_settled n k (λ r l. st r l) both.0) both.1
  ]

  -- the raised cell's row stays reached
  pub own_stays : (n : ℕ) → row_reached s h c y n (c / s.columns) ≡ true
  own_stays zero = own_row s h c y
  own_stays (suc n) = row_kept s h c y n _ (own_stays n)

  -- a row that is reached stays reached
  pub row_later : (n m r : ℕ) → m ≤ n → row_reached s h c y m r ≡ true → row_reached s h c y n r ≡ true
  row_later zero m r l t = let e : m ≡ 0 = omega arith in subst (λ i. row_reached s h c y i r ≡ true) e t
  row_later (suc n) m r l t = elim (cases_eq m (suc n)) [
    | inl e ↦ subst (λ i. row_reached s h c y i r ≡ true) e t
    | inr off ↦ row_kept s h c y n r (row_later n m r (omega arith) t)
  ]

  -- where the reach has stopped, all that is ever reached is reached
  pub rows_within : (n : ℕ) → Settled n → (m r : ℕ) → r < s.rows → row_reached s h c y m r ≡ true → row_reached s h c y n r ≡ true
  unfolding Settled
  rows_within n st zero r l t = subst (λ i. row_reached s h c y n i ≡ true) (sym (only_own_row s h c y r t)) (own_stays n)
  rows_within n st (suc m) r l t = elim (cases_Bool (row_reached s h c y m r)) [
    | inl u ↦ rows_within n (λ i p. st i p) m r l u
    | inr u ↦
        let (k, j, v) = any_below_has _ _ (row_new s h c y m r t u) in
        let both = and_parts (column_reached s h c y m k) _ v in
        let (i, p, q, w) = column_has s h c y m k both.0 in
        st r l (row_from s h c y n r k j (column_from s h c y n i k p (rows_within n (λ i p. st i p) m i p q) w) both.1)
  ]

  -- and so for columns
  pub columns_within : (n : ℕ) → Settled n → (m k : ℕ) → column_reached s h c y m k ≡ true → column_reached s h c y n k ≡ true
  columns_within n st m k t =
      let (i, p, q, w) = column_has s h c y m k t in column_from s h c y n i k p (rows_within n st m i p q) w

  module _ (some : 0 < s.columns) (inside : c < s.rows * s.columns) where
    -- the reach has stopped, or there are more rows than rounds
    settled_or_many : (n : ℕ) → Settled n ⊎ (n < reached_many n)
    settled_or_many zero = inr (unfold reached_many in omega (
      arith,
      span_term (λ r. pick (row_reached s h c y 0 r) 1 0) s.rows (c / s.columns) (div_below c s.columns s.rows some inside),
      pick_true {A = ℕ} _ 1 0 (own_row s h c y),
    ))
    settled_or_many (suc n) = elim (settled_or_many n) [
      | inl st ↦ inl (settled_next n st)
      | inr more ↦ elim (settled_or_grows n) [ inl st ↦ inl (settled_next n st) | inr grows ↦ inr (omega arith) ]
    ]

    -- one round less than there are rows is enough
    settled_last : (m : ℕ) → s.rows ≡ suc m → Settled m
    unfolding Settled
    settled_last m e r l t = elim (settled_or_many m) [
      | inl st ↦ st r l t
      | inr more ↦ elim (cases_Bool (row_reached s h c y m r)) [
        | inl u ↦ u
        | inr u ↦ absurd (unfold reached_many in omega (
          arith,
          span_ones s.rows,
          span_spare (λ i. pick (row_reached s h c y m i) 1 0) (λ i. 1) s.rows r 1 l (λ i _. mark_one _) (omega (arith, pick_false {A = ℕ} _ 1 0 u)),
        ))
      ]
    ]

    -- there is a last row
    last_row : s.rows ≡ suc (s.rows - 1)
    last_row = omega (arith, div_below c s.columns s.rows some inside)

    -- so many rounds as there are rows are enough
    pub settled : Settled s.rows
    settled = subst Settled (sym last_row) (settled_next (s.rows - 1) (settled_last (s.rows - 1) last_row))

    -- where no way is left the raised cell's column is not among those reached
    pub column_free : way_left s h c y ≡ false → column_reached s h c y s.rows (c % s.columns) ≡ false
    column_free f = subst (λ n. column_reached s h c y n (c % s.columns) ≡ false) (sym last_row)
        (false_from_ne_true _ (λ t. both_ways _ (way_none s h c y (s.rows - 1) f (omega (arith, last_row)))
        (column_settled (s.rows - 1) _ (settled_last (s.rows - 1) last_row) t)))

    -- a round that adds a row is not the last
    pub unsettled_below : (n r : ℕ) → r < s.rows → row_reached s h c y (suc n) r ≡ true → row_reached s h c y n r ≡ false → suc n < s.rows
    unsettled_below n r l t f = elim (cases_lt (suc n) s.rows) [
      | inl low ↦ low
      | inr high ↦ absurd (both_ways _ f (row_later n (s.rows - 1) r (omega arith)
          (rows_within (s.rows - 1) (settled_last (s.rows - 1) last_row) (suc n) r l t)))
    ]
