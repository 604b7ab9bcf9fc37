-- What a search knows of one side, the rows or the columns, before a round, and how a round adds to it.
use Rattle.std.proofs.Common.{◌≡◌, ℕ, zero, suc, ◌<◌, ◌≤◌, Bool, true, false, ◌&&◌, leb, ◌⊎◌, List, length, get_or, sym, refl, ap, ◌∙◌, subst, inl, inr, arith}
use Rattle.std.proofs.lemmas.Bool.{both_ways, cases_eq, cases_Bool, le-leb, lt-leb, leb-true, leb-false, eq-eqb, ne_eqb}
use Rattle.survey.specs.Page.{Survey, Pattern}
use Rattle.survey.proofs.Cells.{pick_true, pick_false}
use Rattle.flow.specs.Ways.{any_below, least, row_reached, column_reached, next_rows, next_columns, parent_row, parent_column}
use Rattle.flow.specs.Searching.{never, Spread}
use Rattle.flow.proofs.Below.{any_below_cong, least_cong}
use Rattle.flow.proofs.Reach.{row_kept, row_from, column_from, column_kept}
use Rattle.flow.proofs.Tests.{can_rise_in, can_fall_in, in_round}

-- what is reached before round a, among the first B numbers
pub record Side (reached : ℕ → ℕ → Bool) (From : ℕ → ℕ → ℕ → Type 0) (B a : ℕ) (rounds parents : List ℕ) : Type 0 where
  pub long : length rounds ≡ 40
  pub long_parents : length parents ≡ 40
  pub known : (m x : ℕ) → m < a → x < B → reached m x ≡ leb (get_or rounds x 0) m
  pub values : (x : ℕ) → x < B → (get_or rounds x 0 < a) ⊎ (get_or rounds x 0 ≡ never)
  pub past : (x : ℕ) → B ≤ x → x < 40 → get_or rounds x 0 ≡ never
  pub from : (x : ℕ) → x < B → get_or rounds x 0 < a → From (get_or rounds x 0) x (get_or parents x 0)

module _ (reached : ℕ → ℕ → Bool) (From : ℕ → ℕ → ℕ → Type 0) (B a : ℕ) (rounds parents : List ℕ) (side : Side reached From B a rounds parents) where
  -- what has no round is not reached
  pub side_free : (m x : ℕ) → m < a → a ≤ never → x < B → get_or rounds x 0 ≡ never → reached m x ≡ false
  side_free m x l soon p e = side.known m x l p ∙ lt-leb _ m (omega arith)

  -- what is reached first in a round has that round
  pub side_exact : (m x : ℕ) → m < a → x < B → reached m x ≡ true → ((i : ℕ) → m ≡ suc i → reached i x ≡ false) → get_or rounds x 0 ≡ m
  side_exact zero x l p t f = omega (arith, leb-true (get_or rounds x 0) 0 (sym (side.known 0 x l p) ∙ t))
  side_exact (suc m) x l p t f =
      omega (
        arith,
        leb-true (get_or rounds x 0) (suc m) (sym (side.known (suc m) x l p) ∙ t),
        leb-false (get_or rounds x 0) m (sym (side.known m x (omega arith) p) ∙ f m refl),
      )

  module _ (test : ℕ → ℕ → Bool) (live : ℕ → Bool) (I : ℕ) (rounds' parents' : List ℕ)
      (spread : Spread test live I B a rounds parents rounds' parents') (soon : a < never)
      (stay : (x : ℕ) → x < B → get_or rounds x 0 < a → reached a x ≡ true)
      (new : (x : ℕ) → x < B → get_or rounds x 0 ≡ never → reached a x ≡ any_below (λ i. live i && test i x) I)
      (by : (x : ℕ) → x < B → get_or rounds x 0 ≡ never → any_below (λ i. live i && test i x) I ≡ true → From a x (least (λ i. live i && test i x) I)) where
    -- a number that was reached before
    old_round : (x : ℕ) → get_or rounds x 0 < a → (get_or rounds' x 0 ≡ get_or rounds x 0) × (get_or parents' x 0 ≡ get_or parents x 0)
    old_round x l = spread.kept x (inl (omega arith))

    -- a number that was not: it is reached now, or not
    new_round : (x : ℕ) → x < B → get_or rounds x 0 ≡ never →
        ((get_or rounds' x 0 ≡ a) × (reached a x ≡ true) × From a x (get_or parents' x 0))
        ⊎ ((get_or rounds' x 0 ≡ never) × (reached a x ≡ false))
    new_round x p e = elim (cases_Bool (any_below (λ i. live i && test i x) I)) [
      | inl any ↦ inl (
        spread.reached x p e ∙ pick_true {A = ℕ} _ a never any,
        new x p e ∙ any,
        subst (λ i. From a x i) (sym (spread.parent x p e any)) (by x p e any),
      )
      | inr none ↦ inr (spread.reached x p e ∙ pick_false {A = ℕ} _ a never none, new x p e ∙ none)
    ]

    known_next : (m x : ℕ) → m < suc a → x < B → reached m x ≡ leb (get_or rounds' x 0) m
    known_next m x l p = elim (side.values x p) [
      | inl was ↦ elim (cases_eq m a) [
        | inl same ↦ rw same (stay x p was ∙ sym (le-leb (get_or rounds' x 0) a (omega (arith, (old_round x was).0))))
        | inr off ↦ side.known m x (omega arith) p ∙ sym (ap (λ (i : ℕ). leb i m) (old_round x was).0)
      ]
      | inr none ↦ elim (new_round x p none) [
        | inl (is, t, _) ↦ elim (cases_eq m a) [
          | inl same ↦ rw same (t ∙ sym (le-leb (get_or rounds' x 0) a (omega arith)))
          | inr off ↦ side_free m x (omega arith) (omega arith) p none ∙ sym (lt-leb (get_or rounds' x 0) m (omega arith))
        ]
        | inr (is, f) ↦ elim (cases_eq m a) [
          | inl same ↦ rw same (f ∙ sym (lt-leb (get_or rounds' x 0) a (omega arith)))
          | inr off ↦ side_free m x (omega arith) (omega arith) p none ∙ sym (lt-leb (get_or rounds' x 0) m (omega arith))
        ]
      ]
    ]

    -- after the round
    pub side_next : Side reached From B (suc a) rounds' parents'
    side_next = record {
      long = spread.long ∙ side.long;
      long_parents = spread.long_parents ∙ side.long_parents;
      known = known_next;
      values = λ x p. elim (side.values x p) [
        | inl was ↦ inl (omega (arith, (old_round x was).0))
        | inr none ↦ elim (new_round x p none) [ inl (is, _, _) ↦ inl (omega arith) | inr (is, _) ↦ inr is ]
      ];
      past = λ x p l. (spread.kept x (inr p)).0 ∙ side.past x p l;
      from = λ x p l. elim (side.values x p) [
        | inl was ↦
            subst (λ i. From i x (get_or parents' x 0)) (sym (old_round x was).0)
            (subst (λ i. From (get_or rounds x 0) x i) (sym (old_round x was).1) (side.from x p was))
        | inr none ↦ elim (new_round x p none) [
          | inl (is, _, f) ↦ subst (λ i. From i x (get_or parents' x 0)) (sym is) f
          | inr (is, _) ↦ absurd (omega arith)
        ]
      ];
    }

module _ (s : Survey) (h : Pattern) (c : ℕ) (y : ℕ → ℕ) where
  -- the column from which a row was reached
  unfoldable pub RowFrom : ℕ → ℕ → ℕ → Type 0
  RowFrom zero r p = Unit {0}
  RowFrom (suc m) r p = p ≡ parent_column s h c y m r

  -- the row from which a column was reached
  unfoldable pub ColumnFrom : ℕ → ℕ → ℕ → Type 0
  ColumnFrom m k p = p ≡ parent_row s h c y m k

  -- the rows that are reached before round a
  abbrev pub Rows : ℕ → List ℕ → List ℕ → Type 0
  Rows a rounds parents = Side (row_reached s h c y) RowFrom s.rows a rounds parents

  -- the columns that are
  abbrev pub Columns : ℕ → List ℕ → List ℕ → Type 0
  Columns a rounds parents = Side (column_reached s h c y) ColumnFrom s.columns a rounds parents

  -- two tests that differ only where the second one of each is false
  same_and : (a b t : Bool) → (t ≡ true → a ≡ b) → (a && t) ≡ (b && t)
  same_and true true t f = refl
  same_and true false true f = f refl
  same_and true false false f = refl
  same_and false true true f = f refl
  same_and false true false f = refl
  same_and false false t f = refl

  module _ (n : ℕ) (rr rp cr cp : List ℕ) (soon : n < 40) where
    module _ (rows : Rows (suc n) rr rp) (columns : Columns n cr cp) where
      -- a column that is not reached can be only from rows of this round
      pub same_columns : (k : ℕ) → k < s.columns → get_or cr k 0 ≡ never → (r : ℕ) → r < s.rows →
          (row_reached s h c y n r && can_fall_in s h c y r k) ≡ (in_round rr n r && can_fall_in s h c y r k)
      same_columns k p e r q = same_and _ _ _ (λ t. elim (rows.values r q) [
        | inl was ↦ elim (cases_eq (get_or rr r 0) n) [
          | inl same ↦ rows.known n r (omega arith) q ∙ le-leb _ n (omega arith) ∙ sym (eq-eqb _ n same)
          | inr off ↦ absurd (both_ways _ (before r q (omega arith)) (early r q t (omega arith)))
        ]
        | inr none ↦ rows.known n r (omega arith) q ∙ lt-leb _ n (omega arith) ∙ sym (ne_eqb _ n (omega arith))
      ])
        where
          before : (r : ℕ) → r < s.rows → get_or rr r 0 < n → column_reached s h c y (get_or rr r 0) k ≡ false
          before r q l = side_free (column_reached s h c y) ColumnFrom s.columns n cr cp columns (get_or rr r 0) k l (omega arith) p e

          early : (r : ℕ) → r < s.rows → can_fall_in s h c y r k ≡ true → get_or rr r 0 < n → column_reached s h c y (get_or rr r 0) k ≡ true
          early r q t l = column_from s h c y (get_or rr r 0) r k q
              (rows.known (get_or rr r 0) r (omega arith) q ∙ le-leb _ _ (omega arith)) t

      -- the columns after this round
      pub columns_next : (cr' cp' : List ℕ) → Spread (can_fall_in s h c y) (in_round rr n) s.rows s.columns n cr cp cr' cp' →
          Columns (suc n) cr' cp'
      unfolding ColumnFrom
      columns_next cr' cp' spread =
          side_next (column_reached s h c y) ColumnFrom s.columns n cr cp columns (can_fall_in s h c y) (in_round rr n) s.rows cr' cp' spread (omega arith)
          (λ x p l. stays n x l p columns)
          (λ x p e. unfold column_reached next_columns in any_below_cong _ _ s.rows (same_columns x p e))
          (λ x p e any. unfold parent_row in sym (least_cong _ _ s.rows (same_columns x p e)))
        where
          stays : (a x : ℕ) → get_or cr x 0 < a → x < s.columns → Columns a cr cp → column_reached s h c y a x ≡ true
          stays zero x l p side = absurd (omega arith)
          stays (suc a) x l p side = column_kept s h c y a x (side.known a x (omega arith) p ∙ le-leb _ a (omega arith))

    module _ (rows : Rows (suc n) rr rp) (columns : Columns (suc n) cr cp) where
      -- a row that is not reached can be only from columns of this round
      same_rows : (r : ℕ) → r < s.rows → get_or rr r 0 ≡ never → (k : ℕ) → k < s.columns →
          (column_reached s h c y n k && can_rise_in s h c k r) ≡ (in_round cr n k && can_rise_in s h c k r)
      same_rows r p e k q = same_and _ _ _ (λ t. elim (columns.values k q) [
        | inl was ↦ elim (cases_eq (get_or cr k 0) n) [
          | inl same ↦ columns.known n k (omega arith) q ∙ le-leb _ n (omega arith) ∙ sym (eq-eqb _ n same)
          | inr off ↦ absurd (both_ways _ (side_free (row_reached s h c y) RowFrom s.rows (suc n) rr rp rows (suc (get_or cr k 0)) r (omega arith) (omega arith) p e)
              (row_from s h c y (get_or cr k 0) r k q (columns.known (get_or cr k 0) k (omega arith) q ∙ le-leb _ _ (omega arith)) t))
        ]
        | inr none ↦ columns.known n k (omega arith) q ∙ lt-leb _ n (omega arith) ∙ sym (ne_eqb _ n (omega arith))
      ])

      -- a row is reached in the next round where it was not before
      next_row : (r : ℕ) → r < s.rows → get_or rr r 0 ≡ never →
          row_reached s h c y (suc n) r ≡ any_below (λ k. column_reached s h c y n k && can_rise_in s h c k r) s.columns
      unfolding row_reached next_rows column_reached
      next_row r p e = rw (side_free (row_reached s h c y) RowFrom s.rows (suc n) rr rp rows n r (omega arith) (omega arith) p e) refl

      -- the rows after this round
      pub rows_next : (rr' rp' : List ℕ) → Spread (can_rise_in s h c) (in_round cr n) s.columns s.rows (suc n) rr rp rr' rp' →
          Rows (suc (suc n)) rr' rp'
      unfolding RowFrom
      rows_next rr' rp' spread =
          side_next (row_reached s h c y) RowFrom s.rows (suc n) rr rp rows (can_rise_in s h c) (in_round cr n) s.columns rr' rp' spread (omega arith)
          (λ x p l. row_kept s h c y n x (rows.known n x (omega arith) p ∙ le-leb _ n (omega arith)))
          (λ x p e. next_row x p e ∙ any_below_cong _ _ s.columns (same_rows x p e))
          (λ x p e any. unfold parent_column in sym (least_cong _ _ s.columns (same_rows x p e)))
