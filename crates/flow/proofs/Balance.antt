-- What may leave closed rows and columns: at least what a cell is raised by, whatever other sums raise it.
use Rattle.std.proofs.Common.{◌≡◌, ℕ, ◌+◌, ◌*◌, ◌<◌, ◌≤◌, Bool, true, false, not, ◌&&◌, ◌≢◌, ◌⊎◌, List, get_or, sym, refl, subst, inl, inr, arith}
use Rattle.std.proofs.lemmas.Bool.{both_ways, cases_Bool, cases_eq}
use Rattle.std.proofs.lemmas.Nat.{mul-add-lt}
use Rattle.survey.specs.Survey.{pick, largest}
use Rattle.survey.specs.Page.{Survey, Pattern, span, true_sum, need, Witness}
use Rattle.survey.specs.Promise.{may_give, leaves}
use Rattle.flow.specs.Closed.{Closed}
use Rattle.flow.specs.Ways.{takes_part}
use Rattle.flow.proofs.Tables.{over, over_add, over_one, side, crossing_le, at_cell, at_cell_here, at_cell_other, row_of_place, column_of_place, same_place}
use Rattle.flow.proofs.Parts.{part_hidden, part_other, part_own, part_many, no_part, may_give_is}

-- other cell sums with the survey's row and column sums: cell c is higher by e, the others change only where they take
-- part, and then don't fall below their largest workshop
pub record Raised (s : Survey) (h : Pattern) (c e : ℕ) (y : ℕ → ℕ) : Type 0 where
  pub by_row : (r : ℕ) → r < s.rows → span (λ k. y (r * s.columns + k)) s.columns ≡ span (λ k. true_sum s (r * s.columns + k)) s.columns
  pub by_column : (k : ℕ) → k < s.columns → span (λ r. y (r * s.columns + k)) s.rows ≡ span (λ r. true_sum s (r * s.columns + k)) s.rows
  pub higher : true_sum s c + e ≤ y c
  pub still : (d : ℕ) → d ≢ c → takes_part s h c d ≡ false → y d ≡ true_sum s d
  pub not_below : (d : ℕ) → takes_part s h c d ≡ true → largest d s.cells s.values ≤ y d

-- a witness is such sums
pub witness_raised : (s : Survey) (h : Pattern) (c : ℕ) (w : Witness s h c) → Raised s h c (need s c) w.sums
witness_raised s h c w = record {
  by_row = w.by_row;
  by_column = w.by_column;
  higher = w.higher;
  still = λ d o f. elim (no_part s h c d f o) [ inl e ↦ w.printed d e | inr m ↦ w.alone d o m ];
  not_below = λ d t. w.not_below d (part_other s h c d t);
}

-- one cell, whose row is marked or not and whose column is: what the marks ask of its old sum t, its new sum y, what may
-- leave g and what is over w
one_cell : (p q : Bool) (t y w g : ℕ) → (p ≡ true → q ≡ false → t + w ≤ y + g) → (p ≡ false → q ≡ true → y ≤ t) →
    ((p ≡ true → q ≡ false → ⊥) → w ≡ 0) → side p q t y w ≤ side p q y t (pick (p && not q) g 0)
one_cell true true t y w g leaving entering elsewhere = omega (arith, elsewhere (λ a b. both_ways true b refl))
one_cell true false t y w g leaving entering elsewhere = omega (arith, leaving refl refl)
one_cell false true t y w g leaving entering elsewhere =
    omega (arith, entering refl refl, elsewhere (λ a b. both_ways false refl a))
one_cell false false t y w g leaving entering elsewhere = omega (arith, elsewhere (λ a b. both_ways false refl a))

-- the cell in row r and column k may leave: its row is marked and its column is not
abbrev pub Leaving : List Bool → List Bool → ℕ → ℕ → Type 0
Leaving rs ks r k = (get_or rs r false ≡ true) × (get_or ks k false ≡ false)

-- the raised cell may leave
pub raised_leaves : (s : Survey) (h : Pattern) (c : ℕ) (rs ks : List Bool) → Closed s h c rs ks →
    (r k : ℕ) → k < s.columns → r * s.columns + k ≡ c → Leaving rs ks r k
raised_leaves s h c rs ks shut r k l same = (
  subst (λ x. get_or rs x false ≡ true) (row_of_place r k s.columns c l same) shut.row,
  subst (λ x. get_or ks x false ≡ false) (column_of_place r k s.columns c l same) shut.column,
)

module _ (s : Survey) (h : Pattern) (c e : ℕ) (y : ℕ → ℕ) (raised : Raised s h c e y)
    (rs ks : List Bool) (shut : Closed s h c rs ks) where
  -- w d is over at cell d: only where it may leave and takes part, and no more than it stands above its largest workshop
  pub Over : (ℕ → ℕ) → Type 0
  Over w = (r k : ℕ) → r < s.rows → k < s.columns → (w (r * s.columns + k) ≡ 0)
      ⊎ (Leaving rs ks r k × (takes_part s h c (r * s.columns + k) ≡ true)
      × (largest (r * s.columns + k) s.cells s.values + w (r * s.columns + k) ≤ y (r * s.columns + k)))

  module _ (w : ℕ → ℕ) (more : Over w) (r k : ℕ) (i : r < s.rows) (j : k < s.columns) where
    -- the cell's number
    abbrev here : ℕ
    here = r * s.columns + k

    -- where the cell takes part it has its largest workshop and what is over
    over_part : takes_part s h c here ≡ true → largest here s.cells s.values + w here ≤ y here
    unfolding Over
    over_part t = elim (more r k i j) [ inl z ↦ omega (arith, raised.not_below here t) | inr m ↦ m.2 ]

    -- where it takes no part nothing is over
    over_still : takes_part s h c here ≡ false → w here ≡ 0
    unfolding Over
    over_still f = elim (more r k i j) [ inl z ↦ z | inr m ↦ absurd (both_ways _ f m.1) ]

    -- nor where it may not leave
    over_elsewhere : (Leaving rs ks r k → ⊥) → w here ≡ 0
    unfolding Over
    over_elsewhere f = elim (more r k i j) [ inl z ↦ z | inr m ↦ absurd (f m.0) ]

    -- a cell that may leave: the raised one, one that takes no part, and one that does
    cell_leaving : true_sum s here + (at_cell c e here + w here) ≤ y here + may_give s h c here
    cell_leaving = elim (cases_eq here c) [
      | inl same ↦ omega (
        arith,
        subst (λ x. true_sum s x + e ≤ y x) (sym same) raised.higher,
        at_cell_here c e here same,
        over_still (part_own s h c here same),
      )
      | inr off ↦ elim (cases_Bool (takes_part s h c here)) [
        | inl t ↦ omega (arith, at_cell_other c e here off, over_part t, rw t at (may_give_is s h c here))
        | inr f ↦ omega (arith, at_cell_other c e here off, over_still f, raised.still here off f)
      ]
    ]

    -- a cell that may enter does not rise
    cell_entering : get_or rs r false ≡ false → get_or ks k false ≡ true → y here ≤ true_sum s here
    cell_entering p q = elim (cases_eq here c) [
      | inl same ↦ absurd (both_ways _ p (raised_leaves s h c rs ks shut r k j same).0)
      | inr off ↦ elim (cases_Bool (takes_part s h c here)) [
        | inl t ↦ omega (arith, shut.closed r k i j p q (part_hidden s h c here t), part_many s h c here t)
        | inr f ↦ omega (arith, raised.still here off f)
      ]
    ]

    -- elsewhere nothing is over, and the raised cell is not there
    cell_elsewhere : (Leaving rs ks r k → ⊥) → at_cell c e here + w here ≡ 0
    cell_elsewhere f = elim (cases_eq here c) [
      | inl same ↦ absurd (f (raised_leaves s h c rs ks shut r k j same))
      | inr off ↦ omega (arith, at_cell_other c e here off, over_elsewhere f)
    ]

    -- the balance of one cell
    cell_balance :
        side (get_or rs r false) (get_or ks k false) (true_sum s here) (y here) (at_cell c e here + w here)
        ≤ side (get_or rs r false) (get_or ks k false) (y here) (true_sum s here) (pick (get_or rs r false && not (get_or ks k false)) (may_give s h c here) 0)
    cell_balance =
        one_cell (get_or rs r false) (get_or ks k false) _ _ _ _ (λ p q. cell_leaving) cell_entering (λ f. cell_elsewhere (λ a. f a.0 a.1))

  -- what the cell is raised by, and what is over besides, may leave
  pub balance_over : 0 < s.columns → c < s.rows * s.columns → (w : ℕ → ℕ) → Over w →
      e + over (λ r k. w (r * s.columns + k)) s.rows s.columns ≤ leaves s h c rs ks
  unfolding leaves
  balance_over some inside w more =
      let n = s.columns in
      omega (
        arith,
        over_one s.rows n c e some inside,
        over_add (λ r k. at_cell c e (r * n + k)) (λ r k. w (r * n + k)) s.rows n,
        crossing_le (λ r. get_or rs r false) (λ k. get_or ks k false) (λ r k. true_sum s (r * n + k)) (λ r k. y (r * n + k))
            (λ r k. at_cell c e (r * n + k) + w (r * n + k))
            (λ r k. pick (get_or rs r false && not (get_or ks k false)) (may_give s h c (r * n + k)) 0) s.rows n
            (λ r l. sym (raised.by_row r l)) (λ k l. sym (raised.by_column k l)) (cell_balance w more),
      )

  -- what a cell is raised by may leave any closed rows and columns
  pub balance : 0 < s.columns → c < s.rows * s.columns → e ≤ leaves s h c rs ks
  unfolding Over
  balance some inside = omega (arith, balance_over some inside (λ d. 0) (λ r k i j. inl refl))

  -- and more than that where a cell stands above its largest workshop and may leave
  pub balance_more : 0 < s.columns → c < s.rows * s.columns → (r k : ℕ) → r < s.rows → k < s.columns →
      get_or rs r false ≡ true → get_or ks k false ≡ false → takes_part s h c (r * s.columns + k) ≡ true →
      largest (r * s.columns + k) s.cells s.values < y (r * s.columns + k) → e < leaves s h c rs ks
  unfolding Over
  balance_more some inside r k i j p q t above =
      let n = s.columns in
      omega (
        arith,
        over_one s.rows n (r * n + k) 1 some (omega (arith, mul-add-lt r n k s.rows i j)),
        balance_over some inside (at_cell (r * n + k) 1) (λ r' k' i' j'. elim (cases_eq (r' * n + k') (r * n + k)) [
          | inl same ↦ inr (there r' k' (same_place r' k' r k n j' j same))
          | inr off ↦ inl (at_cell_other (r * n + k) 1 (r' * n + k') off)
        ]),
      )
    where
      there : (r' k' : ℕ) → (r' ≡ r) × (k' ≡ k) → ((get_or rs r' false ≡ true) × (get_or ks k' false ≡ false))
          × (takes_part s h c (r' * s.columns + k') ≡ true)
          × (largest (r' * s.columns + k') s.cells s.values + at_cell (r * s.columns + k) 1 (r' * s.columns + k') ≤ y (r' * s.columns + k'))
      there r' k' (a, b) = rw (a, b)
          ((p, q), t, omega (arith, at_cell_here (r * s.columns + k) 1 (r * s.columns + k) refl))
