-- The loops that look for a bar.
use Rattle.std.proofs.Common.{◌≡◌, ℕ, ◌+◌, ◌-◌, ◌*◌, ◌/◌, ◌%◌, ◌^◌, ◌<◌, ◌≤◌, Bool, true, false, not, ◌&&◌, ◌||◌, eqb, leb, ltb, List, length, sum_by, get_or, sym, refl, ap, subst, ◌∙◌, inl, inr, arith}
use Rattle.std.specs.Bool.{MatchBool}
use Rattle.std.specs.List.{range_with_len, AllWithin, HoldsAt}
use Rattle.std.proofs.lemmas.List.FromFn.{length-range_with_len, get_or-range_with_len}
use Rattle.std.proofs.lemmas.Bool.{or_parts, leb-true, leb-false, both_ways, cases_Bool, and_left, and_right, and_from, ne_eqb, eq-eqb, not_from_false, not_from_true, lt-ltb, le-ltb, ltb-true}
use Rattle.survey.specs.Survey.{largest, many}
use Rattle.survey.specs.Page.{Survey, Pattern, hidden, true_sum, need}
use Rattle.survey.specs.Model.{model}
use Rattle.survey.specs.declared.checked.Survey as checked
use Rattle.flow.proofs.Bounds.{sum_small}
use Rattle.survey.specs.Promise.{Bar, may_give, leaves}
use Rattle.survey.proofs.Cells.{pick_true, pick_false}
use Rattle.flow.specs.Closed.{Shut}
use Rattle.cut.specs.Barring.{keeps, way_out, row_leaves}
use Rattle.cut.proofs.Ranges.{in_order, at_most}

-- the numbers below n are gone through in order
range_at : (n d : ℕ) → d < n → get_or (range_with_len 0 n) d 0 ≡ d
range_at n d l = omega (arith, get_or-range_with_len 0 n d 0 l)

-- what going through the numbers below n tells: the one holds of all, or the other of one
abbrev pub Told : ℕ → (ℕ → Type 0) → (ℕ → Type 0) → Bool → Type 0
Told n all one b = MatchBool b ((i : ℕ) → i < n → all i) ((i : ℕ) × (i < n) × one i)

-- as the numbers are listed
pub told_by : (n : ℕ) (all one : ℕ → Type 0) (b : Bool) →
    MatchBool b (AllWithin all (range_with_len 0 n) 0 (length (range_with_len 0 n))) ((i : ℕ) × (i < length (range_with_len 0 n)) × HoldsAt one (range_with_len 0 n) i) →
    Told n all one b
told_by n all one true each = λ i l. subst all (range_at n i l) (each i 0 (omega arith) (omega (arith, length-range_with_len 0 n)))
told_by n all one false (i, l, here) =
    let inside : i < n = omega (arith, length-range_with_len 0 n) in
    (i, inside, subst one (range_at n i inside) (here 0))

module _ (s : Survey) (h : Pattern) (c d : ℕ) where
  -- a printed cell gives nothing
  pub give_printed : hidden h d ≡ false → 0 ≡ may_give s h c d
  unfolding may_give
  give_printed f = sym (pick_false {A = ℕ} _ _ 0 (and_left _ _ f))

  -- nor does the raised one
  pub give_own : d ≡ c → 0 ≡ may_give s h c d
  unfolding may_give
  give_own same = sym (pick_false {A = ℕ} _ _ 0 (and_right (hidden h d) _ (and_left _ _ (not_from_true _ (eq-eqb d c same)))))

  -- nor one with one workshop or none
  pub give_few : many d s.cells ≤ 1 → 0 ≡ may_give s h c d
  unfolding may_give
  give_few few = sym (pick_false {A = ℕ} _ _ 0 (and_right (hidden h d) _ (and_right (not (eqb d c)) _ (le-ltb 1 _ few))))

  -- any other gives all but its largest
  pub give_rest : hidden h d ≡ true → (d ≡ c → ⊥) → 1 < many d s.cells → true_sum s d - largest d s.cells s.values ≡ may_give s h c d
  unfolding may_give
  give_rest t off two = sym (pick_true {A = ℕ} _ _ 0 (and_from _ _ t (and_from _ _ (not_from_false _ (ne_eqb d c off)) (lt-ltb 1 _ two))))

  pub give_small : may_give s h c d ≤ true_sum s d
  unfolding may_give
  give_small = elim (cases_Bool (hidden h d && (not (eqb d c) && ltb 1 (many d s.cells)))) [
    | inl t ↦ omega (arith, pick_true {A = ℕ} _ (true_sum s d - largest d s.cells s.values) 0 t)
    | inr f ↦ omega (arith, pick_false {A = ℕ} _ (true_sum s d - largest d s.cells s.values) 0 f)
  ]

module _ (s : Survey) (h : Pattern) (rs ks : List Bool) where
  -- all cells of a row keep the marked columns shut
  abbrev pub RowKeeps : ℕ → Type 0
  RowKeeps r = (k : ℕ) → k < s.columns → keeps s h rs ks r k ≡ true

  -- one of them doesn't
  abbrev pub RowBreaks : ℕ → Type 0
  RowBreaks r = (k : ℕ) × (k < s.columns) × (keeps s h rs ks r k ≡ false)

  -- where each row keeps them so the marked columns are shut
  pub shut_kept : ((r : ℕ) → r < s.rows → RowKeeps r) → Shut s h rs ks
  shut_kept all r k p q a b t = leb-true _ 1 (last_of _ _ _ _ (all r p k q) a b t)
    where
      last_of : (x y z w : Bool) → (x || (not y || (not z || w))) ≡ true → x ≡ false → y ≡ true → z ≡ true → w ≡ true
      last_of x y z w e a b t = cc

  -- a row that doesn't is enough
  pub broken : (r : ℕ) → r < s.rows → RowBreaks r → Shut s h rs ks → ⊥
  broken r inside (k, l, f) shut =
      let (a, (b, (t, many_left))) = all_of (get_or rs r false) (get_or ks k false) (hidden h (r * s.columns + k)) (leb (many (r * s.columns + k) s.cells) 1) f in
      omega (arith, shut r k inside l a b t, leb-false _ 1 many_left)
    where
      turned : (x : Bool) → not x ≡ false → x ≡ true
      turned true e = refl
      turned false e = sym e

      all_of : (x y z w : Bool) → (x || (not y || (not z || w))) ≡ false → (x ≡ false) × ((y ≡ true) × ((z ≡ true) × (w ≡ false)))
      all_of x y z w e =
          let (row, rest) = or_parts x _ e in
          let (column, last) = or_parts (not y) _ rest in
          let (blank, many_left) = or_parts (not z) w last in
          (row, (turned y column, (turned z blank, many_left)))

  -- what going through all rows tells
  pub shut_told : (b : Bool) → Told s.rows RowKeeps RowBreaks b → (b ≡ true → Shut s h rs ks) × (Shut s h rs ks → b ≡ true)
  shut_told true all = (λ _. shut_kept all, λ _. refl)
  shut_told false (r, inside, breaks) = (λ e. absurd (both_ways false refl e), λ shut. absurd (broken r inside breaks shut))

module _ (t : checked.Survey) (h : Pattern) (c : ℕ) (rs ks : List Bool) where
  -- what leaves by one cell is no large amount
  way_small : (r k : ℕ) → way_out (model t) h c rs ks r k ≤ 20000000000000
  way_small r k = elim (cases_Bool (get_or rs r false && not (get_or ks k false))) [
    | inl out ↦ omega (arith, pick_true {A = ℕ} _ (may_give (model t) h c (r * t.columns + k)) 0 out, give_small (model t) h c (r * t.columns + k), sum_small t (r * t.columns + k))
    | inr off ↦ omega (arith, pick_false {A = ℕ} _ (may_give (model t) h c (r * t.columns + k)) 0 off)
  ]

  -- nor is what leaves by the cells of a row
  pub row_fits : (r : ℕ) → sum_by (λ k. way_out (model t) h c rs ks r k) (range_with_len 0 t.columns) ≤ 800000000000000
  row_fits r = omega (arith, at_most (λ k. way_out (model t) h c rs ks r k) 20000000000000 (range_with_len 0 t.columns) (way_small r), length-range_with_len 0 t.columns, t.few_columns)

  -- what is added up along a row
  pub row_sum : (r : ℕ) → sum_by (λ k. way_out (model t) h c rs ks r k) (range_with_len 0 t.columns) ≡ row_leaves (model t) h c rs ks r
  row_sum r = in_order (λ k. way_out (model t) h c rs ks r k) t.columns

  -- nor is what leaves by all rows
  pub rows_fit : sum_by (λ r. row_leaves (model t) h c rs ks r) (range_with_len 0 t.rows) < 2 ^ 64
  rows_fit = omega (
    arith,
    at_most (λ r. row_leaves (model t) h c rs ks r) 800000000000000 (range_with_len 0 t.rows) (λ r. omega (arith, row_fits r, row_sum r)),
    length-range_with_len 0 t.rows,
    t.few_rows,
  )

  -- row by row is what leaves
  pub rows_leave : sum_by (λ r. row_leaves (model t) h c rs ks r) (range_with_len 0 t.rows) ≡ leaves (model t) h c rs ks
  unfolding leaves
  rows_leave = in_order (λ r. row_leaves (model t) h c rs ks r) t.rows

module _ (s : Survey) (h : Pattern) (c : ℕ) (rs ks : List Bool) where
  -- a bar is shut
  pub bar_shut : Bar s h c rs ks → Shut s h rs ks
  bar_shut bar = bar.closed

  module _ (n left lacking : ℕ) (e : n ≡ s.columns) (is : left ≡ leaves s h c rs ks) (lacks : lacking ≡ need s c) where
    -- all its parts make a bar
    pub bar_made : get_or rs (c / n) false ≡ true → get_or ks (c % n) false ≡ false → Shut s h rs ks → ltb left lacking ≡ true → Bar s h c rs ks
    bar_made row column shut less = record {
      row = sym (ap (λ (i : ℕ). get_or rs (c / i) false) e) ∙ row;
      column = sym (ap (λ (i : ℕ). get_or ks (c % i) false) e) ∙ column;
      closed = shut;
      little = omega (arith, ltb-true left lacking less);
    }

    -- less leaves than the cell lacks
    pub bar_less : Bar s h c rs ks → ltb left lacking ≡ true
    bar_less bar = lt-ltb left lacking (omega (arith, bar.little))
