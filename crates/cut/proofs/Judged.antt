-- What a run's end shows of the cell.
use Rattle.std.proofs.Common.{◌≡◌, ℕ, zero, suc, ◌+◌, ◌-◌, ◌*◌, ◌<◌, ◌≤◌, Bool, true, false, not, ◌&&◌, List, length, get_or, replicate, sym, refl, ap, ◌∙◌, subst, inl, inr, arith}
use Rattle.std.proofs.lemmas.List.FromFn.{length-map-range_with_len}
use Rattle.std.proofs.lemmas.List.{get_or_past}
use Rattle.std.proofs.lemmas.Bool.{both_ways, cases_lt, cases_Bool}
use Rattle.survey.specs.Survey.{pick}
use Rattle.survey.specs.Page.{Survey, Pattern, hidden, need}
use Rattle.survey.specs.Model.{size}
use Rattle.survey.specs.Promise.{shown, Audits, Bar, may_give, leaves}
use Rattle.survey.proofs.Cells.{pick_eqb}
use Rattle.survey.proofs.Witnesses.{own_witness}
use Rattle.flow.specs.Closed.{Closed}
use Rattle.flow.specs.Raising.{Raises}
use Rattle.flow.specs.Ways.{marks, standing, raised_sums, way_left, row_reached, column_reached, reached_rows, reached_columns}
use Rattle.flow.specs.Ways.Run.{nothing_lacks}
use Rattle.flow.specs.declared.raising.Flow.{Flow}
use Rattle.flow.proofs.Tables.{over_cong}
use Rattle.flow.proofs.Partial.{Partial, partial_start, partial_witness}
use Rattle.flow.proofs.Runs.{run_one, run_keeps, run_end}
use Rattle.cut.specs.Least.{LeastCut, Within}
use Rattle.cut.specs.Finding.{Bare, Shows, Bars}
use Rattle.cut.specs.declared.finding.Cut.{Cut}
use Rattle.cut.proofs.BarLaw.{bar_closed, closed_bar}
use Rattle.cut.proofs.Least.{stuck_least}
use Rattle.cut.proofs.OneOrOther.{stuck_bar}

module _ (s : Survey) (h : Pattern) (c : ℕ) (rs ks rs' ks' : List Bool) (rows : (i : ℕ) → get_or rs i false ≡ get_or rs' i false) (columns : (i : ℕ) → get_or ks i false ≡ get_or ks' i false) where
  -- let the same leave
  leaves_same : leaves s h c rs ks ≡ leaves s h c rs' ks'
  unfolding leaves
  leaves_same = over_cong _ _ s.rows s.columns
      (λ r k _ _. λ j. pick (rows r j && not (columns k j)) (may_give s h c (r * s.columns + k)) 0)

  -- are closed alike
  closed_same : Closed s h c rs ks → Closed s h c rs' ks'
  closed_same shut = record {
    row = sym (rows _) ∙ shut.row;
    column = sym (columns _) ∙ shut.column;
    closed = λ r k i j p q. shut.closed r k i j (rows r ∙ p) (columns k ∙ q);
  }

  -- are a bar alike
  bar_same : Bar s h c rs ks → Bar s h c rs' ks'
  bar_same bar = closed_bar s h c rs' ks' (closed_same (bar_closed s h c rs ks bar)) (omega (arith, bar.little, leaves_same))

  -- and are the least cut alike
  least_same : LeastCut s h c rs ks → LeastCut s h c rs' ks'
  unfolding Within
  least_same cut = record {
    closed = closed_same cut.closed;
    least = λ rs'' ks'' shut. omega (arith, leaves_same, cut.least rs'' ks'' shut);
    inner = λ rs'' ks'' shut little.
        let in_both = cut.inner rs'' ks'' shut (omega (arith, leaves_same)) in
        ((λ i l t. in_both.0 i l (rows i ∙ t)), (λ i l t. in_both.1 i l (columns i ∙ t)));
  }

-- a cut's marks are those that a flow gave it: forty, of which those past what is reached are not set
forty_same : (reached given cut : List Bool) → length reached ≤ 40 → length given ≡ 40 → cut ≡ given →
    ((i : ℕ) → i < 40 → get_or given i false ≡ get_or reached i false) → (i : ℕ) → get_or reached i false ≡ get_or cut i false
forty_same reached given cut few long is same i = elim (cases_lt i 40) [
  | inl low ↦ sym (same i low) ∙ sym (ap (λ (m : List Bool). get_or m i false) is)
  | inr high ↦ get_or_past reached i false (omega arith) ∙ sym (get_or_past cut i false (omega (arith, ap length is)))
]

-- nothing but zeros
zeros : (n i : ℕ) → get_or {A = ℕ} (replicate n 0) i 0 ≡ 0
zeros zero i = refl
zeros (suc n) zero = refl
zeros (suc n) (suc i) = zeros n i

module _ (s : Survey) (h : Pattern) (c : ℕ) (sums falls rises witness sums' falls' rises' witness' : List ℕ) (flow : Flow) (some : 0 < s.columns)
    (raises : Raises s h c sums falls rises witness sums' falls' rises' witness' flow) where
  -- what the cell is raised by
  raised : (e : ℕ) × (e + flow.lacking ≡ need s c) × Partial s h c e raises.fell raises.rose
  raised =
      let (e, sum, part) = run_keeps raises.run some 0 (partial_start s h c) in
      (e, omega arith, part)

  module _ (done : flow.lacking ≡ 0) where
    -- where the cell is blank, the sums as they stand
    blank_shown : c < size s → hidden h c ≡ true → Audits s h c (shown (λ d. get_or witness' d 0))
    unfolding Audits
    blank_shown inside hid =
        let (e, sum, part) = raised in
        let all : e ≡ need s c = omega arith in
        let none : need s c ≡ need s c - flow.lacking = omega arith in
        let (w, are) = partial_witness s h c raises.fell raises.rose (subst (λ i. Partial s h c i raises.fell raises.rose) all part) some inside hid in
        (w, λ d l. are d ∙ ap (λ (i : ℕ). raised_sums s c i raises.fell raises.rose d) none ∙ sym (raises.wrote_witness.here d l))

    -- where it lacks nothing, they are the survey's own
    own_shown : need s c ≡ 0 → Audits s h c (shown (λ d. get_or witness' d 0))
    unfolding Audits raised_sums standing own_witness
    own_shown none = (
      own_witness s h c none,
      λ d l. omega (
        arith,
        raises.wrote_witness.here d l,
        pick_eqb d c (need s c - flow.lacking) 0,
        ap (λ (xs : List ℕ). get_or xs d 0) same.1,
        ap (λ (xs : List ℕ). get_or xs d 0) same.2,
        zeros (size s) d,
      ),
    )
      where
        same : (flow.lacking ≡ need s c) × (raises.fell ≡ replicate (size s) 0) × (raises.rose ≡ replicate (size s) 0)
        same = run_one raises.run (nothing_lacks none)

    pub shows : (Bare s h c → ⊥) → Shows s h c sums falls rises witness sums' falls' rises' witness'
    shows covered = record {
      flow = flow;
      raises = raises;
      done = done;
      audits = λ inside. elim (cases_Bool (hidden h c)) [
        | inl hid ↦ blank_shown inside hid
        | inr bare ↦ own_shown (omega (arith, (λ (p : 0 < need s c). covered (bare, p))))
      ];
    }

  module _ (lacks : 0 < flow.lacking) (few : s.rows ≤ 40) (few_columns : s.columns ≤ 40) (known : 0 < need s c → c < size s) (cut : Cut)
      (is_rows : cut.rows ≡ flow.rows) (is_columns : cut.columns ≡ flow.columns) where
    -- the cell lies in the table
    inside : c < size s
    inside = let (e, sum, part) = raised in known (omega arith)

    y : ℕ → ℕ
    y = standing s raises.fell raises.rose

    -- as many marks as rows
    rows_long : length (reached_rows s h c y) ≡ s.rows
    unfolding reached_rows marks
    rows_long = length-map-range_with_len (row_reached s h c y s.rows) 0 s.rows

    -- and as columns
    columns_long : length (reached_columns s h c y) ≡ s.columns
    unfolding reached_columns marks
    columns_long = length-map-range_with_len (column_reached s h c y s.rows) 0 s.columns

    -- the cut's marks are what is reached
    rows_are : (i : ℕ) → get_or (reached_rows s h c y) i false ≡ get_or cut.rows i false
    unfolding y
    rows_are = forty_same _ _ _ (omega (arith, rows_long)) raises.marked.long_rows is_rows (raises.marked.rows lacks)

    columns_are : (i : ℕ) → get_or (reached_columns s h c y) i false ≡ get_or cut.columns i false
    unfolding y
    columns_are = forty_same _ _ _ (omega (arith, columns_long)) raises.marked.long_columns is_columns (raises.marked.columns lacks)

    -- no way is left
    none_left : way_left s h c y ≡ false
    unfolding y
    none_left = elim (run_end raises.run) [ inl z ↦ absurd (omega arith) | inr (_, none) ↦ none ]

    pub bars : Bars s h c sums falls rises witness sums' falls' rises' witness' cut
    unfolding Audits y
    bars =
        let (e, sum, part) = raised in
        record {
          flow = flow;
          raises = raises;
          lacks = lacks;
          rows = is_rows;
          columns = is_columns;
          audits = bar_same s h c _ _ _ _ rows_are columns_are (stuck_bar s h c e _ _ part some inside none_left (omega arith));
          least = least_same s h c _ _ _ _ rows_are columns_are (stuck_least s h c e _ _ part some inside none_left);
          past_rows = λ i p. sym (rows_are i) ∙ get_or_past (reached_rows s h c y) i false (omega (arith, rows_long));
          past_columns = λ i p. sym (columns_are i) ∙ get_or_past (reached_columns s h c y) i false (omega (arith, columns_long));
        }

-- a cell that is blank, or lacks nothing, is not bare
pub blank_covers : (s : Survey) (h : Pattern) (c : ℕ) (b : Bool) → b ≡ hidden h c → b ≡ true → Bare s h c → ⊥
blank_covers s h c b is t (bare, _) = both_ways _ bare (sym is ∙ t)

pub enough_covers : (s : Survey) (h : Pattern) (c l : ℕ) → l ≡ need s c → l ≡ 0 → Bare s h c → ⊥
enough_covers s h c l is z (_, lacks) = omega arith
