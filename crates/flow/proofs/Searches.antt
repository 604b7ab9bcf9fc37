-- A search from round to round, and what it leaves.
use Rattle.std.proofs.Common.{◌≡◌, ℕ, zero, suc, ◌+◌, ◌/◌, ◌%◌, ◌<◌, ◌≤◌, true, false, not, eqb, leb, ◌≢◌, ◌⊎◌, List, length, get_or, set, replicate, Some, None, Option, sym, ap, ◌∙◌, subst, inl, inr, add-one, arith}
use Rattle.std.proofs.lemmas.List.{length-set, length-replicate, get_or-replicate, get_or-set_same, get_or-set_other, get_or_past}
use Rattle.std.proofs.lemmas.List.FromFn.{length-map-range_with_len}
use Rattle.std.proofs.lemmas.Bool.{both_ways, cases_eq, cases_lt, eq-eqb, ne_eqb, eqb-true, leb-true, le-leb, lt-leb, not_from_true, not_from_false, false_from_ne_true}
use Rattle.std.proofs.lemmas.Nat.{div_below, mod_below}
use Rattle.survey.specs.Page.{Survey, Pattern}
use Rattle.survey.specs.Model.{model, size}
use Rattle.survey.specs.declared.checked.Survey as checked
use Rattle.flow.specs.Ways.{marks, row_reached, column_reached, way_left, way_level, parent_row, reached_rows, reached_columns}
use Rattle.flow.specs.Searching.{never, rounds, parents, Spread, Trail, Searched}
use Rattle.flow.specs.declared.step.Step.{Step}
use Rattle.flow.proofs.Below.{any_below_from, any_below_has, any_below_none, Least, least_one, least_cong}
use Rattle.flow.proofs.Reach.{OnWay, column_from}
use Rattle.flow.proofs.Settled.{Settled, settled, rows_within, columns_within, unsettled_below}
use Rattle.flow.proofs.Stuck.{row_mark, column_mark}
use Rattle.flow.proofs.Tests.{can_rise_in, can_fall_in, in_round}
use Rattle.flow.proofs.Steps.{length-rounds, rounds_set, parents_set, some_known}
use Rattle.flow.proofs.Scanning.{Scan, scan_idle, scan_next, scan_skip, scan_mark, scan_end, some_reached}
use Rattle.flow.proofs.Rounds.{Rows, Columns, RowFrom, ColumnFrom, side_free, same_columns, columns_next, rows_next}
use Rattle.flow.proofs.Trails.{trail_here}

-- how rows and columns were reached, as lists: the rounds and where from
pub record Lists : Type 0 where
  pub row_round : List ℕ
  pub row_parent : List ℕ
  pub column_round : List ℕ
  pub column_parent : List ℕ

-- the lists of what a search has in its middle
abbrev pub lists : (rows columns : List (Option Step)) → Lists
lists rows columns = record {
  row_round = rounds rows;
  row_parent = parents rows;
  column_round = rounds columns;
  column_parent = parents columns;
}

-- what is known of a search before round n
pub record Round (s : Survey) (h : Pattern) (c : ℕ) (y : ℕ → ℕ) (n : ℕ) (q : Lists) : Type 0 where
  pub rows : Rows s h c y (suc n) q.row_round q.row_parent
  pub columns : Columns s h c y n q.column_round q.column_parent
  pub below : n < s.rows
  pub target : get_or q.column_round (c % s.columns) 0 ≡ never

-- a round in the middle, that began at q₀: i rows are done, and of the next one j columns
pub record Going (s : Survey) (h : Pattern) (c : ℕ) (y : ℕ → ℕ) (n i j : ℕ) (q₀ q : Lists) : Type 0 where
  pub scan : Scan (can_fall_in s h c y) (in_round q₀.row_round n) s.rows s.columns n q₀.column_round q₀.column_parent
      i j q.column_round q.column_parent
  pub row_round : q.row_round ≡ q₀.row_round
  pub row_parent : q.row_parent ≡ q₀.row_parent
  pub target : get_or q.column_round (c % s.columns) 0 ≡ never

-- the lists with column j reached in round n from row i
abbrev pub reaches : Lists → ℕ → ℕ → ℕ → Lists
reaches q n i j = record {
  row_round = q.row_round;
  row_parent = q.row_parent;
  column_round = set q.column_round j n;
  column_parent = set q.column_parent j i;
}

-- the lists with these rows
abbrev pub with_rows : Lists → List ℕ → List ℕ → Lists
with_rows q rounds parents = record {
  row_round = rounds;
  row_parent = parents;
  column_round = q.column_round;
  column_parent = q.column_parent;
}

-- a way is left, by these lists and after so many rises
pub record Leads (s : Survey) (h : Pattern) (c : ℕ) (y : ℕ → ℕ) (n : ℕ) (q : Lists) : Type 0 where
  pub long_rows : length q.row_round ≡ 40
  pub long_columns : length q.column_round ≡ 40
  pub left : way_left s h c y ≡ true
  pub level : n ≡ way_level s h c y
  pub trail : Trail s h c y q.row_parent q.column_parent n (c % s.columns)

-- no way is left, and these lists have all that is reached
pub record Stuck (s : Survey) (h : Pattern) (c : ℕ) (y : ℕ → ℕ) (q : Lists) : Type 0 where
  pub long_rows : length q.row_round ≡ 40
  pub long_columns : length q.column_round ≡ 40
  pub left : way_left s h c y ≡ false
  pub rows : (i : ℕ) → i < 40 → not (eqb (get_or q.row_round i 0) never) ≡ get_or (reached_rows s h c y) i false
  pub columns : (i : ℕ) → i < 40 → not (eqb (get_or q.column_round i 0) never) ≡ get_or (reached_columns s h c y) i false

module _ {s : Survey} {h : Pattern} {c : ℕ} {y : ℕ → ℕ} {n : ℕ} {q₀ : Lists} where
  module _ {i j : ℕ} {q : Lists} (going : Going s h c y n i j q₀ q) where
    -- the scan goes on, and nothing else has changed
    going_on : {i' j' : ℕ} → Scan (can_fall_in s h c y) (in_round q₀.row_round n) s.rows s.columns n q₀.column_round q₀.column_parent
        i' j' q.column_round q.column_parent → Going s h c y n i' j' q₀ q
    going_on scan = record {
      scan = scan;
      row_round = going.row_round;
      row_parent = going.row_parent;
      target = going.target;
    }

    pub going_idle : get_or q.row_round i 0 ≢ n → Going s h c y n (i + 1) 0 q₀ q
    going_idle off = going_on (scan_idle _ _ _ _ _ _ _ _ _ _ _ going.scan (ne_eqb _ n (λ e. off (ap (λ (l : List ℕ). get_or l i 0) going.row_round ∙ e))))

    pub going_next : s.columns ≤ j → Going s h c y n (i + 1) 0 q₀ q
    going_next end = going_on (scan_next _ _ _ _ _ _ _ _ _ _ _ going.scan end)

    pub going_skip : (get_or q.column_round j 0 ≢ never) ⊎ (can_fall_in s h c y i j ≡ false) → Going s h c y n i (j + 1) q₀ q
    going_skip why = going_on (scan_skip _ _ _ _ _ _ _ _ _ _ _ going.scan why)

    -- the same where the lists go by another name afterwards
    pub going_as : {q' : Lists} → q' ≡ q → Going s h c y n i j q₀ q'
    going_as {q'} is = subst (λ (x : Lists). Going s h c y n i j q₀ x) (sym is) going

module _ (t : checked.Survey) where
  -- the survey as the statements have it
  abbrev s : Survey
  s = model t

  -- the first round
  module _ (h : Pattern) (c : ℕ) (y : ℕ → ℕ) (inside : c < size s) (q : Lists)
      (is_rows : q.row_round ≡ set (replicate 40 never) (c / s.columns) 0) (long : length q.row_parent ≡ 40) (is_columns : q.column_round ≡ replicate 40 never) (long_columns : length q.column_parent ≡ 40) where
    own_inside : c / s.columns < s.rows
    own_inside = div_below c s.columns s.rows t.some_columns inside

    own_round : get_or q.row_round (c / s.columns) 0 ≡ 0
    own_round = ap (λ (l : List ℕ). get_or l (c / s.columns) 0) is_rows
        ∙ get_or-set_same (replicate 40 never) (c / s.columns) 0 0 (omega (arith, own_inside, length-replicate 40 never))

    other_round : (r : ℕ) → r ≢ c / s.columns → r < 40 → get_or q.row_round r 0 ≡ never
    other_round r off l = ap (λ (l : List ℕ). get_or l r 0) is_rows
        ∙ get_or-set_other (replicate 40 never) (c / s.columns) r 0 0 off ∙ get_or-replicate 40 r never 0 l

    no_column : (k : ℕ) → k < 40 → get_or q.column_round k 0 ≡ never
    no_column k l = ap (λ (l : List ℕ). get_or l k 0) is_columns ∙ get_or-replicate 40 k never 0 l

    first_known : (m r : ℕ) → m < 1 → r < s.rows → row_reached s h c y m r ≡ leb (get_or q.row_round r 0) m
    unfolding row_reached
    first_known zero r l p = elim (cases_eq r (c / s.columns)) [
      | inl same ↦ eq-eqb r _ same ∙ sym (le-leb _ 0 (omega (arith, own_round, ap (λ (i : ℕ). get_or q.row_round i 0) same)))
      | inr off ↦ ne_eqb r _ off ∙ sym (lt-leb _ 0 (omega (arith, other_round r off (omega arith))))
    ]
    first_known (suc m) r l p = absurd (omega arith)

    pub round_first : Round s h c y 0 q
    unfolding RowFrom
    round_first = record {
      rows = record {
        long = ap length is_rows ∙ length-set (replicate 40 never) _ 0 ∙ length-replicate 40 never;
        long_parents = long;
        known = first_known;
        values = λ r p. elim (cases_eq r (c / s.columns)) [
          | inl same ↦ inl (omega (arith, own_round, ap (λ (i : ℕ). get_or q.row_round i 0) same))
          | inr off ↦ inr (other_round r off (omega arith))
        ];
        past = λ r p l. other_round r (omega (arith, own_inside)) l;
        from = λ r p l.
            let zero_round : 0 ≡ get_or q.row_round r 0 = omega arith in
            subst (λ i. RowFrom s h c y i r (get_or q.row_parent r 0)) zero_round tt;
      };
      columns = record {
        long = ap length is_columns ∙ length-replicate 40 never;
        long_parents = long_columns;
        known = λ m k l p. absurd (omega arith);
        values = λ k p. inr (no_column k (omega arith));
        past = λ k p l. no_column k l;
        from = λ k p l. absurd (omega arith);
      };
      below = omega (arith, own_inside);
      target = no_column _ (omega (arith, mod_below c s.columns t.some_columns));
    }

  module _ {h : Pattern} {c : ℕ} {y : ℕ → ℕ} {n : ℕ} {q₀ : Lists} {i j : ℕ} {q : Lists} (inside : c < size s) (going : Going s h c y n i j q₀ q) where
    module _ (round : Round s h c y n q₀) (p : i < s.rows) (l : j < s.columns) (live : get_or q.row_round i 0 ≡ n)
        (falls : can_fall_in s h c y i j ≡ true) (free : get_or q.column_round j 0 ≡ never) where
      marked : Scan (can_fall_in s h c y) (in_round q₀.row_round n) s.rows s.columns n q₀.column_round q₀.column_parent
          i (j + 1) (set q.column_round j n) (set q.column_parent j i)
      marked = scan_mark _ _ _ _ _ _ _ _ _ _ _ going.scan (omega (arith, round.below))
          (omega (arith, going.scan.long, round.columns.long)) (omega (arith, going.scan.long_parents, round.columns.long_parents)) p l
          (eq-eqb _ n (sym (ap (λ (l : List ℕ). get_or l i 0) going.row_round) ∙ live)) falls free

      pub going_mark : j ≢ c % s.columns → Going s h c y n i (j + 1) q₀ (reaches q n i j)
      going_mark off = record {
        scan = marked;
        row_round = going.row_round;
        row_parent = going.row_parent;
        target = get_or-set_other q.column_round j (c % s.columns) n 0 (λ e. off (sym e)) ∙ going.target;
      }

      -- the raised cell's column is reached
      module _ (here : j ≡ c % s.columns) where
        -- the row is reached
        live_row : row_reached s h c y n i ≡ true
        live_row = round.rows.known n i (omega arith) p
            ∙ le-leb _ n (omega (arith, ap (λ (l : List ℕ). get_or l i 0) going.row_round))

        reached_here : column_reached s h c y n j ≡ true
        reached_here = column_from s h c y n i j p live_row falls

        not_before : (m : ℕ) → m < n → column_reached s h c y m j ≡ false
        not_before m low = side_free (column_reached s h c y) (ColumnFrom s h c y) s.columns n _ _ round.columns m j low (omega (arith, round.below)) l
            (ap (λ (k : ℕ). get_or q₀.column_round k 0) here ∙ round.target)

        first_here : Least (λ m. column_reached s h c y m (c % s.columns)) s.rows n
        first_here = record {
          below = round.below;
          has = ap (λ (k : ℕ). column_reached s h c y n k) (sym here) ∙ reached_here;
          first = λ m low. ap (λ (k : ℕ). column_reached s h c y m k) (sym here) ∙ not_before m low;
        }

        level_here : way_level s h c y ≡ n
        unfolding way_level
        level_here = least_one _ _ n first_here

        left_here : way_left s h c y ≡ true
        unfolding way_left
        left_here = any_below_from _ _ n first_here.below first_here.has

        on_here : OnWay s h c y n j
        on_here = record { inside = l; reached = reached_here; fresh = λ m e. not_before m (omega arith) }

        free_before : get_or q₀.column_round j 0 ≡ never
        free_before = ap (λ (k : ℕ). get_or q₀.column_round k 0) here ∙ round.target

        parent_here : get_or (set q.column_parent j i) j 0 ≡ parent_row s h c y n j
        unfolding parent_row
        parent_here = elim (marked.reached j l free_before) [
          | inl none ↦ absurd (omega (arith, none, round.below, get_or-set_same q.column_round j n 0 (omega (arith, going.scan.long, round.columns.long))))
          | inr (_, first) ↦
              sym (least_one _ _ _ first)
              ∙ sym (least_cong _ _ s.rows (same_columns s h c y n _ _ _ _ (omega (arith, round.below)) round.rows round.columns j l free_before))
        ]

        trail_j : Trail s h c y q₀.row_parent (set q.column_parent j i) n j
        trail_j = trail_here s h c y n _ _ _ _ _ (omega (arith, round.below)) round.rows round.columns
            (λ k off. (marked.kept k (inl off)).1) j on_here parent_here

        pub way_found : Leads s h c y n (reaches q n i j)
        way_found = record {
          long_rows = ap length going.row_round ∙ round.rows.long;
          long_columns = marked.long ∙ round.columns.long;
          left = left_here;
          level = sym level_here;
          trail = subst (λ k. Trail s h c y q.row_parent (set q.column_parent j i) n k) here
              (subst (λ (l : List ℕ). Trail s h c y l (set q.column_parent j i) n j) (sym going.row_parent) trail_j);
        }

    -- the round's columns are all reached
    module _ (round : Round s h c y n q₀) (end : s.rows ≤ i) where
      columns_done : Columns s h c y (suc n) q.column_round q.column_parent
      columns_done = columns_next s h c y n _ _ _ _ (omega (arith, round.below)) round.rows round.columns _ _
          (scan_end _ _ _ _ _ _ _ _ _ _ _ going.scan end)

      rows_same : Rows s h c y (suc n) q.row_round q.row_parent
      rows_same = rw (going.row_round, going.row_parent) round.rows

      -- no row has the next round yet
      pub none_yet : some_reached q.row_round (n + 1) s.rows ≡ false
      none_yet = false_from_ne_true _ (λ any.
          let (r, l, e) = any_below_has (λ x. eqb (get_or q.row_round x 0) (n + 1)) s.rows any in
          let is = eqb-true (get_or q.row_round r 0) (n + 1) e in
          elim (rows_same.values r l) [ inl low ↦ omega arith | inr none ↦ omega (arith, round.below) ])

      module _ {rr rp : List ℕ}
          (spread : Spread (can_rise_in s h c) (in_round q.column_round n) s.columns s.rows (n + 1) q.row_round q.row_parent rr rp) where
        rows_done : Rows s h c y (suc (suc n)) rr rp
        rows_done = rows_next s h c y n _ _ _ _ (omega (arith, round.below)) rows_same columns_done rr rp (rw (add-one n) at spread)

        -- a row is new: the next round
        pub round_next : some_reached rr (n + 1) s.rows ≡ true → Round s h c y (n + 1) (with_rows q rr rp)
        round_next any =
            let (r, l, e) = any_below_has (λ x. eqb (get_or rr x 0) (n + 1)) s.rows any in
            let is : get_or rr r 0 ≡ suc n = eqb-true (get_or rr r 0) (n + 1) e ∙ add-one n in
            rw (add-one n) (record {
              rows = rows_done;
              columns = columns_done;
              below = unsettled_below s h c y t.some_columns inside n r l
                  (rows_done.known (suc n) r (omega arith) l ∙ le-leb _ (suc n) (omega arith))
                  (rows_done.known n r (omega arith) l ∙ lt-leb _ n (omega arith));
              target = going.target;
            })

        -- no row is new: all is reached
        module _ (none : some_reached rr (n + 1) s.rows ≡ false) where
          not_next : (r : ℕ) → r < s.rows → get_or rr r 0 ≢ suc n
          not_next r l e = both_ways _ (any_below_none (λ x. eqb (get_or rr x 0) (n + 1)) s.rows r none l) (eq-eqb _ _ (e ∙ sym (add-one n)))

          still : Settled s h c y n
          unfolding Settled
          still r l u =
              let low = leb-true (get_or rr r 0) (suc n) (sym (rows_done.known (suc n) r (omega arith) l) ∙ u) in
              rows_done.known n r (omega arith) l ∙ le-leb _ n (omega (arith, not_next r l))

          left_none : way_left s h c y ≡ false
          unfolding way_left
          left_none = false_from_ne_true _ (λ any.
              let (m, l, u) = any_below_has _ _ any in
              both_ways _ (side_free (column_reached s h c y) (ColumnFrom s h c y) s.columns (suc n) _ _ columns_done n (c % s.columns) (omega arith) (omega (arith, round.below)) (mod_below c s.columns t.some_columns) going.target)
              (columns_within s h c y n still m _ u))

          row_marks : (r : ℕ) → r < 40 → not (eqb (get_or rr r 0) never) ≡ get_or (reached_rows s h c y) r false
          row_marks r l = elim (cases_lt r s.rows) [
            | inl p ↦ row_mark_in r p ∙ sym (row_mark s h c y r p)
            | inr p ↦ not_from_true _ (eq-eqb _ _ (rows_done.past r p l)) ∙ sym (get_or_past (reached_rows s h c y) r false (unfold reached_rows marks in omega (arith, length-map-range_with_len (row_reached s h c y s.rows) 0 s.rows)))
          ]
            where
              row_mark_in : (r : ℕ) → r < s.rows → not (eqb (get_or rr r 0) never) ≡ row_reached s h c y s.rows r
              row_mark_in r p = elim (rows_done.values r p) [
                | inl low ↦ not_from_false _ (ne_eqb _ _ (omega (arith, round.below)))
                    ∙ sym (rows_within s h c y s.rows (settled s h c y t.some_columns inside) n r p
                    (rows_done.known n r (omega arith) p ∙ le-leb _ n (omega (arith, not_next r p))))
                | inr off ↦ not_from_true _ (eq-eqb _ _ off)
                    ∙ sym (false_from_ne_true _ (λ u. both_ways _ (rows_done.known n r (omega arith) p ∙ lt-leb _ n (omega (arith, round.below)))
                    (rows_within s h c y n still s.rows r p u)))
              ]

          column_marks : (k : ℕ) → k < 40 → not (eqb (get_or q.column_round k 0) never) ≡ get_or (reached_columns s h c y) k false
          column_marks k l = elim (cases_lt k s.columns) [
            | inl p ↦ column_mark_in k p ∙ sym (column_mark s h c y k p)
            | inr p ↦ not_from_true _ (eq-eqb _ _ (columns_done.past k p l)) ∙ sym (get_or_past (reached_columns s h c y) k false (unfold reached_columns marks in omega (arith, length-map-range_with_len (column_reached s h c y s.rows) 0 s.columns)))
          ]
            where
              column_mark_in : (k : ℕ) → k < s.columns → not (eqb (get_or q.column_round k 0) never) ≡ column_reached s h c y s.rows k
              column_mark_in k p = elim (columns_done.values k p) [
                | inl low ↦ not_from_false _ (ne_eqb _ _ (omega (arith, round.below)))
                    ∙ sym (columns_within s h c y s.rows (settled s h c y t.some_columns inside) n k
                    (columns_done.known n k (omega arith) p ∙ le-leb _ n (omega arith)))
                | inr off ↦ not_from_true _ (eq-eqb _ _ off)
                    ∙ sym (false_from_ne_true _ (λ u. both_ways _ (columns_done.known n k (omega arith) p ∙ lt-leb _ n (omega (arith, round.below)))
                    (columns_within s h c y n still s.rows k u)))
              ]

          pub no_way_found : Stuck s h c y (with_rows q rr rp)
          no_way_found = record {
            long_rows = rows_done.long;
            long_columns = columns_done.long;
            left = left_none;
            rows = row_marks;
            columns = column_marks;
          }

-- the lists once a column has a step more
pub reaches_column : (rows columns columns' : List (Option Step)) (j : ℕ) (step : Step) → columns' ≡ set columns j (Some step) →
    lists rows columns' ≡ reaches (lists rows columns) step.round step.from j
reaches_column rows columns columns' j step is =
    ap (lists rows) is
    ∙ ap (λ (l : List ℕ). with_columns l (parents (set columns j (Some step)))) (rounds_set columns j (Some step))
    ∙ ap (λ (l : List ℕ). with_columns (set (rounds columns) j step.round) l) (parents_set columns j (Some step))
  where
    with_columns : List ℕ → List ℕ → Lists
    with_columns first second = record {
      row_round = rounds rows;
      row_parent = parents rows;
      column_round = first;
      column_parent = second;
    }

-- a search that ends with a way
pub searched_way : {s : Survey} {h : Pattern} {c : ℕ} {y : ℕ → ℕ} {n : ℕ} {rows columns : List (Option Step)} {q : Lists} →
    lists rows columns ≡ q → Leads s h c y n q → Searched s h c y (record { level = Some n; rows = rows; columns = columns })
searched_way {s} {h} {c} {y} {n} {rows} {columns} is way = let leads = subst (λ (x : Lists). Leads s h c y n x) (sym is) way in record {
  long_rows = length-rounds rows ∙ leads.long_rows;
  long_columns = length-rounds columns ∙ leads.long_columns;
  found = sym leads.left;
  level = λ m e. sym (some_is e) ∙ leads.level;
  trail = λ m e. subst (λ i. Trail s h c y (parents rows) (parents columns) i (c % s.columns)) (some_is e) leads.trail;
  rows = λ e. absurd (none_of e);
  columns = λ e. absurd (none_of e);
}
  where
    some_is : {m k : ℕ} → Some m ≡ Some k → m ≡ k
    some_is e = cc

    none_of : {m : ℕ} → Some m ≡ None → ⊥
    none_of e = cc

-- a search that ends with none
pub searched_none : {s : Survey} {h : Pattern} {c : ℕ} {y : ℕ → ℕ} {rows columns : List (Option Step)} →
    Stuck s h c y (lists rows columns) → Searched s h c y (record { level = None; rows = rows; columns = columns })
searched_none {s} {h} {c} {y} {rows} {columns} stuck = record {
  long_rows = length-rounds rows ∙ stuck.long_rows;
  long_columns = length-rounds columns ∙ stuck.long_columns;
  found = sym stuck.left;
  level = λ m e. absurd (none_of e);
  trail = λ m e. absurd (none_of e);
  rows = λ _ i l. some_known rows i (omega (arith, length-rounds rows, stuck.long_rows)) ∙ stuck.rows i l;
  columns = λ _ i l. some_known columns i (omega (arith, length-rounds columns, stuck.long_columns)) ∙ stuck.columns i l;
}
  where
    none_of : {m : ℕ} → None ≡ Some m → ⊥
    none_of e = cc
