-- The five worked surveys.
use Rattle.std.proofs.Common.{◌≡◌, ℕ, zero, suc, ◌+◌, ◌*◌, ◌<◌, ◌≤◌, true, false, ◌≢◌, [], ◌∷◌, get_or, sym, refl, ◌∙◌, subst, inr, zero-add, arith, lit<, lit≤}
use Rattle.std.specs.List.{range_with_len}
use Rattle.std.proofs.lemmas.Bool.{both_ways}
use Rattle.std.proofs.lemmas.List.FromFn.{length-range_with_len, get_or-range_with_len}
use Rattle.survey.specs.Survey.{sum_at, largest, second, many, lacks}
use Rattle.survey.specs.Page.{Survey, Pattern, Witness, Protected, need, true_sum, span, hidden}
use Rattle.survey.specs.Promise.{all_hidden}
use Rattle.survey.proofs.Cells.{largest_le_sum}
use Rattle.survey.specs.Model.{size}
use Rattle.search.specs.Search.{InOrder, among, blanked, Finds, Refuses, Searched}
use Rattle.search.specs.Search.PrintedBack.{done}
use Rattle.search.specs.Examples.{one_lone, all_threes, one_row, two_lone, nobody, WorkedExamples}

-- other sums that raise cell 0 of the first survey
abbrev raised : ℕ → ℕ
raised d = get_or (115 ∷ 45 ∷ 45 ∷ 75 ∷ []) d (true_sum one_lone d)

-- no cell of the table is printed where all are blank, and past it they are the true sums
raised_printed : (d : ℕ) → hidden (all_hidden 4) d ≡ false → raised d ≡ true_sum one_lone d
unfolding all_hidden
raised_printed zero e = absurd (both_ways true e refl)
raised_printed (suc zero) e = absurd (both_ways true e refl)
raised_printed (suc (suc zero)) e = absurd (both_ways true e refl)
raised_printed (suc (suc (suc zero))) e = absurd (both_ways true e refl)
raised_printed (suc (suc (suc (suc d)))) e = refl

-- no cell falls below its largest workshop
raised_not_below : (d : ℕ) → d ≢ 0 → largest d one_lone.cells one_lone.values ≤ raised d
unfolding largest
raised_not_below zero ne = absurd (ne refl)
raised_not_below (suc zero) ne = lit≤ tt
raised_not_below (suc (suc zero)) ne = lit≤ tt
raised_not_below (suc (suc (suc zero))) ne = lit≤ tt
raised_not_below (suc (suc (suc (suc d)))) ne = largest_le_sum (suc (suc (suc (suc d)))) one_lone.cells one_lone.values

-- only cell 0 has one workshop
raised_alone : (d : ℕ) → d ≢ 0 → many d one_lone.cells ≤ 1 → raised d ≡ true_sum one_lone d
unfolding many
raised_alone zero ne few = absurd (ne refl)
raised_alone (suc zero) ne few = absurd (omega arith)
raised_alone (suc (suc zero)) ne few = absurd (omega arith)
raised_alone (suc (suc (suc zero))) ne few = absurd (omega arith)
raised_alone (suc (suc (suc (suc d)))) ne few = refl

-- the rows keep their sums
raised_rows : (r : ℕ) → r < 2 → span (λ k. raised (r * 2 + k)) 2 ≡ span (λ k. true_sum one_lone (r * 2 + k)) 2
unfolding span sum_at
raised_rows zero l = refl
raised_rows (suc zero) l = refl
raised_rows (suc (suc r)) l = absurd (omega arith)

-- and the columns
raised_columns : (k : ℕ) → k < 2 → span (λ r. raised (r * 2 + k)) 2 ≡ span (λ r. true_sum one_lone (r * 2 + k)) 2
unfolding span sum_at
raised_columns zero l = refl
raised_columns (suc zero) l = refl
raised_columns (suc (suc k)) l = absurd (omega arith)

-- cell 0 of the first survey has a witness
raised_witness : Witness one_lone (all_hidden 4) 0
unfolding lacks sum_at largest second
raised_witness = record {
  sums = raised;
  by_row = raised_rows;
  by_column = raised_columns;
  printed = raised_printed;
  higher = lit≤ tt;
  not_below = raised_not_below;
  alone = raised_alone;
}

-- cell 1 has none: cell 0 has one workshop and keeps its sum, and so does their row
one_lone_refused : Refuses one_lone 1
unfolding lacks sum_at largest second span many
one_lone_refused = record {
  inside = lit< tt;
  lacking = lit< tt;
  none = λ w. omega (arith, w.higher, w.by_row 0 (lit< tt), w.alone 0 (omega arith) (lit≤ tt));
  first = λ d l lacking. subst (λ x. Witness one_lone (all_hidden 4) x) (omega arith) raised_witness;
}

-- in one row each cell is its column
one_row_refused : Refuses one_row 0
unfolding lacks sum_at largest second span
one_row_refused = record {
  inside = lit< tt;
  lacking = lit< tt;
  none = λ w. omega (arith, w.higher, w.by_column 0 (lit< tt));
  first = λ d l lacking. absurd (omega arith);
}

-- the cell across has one workshop and keeps its sum, so each other cell does
two_lone_refused : Refuses two_lone 0
unfolding lacks sum_at largest second span many
two_lone_refused = record {
  inside = lit< tt;
  lacking = lit< tt;
  none = λ w. omega (arith, w.higher, w.by_row 0 (lit< tt), w.by_column 1 (lit< tt), w.alone 3 (omega arith) (lit≤ tt));
  first = λ d l lacking. absurd (omega arith);
}

-- where nothing is lacking and all sums are equal
module _ (s : Survey) (nothing : (c : ℕ) → c < size s → need s c ≡ 0) (level : (c : ℕ) → c < size s → true_sum s c ≡ true_sum s 0) where
  -- the cells by number
  by_number : (i d : ℕ) → i < size s → get_or (range_with_len 0 (size s)) i d ≡ i
  by_number i d l = get_or-range_with_len 0 (size s) i d l ∙ zero-add i

  -- are in order
  level_in_order : InOrder s (range_with_len 0 (size s))
  level_in_order = record {
    only = λ c (k, l, at).
        let inside : k < size s = omega (arith, length-range_with_len 0 (size s)) in
        let is : k ≡ c = sym (by_number k 0 inside) ∙ at 0 in
        let m : c < size s = omega arith in
        (m, nothing c m);
    all = λ c l e. (c, omega (arith, length-range_with_len 0 (size s)), λ d. by_number c d l);
    rising = λ i l.
        let more : i + 1 < size s = omega (arith, length-range_with_len 0 (size s)) in
        let inside : i < size s = omega arith in
        rw (by_number i 0 inside, by_number (i + 1) 0 more) (inr (level i inside ∙ sym (level (i + 1) more), omega arith));
  }

  -- whatever the pattern, it protects
  nothing_protects : (h : Pattern) → Protected s h
  unfolding Protected
  nothing_protects h c l lacking = absurd (omega (arith, nothing c l))

  -- and no cell is blank
  level_finds : Finds s (blanked s [])
  level_finds = record {
    can = nothing_protects (all_hidden (size s));
    order = range_with_len 0 (size s);
    count = 0;
    in_order = level_in_order;
    least_enough = record { within = omega arith; enough = nothing_protects (blanked s []); least = λ j l. absurd (omega arith) };
    printed_back = done;
  }

-- what holds of the cells 0, 1, 2 and 3 holds of each of a table of four
each_of_four : (P : ℕ → Type 0) → P 0 → P 1 → P 2 → P 3 → (c : ℕ) → c < 4 → P c
each_of_four P p q r s zero l = p
each_of_four P p q r s (suc zero) l = q
each_of_four P p q r s (suc (suc zero)) l = r
each_of_four P p q r s (suc (suc (suc zero))) l = s
each_of_four P p q r s (suc (suc (suc (suc c)))) l = absurd (omega arith)

-- no cell of three equal workshops lacks anything
all_threes_found : Finds all_threes (false ∷ false ∷ false ∷ false ∷ [])
unfolding blanked among lacks sum_at largest second
all_threes_found =
    level_finds all_threes (each_of_four (λ c. need all_threes c ≡ 0) refl refl refl refl)
    (each_of_four (λ c. true_sum all_threes c ≡ 30) refl refl refl refl)

-- nor an empty one
nobody_found : Finds nobody (false ∷ false ∷ false ∷ false ∷ [])
unfolding blanked among lacks sum_at largest second
nobody_found =
    level_finds nobody (each_of_four (λ c. need nobody c ≡ 0) refl refl refl refl)
    (each_of_four (λ c. true_sum nobody c ≡ 0) refl refl refl refl)

-- the five
pub worked_examples : WorkedExamples
unfolding WorkedExamples Searched lacks sum_at largest second
worked_examples = (
  (refl, one_lone_refused),
  (refl, all_threes_found),
  (refl, one_row_refused),
  (refl, two_lone_refused),
  (refl, nobody_found),
)
