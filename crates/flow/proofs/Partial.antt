-- What holds while the ways of raising a cell are taken one after another.
use Rattle.std.proofs.Common.{◌≡◌, ℕ, zero, suc, ◌+◌, ◌*◌, ◌/◌, ◌%◌, ◌<◌, ◌≤◌, true, false, List, get_or, replicate, refl, ◌∙◌, inl, inr, arith}
use Rattle.std.proofs.lemmas.List.{length-replicate}
use Rattle.std.proofs.lemmas.Bool.{both_ways, cases_Bool, false_from_ne_true}
use Rattle.survey.specs.Survey.{largest}
use Rattle.survey.specs.Page.{Survey, Pattern, hidden, span, true_sum, need, Witness}
use Rattle.survey.proofs.Spans.{span_cong, span_add}
use Rattle.survey.proofs.Cells.{pick_eqb, largest_le_sum}
use Rattle.flow.specs.Ways.{takes_part, spare, way_left, way_level, standing, raised_sums, carried, next_falls, next_rises}
use Rattle.flow.proofs.Tables.{at_cell, at_cell_here, at_cell_other, row_of_number, column_of_number}
use Rattle.flow.proofs.Parts.{part_hidden, part_own, part_many}
use Rattle.flow.proofs.Balance.{Raised}
use Rattle.flow.proofs.Reach.{way_on, carried_fits}
use Rattle.flow.proofs.Walk.{Balanced, fallen_still, fallen_at, risen_still, risen_le, whole_walk}

-- cell c is raised by e so far: with that, rows and columns have their sums; cells that take no part stand still, and
-- the others have not fallen below their largest workshop
pub record Partial (s : Survey) (h : Pattern) (c e : ℕ) (falls rises : List ℕ) : Type 0 where
  pub balanced : Balanced s.rows s.columns falls rises (at_cell (c / s.columns) e) (at_cell (c % s.columns) e) (λ k. 0)
  pub still_falls : (d : ℕ) → takes_part s h c d ≡ false → get_or falls d 0 ≡ 0
  pub still_rises : (d : ℕ) → takes_part s h c d ≡ false → get_or rises d 0 ≡ 0
  pub not_below : (d : ℕ) → takes_part s h c d ≡ true → largest d s.cells s.values + get_or falls d 0 ≤ true_sum s d + get_or rises d 0

-- each entry of a list of zeros is 0, and so is what lies past its end
pub get_or_zeros : (n i : ℕ) → get_or {A = ℕ} (replicate n 0) i 0 ≡ 0
get_or_zeros zero i = refl
get_or_zeros (suc n) zero = refl
get_or_zeros (suc n) (suc i) = get_or_zeros n i

-- nothing at a place
at_cell_none : (d i : ℕ) → at_cell d 0 i ≡ 0
at_cell_none d i = omega (arith, pick_eqb i d 0 0)

-- at the start nothing fell and nothing rose
pub partial_start : (s : Survey) (h : Pattern) (c : ℕ) → Partial s h c 0 (replicate (s.rows * s.columns) 0) (replicate (s.rows * s.columns) 0)
partial_start s h c = record {
  balanced = record {
    long_falls = length-replicate _ 0;
    long_rises = length-replicate _ 0;
    rows = λ r l. omega (arith, at_cell_none (c / s.columns) r);
    columns = λ k l. omega (arith, at_cell_none (c % s.columns) k);
  };
  still_falls = λ d f. get_or_zeros _ d;
  still_rises = λ d f. get_or_zeros _ d;
  not_below = λ d t. omega (arith, get_or_zeros (s.rows * s.columns) d, largest_le_sum d s.cells s.values);
}

module _ (s : Survey) (h : Pattern) (c e : ℕ) (falls rises : List ℕ) (part : Partial s h c e falls rises) (some : 0 < s.columns) where
  -- the sums as they stand
  abbrev now_sums : ℕ → ℕ
  now_sums = standing s falls rises

  -- a cell that takes part does not fall below its largest workshop
  next_not_below : (l : ℕ) → way_left s h c now_sums ≡ true → (d : ℕ) → takes_part s h c d ≡ true →
      largest d s.cells s.values + get_or (next_falls s h c now_sums l falls) d 0 ≤ true_sum s d + get_or (next_rises s h c now_sums l rises) d 0
  unfolding next_falls next_rises
  next_not_below l w d t =
      let n = way_level s h c now_sums in
      let on = way_on s h c now_sums some w in
      let x = carried s h c now_sums l in
      let up = risen_le s h c now_sums x n (c % s.columns) rises d part.balanced.long_rises on in
      let low = part.not_below d t in
      elim (fallen_at s h c now_sums x n (c % s.columns) falls d part.balanced.long_falls on (carried_fits s h c now_sums l)) [
        | inl same ↦ omega arith
        | inr fell ↦ unfold spare standing in omega arith
      ]

  -- the next way keeps all this, with what it carries
  pub partial_next : (l : ℕ) → way_left s h c now_sums ≡ true →
      Partial s h c (e + carried s h c now_sums l) (next_falls s h c now_sums l falls) (next_rises s h c now_sums l rises)
  unfolding next_falls next_rises
  partial_next l w =
      let n = way_level s h c now_sums in
      let on = way_on s h c now_sums some w in
      let x = carried s h c now_sums l in
      record {
        balanced = whole_walk s h c now_sums x e n falls rises on part.balanced;
        still_falls = λ d f. fallen_still s h c now_sums x n (c % s.columns) falls d part.balanced.long_falls on f ∙ part.still_falls d f;
        still_rises = λ d f. risen_still s h c now_sums x n (c % s.columns) rises d part.balanced.long_rises on f ∙ part.still_rises d f;
        not_below = next_not_below l w;
      }

  -- what stands at a cell, without subtraction
  pub standing_sum : (d : ℕ) → now_sums d + get_or falls d 0 ≡ true_sum s d + get_or rises d 0
  unfolding standing
  standing_sum d = elim (cases_Bool (takes_part s h c d)) [
    | inl t ↦ omega (arith, part.not_below d t)
    | inr f ↦ omega (arith, part.still_falls d f)
  ]

  -- what stands at a cell, with cell c raised
  raised_sum : (d : ℕ) → raised_sums s c e falls rises d + get_or falls d 0 ≡ true_sum s d + get_or rises d 0 + at_cell c e d
  unfolding raised_sums
  raised_sum d = omega (arith, standing_sum d)

  -- over some cells: what stands and what fell is what there was, what rose, and what cell c is raised by
  raised_span : (place : ℕ → ℕ) (n : ℕ) →
      span (λ i. raised_sums s c e falls rises (place i)) n + span (λ i. get_or falls (place i) 0) n
      ≡ span (λ i. true_sum s (place i)) n + span (λ i. get_or rises (place i) 0) n + span (λ i. at_cell c e (place i)) n
  raised_span place n =
      omega (
        arith,
        span_add (λ i. raised_sums s c e falls rises (place i)) (λ i. get_or falls (place i) 0) n,
        span_cong (λ i. raised_sums s c e falls rises (place i) + get_or falls (place i) 0)
            (λ i. true_sum s (place i) + get_or rises (place i) 0 + at_cell c e (place i)) n (λ i l. raised_sum (place i)),
        span_add (λ i. true_sum s (place i) + get_or rises (place i) 0) (λ i. at_cell c e (place i)) n,
        span_add (λ i. true_sum s (place i)) (λ i. get_or rises (place i) 0) n,
      )

  module _ (inside : c < s.rows * s.columns) where
    -- the sums as they stand raise cell c
    pub partial_raised : Raised s h c e (raised_sums s c e falls rises)
    partial_raised = record {
      by_row = λ r l. omega (arith, raised_span (λ k. r * s.columns + k) s.columns, part.balanced.rows r l, row_of_number s.columns c e r some);
      by_column = λ k l. omega (arith, raised_span (λ r. r * s.columns + k) s.rows, part.balanced.columns k l, column_of_number s.rows s.columns c e k some inside l);
      higher = omega (arith, raised_sum c, at_cell_here c e c refl, part.still_falls c (part_own s h c c refl));
      still = λ d off f. omega (arith, raised_sum d, at_cell_other c e d off, part.still_falls d f, part.still_rises d f);
      not_below = λ d t. omega (arith, raised_sum d, part.not_below d t);
    }

-- where a hidden cell is raised by what it lacks, the sums as they stand are a witness
pub partial_witness : (s : Survey) (h : Pattern) (c : ℕ) (falls rises : List ℕ) → Partial s h c (need s c) falls rises →
    0 < s.columns → c < s.rows * s.columns → hidden h c ≡ true →
    (w : Witness s h c) × ((d : ℕ) → w.sums d ≡ raised_sums s c (need s c) falls rises d)
partial_witness s h c falls rises part some inside hid = (
  record {
    sums = raised_sums s c (need s c) falls rises;
    by_row = raised.by_row;
    by_column = raised.by_column;
    printed = λ d f. raised.still d (λ same. both_ways _ f (rw same hid))
        (false_from_ne_true _ (λ t. both_ways _ f (part_hidden s h c d t)));
    higher = raised.higher;
    not_below = λ d off. elim (cases_Bool (takes_part s h c d)) [
      | inl t ↦ raised.not_below d t
      | inr f ↦ omega (arith, raised.still d off f, largest_le_sum d s.cells s.values)
    ];
    alone = λ d off few. raised.still d off (false_from_ne_true _ (λ t. omega (arith, part_many s h c d t)));
  },
  λ d. refl,
)
  where
    raised : Raised s h c (need s c) (raised_sums s c (need s c) falls rises)
    raised = partial_raised s h c (need s c) falls rises part some inside
