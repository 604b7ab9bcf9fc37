-- What a search for a way leaves: in which round each row and column was reached, from where, and how a way is found
-- back by that. Assumes nothing: these are definitions.
use Rattle.std.specs.Prelude.{◌≡◌, ℕ, zero, suc, ◌%◌, ◌<◌, ◌≤◌, Bool, true, false, ◌&&◌, ◌≢◌, ◌⊎◌, List, map, length, Some, None, Option, is_some, slice_index, slice_index_or}
use Rattle.survey.specs.Survey.{pick}
use Rattle.survey.specs.Page.{Survey, Pattern}
use Rattle.flow.specs.Ways.{any_below, least, way_left, way_level, parent_row, column_before, reached_rows, reached_columns}
use Rattle.flow.specs.declared.search.Search.{Search}
use Rattle.flow.specs.declared.step.Step.{Step}

-- the round of what is not reached: later than any
abbrev pub never : ℕ
never = 64

-- the round in which a row or column was reached
abbrev pub round_of : Option Step → ℕ
round_of None = never
round_of (Some step) = step.round

-- where it was reached from; 0 where it was not reached
abbrev pub parent_of : Option Step → ℕ
parent_of None = 0
parent_of (Some step) = step.from

-- the rounds of all of them
abbrev pub rounds : List (Option Step) → List ℕ
rounds steps = map round_of steps

-- where each of them was reached from
abbrev pub parents : List (Option Step) → List ℕ
parents steps = map parent_of steps

-- a round of a search: from those numbers a below I that are live, each x below J that has not been reached, and for which
-- some test a x holds, is reached in round v, from the first such a
pub record Spread (test : ℕ → ℕ → Bool) (live : ℕ → Bool) (I J v : ℕ) (rounds₀ parents₀ rounds parents : List ℕ) : Type 0 where
  pub long : length rounds ≡ length rounds₀
  pub long_parents : length parents ≡ length parents₀
  pub kept : (x : ℕ) → (slice_index rounds₀ x ≢ never) ⊎ (J ≤ x) →
      (slice_index rounds x ≡ slice_index rounds₀ x) × (slice_index parents x ≡ slice_index parents₀ x)
  pub reached : (x : ℕ) → x < J → slice_index rounds₀ x ≡ never →
      slice_index rounds x ≡ pick (any_below (λ a. live a && test a x) I) v never
  pub parent : (x : ℕ) → x < J → slice_index rounds₀ x ≡ never → any_below (λ a. live a && test a x) I ≡ true →
      slice_index parents x ≡ least (λ a. live a && test a x) I

-- the parents lead back along the way that comes to column k after n rises
abbrev pub Trail : Survey → Pattern → ℕ → (ℕ → ℕ) → (row_parents column_parents : List ℕ) → ℕ → ℕ → Type 0
Trail s h c y row_parents column_parents zero k = slice_index column_parents k ≡ parent_row s h c y zero k
Trail s h c y row_parents column_parents (suc n) k =
    (slice_index column_parents k ≡ parent_row s h c y (suc n) k)
    × (slice_index row_parents (parent_row s h c y (suc n) k) ≡ column_before s h c y n k)
    × Trail s h c y row_parents column_parents n (column_before s h c y n k)

-- a search where the cells stand at y: whether a way is left, and then the way back; else all that is reached
pub record Searched (s : Survey) (h : Pattern) (c : ℕ) (y : ℕ → ℕ) (q : Search) : Type 0 where
  pub long_rows : length q.rows ≡ 40
  pub long_columns : length q.columns ≡ 40
  pub found : is_some q.level ≡ way_left s h c y
  pub level : (n : ℕ) → q.level ≡ Some n → n ≡ way_level s h c y
  pub trail : (n : ℕ) → q.level ≡ Some n → Trail s h c y (parents q.rows) (parents q.columns) n (c % s.columns)
  pub rows : q.level ≡ None → (i : ℕ) → i < 40 → is_some (slice_index_or q.rows i None) ≡ slice_index_or (reached_rows s h c y) i false
  pub columns : q.level ≡ None → (i : ℕ) → i < 40 → is_some (slice_index_or q.columns i None) ≡ slice_index_or (reached_columns s h c y) i false
