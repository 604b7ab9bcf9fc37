-- What raising a cell promises: when it is refused, and what the lent memory and the marks hold at the end of the run.
-- Assumes nothing: these are definitions.
use Rattle.std.specs.Prelude.{◌≡◌, ℕ, ◌-◌, ◌<◌, false, ◌||◌, List, length, replicate, Some, None, Ok, Err, Option, Result, nat_lt, slice_index, slice_index_or}
use Rattle.survey.specs.Survey.{pick}
use Rattle.survey.specs.Page.{Survey, Pattern, true_sum, need}
use Rattle.survey.specs.Model.{size}
use Rattle.survey.specs.Lending.{Written}
use Rattle.survey.specs.declared.refusal.Refusal.{Refusal}
use Rattle.survey.specs.declared.refusal.Refusal.TheVariants.{Short}
use Rattle.survey.specs.declared.refusal.Lent.TheVariants as lent
use Rattle.flow.specs.Ways.{Run, standing, raised_sums, reached_rows, reached_columns}
use Rattle.flow.specs.declared.raising.Flow.{Flow}

-- what is too short for n cells, if anything, by the lengths of what is lent and of the pattern
abbrev pub short_of : (n sums falls rises witness pattern : ℕ) → Option Refusal
short_of n sums falls rises witness pattern =
    pick (nat_lt sums n) (Some (Short lent.Sums))
    (pick (nat_lt falls n || (nat_lt rises n || nat_lt witness n)) (Some (Short lent.Flow))
    (pick (nat_lt pattern n) (Some (Short lent.Pattern)) None))

-- the marks at the end of a run, where the cells stand at y: none where nothing is lacking, else what is reached
pub record Marked (s : Survey) (h : Pattern) (c : ℕ) (y : ℕ → ℕ) (flow : Flow) : Type 0 where
  pub long_rows : length flow.rows ≡ 40
  pub long_columns : length flow.columns ≡ 40
  pub no_row : flow.lacking ≡ 0 → (i : ℕ) → i < 40 → slice_index_or flow.rows i false ≡ false
  pub no_column : flow.lacking ≡ 0 → (i : ℕ) → i < 40 → slice_index_or flow.columns i false ≡ false
  pub rows : 0 < flow.lacking → (i : ℕ) → i < 40 → slice_index_or flow.rows i false ≡ slice_index_or (reached_rows s h c y) i false
  pub columns : 0 < flow.lacking → (i : ℕ) → i < 40 → slice_index_or flow.columns i false ≡ slice_index_or (reached_columns s h c y) i false

-- a whole run from what the cell lacks: what fell, what rose, and what each piece of lent memory holds after it
pub record Raises (s : Survey) (h : Pattern) (c : ℕ) (sums falls rises witness sums' falls' rises' witness' : List ℕ) (flow : Flow) : Type 0 where
  pub fell : List ℕ
  pub rose : List ℕ
  pub run : Run s h c (need s c) (replicate (size s) 0) (replicate (size s) 0) flow.lacking fell rose
  pub wrote_sums : Written 0 (true_sum s) (size s) sums sums'
  pub wrote_falls : Written 0 (λ d. slice_index fell d) (size s) falls falls'
  pub wrote_rises : Written 0 (λ d. slice_index rose d) (size s) rises rises'
  pub wrote_witness : Written 0 (raised_sums s c (need s c - flow.lacking) fell rose) (size s) witness witness'
  pub marked : Marked s h c (standing s fell rose) flow

-- the whole answer: a run, or a refusal where something is too short, and then nothing has changed
abbrev pub Raising : Survey → Pattern → ℕ → (sums falls rises witness sums' falls' rises' witness' : List ℕ) → Result Flow Refusal → Type 0
Raising s h c sums falls rises witness sums' falls' rises' witness' (Ok flow) =
    (short_of (size s) (length sums) (length falls) (length rises) (length witness) (length h) ≡ None)
    × Raises s h c sums falls rises witness sums' falls' rises' witness' flow
Raising s h c sums falls rises witness sums' falls' rises' witness' (Err e) =
    (short_of (size s) (length sums) (length falls) (length rises) (length witness) (length h) ≡ Some e)
    × (sums' ≡ sums) × (falls' ≡ falls) × (rises' ≡ rises) × (witness' ≡ witness)
