-- What is found of a cell: other cell sums, the least cut, or that it is printed. Assumes nothing: these are definitions.
use Rattle.std.specs.Prelude.{◌≡◌, ℕ, ◌<◌, ◌≤◌, false, List, length, Some, Ok, Err, Result, slice_index, slice_index_or}
use Rattle.survey.specs.Page.{Survey, Pattern, hidden, need}
use Rattle.survey.specs.Model.{size}
use Rattle.survey.specs.Promise.{shown, barred, Audits}
use Rattle.survey.specs.declared.refusal.Refusal.{Refusal}
use Rattle.flow.specs.Raising.{short_of, Raises}
use Rattle.flow.specs.declared.raising.Flow.{Flow}
use Rattle.cut.specs.Least.{LeastCut}
use Rattle.cut.specs.declared.finding.Cut.{Cut}
use Rattle.cut.specs.declared.finding.Finding.{Finding}
use Rattle.cut.specs.declared.finding.Finding.TheVariants.{Shown, Barred, Printed}

-- the cell is printed and lacks something
abbrev pub Bare : Survey → Pattern → ℕ → Type 0
Bare s h c = (hidden h c ≡ false) × (0 < need s c)

-- nothing is lacking at the end of the run, and the sums as they stand are other sums that give the same page
pub record Shows (s : Survey) (h : Pattern) (c : ℕ) (sums falls rises witness sums' falls' rises' witness' : List ℕ) : Type 0 where
  pub flow : Flow
  pub raises : Raises s h c sums falls rises witness sums' falls' rises' witness' flow
  pub done : flow.lacking ≡ 0
  pub audits : c < size s → Audits s h c (shown (λ d. slice_index witness' d))

-- something is lacking still, and what is reached is the least cut, which bars the cell; past the table nothing is marked
pub record Bars (s : Survey) (h : Pattern) (c : ℕ) (sums falls rises witness sums' falls' rises' witness' : List ℕ) (cut : Cut) : Type 0 where
  pub flow : Flow
  pub raises : Raises s h c sums falls rises witness sums' falls' rises' witness' flow
  pub lacks : 0 < flow.lacking
  pub rows : cut.rows ≡ flow.rows
  pub columns : cut.columns ≡ flow.columns
  pub audits : Audits s h c (barred cut.rows cut.columns)
  pub least : LeastCut s h c cut.rows cut.columns
  pub past_rows : (i : ℕ) → s.rows ≤ i → slice_index_or cut.rows i false ≡ false
  pub past_columns : (i : ℕ) → s.columns ≤ i → slice_index_or cut.columns i false ≡ false

-- the whole answer; where a cell is printed and lacks something, and where the call is refused, nothing has changed
abbrev pub Finds : Survey → Pattern → ℕ → (sums falls rises witness sums' falls' rises' witness' : List ℕ) → Result Finding Refusal → Type 0
Finds s h c sums falls rises witness sums' falls' rises' witness' (Ok Printed) =
    Bare s h c × (sums' ≡ sums) × (falls' ≡ falls) × (rises' ≡ rises) × (witness' ≡ witness)
Finds s h c sums falls rises witness sums' falls' rises' witness' (Ok Shown) =
    (Bare s h c → ⊥) × Shows s h c sums falls rises witness sums' falls' rises' witness'
Finds s h c sums falls rises witness sums' falls' rises' witness' (Ok (Barred cut)) =
    (Bare s h c → ⊥) × Bars s h c sums falls rises witness sums' falls' rises' witness' cut
Finds s h c sums falls rises witness sums' falls' rises' witness' (Err e) =
    (Bare s h c → ⊥) × (short_of (size s) (length sums) (length falls) (length rises) (length witness) (length h) ≡ Some e)
    × (sums' ≡ sums) × (falls' ≡ falls) × (rises' ≡ rises) × (witness' ≡ witness)
