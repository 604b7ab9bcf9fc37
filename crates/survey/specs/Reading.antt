-- What reading gives: the head, and the survey. Assumes nothing: these are definitions.
use Rattle.std.specs.Prelude.{◌≡◌, ℕ, suc, ◌+◌, ◌*◌, ◌<◌, ◌≤◌, ◌⊎◌, List, length, Some, None, slice_index}
use Rattle.survey.specs.Format.{announced, cell_at, turnover_at, decoded, first_bad, verdict}
use Rattle.survey.specs.Model.{model}
use Rattle.survey.specs.declared.checked.Survey.{Survey}
use Rattle.survey.specs.declared.format.Head.{Head}
use Rattle.survey.specs.declared.refusal.Refusal.{Refusal}
use Rattle.survey.specs.declared.refusal.Refusal.TheVariants.{Memory}
use Rattle.survey.specs.declared.workshop.Workshop.{Workshop}

-- a head that is in order: it says what the bytes say, so that only a workshop can still be refused
pub record Headed (bytes : List ℕ) (h : Head) : Type 0 where
  pub rows : h.rows ≡ slice_index bytes 0
  pub columns : h.columns ≡ slice_index bytes 1
  pub percent : h.percent ≡ slice_index bytes 2
  pub workshops : h.workshops ≡ announced bytes
  pub some_rows : 0 < h.rows
  pub few_rows : h.rows ≤ 40
  pub some_columns : 0 < h.columns
  pub few_columns : h.columns ≤ 40
  pub some_percent : 0 < h.percent
  pub few_percent : h.percent ≤ 100
  pub few : h.workshops ≤ 20000
  pub whole : length bytes ≡ 5 + 6 * h.workshops

-- workshop i as its bytes say it
abbrev pub workshop_in : List ℕ → ℕ → Workshop
workshop_in bytes i = record { cell = cell_at bytes i; turnover = turnover_at bytes i }

-- workshop i is taken: it is the one in the bytes, and the refusal is up to those after it
pub record Taken (bytes : List ℕ) (cells i : ℕ) (w : Workshop) : Type 0 where
  pub same : w ≡ workshop_in bytes i
  pub inside : w.cell < cells
  pub in_range : w.turnover ≤ 1000000000
  pub rest : (more : ℕ) → first_bad bytes cells i (suc more) ≡ first_bad bytes cells (i + 1) more

-- the bytes are taken, and the survey is what they say
pub record Reads (bytes : List ℕ) (s : Survey) : Type 0 where
  pub taken : verdict bytes ≡ None
  pub survey : model s ≡ decoded bytes

-- the bytes are refused by the first number that applies; or they would be taken, and there is no memory
abbrev pub Refuses : List ℕ → Refusal → Type 0
Refuses bytes e = (verdict bytes ≡ Some e) ⊎ ((verdict bytes ≡ None) × (e ≡ Memory))
