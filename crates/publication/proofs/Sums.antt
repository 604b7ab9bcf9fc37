-- The sums of cells are small, and rows and columns are added up cell by cell.
use Rattle.std.proofs.Common.{◌≡◌, ℕ, Option, ◌+◌, ◌*◌, ◌<◌, ◌≤◌, List, map, length, sum_by, sym, ap, ◌∙◌, arith}
use Rattle.std.proofs.lemmas.Iterator.{YieldsList, items_from_drains}
use Rattle.std.proofs.lemmas.Iterator.Adapters.{at_most_from_yields_List}
use Rattle.std.proofs.lemmas.List.{map-id}
use Rattle.std.proofs.lemmas.List.FromFn.{length-map-range_with_len}
use Rattle.std.specs.Iterator.{Drains, HoldsAlong}
use Rattle.std.specs.List.{range_with_len}
use Rattle.survey.specs.Model.{model}
use Rattle.survey.specs.Page.{span, true_sum}
use Rattle.survey.specs.Survey.{row_sum, column_sum}
use Rattle.survey.specs.declared.checked.Survey.{Survey}
use Rattle.sensitivity.specs.Profiles.{profile_of}
use Rattle.sensitivity.specs.declared.profile.Profile.{Profile}
use Rattle.survey.proofs.Facts.{model_sound, cell_small}
use Rattle.survey.proofs.Totals.{row_is_span, column_is_span}
use Rattle.cut.proofs.Ranges.{by_place, at_most}

-- a profile's sum is the sum of its cell
pub profile_sum : (s : Survey) (p : Profile) (d : ℕ) → p ≡ profile_of (model s).cells (model s).values d → p.sum ≡ true_sum (model s) d
profile_sum s p d is = ap (λ (x : Profile). x.sum) is

-- the sums of cells are small
pub cells_small : (s : Survey) (ds : List ℕ) → sum_by (true_sum (model s)) ds ≤ 20000000000000 * length ds
cells_small s ds = at_most (true_sum (model s)) 20000000000000 ds (cell_small s)

-- an iterator that gives a line's cells, by their places on it
module _ {S : Type 0} {steps : S → Option ℕ → S → Type 0} {line : S} (place : ℕ → ℕ) (n : ℕ) where
  -- gives forty at most
  pub line_few : n ≤ 40 → YieldsList steps (λ x. x) line (map place (range_with_len 0 n)) → HoldsAlong steps line (λ ds. length ds ≤ 40)
  line_few few gives = (at_most_from_yields_List gives (omega (arith, length-map-range_with_len place 0 n))).runs

  -- and their sum is the line's
  pub line_sum : (f : ℕ → ℕ) (ds : List ℕ) → Drains steps line ds → YieldsList steps (λ x. x) line (map place (range_with_len 0 n)) →
      sum_by f ds ≡ span (λ k. f (place k)) n
  line_sum f ds all gives = ap (sum_by f) (sym (map-id ds) ∙ items_from_drains ds (all.1.0, all.1.1, λ _. (all.0, all.1.2)) gives) ∙ by_place f place n

module _ (s : Survey) where
  -- all cells of a row
  pub row_added : (r : ℕ) → span (λ k. true_sum (model s) (r * s.columns + k)) s.columns ≡ row_sum (model s).columns (model s).cells (model s).values r
  row_added r = sym (row_is_span s.columns (model s).cells (model s).values r s.some_columns)

  -- all cells of a column
  pub column_added : (k : ℕ) → k < s.columns → span (λ r. true_sum (model s) (r * s.columns + k)) s.rows ≡ column_sum (model s).columns (model s).cells (model s).values k
  column_added k inside = sym (column_is_span s.rows s.columns (model s).cells (model s).values k inside (model_sound s).inside)
