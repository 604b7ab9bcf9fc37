-- The cells that lack nothing, with their sums. Assumes nothing: these are definitions.
use Rattle.std.specs.Prelude.{ℕ, List, filter, map, ◌==◌}
use Rattle.std.specs.List.{range_with_len}
use Rattle.survey.specs.Model.{size}
use Rattle.survey.specs.Page.{Survey, need, true_sum}
use Rattle.search.specs.declared.ranking.Ranked.{Ranked}

-- the cells of a list in which each stands with its sum
abbrev pub cells_of : List Ranked → List ℕ
cells_of ps = map (λ (p : Ranked). p.cell) ps

-- a cell with its sum
abbrev pub with_sum : Survey → ℕ → Ranked
with_sum s c = record { sum = true_sum s c; cell = c }

-- the cells of the table that lack nothing, by number, each with its sum
abbrev pub ranked_cells : Survey → List Ranked
ranked_cells s = map (with_sum s) (filter (λ c. need s c == 0) (range_with_len 0 (size s)))
