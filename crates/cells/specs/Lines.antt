-- The line that the program prints of a cell. Assumes nothing: these are definitions.
use Rattle.std.specs.Prelude.{ℕ, List, ◌∷◌, ◌++◌, decimal}
use Rattle.survey.specs.Page.{Survey, true_sum, need}
use Rattle.survey.specs.Survey.{largest, second, many}

-- how many workshops lie in cell c, their sum, the largest and the second largest turnover, and what the cell lacks, with a
-- space between
abbrev pub cell_line : Survey → ℕ → List ℕ
cell_line s c =
    decimal (many c s.cells)
    ++ (32 ∷ (decimal (true_sum s c)
    ++ (32 ∷ (decimal (largest c s.cells s.values)
    ++ (32 ∷ (decimal (second c s.cells s.values) ++ (32 ∷ decimal (need s c))))))))
