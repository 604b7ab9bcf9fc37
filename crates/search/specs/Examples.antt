-- Five small surveys at 15 per cent, worked by hand: what each cell lacks, and the search's outcome. Assumes nothing.
use Rattle.std.specs.Prelude.{◌≡◌, ℕ, false, List, [], ◌∷◌, map}
use Rattle.std.specs.List.{range_with_len}
use Rattle.survey.specs.Page.{Survey, need}
use Rattle.survey.specs.Promise.Outcome.{page, cannot}
use Rattle.survey.specs.Model.{size}
use Rattle.search.specs.Search.{Searched}

-- one workshop of 100 in cell 0, and two of 30 in each other cell
abbrev pub one_lone : Survey
one_lone = record {
  rows = 2;
  columns = 2;
  percent = 15;
  cells = 0 ∷ 1 ∷ 1 ∷ 2 ∷ 2 ∷ 3 ∷ 3 ∷ [];
  values = 100 ∷ 30 ∷ 30 ∷ 30 ∷ 30 ∷ 30 ∷ 30 ∷ [];
}

-- three workshops of 10 in each cell
abbrev pub all_threes : Survey
all_threes = record {
  rows = 2;
  columns = 2;
  percent = 15;
  cells = 0 ∷ 0 ∷ 0 ∷ 1 ∷ 1 ∷ 1 ∷ 2 ∷ 2 ∷ 2 ∷ 3 ∷ 3 ∷ 3 ∷ [];
  values = 10 ∷ 10 ∷ 10 ∷ 10 ∷ 10 ∷ 10 ∷ 10 ∷ 10 ∷ 10 ∷ 10 ∷ 10 ∷ 10 ∷ [];
}

-- one row: one workshop of 100 in cell 0, and two of 30 in cell 1
abbrev pub one_row : Survey
one_row = record { rows = 1; columns = 2; percent = 15; cells = 0 ∷ 1 ∷ 1 ∷ []; values = 100 ∷ 30 ∷ 30 ∷ [] }

-- one workshop of 100 in cell 0 and one of 30 in the cell across, and two of 30 in each other cell
abbrev pub two_lone : Survey
two_lone = record {
  rows = 2;
  columns = 2;
  percent = 15;
  cells = 0 ∷ 1 ∷ 1 ∷ 2 ∷ 2 ∷ 3 ∷ [];
  values = 100 ∷ 30 ∷ 30 ∷ 30 ∷ 30 ∷ 30 ∷ [];
}

-- no workshop
abbrev pub nobody : Survey
nobody = record { rows = 2; columns = 2; percent = 15; cells = []; values = [] }

-- what each cell of the table lacks
abbrev pub each_lacks : Survey → List ℕ
each_lacks s = map (λ c. need s c) (range_with_len 0 (size s))

-- the five: cell 0 could be raised in the first, but cell 1 not; where nothing is lacking nothing is blank
unfoldable pub WorkedExamples : Type 0
WorkedExamples =
    ((each_lacks one_lone ≡ 15 ∷ 5 ∷ 5 ∷ 5 ∷ []) × Searched one_lone (cannot 1))
    × ((each_lacks all_threes ≡ 0 ∷ 0 ∷ 0 ∷ 0 ∷ []) × Searched all_threes (page (false ∷ false ∷ false ∷ false ∷ [])))
    × ((each_lacks one_row ≡ 15 ∷ 5 ∷ []) × Searched one_row (cannot 0))
    × ((each_lacks two_lone ≡ 15 ∷ 5 ∷ 5 ∷ 5 ∷ []) × Searched two_lone (cannot 0))
    × ((each_lacks nobody ≡ 0 ∷ 0 ∷ 0 ∷ 0 ∷ []) × Searched nobody (page (false ∷ false ∷ false ∷ false ∷ [])))
