-- What is known of a cell, how it changes with one workshop more, and what the cell lacks. Assumes nothing: these are definitions.
use Rattle.std.specs.Prelude.{ℕ, ◌+◌, ◌-◌, min, max, List}
use Rattle.survey.specs.Survey.{sum_at, largest, second, many, open_above}
use Rattle.sensitivity.specs.declared.profile.Profile.{Profile}

-- the profile of cell k
abbrev pub profile_of : List ℕ → List ℕ → ℕ → Profile
profile_of cells values k = record {
  workshops = many k cells;
  sum = sum_at k cells values;
  largest = largest k cells values;
  second = second k cells values;
}

-- the profile with one workshop more: where that is the largest, the largest before is the second
abbrev pub joined : Profile → ℕ → Profile
joined p v = record {
  workshops = p.workshops + 1;
  sum = p.sum + v;
  largest = max p.largest v;
  second = max (min v p.largest) p.second;
}

-- what a cell with this profile lacks where the percentage is p
abbrev pub lack_of : ℕ → Profile → ℕ
lack_of p x = open_above p x.largest - (x.sum - (x.largest + x.second))

-- the profile of a cell with no workshop
abbrev pub no_profile : Profile
no_profile = record { workshops = 0; sum = 0; largest = 0; second = 0 }
