-- The parts of an input that holds a survey and then a pattern. Assumes nothing: these are definitions.
use Rattle.std.specs.Prelude.{ℕ, ◌+◌, ◌*◌, List, length, take, nat_le}
use Rattle.survey.specs.Format.{announced}
use Rattle.survey.specs.Survey.{pick}

-- where the survey ends: after its head and six bytes for each workshop; after all bytes where they are fewer, as fewer than
-- the head's five always are
abbrev pub survey_end : List ℕ → ℕ
survey_end bytes = pick (nat_le (5 + 6 * announced bytes) (length bytes)) (5 + 6 * announced bytes) (length bytes)

-- the survey's part of such an input
abbrev pub survey_bytes : List ℕ → List ℕ
survey_bytes input = take (survey_end input) input
