-- One page, to the letter. Assumes nothing: this is a survey, a pattern and a statement.
use Rattle.std.specs.Prelude.{◌≡◌, true, false, [], ◌∷◌, ◌++◌, codes}
use Rattle.survey.specs.Page.{Survey, Pattern}
use Rattle.publication.specs.Audit.{barred, audit_line}
use Rattle.publication.specs.Text.{page_text}

-- three rows and three columns, one workshop in each cell
abbrev pub small_survey : Survey
small_survey = record {
  rows = 3;
  columns = 3;
  percent = 15;
  cells = 0 ∷ 1 ∷ 2 ∷ 3 ∷ 4 ∷ 5 ∷ 6 ∷ 7 ∷ 8 ∷ [];
  values = 100 ∷ 100 ∷ 70 ∷ 60 ∷ 120 ∷ 36 ∷ 220 ∷ 95 ∷ 59 ∷ [];
}

-- the cells 1, 2, 7 and 8 are blank
abbrev pub small_pattern : Pattern
small_pattern = false ∷ true ∷ true ∷ false ∷ false ∷ false ∷ false ∷ true ∷ true ∷ []

-- its page, and the line of an open cell with one row and one column, and with a row alone
unfoldable pub Example : Type 0
Example =
    (page_text small_survey small_pattern
    ≡ codes "100 - - 270" ++ (10 ∷ (codes "60 120 36 216" ++ (10 ∷ (codes "220 - - 374" ++ (10 ∷ (codes "380 315 165 860" ++ (10 ∷ []))))))))
    × (audit_line (barred 1 (true ∷ false ∷ []) (false ∷ false ∷ true ∷ [])) ≡ codes "open 1 rows 0 columns 2")
    × (audit_line (barred 12 (true ∷ true ∷ []) (false ∷ [])) ≡ codes "open 12 rows 0 1 columns")
