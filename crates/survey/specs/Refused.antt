-- The number and the place of each refusal, and the line that tells of it. Assumes nothing: these are definitions.
use Rattle.std.specs.Prelude.{ℕ, List, ◌++◌, codes, decimal}
use Rattle.survey.specs.declared.refusal.Lent.{Lent}
use Rattle.survey.specs.declared.refusal.Lent.TheVariants as lent
use Rattle.survey.specs.declared.refusal.Refusal.{Refusal}
use Rattle.survey.specs.declared.refusal.Refusal.TheVariants.{Dimension, Percentage, TooMany, Length, Cell, Turnover, Pattern, Short, Unprotected, Memory}
use Rattle.survey.specs.declared.refusal.Side.{Side}
use Rattle.survey.specs.declared.refusal.Side.TheVariants.{Rows, Columns}

-- the number by which the list of refusals knows it
abbrev pub number_of : Refusal → ℕ
number_of (Dimension side) = 1
number_of Percentage = 2
number_of TooMany = 3
number_of (Length bytes) = 4
number_of (Cell workshop) = 5
number_of (Turnover workshop) = 6
number_of (Pattern place) = 7
number_of (Short memory) = 8
number_of (Unprotected cell) = 9
number_of Memory = 10

-- the byte of the head that holds a side
abbrev pub side_place : Side → ℕ
side_place Rows = 0
side_place Columns = 1

-- lent memory is counted: sums, flow, pattern
abbrev pub lent_place : Lent → ℕ
lent_place lent.Sums = 0
lent_place lent.Flow = 1
lent_place lent.Pattern = 2

-- where it was found: a byte of the head, a length, a workshop, a byte of the pattern, which memory, or a cell
abbrev pub place_of : Refusal → ℕ
place_of (Dimension side) = side_place side
place_of Percentage = 2
place_of TooMany = 3
place_of (Length bytes) = bytes
place_of (Cell workshop) = workshop
place_of (Turnover workshop) = workshop
place_of (Pattern place) = place
place_of (Short memory) = lent_place memory
place_of (Unprotected cell) = cell
place_of Memory = 0

-- the line that tells of it, as "refused 9 at 1"
abbrev pub told : Refusal → List ℕ
told e = codes "refused " ++ (decimal (number_of e) ++ (codes " at " ++ decimal (place_of e)))
