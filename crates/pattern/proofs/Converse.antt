-- One workshop alone in a table of one blank cell: safe, since there is no other workshop, and not protected, since the
-- row sum is the cell sum and can't be higher.
use Rattle.std.proofs.Common.{ℕ, zero, suc, ◌<◌, true, [], ◌∷◌, get_or, refl, arith, lit<}
use Rattle.survey.specs.Survey.{sum_at, largest, second, lacks}
use Rattle.survey.specs.Page.{Survey, Pattern, Sound, Safe, Protected, Witness, span}
use Rattle.pattern.specs.Converse.{SafeUnprotected}

-- one cell, one workshop with turnover 100, and 15 per cent
abbrev lone : Survey
lone = record { rows = 1; columns = 1; percent = 15; cells = 0 ∷ []; values = 100 ∷ [] }

-- its cell is blank
abbrev blank : Pattern
blank = true ∷ []

-- the lone workshop lies in the table's cell
lies_inside : (i : ℕ) → i < 1 → get_or (0 ∷ []) i 0 < 1
lies_inside zero h = h
lies_inside (suc i) h = omega arith

-- the survey is in order
lone_sound : Sound lone
lone_sound = record { some_columns = lit< tt; each = refl; inside = lies_inside }

-- there is no other workshop
lone_safe : Safe lone blank
unfolding Safe
lone_safe a b la lb ne = absurd (omega arith)

-- the cell would have to be 115 and the row stays 100
no_witness : Witness lone blank 0 → ⊥
unfolding sum_at largest second lacks span
no_witness y = omega (arith, y.higher, y.by_row 0 (lit< tt))

-- the cell lacks 15
lone_unprotected : Protected lone blank → ⊥
unfolding Protected sum_at largest second lacks
lone_unprotected protects = no_witness (protects 0 (lit< tt) (lit< tt))

-- this page is safe and not protected
pub safe_unprotected : SafeUnprotected
unfolding SafeUnprotected
safe_unprotected = (lone, blank, lone_sound, lone_safe, lone_unprotected)
