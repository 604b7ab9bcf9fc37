-- What an audit promises: of one cell, of the pattern, and of a refusal. Assumes nothing: these are definitions.
use Rattle.std.specs.Prelude.{◌≡◌, ℕ, ◌<◌, ◌≤◌, true, false, ◌⊎◌, length, Ok, Err, Result}
use Rattle.survey.specs.Model.{size}
use Rattle.survey.specs.Page.{Survey, Pattern, hidden, need, Witness}
use Rattle.survey.specs.declared.refusal.Lent.TheVariants as lent
use Rattle.survey.specs.declared.refusal.Refusal.{Refusal}
use Rattle.survey.specs.declared.refusal.Refusal.TheVariants.{Short, Memory}
use Rattle.cut.specs.Least.{LeastCut}
use Rattle.cut.specs.declared.finding.Finding.{Finding}
use Rattle.cut.specs.declared.finding.Finding.TheVariants.{Shown, Barred, Printed}
use Rattle.publication.specs.Audit.{Forty, Audited, answer}
use Rattle.publication.specs.declared.audited.Audit.{Audit}

-- what is found of one cell: it has a witness where it lacks something; or it lacks something and is printed; or it lacks
-- something, is blank and has no witness, as the least cut shows
unfoldable pub Judged : Survey → Pattern → ℕ → Finding → Type 0
Judged s h c Shown = 0 < need s c → Witness s h c
Judged s h c Printed = (0 < need s c) × (hidden h c ≡ false)
Judged s h c (Barred cut) =
    (0 < need s c) × (hidden h c ≡ true) × (Witness s h c → ⊥) × LeastCut s h c cut.rows cut.columns
    × Forty s.rows cut.rows × Forty s.columns cut.columns

-- the whole answer: it is right, and the only one; or the pattern is too short, or there was no memory
abbrev pub Auditing : Survey → Pattern → Result Audit Refusal → Type 0
Auditing s h (Ok a) = (size s ≤ length h) × Audited s h (answer a)
Auditing s h (Err e) = ((length h < size s) × (e ≡ Short lent.Pattern)) ⊎ ((size s ≤ length h) × (e ≡ Memory))
