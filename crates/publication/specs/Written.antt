-- What the page's text and the auditor's line are, or why there is none. Assumes nothing: these are definitions.
use Rattle.std.specs.Prelude.{◌≡◌, ◌<◌, ◌≤◌, ◌⊎◌, length, Ok, Err, string_bytes, Result, String}
use Rattle.survey.specs.Model.{size}
use Rattle.survey.specs.Page.{Survey, Pattern}
use Rattle.survey.specs.declared.refusal.Lent.TheVariants as lent
use Rattle.survey.specs.declared.refusal.Refusal.{Refusal}
use Rattle.survey.specs.declared.refusal.Refusal.TheVariants.{Short, Memory}
use Rattle.publication.specs.Audit.{Answer, audit_line}
use Rattle.publication.specs.Text.{page_text}

-- the page's text; or the pattern is too short, or there was no memory
abbrev pub Published : {Z : Type 0} → Survey → Pattern → Result (String Z) Refusal → Type 0
Published s h (Ok text) = (size s ≤ length h) × (string_bytes text ≡ page_text s h)
Published s h (Err e) = ((length h < size s) × (e ≡ Short lent.Pattern)) ⊎ ((size s ≤ length h) × (e ≡ Memory))

-- the line that is printed of the auditor's answer, or there was no memory
abbrev pub Told : {Z : Type 0} → Answer → Result (String Z) Refusal → Type 0
Told a (Ok text) = string_bytes text ≡ audit_line a
Told a (Err e) = e ≡ Memory
