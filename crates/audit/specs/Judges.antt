-- What the program's answer means, from the bytes that it reads. Assumes nothing: these are definitions.
use Rattle.std.specs.Prelude.{◌≡◌, ℕ, Bool, true, false, ◌⊎◌, List, map, drop, Some, None, Ok, Err, vec_items, vec_len, Result, Vec, nat_eq}
use Rattle.command.specs.Limits.{serves}
use Rattle.command.specs.Parts.{survey_end, survey_bytes}
use Rattle.pattern.specs.Blanks.{pattern_verdict}
use Rattle.publication.specs.Audit.{Audited, answer}
use Rattle.command.specs.declared.talk.Stop.{Stop}
use Rattle.command.specs.declared.talk.Stop.TheVariants.{Open, Output, Refused}
use Rattle.publication.specs.declared.audited.Audit.{Audit}
use Rattle.publication.specs.declared.audited.Audit.TheVariants.{Protected, Printed, Barred}
use Rattle.survey.specs.Format.{decoded, verdict}
use Rattle.survey.specs.Model.{size}
use Rattle.survey.specs.Page as page
use Rattle.survey.specs.Page.{Pattern}
use Rattle.survey.specs.Reading.{Refuses}
use Rattle.survey.specs.declared.refusal.Lent.TheVariants.{Sums}
use Rattle.survey.specs.declared.refusal.Refusal.{Refusal}
use Rattle.survey.specs.declared.refusal.Refusal.TheVariants.{Short, Memory}

-- the bytes after the survey's
abbrev pub pattern_bytes : List ℕ → List ℕ
pattern_bytes bytes = drop (survey_end bytes) bytes

-- the pattern that bytes say: blank where one is 1
abbrev pub pattern_of : List ℕ → Pattern
pattern_of bytes = map (λ b. nat_eq b 1) bytes

-- the pattern that the bytes say for a survey; or they are refused, or there is no memory
abbrev pub Blanked : {Z : Type 0} → page.Survey → List ℕ → Result (Vec Bool Z) Refusal → Type 0
Blanked s bytes (Ok v) = (pattern_verdict (size s) bytes (size s) ≡ None) × (vec_items v ≡ pattern_of bytes) × (vec_len v ≡ size s)
Blanked s bytes (Err e) = (pattern_verdict (size s) bytes (size s) ≡ Some e) ⊎ (e ≡ Memory)

-- the audit's one answer, or there is no memory
abbrev pub Answers : page.Survey → Pattern → Result Audit Refusal → Type 0
Answers s h (Ok a) = Audited s h (answer a)
Answers s h (Err e) = e ≡ Memory

-- the survey is taken, and so is the pattern
pub record Taken (bytes : List ℕ) : Type 0 where
  pub survey : verdict (survey_bytes bytes) ≡ None
  pub pattern : pattern_verdict (size (decoded (survey_bytes bytes))) (pattern_bytes bytes) (size (decoded (survey_bytes bytes))) ≡ None

-- the survey is refused; or its pattern is; or both are taken, and the survey is not served, or there is no memory
abbrev pub Unjudged : List ℕ → Bool → Refusal → Type 0
Unjudged bytes full e =
    Refuses (survey_bytes bytes) e
    ⊎ (((verdict (survey_bytes bytes) ≡ None)
    × (pattern_verdict (size (decoded (survey_bytes bytes))) (pattern_bytes bytes) (size (decoded (survey_bytes bytes))) ≡ Some e))
    ⊎ ((Taken bytes × ((serves full (decoded (survey_bytes bytes)) ≡ false) × (e ≡ Short Sums))) ⊎ (e ≡ Memory)))

-- the audit's one answer; or why there is none
abbrev pub Judges : List ℕ → Bool → Result Audit Refusal → Type 0
Judges bytes full (Ok a) =
    Taken bytes × ((serves full (decoded (survey_bytes bytes)) ≡ true) × Audited (decoded (survey_bytes bytes)) (pattern_of (pattern_bytes bytes)) (answer a))
Judges bytes full (Err e) = Unjudged bytes full e

-- a program ends well where the pattern protects, and stops where a cell is open
abbrev pub ending : Audit → Result (Unit {0}) Stop
ending Protected = Ok tt
ending (Printed cell) = Err Open
ending (Barred cell cut) = Err Open

-- it ends so once its answer is told, which may fail for want of output or of memory for the line; and it stops with the
-- refusal that it has in place of an answer
abbrev pub Ends : Result Audit Refusal → Result (Unit {0}) Stop → Type 0
Ends (Ok a) (Ok _) = ending a ≡ Ok tt
Ends (Ok a) (Err e) = (ending a ≡ Err e) ⊎ ((e ≡ Output) ⊎ (e ≡ Refused Memory))
Ends (Err refusal) (Ok _) = ⊥
Ends (Err refusal) (Err e) = e ≡ Refused refusal
