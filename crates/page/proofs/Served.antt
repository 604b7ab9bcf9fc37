-- What is published of the survey that was read is published of the bytes. Assumes nothing.
use Rattle.std.proofs.Common.{◌≡◌, ℕ, Bool, true, List, Ok, Err, Result, String, ap, ◌∙◌, subst, inr}
use Rattle.command.specs.Limits.{serves}
use Rattle.publication.specs.Publishing.{Publishes}
use Rattle.survey.specs.Format.{decoded}
use Rattle.survey.specs.Model.{model}
use Rattle.survey.specs.Page as statements
use Rattle.survey.specs.Reading.{Reads}
use Rattle.survey.specs.declared.checked.Survey.{Survey}
use Rattle.survey.specs.declared.refusal.Refusal.{Refusal}
use Rattle.page.specs.Pages.{Served, Pages}

pub pages : {Z : Type 0} (bytes : List ℕ) (full : Bool) (s t : Survey) (r : Result (String Z) Refusal) → Reads bytes s → serves full (model s) ≡ true → t ≡ s →
    Publishes (model t) r → Pages bytes full r
pages {Z} bytes full s t r reads served same publishes =
    at r (subst (λ (x : statements.Survey). Publishes x r) (ap model same ∙ reads.survey) publishes)
  where
    is_served : Served bytes full
    is_served = record { taken = reads.taken; served = subst (λ (x : statements.Survey). serves full x ≡ true) reads.survey served }

    at : (r : Result (String Z) Refusal) → Publishes (decoded bytes) r → Pages bytes full r
    at (Ok text) let_out = (is_served, let_out)
    at (Err e) failed = inr (is_served, failed)
