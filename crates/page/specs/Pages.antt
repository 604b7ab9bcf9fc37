-- What the program's answer means, from the bytes that it reads to the bytes that it prints. Assumes nothing.
use Rattle.std.specs.Prelude.{◌≡◌, ℕ, Bool, true, ◌⊎◌, List, None, Ok, Err, string_bytes, Result, String}
use Rattle.command.specs.Limits.{serves, TurnedAway}
use Rattle.publication.specs.Publishing.{LetOut}
use Rattle.search.specs.Outcomes.{Failed}
use Rattle.survey.specs.Format.{decoded, verdict}
use Rattle.survey.specs.declared.refusal.Refusal.{Refusal}

-- the bytes are a survey that is taken and served
pub record Served (bytes : List ℕ) (full : Bool) : Type 0 where
  pub taken : verdict bytes ≡ None
  pub served : serves full (decoded bytes) ≡ true

-- a page of that survey is let out; or the bytes are turned away; or there is no page, by the rule or for want of memory
abbrev pub Pages : {Z : Type 0} → List ℕ → Bool → Result (String Z) Refusal → Type 0
Pages bytes full (Ok text) = Served bytes full × LetOut (decoded bytes) (string_bytes text)
Pages bytes full (Err e) = TurnedAway bytes full e ⊎ (Served bytes full × Failed (decoded bytes) e)
