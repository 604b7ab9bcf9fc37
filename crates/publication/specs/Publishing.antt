-- What is promised of a page that is let out, in its reader's words. Assumes nothing: these are definitions.
use Rattle.std.specs.Prelude.{◌≡◌, ℕ, List, Ok, Err, string_bytes, Result, String}
use Rattle.survey.specs.Page.{Survey, Pattern}
use Rattle.survey.specs.declared.refusal.Refusal.{Refusal}
use Rattle.search.specs.Outcomes.{Found, Failed}
use Rattle.publication.specs.Text.{page_text}
use Rattle.publication.specs.Worlds.{SafeText}

-- the bytes are the page of the pattern that the rule gives; and for any two different workshops a and b there is a list of
-- turnovers with the same bytes, in which a has what it has and b at least p per cent more than it has
pub record LetOut (s : Survey) (bytes : List ℕ) : Type 0 where
  pub pattern : Pattern
  pub found : Found s pattern
  pub text : bytes ≡ page_text s pattern
  pub safe : SafeText s pattern

-- a page is let out; or there is none, by the rule or for want of memory
abbrev pub Publishes : {Z : Type 0} → Survey → Result (String Z) Refusal → Type 0
Publishes s (Ok text) = LetOut s (string_bytes text)
Publishes s (Err e) = Failed s e
