-- What the search's call promises: of a page, of a refusal, and of the memory lent. Assumes nothing: these are definitions.
use Rattle.std.specs.Prelude.{◌≡◌, ℕ, ◌<◌, ◌≤◌, Bool, false, ◌⊎◌, List, length, Ok, Err, Result}
use Rattle.survey.specs.Lending.{Written}
use Rattle.survey.specs.Model.{size}
use Rattle.survey.specs.Page.{Survey, Pattern, hidden, Safe, Protected}
use Rattle.survey.specs.Promise.{NoneInVain, OutcomeRight}
use Rattle.survey.specs.Promise.Outcome.{cannot}
use Rattle.survey.specs.declared.refusal.Lent.TheVariants as lent
use Rattle.survey.specs.declared.refusal.Refusal.{Refusal}
use Rattle.survey.specs.declared.refusal.Refusal.TheVariants.{Short, Unprotected, Memory}
use Rattle.search.specs.Search.{Finds, Refuses}

-- pattern g is what the rule gives; it protects, no blank of it is in vain, and each workshop is safe from each other one
pub record Found (s : Survey) (g : Pattern) : Type 0 where
  pub finds : Finds s g
  pub protected : Protected s g
  pub none_in_vain : NoneInVain s g
  pub safe : Safe s g

-- the survey is refused at cell c by the rule: it is the first cell that has no witness though all cells are blank, and no
-- pattern whatever protects
pub record NoPage (s : Survey) (c : ℕ) : Type 0 where
  pub refuses : Refuses s c
  pub right : OutcomeRight s (cannot c)

-- the search stops: by the rule at a cell, or for want of memory
abbrev pub Stops : Survey → Refusal → Type 0
Stops s e = ((c : ℕ) × (e ≡ Unprotected c) × Refuses s c) ⊎ (e ≡ Memory)

-- there is no page: by the rule, or for want of memory
abbrev pub Failed : Survey → Refusal → Type 0
Failed s e = ((c : ℕ) × (e ≡ Unprotected c) × NoPage s c) ⊎ (e ≡ Memory)

-- the pattern is written into the memory lent; or it is too short, or there is no page, and nothing has changed
abbrev pub Searching : Survey → List Bool → List Bool → Result (Unit {0}) Refusal → Type 0
Searching s before after (Ok _) = (size s ≤ length before) × ((g : Pattern) × Found s g × Written false (hidden g) (size s) before after)
Searching s before after (Err e) =
    (after ≡ before) × (((length before < size s) × (e ≡ Short lent.Pattern)) ⊎ ((size s ≤ length before) × Failed s e))
