-- A pattern that is tried. Assumes nothing: these are definitions.
use Rattle.std.specs.Prelude.{◌≡◌, ℕ, ◌<◌, true, List, [], length}
use Rattle.std.specs.List.{All}
use Rattle.survey.specs.Model.{size}
use Rattle.survey.specs.Page.{Survey, Pattern, Protected, hidden, need}
use Rattle.survey.specs.Promise.{all_hidden}
use Rattle.cut.specs.Scratched.{Roomy}
use Rattle.cut.specs.declared.scratch.Scratch.{Scratch}
use Rattle.search.specs.Lacking.{cells_lacking, lacking_cells, Known}
use Rattle.search.specs.Search.{blanked}
use Rattle.search.specs.declared.lacking.Lacking.{Lacking}

-- a trial as clauses see it: the survey, the pattern that is tried, and the cells that lack something
pub record Tried : Type 0 where
  pub survey : Survey
  pub pattern : Pattern
  pub lacking : List Lacking

-- what holds of a trial: the pattern has an entry for each cell, those that lack something are blank and are listed, what
-- is known of them is of witnesses with this pattern, and there is memory for judging them
pub record Tries (s : Survey) (h : Pattern) (ls : List Lacking) (scratch : Scratch) : Type 0 where
  pub long : length h ≡ size s
  pub blank : (c : ℕ) → c < size s → 0 < need s c → hidden h c ≡ true
  pub listed : cells_lacking ls ≡ lacking_cells s
  pub known : All (Known s h) ls
  pub roomy : Roomy (size s) scratch

-- a trial of survey s begins: all cells blank protect, and those that lack something are blank, and no other
pub record Begins (s : Survey) (t : Tried) : Type 0 where
  pub survey : t.survey ≡ s
  pub can : Protected s (all_hidden (size s))
  pub first : t.pattern ≡ blanked s []
