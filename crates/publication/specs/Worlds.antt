-- Other turnovers that give the same text: who reads the page reads no more than this. Assumes nothing: these are statements.
use Rattle.std.specs.Prelude.{◌≡◌, ℕ, ◌+◌, ◌<◌, ◌≤◌, ◌≢◌, List, length, slice_index, slice_index_or}
use Rattle.survey.specs.Page.{Survey, Pattern, Sound, Agrees, Open, Safe}
use Rattle.survey.specs.Survey.{open_above}
use Rattle.publication.specs.Text.{page_text}

-- the survey with other turnovers
abbrev pub with_values : Survey → List ℕ → Survey
with_values s w = record {
  rows = s.rows;
  columns = s.columns;
  percent = s.percent;
  cells = s.cells;
  values = w;
}

-- workshop a, knowing the page's text and its own turnover, can't tell that workshop b's is below b's own and p per cent
-- more
pub record OpenText (s : Survey) (h : Pattern) (a b : ℕ) : Type 0 where
  pub world : List ℕ
  pub each : length world ≡ length s.values
  pub page : page_text (with_values s world) h ≡ page_text s h
  pub own : slice_index_or world a 0 ≡ slice_index s.values a
  pub above : slice_index_or s.values b 0 + open_above s.percent (slice_index s.values b) ≤ slice_index world b

-- each workshop is open to each other one, whoever reads the text
unfoldable pub SafeText : Survey → Pattern → Type 0
SafeText s h = (a b : ℕ) → a < length s.values → b < length s.values → a ≢ b → OpenText s h a b

-- turnovers that keep the sums and the printed cells give the same text; so a workshop that is open is open to who reads
-- the text, and a safe page's text is safe
unfoldable pub SameText : Type 0
SameText =
    ((s : Survey) (h : Pattern) (w : List ℕ) → Sound s → Agrees s h w → page_text (with_values s w) h ≡ page_text s h)
    × ((s : Survey) (h : Pattern) (a b : ℕ) → Sound s → Open s h a b → OpenText s h a b)
    × ((s : Survey) (h : Pattern) → Sound s → Safe s h → SafeText s h)
