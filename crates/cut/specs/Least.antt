-- The least cut: closed rows and columns that let as little leave as any, and as few of them as any. Assumes nothing: these are definitions.
use Rattle.std.specs.Prelude.{◌≡◌, ℕ, ◌<◌, ◌≤◌, Bool, true, false, List, slice_index_or}
use Rattle.survey.specs.Page.{Survey, Pattern}
use Rattle.survey.specs.Promise.{leaves}
use Rattle.flow.specs.Closed.{Closed}

-- every one of the first n that is marked in the first list is marked in the second
unfoldable pub Within : ℕ → List Bool → List Bool → Type 0
Within n xs ys = (i : ℕ) → i < n → slice_index_or xs i false ≡ true → slice_index_or ys i false ≡ true

-- closed rows and columns such that no others let less leave, and that lie within each others that let as little leave
pub record LeastCut (s : Survey) (h : Pattern) (c : ℕ) (rs ks : List Bool) : Type 0 where
  pub closed : Closed s h c rs ks
  pub least : (rs' ks' : List Bool) → Closed s h c rs' ks' → leaves s h c rs ks ≤ leaves s h c rs' ks'
  pub inner : (rs' ks' : List Bool) → Closed s h c rs' ks' → leaves s h c rs' ks' ≤ leaves s h c rs ks →
      Within s.rows rs rs' × Within s.columns ks ks'

-- within the table there is one least cut at most
unfoldable pub OneCut : Type 0
OneCut =
    (s : Survey) (h : Pattern) (c : ℕ) (rs ks rs' ks' : List Bool) → LeastCut s h c rs ks → LeastCut s h c rs' ks' →
    ((r : ℕ) → r < s.rows → slice_index_or rs r false ≡ slice_index_or rs' r false) × ((k : ℕ) → k < s.columns → slice_index_or ks k false ≡ slice_index_or ks' k false)
