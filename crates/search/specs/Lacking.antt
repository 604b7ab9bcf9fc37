-- The cells that lack something, listed, and the witnesses that are known of them. Assumes nothing: these are definitions.
use Rattle.std.specs.Prelude.{◌≡◌, ℕ, ◌+◌, ◌*◌, ◌<◌, true, false, List, filter, map, None, IfSome, is_some, nat_lt, slice_index}
use Rattle.std.specs.List.{All, range_with_len}
use Rattle.survey.specs.Model.{size}
use Rattle.survey.specs.Page.{Survey, Pattern, need, true_sum, Witness}
use Rattle.search.specs.Moves.{bit_of}
use Rattle.search.specs.declared.lacking.Lacking.{Lacking}
use Rattle.search.specs.declared.moves.Moves.{Moves}

-- the cells of the table that lack something, by number
abbrev pub lacking_cells : Survey → List ℕ
lacking_cells s = filter (λ c. nat_lt 0 (need s c)) (range_with_len 0 (size s))

-- the cells of a list in which each stands with what is known of it
abbrev pub cells_lacking : List Lacking → List ℕ
cells_lacking ls = map (λ (l : Lacking). l.cell) ls

-- a cell of which no witness is known
abbrev pub unknown : ℕ → Lacking
unknown c = record { cell = c; moves = None }

-- a witness for cell c that changes no cell but those whose bit is set
pub record Kept (s : Survey) (h : Pattern) (c : ℕ) (moves : Moves) : Type 0 where
  pub witness : Witness s h c
  pub still : (r k : ℕ) → r < s.rows → k < s.columns → bit_of (slice_index moves.rows r) k ≡ false →
      witness.sums (r * s.columns + k) ≡ true_sum s (r * s.columns + k)

-- what is known of the cell is of a witness that it has
abbrev pub Known : Survey → Pattern → Lacking → Type 0
Known s h l = IfSome l.moves (λ m. Kept s h l.cell m)

-- of each of these cells a witness is known
abbrev pub AllKnown : List Lacking → Type 0
AllKnown ls = All (λ (l : Lacking). is_some l.moves ≡ true) ls
