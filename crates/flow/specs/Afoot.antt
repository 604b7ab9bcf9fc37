-- The lent memory between two ways, cut to the table's size. Assumes nothing: these are definitions.
use Rattle.std.specs.Prelude.{◌≡◌, ℕ, ◌+◌, ◌^◌, ◌<◌, ◌≤◌, List, length, slice_index}
use Rattle.survey.specs.Page.{Survey, Pattern, true_sum}
use Rattle.survey.specs.Model.{size}

-- the sums are the survey's, no cell fell by more than it had, and no amount is near the end of its type
pub record Afoot (s : Survey) (h : Pattern) (sums falls rises : List ℕ) : Type 0 where
  pub long_pattern : size s ≤ length h
  pub long_sums : length sums ≡ size s
  pub long_falls : length falls ≡ size s
  pub long_rises : length rises ≡ size s
  pub known : (d : ℕ) → d < size s → slice_index sums d ≡ true_sum s d
  pub covered : (d : ℕ) → d < size s → slice_index falls d ≤ true_sum s d + slice_index rises d
  pub small : (d : ℕ) → d < size s → true_sum s d + slice_index rises d < 2 ^ 62
