-- Witnesses in any pattern: the true sums, and a witness's sums with other cells blank.
use Rattle.std.proofs.Common.{◌≡◌, ℕ, true, false, refl, inl, inr, arith}
use Rattle.std.proofs.lemmas.Bool.{cases_Bool, both_ways}
use Rattle.survey.specs.Page.{Survey, Pattern, Witness, hidden, need, true_sum}
use Rattle.survey.proofs.Cells.{largest_le_sum}

-- in a cell that lacks nothing the true sums are a witness, whatever is printed
unfoldable pub own_witness : (s : Survey) (h : Pattern) (c : ℕ) → need s c ≡ 0 → Witness s h c
own_witness s h c none = record {
  sums = true_sum s;
  by_row = λ r l. refl;
  by_column = λ k l. refl;
  printed = λ d e. refl;
  higher = omega arith;
  not_below = λ d ne. largest_le_sum d s.cells s.values;
  alone = λ d ne few. refl;
}

-- a witness's sums serve in any pattern that prints only cells that they leave at their true sums
unfoldable pub witness_in : (s : Survey) (h g : Pattern) (c : ℕ) (w : Witness s h c) → ((d : ℕ) → hidden g d ≡ false → w.sums d ≡ true_sum s d) → Witness s g c
witness_in s h g c w printed = record {
  sums = w.sums;
  by_row = w.by_row;
  by_column = w.by_column;
  printed = printed;
  higher = w.higher;
  not_below = w.not_below;
  alone = w.alone;
}

module _ (s : Survey) (h g : Pattern) (c : ℕ) (more : (d : ℕ) → hidden h d ≡ true → hidden g d ≡ true) (w : Witness s h c) where
  -- with more cells blank it leaves those at their true sums that are printed still
  pub still_printed : (d : ℕ) → hidden g d ≡ false → w.sums d ≡ true_sum s d
  still_printed d shows = elim (cases_Bool (hidden h d)) [
    | inl blank ↦ absurd (both_ways (hidden g d) shows (more d blank))
    | inr e ↦ w.printed d e
  ]

  -- a witness for fewer blanks is one for more
  pub witness_more : Witness s g c
  witness_more = witness_in s h g c w still_printed
