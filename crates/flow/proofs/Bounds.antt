-- No amount comes near the end of its type; a cell that lacks something lies in the table.
use Rattle.std.proofs.Common.{◌≡◌, ℕ, ◌<◌, ◌≤◌, ap, inl, inr, arith}
use Rattle.std.proofs.lemmas.Nat.{mul-le}
use Rattle.std.proofs.lemmas.Bool.{cases_lt}
use Rattle.survey.specs.Survey.{largest, lacks}
use Rattle.survey.specs.Page.{true_sum, need}
use Rattle.survey.specs.Model.{model, size}
use Rattle.survey.specs.declared.checked.Survey.{Survey}
use Rattle.survey.proofs.Cells.{largest_le_sum}
use Rattle.survey.proofs.Facts.{model_sound, cell_small}
use Rattle.sensitivity.proofs.Empty.{profile_past}
use Rattle.sensitivity.specs.declared.profile.Profile.{Profile}

module _ (s : Survey) where
  -- a cell's sum
  pub sum_small : (d : ℕ) → true_sum (model s) d ≤ 20000000000000
  sum_small d = cell_small s d

  -- what a cell lacks
  pub need_small : (c : ℕ) → need (model s) c ≤ 20000000000001
  unfolding lacks
  need_small c =
      omega (
        arith,
        sum_small c,
        largest_le_sum c (model s).cells (model s).values,
        mul-le (largest c (model s).cells (model s).values) s.percent 20000000000000 100 (omega (arith, sum_small c, largest_le_sum c (model s).cells (model s).values)) s.few_percent,
      )

  -- a cell past the table lacks nothing
  pub need_inside : (c : ℕ) → 0 < need (model s) c → c < size (model s)
  unfolding lacks
  need_inside c some = elim (cases_lt c (size (model s))) [
    | inl low ↦ low
    | inr high ↦
        let none : largest c (model s).cells (model s).values ≡ 0 = ap (λ (p : Profile). p.largest) (profile_past (model s) c (model_sound s) high) in
        absurd (omega (arith, mul-le (largest c (model s).cells (model s).values) s.percent 0 100 (omega arith) s.few_percent))
  ]
