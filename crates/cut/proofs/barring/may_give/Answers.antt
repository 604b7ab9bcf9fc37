use Rattle.std.proofs.Common.{◌-◌, sym, ap, ◌∙◌, inl, inr, arith}
use Rattle.sensitivity.specs.declared.profile.Profile.{Profile}
use Rattle.survey.specs.Model.{model}
use Rattle.survey.proofs.Cells.{largest_le_sum}
use Rattle.cut.proofs.Leaving.{give_printed, give_own, give_few, give_rest}
use Rattle.cut.proofs.barring.may_give.Goals as goal

pub returns-then-not-is_blank : goal.returns-then-not-is_blank
returns-then-not-is_blank c = elim c.then-not-is_blank.either [
  | inl printed ↦ give_printed _ _ _ _ (sym c.is_blank.ensures ∙ printed)
  | inr (_, own) ↦ give_own _ _ _ _ own
]

pub returns-then-profile-lt2 : goal.returns-then-profile-lt2
returns-then-profile-lt2 c = give_few _ _ _ _ (omega (arith, ap (λ (p : Profile). p.workshops) c.profile-profile.ensures))

pub overflow_sub-result : goal.overflow_sub-result
overflow_sub-result c =
    omega (
      arith,
      ap (λ (p : Profile). p.sum) c.profile-profile.ensures,
      ap (λ (p : Profile). p.largest) c.profile-profile.ensures,
      largest_le_sum c.args.d (model c.args.table.now.survey).cells (model c.args.table.now.survey).values,
    )

pub returns : goal.returns
returns c =
    (λ i. (c.profile-profile.ensures i).sum - (c.profile-profile.ensures i).largest)
    ∙ give_rest _ _ _ _ (sym c.is_blank.ensures ∙ c.if-not-is_blank.false) c.if-d-cell.false
    (omega (arith, ap (λ (p : Profile). p.workshops) c.profile-profile.ensures))
