-- The memory is just as long as the table has cells.
use Rattle.std.proofs.Common.{◌≡◌, ℕ, length, None, ◌∙◌, subst}
use Rattle.std.proofs.lemmas.List.{with_items_is}
use Rattle.pattern.specs.Blanks.{pattern_verdict}
use Rattle.survey.specs.Model.{model, size}
use Rattle.audit.proofs.Blanking.{taken_long, wrote_pattern}
use Rattle.audit.proofs.pattern_of.Goals as goal

pub returns : goal.returns
returns c =
    let n = size (model c.args.survey.now) in
    let bytes = c.args.bytes.now in
    let made : c.in_ok-pattern.pattern.len ≡ n = c.in_ok-pattern.ensures.len ∙ c.cells.ensures.value in
    let long : length c.deref_mut.result.now ≡ n = c.deref_mut.ensures.len ∙ made in
    let taken : pattern_verdict n bytes n ≡ None = subst (λ (m : ℕ). pattern_verdict n bytes m ≡ None) long c.in_ok-from_bytes.ensures.0 in (
      taken,
      with_items_is c.in_ok-pattern.pattern c.from_bytes.new.pattern (c.from_bytes.auto.pattern ∙ c.deref_mut.ensures.len)
          ∙ wrote_pattern n bytes _ _ (taken_long n bytes n taken) long c.in_ok-from_bytes.ensures.1,
      made,
    )
