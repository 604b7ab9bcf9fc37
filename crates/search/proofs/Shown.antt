-- A witness that is shown is kept by the cells that it changes. Assumes nothing.
use Rattle.std.proofs.Common.{◌≡◌, ℕ, ◌+◌, ◌*◌, ◌<◌, List, get_or, Ok, sym, ◌∙◌, subst, arith}
use Rattle.std.proofs.lemmas.Nat.{mul-add-lt}
use Rattle.std.proofs.lemmas.Bool.{eqb-true, not-false}
use Rattle.survey.specs.Model.{size}
use Rattle.survey.specs.Page.{Survey, Pattern}
use Rattle.survey.specs.Promise.{Audits}
use Rattle.cut.specs.Finding.{Shows, Bars, Finds}
use Rattle.cut.specs.declared.finding.Finding.{Finding}
use Rattle.cut.specs.declared.finding.Finding.TheVariants.{Shown, Barred}
use Rattle.cut.specs.declared.finding.Cut.{Cut}
use Rattle.search.specs.Lacking.{Kept}
use Rattle.search.specs.Moves.{MovesOf}
use Rattle.search.specs.declared.moves.Moves.{Moves}

module _ (s : Survey) (h : Pattern) (c : ℕ) (sums falls rises witness sums' falls' rises' witness' : List ℕ) (f : Finding)
    (finds : Finds s h c sums falls rises witness sums' falls' rises' witness' (Ok f)) where
  -- a witness was found
  pub finds_shows : f ≡ Shown → Shows s h c sums falls rises witness sums' falls' rises' witness'
  finds_shows is = (subst (λ (x : Finding). Finds s h c sums falls rises witness sums' falls' rises' witness' (Ok x)) is finds).1

  -- a cut was found
  pub finds_bars : (cut : Cut) → f ≡ Barred cut → Bars s h c sums falls rises witness sums' falls' rises' witness' cut
  finds_bars cut is = (subst (λ (x : Finding). Finds s h c sums falls rises witness sums' falls' rises' witness' (Ok x)) is finds).1

-- the witness, with the cells that it changes
pub kept_shown : (s : Survey) (h : Pattern) (c : ℕ) → c < size s → (sums falls rises witness sums' falls' rises' witness' : List ℕ) →
    Shows s h c sums falls rises witness sums' falls' rises' witness' →
    (moves : Moves) → MovesOf s.rows s.columns sums' witness' moves.rows → Kept s h c moves
unfolding Audits
kept_shown s h c inside sums falls rises witness sums' falls' rises' witness' shows moves changed =
    let shown = shows.audits inside in
    record {
      witness = shown.0;
      still = λ r k row column unset.
          let d = r * s.columns + k in
          let below : d < size s = omega (arith, mul-add-lt r s.columns k s.rows row column) in
          let same : get_or witness' d 0 ≡ get_or sums' d 0 = eqb-true (get_or witness' d 0) (get_or sums' d 0) (not-false _ (sym (changed r k row column) ∙ unset)) in
          shown.1 d below ∙ same ∙ shows.raises.wrote_sums.here d below;
    }
