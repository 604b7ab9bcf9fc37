-- What is found of one cell is judged, and what is judged of each cell is the audit's answer. Assumes nothing.
use Rattle.std.proofs.Common.{◌≡◌, ℕ, ◌+◌, ◌<◌, Bool, true, false, List, length, Ok, refl, ap, ◌∙◌, arith}
use Rattle.survey.specs.Model.{size}
use Rattle.survey.specs.Page.{Survey, Pattern, Sound, hidden, need, Protected}
use Rattle.survey.specs.Promise.{Audits}
use Rattle.cut.proofs.BarLaw.{barred_none}
use Rattle.cut.specs.Finding.{Finds}
use Rattle.search.proofs.Deciding.{Served, served_more}
use Rattle.cut.specs.declared.finding.Cut.{Cut}
use Rattle.cut.specs.declared.finding.Finding.{Finding}
use Rattle.cut.specs.declared.finding.Finding.TheVariants.{Shown, Barred, Printed}
use Rattle.publication.specs.Audit.{protected, printed, barred, Audited, PrintedOpen}
use Rattle.publication.specs.Auditing.{Judged}
use Rattle.publication.proofs.OneAnswer.{printed_open}

-- a cell that is not both printed and lacking is blank where it lacks something
blank : (b : Bool) (n : ℕ) → 0 < n → ((b ≡ false) × (0 < n) → ⊥) → b ≡ true
blank true n lacks not_bare = refl
blank false n lacks not_bare = absurd (not_bare (refl, lacks))

module _ (s : Survey) (h : Pattern) (c : ℕ) where
  -- what is found of a cell that lacks something is judged
  pub judged : Sound s → c < size s → 0 < need s c → (sums falls rises witness sums' falls' rises' witness' : List ℕ) (f : Finding) →
      Finds s h c sums falls rises witness sums' falls' rises' witness' (Ok f) → Judged s h c f
  unfolding Judged Audits
  judged sound inside lacks sums falls rises witness sums' falls' rises' witness' Shown finds = λ _. (finds.1.audits inside).0
  judged sound inside lacks sums falls rises witness sums' falls' rises' witness' Printed finds = (lacks, finds.0.0)
  judged sound inside lacks sums falls rises witness sums' falls' rises' witness' (Barred cut) finds =
      let bars = finds.1 in
      let marks = bars.raises.marked in (
        lacks,
        blank (hidden h c) (need s c) lacks finds.0,
        barred_none s h c sound inside sums falls rises witness sums' falls' rises' witness' cut bars,
        bars.least,
        record { long = ap length bars.rows ∙ marks.long_rows; past = bars.past_rows },
        record { long = ap length bars.columns ∙ marks.long_columns; past = bars.past_columns },
      )

  -- a cell that lacks nothing needs no witness
  pub judged_nothing : need s c ≡ 0 → Judged s h c Shown
  unfolding Judged
  judged_nothing nothing lacks = absurd (omega arith)

module _ (s : Survey) (h : Pattern) where
  -- one cell more has a witness
  pub shown_more : (n : ℕ) → Served s h n → Judged s h n Shown → Served s h (n + 1)
  unfolding Judged
  shown_more n each here = served_more s h n (n + 1) (omega arith) each here

  -- all cells are served
  pub all_served : Served s h (size s) → Audited s h protected
  unfolding Audited Protected
  all_served each = each

  module _ (c : ℕ) (inside : c < size s) (each : Served s h c) where
    -- a printed cell is the first that is not
    pub first_printed : Judged s h c Printed → Audited s h (printed c)
    unfolding Judged Audited PrintedOpen
    first_printed (lacks, out) =
        (record { inside = inside; lacks = lacks; none = printed_open s h c out lacks; before = each }, out)

    -- a blank cell is the first that is not
    pub first_barred : (cut : Cut) → Judged s h c (Barred cut) → Audited s h (barred c cut.rows cut.columns)
    unfolding Judged Audited
    first_barred cut (lacks, dash, none, least, rows, columns) =
        (record { inside = inside; lacks = lacks; none = none; before = each }, dash, least, rows, columns)

-- what goes on to the first cell that is open cites
pub ruleset audited = (shown_more, all_served, first_printed, first_barred)
