-- A bar shows that there is no witness: what the witness raises the cell by would have to leave.
use Rattle.std.proofs.Common.{ℕ, ◌<◌, Bool, List, arith}
use Rattle.survey.specs.Model.{size}
use Rattle.survey.specs.Page.{Survey, Pattern, Sound, Witness, need}
use Rattle.survey.specs.Promise.{Audits, Bar, BarLaw, leaves}
use Rattle.flow.specs.Closed.{Closed}
use Rattle.flow.proofs.Balance.{balance, witness_raised}
use Rattle.cut.specs.Finding.{Bars}
use Rattle.cut.specs.declared.finding.Cut.{Cut}

-- a bar is closed
pub bar_closed : (s : Survey) (h : Pattern) (c : ℕ) (rs ks : List Bool) → Bar s h c rs ks → Closed s h c rs ks
bar_closed s h c rs ks b = record { row = b.row; column = b.column; closed = b.closed }

-- and what is closed and lets less leave than the cell lacks is a bar
pub closed_bar : (s : Survey) (h : Pattern) (c : ℕ) (rs ks : List Bool) → Closed s h c rs ks → leaves s h c rs ks < need s c → Bar s h c rs ks
closed_bar s h c rs ks shut little = record { row = shut.row; column = shut.column; closed = shut.closed; little = little }

-- a bar shows that there is no witness
pub bar_law : BarLaw
unfolding BarLaw
bar_law s h c rs ks sound inside b w =
    omega (
      arith,
      b.little,
      balance s h c (need s c) w.sums (witness_raised s h c w) rs ks (bar_closed s h c rs ks b) sound.some_columns inside,
    )

-- so there is none for a cell that a cut was found for
pub barred_none : (s : Survey) (h : Pattern) (c : ℕ) → Sound s → c < size s → (sums falls rises witness sums' falls' rises' witness' : List ℕ) (cut : Cut) →
    Bars s h c sums falls rises witness sums' falls' rises' witness' cut → Witness s h c → ⊥
unfolding Audits BarLaw
barred_none s h c sound inside sums falls rises witness sums' falls' rises' witness' cut bars w =
    bar_law s h c cut.rows cut.columns sound inside bars.audits w
