use Rattle.std.proofs.Common.{◌≡◌, false, sym, refl, ◌∙◌, arith}
use Rattle.std.proofs.lemmas.Nat.{div_below}
use Rattle.std.proofs.lemmas.Bool.{both_ways}
use Rattle.survey.specs.Model.{model}
use Rattle.flow.proofs.Bounds.{need_inside}
use Rattle.cut.proofs.Leaving.{bar_shut, bar_made, bar_less}
use Rattle.cut.proofs.barring.is_bar.Goals as goal

pub bounds-cut-cell : goal.bounds-cut-cell
bounds-cut-cell c =
    let s = c.args.table.now.survey in
    let columns : c.columns-columns.result ≡ s.columns = cc in
    rw columns (omega (
      arith,
      div_below c.args.cell s.columns s.rows s.some_columns (need_inside s c.args.cell (omega (arith, c.lack-lacking.ensures, c.if-lacking-eq0.false))),
      s.few_rows,
    ))

pub returns-then-not-is_shut : goal.returns-then-not-is_shut
returns-then-not-is_shut c = record {
  sound = λ e. absurd (both_ways false refl e);
  whole = λ bar. sym c.if-not-is_shut.true ∙ c.is_shut.ensures.whole (bar_shut _ _ _ _ _ bar);
}

pub returns : goal.returns
returns c =
    let s = c.args.table.now.survey in
    let columns : c.columns-columns.result ≡ s.columns = cc in
    record {
      sound = λ less. bar_made (model s) c.args.pattern.now c.args.cell _ _ c.columns-columns.result c.leaving.result c.lack-lacking.result columns
          c.leaving.ensures c.lack-lacking.ensures c.if-not-cut-cell.false c.if-cut-cell.false (c.is_shut.ensures.sound c.if-not-is_shut.false) less;
      whole = λ bar. bar_less (model s) c.args.pattern.now c.args.cell _ _ c.columns-columns.result c.leaving.result c.lack-lacking.result columns
          c.leaving.ensures c.lack-lacking.ensures bar;
    }
