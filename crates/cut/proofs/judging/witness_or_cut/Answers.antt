use Rattle.std.proofs.Common.{refl, arith}
use Rattle.survey.specs.Model.{model}
use Rattle.flow.proofs.Bounds.{need_inside}
use Rattle.cut.specs.Finding.{Bare}
use Rattle.cut.proofs.Judged.{shows, bars, blank_covers, enough_covers}
use Rattle.cut.proofs.judging.witness_or_cut.Goals as goal
use Rattle.cut.proofs.judging.witness_or_cut.Goals.{else-not-is_blank-via-then-not-is_blank+else-lack-gt0, else-not-is_blank-via-else-not-is_blank}

pub returns-then-flow-eq0 : goal.returns-then-flow-eq0
returns-then-flow-eq0 c =
    let covered : Bare (model c.args.table.now.survey) c.args.pattern.now c.args.cell → ⊥
    = elim c.else-not-is_blank.branch [
      | else-not-is_blank-via-then-not-is_blank+else-lack-gt0 w ↦ enough_covers (model c.args.table.now.survey) c.args.pattern.now c.args.cell _ w.lack.ensures (omega (arith, w.if-lack-gt0.false))
      | else-not-is_blank-via-else-not-is_blank w ↦ blank_covers (model c.args.table.now.survey) c.args.pattern.now c.args.cell _ c.is_blank.ensures w.if-not-is_blank.false
    ] in (
      covered,
      shows (model c.args.table.now.survey) c.args.pattern.now c.args.cell c.args.sums.now c.args.falls.now c.args.rises.now c.args.witness.now
          c.raise.new.sums c.raise.new.falls c.raise.new.rises c.raise.new.witness c.in_ok-flow.flow c.args.table.now.survey.some_columns c.in_ok-flow.ensures.1 c.if-flow-eq0.true covered,
    )

pub returns : goal.returns
returns c =
    let s = c.args.table.now.survey in
    let covered : Bare (model s) c.args.pattern.now c.args.cell → ⊥
    = elim c.else-not-is_blank.branch [
      | else-not-is_blank-via-then-not-is_blank+else-lack-gt0 w ↦ enough_covers (model c.args.table.now.survey) c.args.pattern.now c.args.cell _ w.lack.ensures (omega (arith, w.if-lack-gt0.false))
      | else-not-is_blank-via-else-not-is_blank w ↦ blank_covers (model c.args.table.now.survey) c.args.pattern.now c.args.cell _ c.is_blank.ensures w.if-not-is_blank.false
    ] in (
      covered,
      bars (model c.args.table.now.survey) c.args.pattern.now c.args.cell c.args.sums.now c.args.falls.now c.args.rises.now c.args.witness.now
          c.raise.new.sums c.raise.new.falls c.raise.new.rises c.raise.new.witness c.in_ok-flow.flow s.some_columns c.in_ok-flow.ensures.1 (omega (arith, c.if-flow-eq0.false))
          s.few_rows s.few_columns (need_inside s c.args.cell) _ refl refl,
    )
