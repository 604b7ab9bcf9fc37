use Rattle.std.proofs.Common.{◌≡◌, refl, None, arith}
use Rattle.flow.proofs.Bounds.{need_small, need_inside}
use Rattle.flow.proofs.Running.{running_first, running_next, running_less, running_done, running_stuck, marked_done}
use Rattle.flow.proofs.raising.take_ways.Goals as goal

pub loop-lacking-init : goal.loop-lacking-init
loop-lacking-init c =
    running_first c.args.raised.now.table.now.survey c.lack-lacking.ensures c.requires.no_falls c.requires.no_rises c.requires.afoot

pub find_way-search-requires : goal.find_way-search-requires
find_way-search-requires c =
    need_inside c.args.raised.now.table.now.survey c.args.raised.now.cell (omega (arith, c.loop-lacking.invariant.less))

pub returns-in_default-clause-run : goal.returns-in_default-clause-run
returns-in_default-clause-run c =
    let none : c.find_way-search.result.level ≡ None = cc in
    running_stuck c.args.raised.now.table.now.survey c.loop-lacking.invariant (omega arith) c.find_way-search.ensures none

pub carry-lacking-requires-clause-small : goal.carry-lacking-requires-clause-small
carry-lacking-requires-clause-small c =
    omega (arith, c.loop-lacking.invariant.less, need_small c.args.raised.now.table.now.survey c.args.raised.now.cell)

pub overflow_sub-lacking : goal.overflow_sub-lacking
overflow_sub-lacking c =
    (running_less c.args.raised.now.table.now.survey c.loop-lacking.invariant (omega arith) c.find_way-search.ensures c.in-Some.is c.carry-lacking.ensures.amount).1

pub loop-lacking-smaller : goal.loop-lacking-smaller
loop-lacking-smaller c =
    omega (
      arith,
      running_less c.args.raised.now.table.now.survey c.loop-lacking.invariant (omega arith) c.find_way-search.ensures c.in-Some.is c.carry-lacking.ensures.amount,
    )

pub loop-lacking-preserved : goal.loop-lacking-preserved
loop-lacking-preserved c =
    running_next c.args.raised.now.table.now.survey c.loop-lacking.invariant (omega arith) c.find_way-search.ensures c.in-Some.is c.carry-lacking.ensures.amount
    c.carry-lacking.ensures.falls c.carry-lacking.ensures.rises

pub returns-clause-run : goal.returns-clause-run
returns-clause-run c =
    let end : c.loop-lacking.lacking ≡ 0 = omega arith in
    running_done c.args.raised.now.table.now.survey c.loop-lacking.invariant end

pub returns-clause-marked : goal.returns-clause-marked
returns-clause-marked c = marked_done _ _ _ _ _ refl refl refl
