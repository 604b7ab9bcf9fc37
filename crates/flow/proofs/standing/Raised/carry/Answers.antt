use Rattle.std.proofs.Common.{◌≡◌, ℕ, ◌-◌, ◌%◌, refl, ap, ◌∙◌, arith}
use Rattle.flow.proofs.Back.{stands_first, carries_first, carries_next, all_fallen, all_risen, column_next, fall_small, rise_small}
use Rattle.flow.proofs.standing.Raised.carry.Goals as goal

pub loop-init : goal.loop-init
loop-init c =
    let s = c.args.self.now.table.now.survey in
    let columns : c.columns.result ≡ s.columns = cc in
    carries_first (stands_first s.some_columns c.requires.searched c.requires.found (omega arith)) (omega (arith, c.requires.searched.level _ c.requires.found))
    (ap (λ (i : ℕ). c.args.self.now.cell % i) columns) c.requires.afoot.long_falls c.requires.afoot.long_rises

pub overflow_add-falls : goal.overflow_add-falls
overflow_add-falls c =
    omega (
      arith,
      fall_small c.loop.invariant c.requires.afoot c.args.self.now.table.now.survey.some_columns c.requires.searched c.requires.found c.room-amount.ensures
          c.requires.small (c.place.ensures.value ∙ rw c.parent-r.ensures refl) c.place.ensures.inside,
    )

pub place-requires-in-loop-clause-column : goal.place-requires-in-loop-clause-column
place-requires-in-loop-clause-column c = rw (c.parent-k.ensures, c.parent-r.ensures) (column_next c.loop.invariant (omega arith))

pub overflow_add-rises : goal.overflow_add-rises
overflow_add-rises c =
    omega (
      arith,
      rise_small c.loop.invariant c.requires.afoot c.args.self.now.table.now.survey.some_columns c.requires.searched c.requires.found c.room-amount.ensures
          c.requires.small (c.place-in-loop.ensures.value ∙ rw (c.parent-k.ensures, c.parent-r.ensures) refl) c.place-in-loop.ensures.inside (omega arith),
    )

pub loop-preserved : goal.loop-preserved
loop-preserved c =
    carries_next c.loop.invariant (omega arith) c.parent-r.ensures c.place.ensures.value c.parent-k.ensures c.place-in-loop.ensures.value (omega arith)

pub overflow_add-falls-2 : goal.overflow_add-falls-2
overflow_add-falls-2 c =
    omega (
      arith,
      fall_small c.loop.invariant c.requires.afoot c.args.self.now.table.now.survey.some_columns c.requires.searched c.requires.found c.room-amount.ensures
          c.requires.small (c.place-2.ensures.value ∙ rw c.parent.ensures refl) c.place-2.ensures.inside,
    )

pub returns-clause-falls : goal.returns-clause-falls
returns-clause-falls c =
    let end : c.args.level - c.loop.counter ≡ 0 = omega arith in
    all_fallen c.loop.invariant c.args.lacking c.room-amount.ensures end (c.place-2.ensures.value ∙ rw c.parent.ensures refl)

pub returns-clause-rises : goal.returns-clause-rises
returns-clause-rises c =
    let end : c.args.level - c.loop.counter ≡ 0 = omega arith in
    all_risen c.loop.invariant c.args.lacking c.room-amount.ensures end
