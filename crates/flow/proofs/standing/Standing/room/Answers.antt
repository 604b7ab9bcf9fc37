use Rattle.std.proofs.Common.{◌≡◌, ℕ, ◌%◌, ap, arith}
use Rattle.flow.proofs.Back.{stands_first, measures_first, measures_next, measures_last}
use Rattle.flow.proofs.standing.Standing.room.Goals as goal

pub loop-init : goal.loop-init
loop-init c =
    let s = c.args.self.now.raised.table.now.survey in
    let columns : c.columns.result ≡ s.columns = cc in
    measures_first (stands_first s.some_columns c.requires.searched c.requires.found (omega arith)) (omega (arith, c.requires.searched.level _ c.requires.found))
    (ap (λ (i : ℕ). c.args.self.now.raised.cell % i) columns)

pub loop-preserved : goal.loop-preserved
loop-preserved c =
    measures_next c.loop.invariant (omega arith) c.parent-r.ensures c.place.ensures.value c.spare.ensures c.min-most.ensures c.parent-k.ensures (omega arith)

pub returns : goal.returns
returns c = measures_last c.loop.invariant (omega arith) c.parent.ensures c.place-2.ensures.value c.spare-2.ensures c.min.ensures
