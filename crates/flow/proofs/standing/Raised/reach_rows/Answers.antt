use Rattle.std.proofs.Common.{◌≡◌, length, ap, ◌∙◌, inl, inr, arith}
use Rattle.std.proofs.lemmas.List.{length-set}
use Rattle.flow.specs.Searching.{rounds, parents}
use Rattle.flow.proofs.Steps.{round_told, none_told, some_told, rounds_set, parents_set, length-rounds, length-parents}
use Rattle.flow.proofs.Scanning.{scan_end, onward_skip, onward_mark, onward_next, onward_idle, reached_same, reached_now}
use Rattle.flow.proofs.Tests.{rise_told}
use Rattle.flow.proofs.standing.Raised.reach_rows.Goals as goal
use Rattle.flow.proofs.standing.Raised.reach_rows.Goals.{then-is_none+then-takes_part, else-is_none, else-is_none-via-then-is_none+else-takes_part, else-is_none-via-else-is_none}
use Rattle.flow.proofs.standing.Raised.reach_rows.Goals.{then-in_round+else-loop-r-test, else-in_round}

pub loop-r-preserved : goal.loop-r-preserved
loop-r-preserved c =
    let s = c.args.self.now.table.now.survey in
    let rows : c.rows-r-end.result ≡ s.rows = cc in
    let columns : c.columns-k-end.result ≡ s.columns = cc in
    let long = c.loop-r.invariant.2 in
    let live = round_told c.args.columns.now c.loop-k.k _ (omega arith) _ _ _ c.in_round.ensures c.if-in_round.true in
    elim c.if-is_none.branch [
      | then-is_none+then-takes_part w ↦
          let new_rounds = ap rounds w.rows-is ∙ rounds_set c.loop-r.rows c.loop-r.r _ in
          let new_parents = ap parents w.rows-is ∙ parents_set c.loop-r.rows c.loop-r.r _ in (
            onward_mark _ _ _ _ _ _ _ _ _ _ _ _ _ c.loop-r.invariant.0 (omega arith) (omega (arith, length-rounds c.loop-r.rows)) (omega (arith, length-parents c.loop-r.rows)) (omega arith) (omega arith)
                live (rise_told _ _ _ _ _ _ _ _ w.place.ensures.value w.takes_part.ensures w.if-takes_part.true) (none_told c.loop-r.rows c.loop-r.r _ (omega arith) _ c.is_none.ensures w.if-is_none.true) new_rounds new_parents,
            reached_now (rounds c.loop-r.rows) _ _ s.rows c.loop-r.r _ (omega arith) (omega (arith, length-rounds c.loop-r.rows)) new_rounds w.more-is,
            ap length w.rows-is ∙ length-set c.loop-r.rows _ _ ∙ long,
          )
      | else-is_none w ↦ (
        onward_skip _ _ _ _ _ _ _ _ _ _ _ _ _ c.loop-r.invariant.0
            (elim w.else-is_none.branch [
              | else-is_none-via-then-is_none+else-takes_part u ↦ inr (rise_told _ _ _ _ _ _ _ _ u.place.ensures.value u.takes_part.ensures u.if-takes_part.false)
              | else-is_none-via-else-is_none u ↦ inl (some_told c.loop-r.rows c.loop-r.r _ (omega arith) _ c.is_none.ensures u.if-is_none.false)
            ]) (ap rounds w.rows-is) (ap parents w.rows-is),
        reached_same _ _ _ _ _ _ c.loop-r.invariant.1 (ap rounds w.rows-is) w.more-is,
        ap length w.rows-is ∙ long,
      )
    ]

pub loop-k-preserved : goal.loop-k-preserved
loop-k-preserved c =
    elim c.if-in_round.branch [
      | then-in_round+else-loop-r-test w ↦
          let rows : w.rows-r-end.result ≡ c.args.self.now.table.now.survey.rows = cc in (
            onward_next _ _ _ _ _ _ _ _ _ _ _ _ _ _ _ c.loop-k.invariant.0 w.loop-r.invariant.0 (omega (arith, w.loop-r-test.false)) (ap rounds w.rows-is) (ap parents w.rows-is),
            reached_same _ _ _ _ _ _ w.loop-r.invariant.1 (ap rounds w.rows-is) w.more-is,
            ap length w.rows-is ∙ w.loop-r.invariant.2,
          )
      | else-in_round w ↦ (
        onward_idle _ _ _ _ _ _ _ _ _ _ _ _ c.loop-k.invariant.0
            (round_told c.args.columns.now c.loop-k.k _ (omega arith) _ _ _ c.in_round.ensures w.if-in_round.false) (ap rounds w.rows-is) (ap parents w.rows-is),
        reached_same _ _ _ _ _ _ c.loop-k.invariant.1 (ap rounds w.rows-is) w.more-is,
        ap length w.rows-is ∙ c.loop-k.invariant.2,
      )
    ]

pub returns-clause-spread : goal.returns-clause-spread
returns-clause-spread c =
    let columns : c.columns-k-end.result ≡ c.args.self.now.table.now.survey.columns = cc in
    scan_end _ _ _ _ _ _ _ _ _ _ _ c.loop-k.invariant.0 (omega arith)
