use Rattle.std.proofs.Common.{◌≡◌, ℕ, ◌/◌, ◌%◌, List, length, get_or, replicate, set, None, Option, refl, sym, ap, ◌∙◌, inl, inr, arith}
use Rattle.std.proofs.lemmas.Bool.{both_ways, eq-eqb, eqb-true}
use Rattle.std.proofs.lemmas.List.{length-set}
use Rattle.flow.specs.declared.search.Search.{Search}
use Rattle.flow.specs.declared.step.Step.{Step}
use Rattle.flow.specs.Searching.{rounds}
use Rattle.flow.proofs.Tests.{fall_told}
use Rattle.flow.proofs.Steps.{round_told, none_told, some_told, rounds_set, length-parents}
use Rattle.flow.proofs.Searches.{lists, reaches_column, round_first, going_idle, going_next, going_skip, going_mark, going_as, none_yet, round_next, no_way_found, way_found, searched_way, searched_none}
use Rattle.flow.proofs.standing.Standing.find_way.Goals as goal
use Rattle.flow.proofs.standing.Standing.find_way.Goals.{then-is_none+then-can_fall+else-k-cell, else-is_none, else-is_none-via-then-is_none+else-can_fall, else-is_none-via-else-is_none}
use Rattle.flow.proofs.standing.Standing.find_way.Goals.{then-loop-r-test+then-in_round+then-loop-k-test+then-is_none+then-can_fall+then-k-cell, else-loop-r-test+then-not-reach_rows}
use Rattle.flow.proofs.standing.Standing.find_way.Goals.{then-in_round+else-loop-k-test, else-in_round}

pub search-init : goal.search-init
search-init c =
    let s = c.args.self.now.raised.table.now.survey in
    let columns : c.columns.result ≡ s.columns = cc in
    let cell = c.args.self.now.raised.cell in
    let none = replicate {A = Option Step} 40 None in
    round_first s _ _ _ c.requires _ (rounds_set none (cell / c.columns.result) _ ∙ ap (λ (i : ℕ). set (replicate {A = ℕ} 40 64) (cell / i) 0) columns)
    (sym (length-parents (set none (cell / c.columns.result) _)) ∙ length-set none (cell / c.columns.result) _) refl refl

pub loop-k-preserved : goal.loop-k-preserved
loop-k-preserved c =
    let s = c.args.self.now.raised.table.now.survey in
    let rows : c.rows-r-end.result ≡ s.rows = cc in
    let columns : c.columns-k-end.result ≡ s.columns = cc in
    elim c.if-is_none.branch [
      | then-is_none+then-can_fall+else-k-cell w ↦
          let target : w.columns-then-can_fall.result ≡ s.columns = cc in
          let live = ap (λ (rows : List (Option Step)). get_or (rounds rows) c.loop-r.r 0) c.loop-k.invariant.1
          ∙ eqb-true _ _ (round_told c.loop-r.search.rows c.loop-r.r _ (omega arith) _ _ _ c.in_round.ensures c.if-in_round.true) in (
            (λ q₀ round going. going_as (going_mark s c.requires (c.loop-k.invariant.0 q₀ round going) round (omega arith) (omega arith) live
                (fall_told _ _ _ _ c.loop-r.r c.loop-k.k _ _ _ w.place.ensures.value w.can_fall.ensures w.if-can_fall.true)
                (none_told c.loop-k.search.columns c.loop-k.k _ (omega arith) _ c.is_none.ensures w.if-is_none.true)
                (λ e. w.if-k-cell.false (e ∙ ap (λ (i : ℕ). c.args.self.now.raised.cell % i) (sym target))))
                (ap (λ (rows : List (Option Step)). lists rows c.if-is_none.search.columns) (ap (λ (q : Search). q.rows) w.search-is)
                ∙ reaches_column c.loop-k.search.rows c.loop-k.search.columns _ c.loop-k.k _ (ap (λ (q : Search). q.columns) w.search-is))),
            ap (λ (q : Search). q.rows) w.search-is ∙ c.loop-k.invariant.1,
            ap (λ (q : Search). length q.columns) w.search-is ∙ length-set c.loop-k.search.columns _ _ ∙ c.loop-k.invariant.2,
          )
      | else-is_none w ↦ (
        (λ q₀ round going. going_as (going_skip (c.loop-k.invariant.0 q₀ round going)
            (elim w.else-is_none.branch [
              | else-is_none-via-then-is_none+else-can_fall u ↦ inr (fall_told _ _ _ _ c.loop-r.r c.loop-k.k _ _ _ u.place.ensures.value u.can_fall.ensures u.if-can_fall.false)
              | else-is_none-via-else-is_none u ↦ inl (some_told c.loop-k.search.columns c.loop-k.k _ (omega arith) _ c.is_none.ensures u.if-is_none.false)
            ])) (ap (λ (q : Search). lists q.rows q.columns) w.search-is)),
        ap (λ (q : Search). q.rows) w.search-is ∙ c.loop-k.invariant.1,
        ap (λ (q : Search). length q.columns) w.search-is ∙ c.loop-k.invariant.2,
      )
    ]

pub loop-r-preserved : goal.loop-r-preserved
loop-r-preserved c = elim c.if-in_round.branch [
  | then-in_round+else-loop-k-test w ↦
      let columns : w.columns-k-end.result ≡ c.args.self.now.raised.table.now.survey.columns = cc in (
        going_as (going_next (w.loop-k.invariant.0 _ c.search.invariant c.loop-r.invariant.0) (omega (arith, w.loop-k-test.false)))
            (ap (λ (q : Search). lists q.rows q.columns) w.search-is),
        ap (λ (q : Search). length q.rows) w.search-is ∙ ap length w.loop-k.invariant.1 ∙ c.loop-r.invariant.1,
        ap (λ (q : Search). length q.columns) w.search-is ∙ w.loop-k.invariant.2,
      )
  | else-in_round w ↦ (
    going_as (going_idle c.loop-r.invariant.0
        (λ e. both_ways _ (round_told c.loop-r.search.rows c.loop-r.r _ (omega arith) _ _ _ c.in_round.ensures w.if-in_round.false) (eq-eqb _ _ e)))
        (ap (λ (q : Search). lists q.rows q.columns) w.search-is),
    ap (λ (q : Search). length q.rows) w.search-is ∙ c.loop-r.invariant.1,
    ap (λ (q : Search). length q.columns) w.search-is ∙ c.loop-r.invariant.2,
  )
]

pub reach_rows-requires-clause-fresh : goal.reach_rows-requires-clause-fresh
reach_rows-requires-clause-fresh c =
    let s = c.args.self.now.raised.table.now.survey in
    let rows : c.rows-r-end.result ≡ s.rows = cc in
    none_yet s c.requires c.loop-r.invariant.0 c.search.invariant (omega arith)

pub search-preserved : goal.search-preserved
search-preserved c =
    let s = c.args.self.now.raised.table.now.survey in
    let rows : c.rows-r-end.result ≡ s.rows = cc in
    round_next s c.requires c.loop-r.invariant.0 c.search.invariant (omega arith) c.reach_rows.ensures.spread
    (sym c.reach_rows.ensures.more ∙ c.if-not-reach_rows.false)

pub returns : goal.returns
returns c =
    let s = c.args.self.now.raised.table.now.survey in
    let rows : c.rows-r-end.result ≡ s.rows = cc in
    elim c.loop-r-test.branch [
      | then-loop-r-test+then-in_round+then-loop-k-test+then-is_none+then-can_fall+then-k-cell w ↦
          let columns : w.columns-k-end.result ≡ s.columns = cc in
          let target : w.columns-then-can_fall.result ≡ s.columns = cc in
          let live = ap (λ (rows : List (Option Step)). get_or (rounds rows) c.loop-r.r 0) w.loop-k.invariant.1
          ∙ eqb-true _ _ (round_told c.loop-r.search.rows c.loop-r.r _ (omega arith) _ _ _ w.in_round.ensures w.if-in_round.true) in
          rw (w.search-is, w.search2-is) (searched_way (reaches_column w.loop-k.search.rows w.loop-k.search.columns _ w.loop-k.k _ refl)
          (way_found s c.requires (w.loop-k.invariant.0 _ c.search.invariant c.loop-r.invariant.0) c.search.invariant (omega arith) (omega arith) live
          (fall_told _ _ _ _ c.loop-r.r w.loop-k.k _ _ _ w.place.ensures.value w.can_fall.ensures w.if-can_fall.true)
          (none_told w.loop-k.search.columns w.loop-k.k _ (omega arith) _ w.is_none.ensures w.if-is_none.true)
          (w.if-k-cell.true ∙ ap (λ (i : ℕ). c.args.self.now.raised.cell % i) target)))
      | else-loop-r-test+then-not-reach_rows w ↦ rw (w.search-is, w.search2-is) (searched_none
          (no_way_found s c.requires c.loop-r.invariant.0 c.search.invariant (omega arith) w.reach_rows.ensures.spread
          (sym w.reach_rows.ensures.more ∙ w.if-not-reach_rows.true)))
    ]
