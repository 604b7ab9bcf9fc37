-- The sum of the workshops of which a test holds, where the test asks for a mark. Assumes nothing.
use Rattle.std.proofs.Common.{◌≡◌, ℕ, eqb, List, [], ◌∷◌, map, sum_by, arith}
use Rattle.std.proofs.lemmas.List.Sums.{sum_by-cons}
use Rattle.survey.proofs.Cells.{sum_at_cons, no_sum}
use Rattle.survey.specs.Model.{cells_of, turnovers_of}
use Rattle.survey.specs.Survey.{pick, sum_at}
use Rattle.survey.specs.declared.workshop.Workshop.{Workshop}

-- it is the sum at that mark
pub sum_marked : (mark : ℕ → ℕ) (k : ℕ) (ws : List Workshop) →
    sum_by (λ (w : Workshop). pick (eqb (mark w.cell) k) w.turnover 0) ws ≡ sum_at k (map mark (cells_of ws)) (turnovers_of ws)
sum_marked mark k [] = grind (arith, no_sum)
sum_marked mark k (w ∷ ws) =
    grind (
      arith,
      sum_marked mark k ws,
      sum_by-cons (λ (x : Workshop). pick (eqb (mark x.cell) k) x.turnover 0) w ws,
      sum_at_cons k (mark w.cell) w.turnover (map mark (cells_of ws)) (turnovers_of ws),
    )
