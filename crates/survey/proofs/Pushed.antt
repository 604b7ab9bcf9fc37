-- A sum to which one workshop after another is added at the end, as a loop does. Assumes nothing.
use Rattle.std.proofs.Common.{◌≡◌, ℕ, ◌+◌, ◌*◌, ◌<◌, ◌≤◌, eqb, List, [], ◌∷◌, ◌++◌, map, length, get_or, take, set, sym, refl, ap, ◌∙◌, inl, inr, arith}
use Rattle.std.proofs.lemmas.List.{take_more, get_or-set_same, get_or-set_other}
use Rattle.std.proofs.lemmas.Bool.{cases_eq}
use Rattle.survey.specs.Lending.{Written}
use Rattle.survey.specs.Model.{turnovers_of}
use Rattle.survey.specs.Survey.{pick, sum_at}
use Rattle.survey.specs.declared.workshop.Workshop.{Workshop}
use Rattle.survey.proofs.Cells.{sum_at_cons, no_sum, pick_same, pick_other}
use Rattle.survey.proofs.Lending.{written_changed}

-- one workshop more at the end, for marks made from the workshops by a function of one's own
pub sum_push : {X : Type 0} (mark value : X → ℕ) (k : ℕ) (xs : List X) (x : X) →
    sum_at k (map mark (xs ++ x ∷ [])) (map value (xs ++ x ∷ [])) ≡ sum_at k (map mark xs) (map value xs) + pick (eqb (mark x) k) (value x) 0
sum_push mark value k [] x = omega (arith, sum_at_cons k (mark x) (value x) [] [], no_sum k [])
sum_push mark value k (y ∷ ys) x =
    omega (
      arith,
      sum_push mark value k ys x,
      sum_at_cons k (mark y) (value y) (map mark ys) (map value ys),
      sum_at_cons k (mark y) (value y) (map mark (ys ++ x ∷ [])) (map value (ys ++ x ∷ [])),
    )

-- the sum of those of the first i workshops that have the mark k
abbrev pub sum_of_first : (Workshop → ℕ) → ℕ → List Workshop → ℕ → ℕ
sum_of_first mark i ws k = sum_at k (map mark (take i ws)) (turnovers_of (take i ws))

-- of one workshop more
pub first_more : (mark : Workshop → ℕ) (i : ℕ) (ws : List Workshop) (d : Workshop) (k : ℕ) → i < length ws →
    sum_of_first mark (i + 1) ws k ≡ sum_of_first mark i ws k + pick (eqb (mark (get_or ws i d)) k) (get_or ws i d).turnover 0
first_more mark i ws d k below =
    rw (take_more ws i d below) (sum_push mark (λ (w : Workshop). w.turnover) k (take i ws) (get_or ws i d))

-- the sums of all cells after so many workshops, none of them too large
pub record Summed (ws : List Workshop) (i n : ℕ) (before now : List ℕ) : Type 0 where
  pub written : Written 0 (sum_of_first (λ (w : Workshop). w.cell) i ws) n before now
  pub bound : (d : ℕ) → d < n → get_or now d 0 ≤ 1000000000 * i

-- before the first workshop, in memory that is clear
pub summed_none : (ws : List Workshop) (n : ℕ) (before : List ℕ) → ((d : ℕ) → d < n → get_or before d 0 ≡ 0) → Summed ws 0 n before before
summed_none ws n before clear =
    record {
      written = record { long = refl; here = λ d below. clear d below ∙ sym (no_sum d []); past = λ d above. refl };
      bound = λ d below. omega (arith, clear d below);
    }

-- one workshop more
pub summed_more : (ws : List Workshop) (i n : ℕ) (before now : List ℕ) (z : Workshop) → Summed ws i n before now → n ≤ length before → i < length ws →
    (get_or ws i z).cell < n → (get_or ws i z).turnover ≤ 1000000000 →
    Summed ws (i + 1) n before (set now (get_or ws i z).cell (get_or now (get_or ws i z).cell 0 + (get_or ws i z).turnover))
summed_more ws i n before now z so_far room below inside in_range =
    let w = get_or ws i z in
    let first = sum_of_first (λ (x : Workshop). x.cell) in
    let fits : w.cell < length now = omega (arith, so_far.written.long) in
    record {
      written = written_changed 0 (first i ws) n before now so_far.written (first (i + 1) ws) w.cell (get_or now w.cell 0 + w.turnover) inside room
          (omega (arith, so_far.written.here w.cell inside, first_more (λ (x : Workshop). x.cell) i ws z w.cell below, pick_same w.cell w.cell w.turnover 0 refl))
          (λ d other. omega (arith, first_more (λ (x : Workshop). x.cell) i ws z d below, pick_other w.cell d w.turnover 0 (λ same. other (sym same))));
      bound = λ d in_table. elim (cases_eq d w.cell) [
        | inl same ↦ omega (arith, so_far.bound w.cell inside, ap (λ (e : ℕ). get_or (set now w.cell (get_or now w.cell 0 + w.turnover)) e 0) same, get_or-set_same now w.cell (get_or now w.cell 0 + w.turnover) 0 fits)
        | inr other ↦ omega (arith, so_far.bound d in_table, get_or-set_other now w.cell d (get_or now w.cell 0 + w.turnover) 0 other)
      ];
    }
