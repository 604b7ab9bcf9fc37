-- What a checked survey's invariant says of its list of workshops, under whatever name a proof has the list. Assumes nothing.
use Rattle.std.proofs.Common.{◌≡◌, ℕ, suc, ◌*◌, ◌<◌, ◌≤◌, List, [], ◌∷◌, length, get_or, vec_items, vec_len, sym, refl, ap, ◌∙◌, subst, arith}
use Rattle.std.proofs.lemmas.List.{length-map, get_or-map}
use Rattle.survey.specs.Model.{model, size}
use Rattle.survey.specs.Page.{Sound, true_sum}
use Rattle.survey.specs.Survey.{sum_at}
use Rattle.survey.proofs.Cells.{no_sum, sum_without, sum_at_cons, pick_eqb}
use Rattle.survey.specs.declared.checked.Survey.{Survey}
use Rattle.survey.specs.declared.workshop.Workshop.{Workshop}

-- where no turnover is above 1,000,000,000, a sum is at most that for each workshop
sum_small : (k : ℕ) (ms vs : List ℕ) → ((i : ℕ) → i < length vs → get_or vs i 0 ≤ 1000000000) → sum_at k ms vs ≤ 1000000000 * length vs
sum_small k [] vs each = omega (arith, no_sum k vs)
sum_small k (m ∷ ms) [] each = omega (arith, sum_without k m ms)
sum_small k (m ∷ ms) (v ∷ vs) each =
    omega (arith, sum_at_cons k m v ms vs, pick_eqb m k v 0, each 0 (omega arith), sum_small k ms vs (λ i h. each (suc i) (omega arith)))

module _ (s : Survey) where
  -- the list has the vector's length
  items_length : length (vec_items s.workshops) ≡ vec_len s.workshops
  items_length = sym s.workshops.ok.0

  -- the statements' survey is in order
  pub model_sound : Sound (model s)
  model_sound =
      record {
        some_columns = s.some_columns;
        each = length-map (vec_items s.workshops) (λ (w : Workshop). w.turnover) ∙ sym (length-map (vec_items s.workshops) (λ (w : Workshop). w.cell));
        inside = λ i below.
            let z : Workshop = record { cell = 0; turnover = 0 } in
            let b : i < length (vec_items s.workshops) = omega (arith, length-map (vec_items s.workshops) (λ (w : Workshop). w.cell)) in
            omega (arith, get_or-map (λ (w : Workshop). w.cell) (vec_items s.workshops) i z 0 b, s.inside i z (omega (arith, items_length)));
      }

  module _ (ws : List Workshop) (is : ws ≡ vec_items s.workshops) where
    -- there are few
    pub few_items : length ws ≤ 20000
    few_items = omega (arith, ap length is, items_length, s.few)

    -- each one's cell is in the table
    pub item_inside : (i : ℕ) (z : Workshop) → i < length ws → (get_or ws i z).cell < size (model s)
    item_inside i z below = subst (λ (l : List Workshop). (get_or l i z).cell < size (model s)) (sym is) (s.inside i z (omega (arith, ap length is, items_length)))

    -- each one's turnover is in range
    pub item_in_range : (i : ℕ) (z : Workshop) → i < length ws → (get_or ws i z).turnover ≤ 1000000000
    item_in_range i z below = subst (λ (l : List Workshop). (get_or l i z).turnover ≤ 1000000000) (sym is) (s.in_range i z (omega (arith, ap length is, items_length)))

  -- a cell's sum is at most 20,000 workshops of 1,000,000,000
  pub cell_small : (d : ℕ) → true_sum (model s) d ≤ 20000000000000
  cell_small d =
      let ws = vec_items s.workshops in
      let z : Workshop = record { cell = 0; turnover = 0 } in
      let long = length-map ws (λ (w : Workshop). w.turnover) in
      omega (
        arith,
        long,
        few_items ws refl,
        sum_small d (model s).cells (model s).values
            (λ i h. omega (arith, get_or-map (λ (w : Workshop). w.turnover) ws i z 0 (omega (arith, long)), item_in_range ws refl i z (omega (arith, long)))),
      )
