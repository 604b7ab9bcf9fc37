-- Row sums and column sums are sums of cell sums, and all of them add up to the sum of all turnovers.
use Rattle.std.proofs.Common.{◌≡◌, ℕ, suc, ◌+◌, ◌*◌, ◌/◌, ◌%◌, ◌<◌, ◌≤◌, eqb, List, [], ◌∷◌, map, length, get_or, sym, refl, ap, ◌∙◌, inl, inr, arith}
use Rattle.std.proofs.lemmas.Bool.{cases_eq}
use Rattle.std.proofs.lemmas.List.{get_or-map, length-map}
use Rattle.std.proofs.lemmas.Nat.{div-add-mod', div-mul-add, mod-mul-add, div_below, mod_below}
use Rattle.survey.specs.Survey.{pick, sum_at, sum_of_all, rows_of, columns_of, cell_sum, row_sum, column_sum}
use Rattle.survey.specs.Page.{span}
use Rattle.survey.specs.Promise.{AddsUp}
use Rattle.survey.proofs.Spans.{span_cong, span_zero, span_add, span_only}
use Rattle.survey.proofs.Cells.{pick_same, pick_other, sum_at_cons, no_sum, sum_without, none_sum, none_counted}

-- marks that are grouped: `to` gives each mark its group, and group q has the marks place 0 .. place (n - 1), which
-- `back` numbers
pub record Groups (to place back : ℕ → ℕ) (q n : ℕ) (ms : List ℕ) : Type 0 where
  pub each : (k : ℕ) → k < n → (to (place k) ≡ q) × (back (place k) ≡ k)
  pub found : (i : ℕ) → i < length ms → to (get_or ms i 0) ≡ q → (back (get_or ms i 0) < n) × (place (back (get_or ms i 0)) ≡ get_or ms i 0)

-- the rest of the marks is grouped so too
groups_rest : (to place back : ℕ → ℕ) (q n m : ℕ) (ms : List ℕ) → Groups to place back q n (m ∷ ms) → Groups to place back q n ms
groups_rest to place back q n m ms g = record { each = g.each; found = λ i h. g.found (suc i) (omega arith) }

-- one workshop counts at one mark of its group, and at none of another
one_counts : (to place back : ℕ → ℕ) (q n m v : ℕ) (ms : List ℕ) → Groups to place back q n (m ∷ ms) →
    span (λ k. pick (eqb m (place k)) v 0) n ≡ pick (eqb (to m) q) v 0
one_counts to place back q n m v ms g = elim (cases_eq (to m) q) [
  | inl e ↦
      let f = g.found 0 (omega arith) e in
      omega (
        arith,
        pick_same (to m) q v 0 e,
        pick_same m (place (back m)) v 0 (sym f.1),
        span_only (λ k. pick (eqb m (place k)) v 0) n (back m) f.0
            (λ k h ne. pick_other m (place k) v 0 (λ p. ne (cc (g.each k h).1))),
      )
  | inr e ↦
      omega (
        arith,
        pick_other (to m) q v 0 e,
        span_zero (λ k. pick (eqb m (place k)) v 0) n
            (λ k h. pick_other m (place k) v 0 (λ p. e (cc (g.each k h).0))),
      )
]

-- a group's sum is the sum over its marks
pub group_sum : (to place back : ℕ → ℕ) (q n : ℕ) (ms vs : List ℕ) → Groups to place back q n ms →
    sum_at q (map to ms) vs ≡ span (λ k. sum_at (place k) ms vs) n
group_sum to place back q n [] vs g = omega (arith, no_sum q vs, span_zero (λ k. sum_at (place k) [] vs) n (λ k h. no_sum (place k) vs))
group_sum to place back q n (m ∷ ms) [] g =
    omega (arith, sum_without q (to m) (map to ms), span_zero (λ k. sum_at (place k) (m ∷ ms) []) n (λ k h. sum_without (place k) m ms))
group_sum to place back q n (m ∷ ms) (v ∷ vs) g =
    omega (
      arith,
      sum_at_cons q (to m) v (map to ms) vs,
      one_counts to place back q n m v ms g,
      group_sum to place back q n ms vs (groups_rest to place back q n m ms g),
      span_add (λ k. pick (eqb m (place k)) v 0) (λ k. sum_at (place k) ms vs) n,
      span_cong (λ k. sum_at (place k) (m ∷ ms) (v ∷ vs)) (λ k. pick (eqb m (place k)) v 0 + sum_at (place k) ms vs) n
          (λ k h. sum_at_cons (place k) m v ms vs),
    )

-- each workshop's row as a map, and its column
pub rows_of_map : (n : ℕ) (cells : List ℕ) → rows_of n cells ≡ map (λ c. c / n) cells
unfolding rows_of
rows_of_map n [] = refl
rows_of_map n (c ∷ cs) = ap (λ rs. c / n ∷ rs) (rows_of_map n cs)

pub columns_of_map : (n : ℕ) (cells : List ℕ) → columns_of n cells ≡ map (λ c. c % n) cells
unfolding columns_of
columns_of_map n [] = refl
columns_of_map n (c ∷ cs) = ap (λ ks. c % n ∷ ks) (columns_of_map n cs)

-- a row's sum is the sum of its cells
pub row_is_span : (n : ℕ) (cells values : List ℕ) (r : ℕ) → 0 < n →
    row_sum n cells values r ≡ span (λ k. cell_sum cells values (r * n + k)) n
row_is_span n cells values r some = rw rows_of_map (group_sum (λ c. c / n) (λ k. r * n + k) (λ c. c % n) r n cells values (record {
  each = λ k h. (div-mul-add r n k h, mod-mul-add r n k h);
  found = λ i h e. (mod_below (get_or cells i 0) n some, rw (← e) (div-add-mod' (get_or cells i 0) n));
}))

-- a column's sum is the sum of its cells, where all cells lie in a table of m rows
pub column_is_span : (m n : ℕ) (cells values : List ℕ) (k : ℕ) → k < n → ((i : ℕ) → i < length cells → get_or cells i 0 < m * n) →
    column_sum n cells values k ≡ span (λ r. cell_sum cells values (r * n + k)) m
column_is_span m n cells values k l inside = rw columns_of_map (group_sum (λ c. c % n) (λ r. r * n + k) (λ c. c / n) k m cells values (record {
  each = λ r h. (mod-mul-add r n k l, div-mul-add r n k l);
  found = λ i h e. (div_below (get_or cells i 0) n m (omega arith) (inside i h), rw (← e) (div-add-mod' (get_or cells i 0) n));
}))

-- a cell past the table has no workshop, and so its sum is 0
pub cell_past : (size : ℕ) (cells values : List ℕ) (c : ℕ) → ((i : ℕ) → i < length cells → get_or cells i 0 < size) → size ≤ c →
    cell_sum cells values c ≡ 0
cell_past size cells values c inside past = none_sum c cells values (none_counted c cells (λ i h e. omega (arith, inside i h)))

-- a column past the table has no workshop, and so its sum is 0
pub column_past : (n : ℕ) (cells values : List ℕ) (k : ℕ) → 0 < n → n ≤ k → column_sum n cells values k ≡ 0
column_past n cells values k some past = rw columns_of_map (none_sum k (map (λ c. c % n) cells) values (none_counted k (map (λ c. c % n) cells)
    (λ i h e. omega (arith, mod_below (get_or cells i 0) n some, get_or-map (λ c. c % n) cells i 0 0 (omega (arith, length-map cells (λ c. c % n)))))))

-- where each workshop has the same mark, that mark's sum is the sum of all
pub one_mark : (q : ℕ) (ms vs : List ℕ) → length vs ≡ length ms → sum_at q (map (λ m. q) ms) vs ≡ sum_of_all vs
unfolding sum_of_all
one_mark q [] [] e = no_sum q []
one_mark q [] (v ∷ vs) e = omega arith
one_mark q (m ∷ ms) [] e = omega arith
one_mark q (m ∷ ms) (v ∷ vs) e = omega (arith, sum_at_cons q q v (map (λ m. q) ms) vs, pick_same q q v 0 refl, one_mark q ms vs (omega arith))

-- the sum of all is the sum over all marks, where all are below n
pub all_is_span : (n : ℕ) (ms vs : List ℕ) → length vs ≡ length ms → ((i : ℕ) → i < length ms → get_or ms i 0 < n) →
    span (λ k. sum_at k ms vs) n ≡ sum_of_all vs
all_is_span n ms vs e below =
    sym (group_sum (λ c. 0) (λ k. k) (λ c. c) 0 n ms vs (record { each = λ k h. (refl, refl); found = λ i h e. (below i h, refl) })) ∙ one_mark 0 ms vs e

-- the same, where each workshop's mark is made from its cell
all_by : (to : ℕ → ℕ) (n : ℕ) (ms vs : List ℕ) → length vs ≡ length ms → ((i : ℕ) → i < length ms → to (get_or ms i 0) < n) →
    span (λ k. sum_at k (map to ms) vs) n ≡ sum_of_all vs
all_by to n ms vs e below = all_is_span n (map to ms) vs (omega (arith, length-map ms to))
    (λ i h. let l : i < length ms = omega (arith, length-map ms to) in omega (arith, below i l, get_or-map to ms i 0 0 l))

-- all rows together, and all columns together, are the sum of all turnovers
pub adds_up : AddsUp
unfolding AddsUp
adds_up s sound =
    let by_rows : span (λ r. row_sum s.columns s.cells s.values r) s.rows ≡ sum_of_all s.values
    = rw rows_of_map (all_by (λ c. c / s.columns) s.rows s.cells s.values sound.each
    (λ i h. div_below (get_or s.cells i 0) s.columns s.rows sound.some_columns (sound.inside i h))) in
    let by_columns : span (λ k. column_sum s.columns s.cells s.values k) s.columns ≡ sum_of_all s.values
    = rw columns_of_map (all_by (λ c. c % s.columns) s.columns s.cells s.values sound.each
    (λ i h. mod_below (get_or s.cells i 0) s.columns sound.some_columns)) in
    (by_rows ∙ sym by_columns, by_rows)
