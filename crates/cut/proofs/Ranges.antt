-- Sums over numbers in order, and over a table's cells in order.
use Rattle.std.proofs.Common.{◌≡◌, ℕ, zero, suc, ◌+◌, ◌*◌, ◌≤◌, List, [], ◌∷◌, map, length, sum_by, sym, ap, ◌∙◌, add-one, arith}
use Rattle.std.proofs.lemmas.List.{map-id}
use Rattle.std.proofs.lemmas.List.FromFn.{sum_by-map-range_with_len_more}
use Rattle.std.proofs.lemmas.List.Sums.{sum_by-cons}
use Rattle.std.specs.List.{range_with_len}
use Rattle.survey.specs.Page.{span}
use Rattle.survey.proofs.Spans.{span_none, span_suc}

-- what is added up place by place
pub by_place : (f place : ℕ → ℕ) (n : ℕ) → sum_by f (map place (range_with_len 0 n)) ≡ span (λ k. f (place k)) n
by_place f place zero = sym (span_none (λ k. f (place k)))
by_place f place (suc n) =
    let more = rw (add-one n) at (sum_by-map-range_with_len_more f place 0 n n (omega arith)) in
    omega (arith, more, by_place f place n, span_suc (λ k. f (place k)) n)

-- what is added up number by number
pub in_order : (f : ℕ → ℕ) (n : ℕ) → sum_by f (range_with_len 0 n) ≡ span f n
in_order f n = ap (sum_by f) (sym (map-id (range_with_len 0 n))) ∙ by_place f (λ k. k) n

-- as many times the most
pub at_most : (f : ℕ → ℕ) (most : ℕ) (ds : List ℕ) → ((d : ℕ) → f d ≤ most) → sum_by f ds ≤ most * length ds
at_most f most [] each = omega arith
at_most f most (d ∷ ds) each = omega (arith, sum_by-cons f d ds, each d, at_most f most ds each)

-- n places more
span_more : (f : ℕ → ℕ) (m n : ℕ) → span f (m + n) ≡ span (λ k. f (m + k)) n + span f m
span_more f m zero =
    let same : m + 0 ≡ m = omega arith in
    omega (arith, ap (span f) same, span_none (λ k. f (m + k)))
span_more f m (suc n) =
    let next : m + suc n ≡ suc (m + n) = omega arith in
    omega (arith, ap (span f) next, span_suc f (m + n), span_suc (λ k. f (m + k)) n, span_more f m n)

-- row by row is cell by cell
pub by_rows : (f : ℕ → ℕ) (m n : ℕ) → span (λ r. span (λ k. f (r * n + k)) n) m ≡ span f (m * n)
by_rows f zero n =
    let none : 0 * n ≡ 0 = omega arith in
    omega (arith, ap (span f) none, span_none f, span_none (λ r. span (λ k. f (r * n + k)) n))
by_rows f (suc m) n =
    let next : suc m * n ≡ m * n + n = grind arith in
    omega (arith, ap (span f) next, span_more f (m * n) n, span_suc (λ r. span (λ k. f (r * n + k)) n) m, by_rows f m n)
