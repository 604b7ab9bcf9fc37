-- Sums over a whole table of m rows and n columns.
use Rattle.std.proofs.Common.{◌≡◌, ℕ, zero, suc, ◌+◌, ◌*◌, ◌/◌, ◌%◌, ◌<◌, ◌≤◌, Bool, true, false, eqb, ◌≢◌, sym, refl, ◌∙◌, subst, inl, inr, arith}
use Rattle.std.proofs.lemmas.Bool.{cases_eq}
use Rattle.std.proofs.lemmas.Nat.{div-mul-add, mod-mul-add, div_below, mod_below, div-add-mod'}
use Rattle.survey.specs.Survey.{pick}
use Rattle.survey.specs.Page.{span}
use Rattle.survey.proofs.Spans.{span_cong, span_le, span_zero, span_add, span_swap, span_only, span_suc, span_none}
use Rattle.survey.proofs.Cells.{pick_same, pick_other}

-- the sum of f r k over all rows r below m and columns k below n
abbrev pub over : (ℕ → ℕ → ℕ) → ℕ → ℕ → ℕ
over f m n = span (λ r. span (λ k. f r k) n) m

-- cell by cell the same: the same sum
pub over_cong : (f g : ℕ → ℕ → ℕ) (m n : ℕ) → ((r k : ℕ) → r < m → k < n → f r k ≡ g r k) → over f m n ≡ over g m n
over_cong f g m n each = span_cong _ _ m (λ r p. span_cong _ _ n (λ k q. each r k p q))

-- cell by cell at most as much: the sum is at most as much
pub over_le : (f g : ℕ → ℕ → ℕ) (m n : ℕ) → ((r k : ℕ) → r < m → k < n → f r k ≤ g r k) → over f m n ≤ over g m n
over_le f g m n each = span_le _ _ m (λ r p. span_le _ _ n (λ k q. each r k p q))

-- the sum of sums cell by cell
pub over_add : (f g : ℕ → ℕ → ℕ) (m n : ℕ) → over (λ r k. f r k + g r k) m n ≡ over f m n + over g m n
over_add f g m n =
    span_cong _ _ m (λ r p. span_add (λ k. f r k) (λ k. g r k) n) ∙ span_add (λ r. span (λ k. f r k) n) (λ r. span (λ k. g r k) n) m

-- three sums cell by cell
pub over_three : (f g e : ℕ → ℕ → ℕ) (m n : ℕ) →
    over (λ r k. f r k + g r k + e r k) m n ≡ over f m n + over g m n + over e m n
over_three f g e m n = omega (arith, over_add (λ r k. f r k + g r k) e m n, over_add f g m n)

-- the same sum place by place where marked: the marked sums are the same
picked_sums : (b : Bool) (f g : ℕ → ℕ) (n : ℕ) → span f n ≡ span g n → span (λ k. pick b (f k) 0) n ≡ span (λ k. pick b (g k) 0) n
picked_sums true f g n e = e
picked_sums false f g n e = refl

-- two tables with the same row sums have the same sums over the marked rows
pub marked_rows : (p : ℕ → Bool) (f g : ℕ → ℕ → ℕ) (m n : ℕ) →
    ((r : ℕ) → r < m → span (λ k. f r k) n ≡ span (λ k. g r k) n) →
    over (λ r k. pick (p r) (f r k) 0) m n ≡ over (λ r k. pick (p r) (g r k) 0) m n
marked_rows p f g m n same =
    span_cong _ _ m (λ r q. picked_sums (p r) (λ k. f r k) (λ k. g r k) n (same r q))

-- two tables with the same column sums have the same sums over the marked columns
pub marked_columns : (q : ℕ → Bool) (f g : ℕ → ℕ → ℕ) (m n : ℕ) →
    ((k : ℕ) → k < n → span (λ r. f r k) m ≡ span (λ r. g r k) m) →
    over (λ r k. pick (q k) (f r k) 0) m n ≡ over (λ r k. pick (q k) (g r k) 0) m n
marked_columns q f g m n same =
    span_swap (λ r k. pick (q k) (f r k) 0) m n
    ∙ marked_rows q (λ k r. f r k) (λ k r. g r k) n m same
    ∙ sym (span_swap (λ r k. pick (q k) (g r k) 0) m n)

-- what a cell of two tables f and g has on the one side: f where its row is marked, g where its column is, and e
abbrev pub side : Bool → Bool → ℕ → ℕ → ℕ → ℕ
side p q f g e = pick p f 0 + pick q g 0 + e

-- two tables with the same row and column sums: cell by cell at most as much on one side, then what is over on that side
-- is at most what is over on the other
pub crossing_le : (p q : ℕ → Bool) (f g w l : ℕ → ℕ → ℕ) (m n : ℕ) →
    ((r : ℕ) → r < m → span (λ k. f r k) n ≡ span (λ k. g r k) n) →
    ((k : ℕ) → k < n → span (λ r. f r k) m ≡ span (λ r. g r k) m) →
    ((r k : ℕ) → r < m → k < n → side (p r) (q k) (f r k) (g r k) (w r k) ≤ side (p r) (q k) (g r k) (f r k) (l r k)) →
    over w m n ≤ over l m n
crossing_le p q f g w l m n rows columns each =
    omega (
      arith,
      over_le (λ r k. side (p r) (q k) (f r k) (g r k) (w r k)) (λ r k. side (p r) (q k) (g r k) (f r k) (l r k)) m n each,
      over_three (λ r k. pick (p r) (f r k) 0) (λ r k. pick (q k) (g r k) 0) w m n,
      over_three (λ r k. pick (p r) (g r k) 0) (λ r k. pick (q k) (f r k) 0) l m n,
      marked_rows p f g m n rows,
      marked_columns q f g m n columns,
    )

-- the same with cells that are even
pub crossing_even : (p q : ℕ → Bool) (f g w l : ℕ → ℕ → ℕ) (m n : ℕ) →
    ((r : ℕ) → r < m → span (λ k. f r k) n ≡ span (λ k. g r k) n) →
    ((k : ℕ) → k < n → span (λ r. f r k) m ≡ span (λ r. g r k) m) →
    ((r k : ℕ) → r < m → k < n → side (p r) (q k) (f r k) (g r k) (w r k) ≡ side (p r) (q k) (g r k) (f r k) (l r k)) →
    over w m n ≡ over l m n
crossing_even p q f g w l m n rows columns each =
    omega (
      arith,
      crossing_le p q f g w l m n rows columns (λ r k i j. omega (arith, each r k i j)),
      crossing_le p q g f l w m n (λ r i. sym (rows r i)) (λ k j. sym (columns k j)) (λ r k i j. omega (arith, each r k i j)),
    )

-- a cell's number tells its row and its column
pub row_of_place : (r k n d : ℕ) → k < n → r * n + k ≡ d → d / n ≡ r
row_of_place r k n d l e = rw (← e) (div-mul-add r n k l)

-- and so its column
pub column_of_place : (r k n d : ℕ) → k < n → r * n + k ≡ d → d % n ≡ k
column_of_place r k n d l e = rw (← e) (mod-mul-add r n k l)

-- two cells with one number are one cell
pub same_place : (r k i j n : ℕ) → k < n → j < n → r * n + k ≡ i * n + j → (r ≡ i) × (k ≡ j)
same_place r k i j n p q same = (
  sym (row_of_place r k n (i * n + j) p same) ∙ div-mul-add i n j q,
  sym (column_of_place r k n (i * n + j) p same) ∙ mod-mul-add i n j q,
)

-- e at the one cell d, and 0 elsewhere
abbrev pub at_cell : ℕ → ℕ → ℕ → ℕ
at_cell d e here = pick (eqb here d) e 0

-- at the cell itself
pub at_cell_here : (d e here : ℕ) → here ≡ d → at_cell d e here ≡ e
at_cell_here d e here h = pick_same here d e 0 h

-- at another cell
pub at_cell_other : (d e here : ℕ) → here ≢ d → at_cell d e here ≡ 0
at_cell_other d e here h = pick_other here d e 0 h

-- e at one cell, summed over row r: e where it is that cell's row
pub row_of_cell : (n i j e r : ℕ) → j < n → span (λ k. at_cell (i * n + j) e (r * n + k)) n ≡ at_cell i e r
row_of_cell n i j e r l = elim (cases_eq r i) [
  | inl same ↦ span_only (λ k. at_cell (i * n + j) e (r * n + k)) n j l
      (λ k q off. at_cell_other (i * n + j) e _ (λ place. off (same_place r k i j n q l place).1))
      ∙ at_cell_here (i * n + j) e (r * n + j) (rw same) ∙ sym (at_cell_here i e r same)
  | inr off ↦ span_zero _ n (λ k q. at_cell_other (i * n + j) e _ (λ place. off (same_place r k i j n q l place).0))
      ∙ sym (at_cell_other i e r off)
]

-- e at one cell, summed over column k: e where it is that cell's column
pub column_of_cell : (m n i j e k : ℕ) → i < m → j < n → k < n → span (λ r. at_cell (i * n + j) e (r * n + k)) m ≡ at_cell j e k
column_of_cell m n i j e k p l q = elim (cases_eq k j) [
  | inl same ↦ span_only (λ r. at_cell (i * n + j) e (r * n + k)) m i p
      (λ r _ off. at_cell_other (i * n + j) e _ (λ place. off (same_place r k i j n q l place).0))
      ∙ at_cell_here (i * n + j) e (i * n + k) (rw same) ∙ sym (at_cell_here j e k same)
  | inr off ↦ span_zero _ m (λ r _. at_cell_other (i * n + j) e _ (λ place. off (same_place r k i j n q l place).1))
      ∙ sym (at_cell_other j e k off)
]

-- e at the cell with number d, summed over row r
pub row_of_number : (n d e r : ℕ) → 0 < n → span (λ k. at_cell d e (r * n + k)) n ≡ at_cell (d / n) e r
row_of_number n d e r some =
    subst (λ x. span (λ k. at_cell x e (r * n + k)) n ≡ at_cell (d / n) e r) (div-add-mod' d n)
    (row_of_cell n (d / n) (d % n) e r (mod_below d n some))

-- e at the cell with number d, summed over column k
pub column_of_number : (m n d e k : ℕ) → 0 < n → d < m * n → k < n → span (λ r. at_cell d e (r * n + k)) m ≡ at_cell (d % n) e k
column_of_number m n d e k some inside l =
    subst (λ x. span (λ r. at_cell x e (r * n + k)) m ≡ at_cell (d % n) e k) (div-add-mod' d n)
    (column_of_cell m n (d / n) (d % n) e k (div_below d n m some inside) (mod_below d n some) l)

-- e at one cell of the table sums to e
pub over_one : (m n d e : ℕ) → 0 < n → d < m * n → over (λ r k. at_cell d e (r * n + k)) m n ≡ e
over_one m n d e some inside =
    span_cong _ _ m (λ r l. row_of_number n d e r some)
    ∙ span_only (at_cell (d / n) e) m (d / n) (div_below d n m some inside) (λ r l off. at_cell_other (d / n) e r off)
    ∙ at_cell_here (d / n) e (d / n) refl

-- n times 1
pub span_ones : (n : ℕ) → span (λ k. 1) n ≡ n
span_ones zero = span_none (λ k. 1)
span_ones (suc n) = omega (arith, span_suc (λ k. 1) n, span_ones n)
