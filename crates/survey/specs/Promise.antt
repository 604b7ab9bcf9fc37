-- What is promised. Each is a statement, a type; it is proved where a function's contract names it. Assumes nothing.
use Rattle.std.specs.Prelude.{◌≡◌, ℕ, zero, suc, ◌+◌, ◌-◌, ◌*◌, ◌/◌, ◌%◌, ◌<◌, ◌≤◌, Bool, true, false, not, ◌&&◌, ◌≢◌, ◌⊎◌, List, [], ◌∷◌, length, ◌==◌, nat_lt, slice_index, slice_index_or, slice_set}
use Rattle.survey.specs.Survey.{pick, row_sum, column_sum, largest, second, many, sum_of_all}
use Rattle.survey.specs.Page.{Survey, Sound, Pattern, hidden, Open, Safe, span, true_sum, need, Witness, Protected}

-- THE MAIN PROMISE: a protected page is safe, for each workshop against each other one
unfoldable pub Guard : Type 0
Guard = (s : Survey) (h : Pattern) → Sound s → Protected s h → Safe s h

-- what the auditor answers of a cell: other cell sums, or rows and columns that show there are none
pub data Finding : Type 0 where
  shown : (ℕ → ℕ) → Finding
  barred : List Bool → List Bool → Finding

-- what cell d may give where cell c is raised: a hidden cell of two workshops or more, other than c, gives all but its largest
unfoldable pub may_give : Survey → Pattern → ℕ → ℕ → ℕ
may_give s h c d = pick (hidden h d && (not (d == c) && nat_lt 1 (many d s.cells))) (true_sum s d - largest d s.cells s.values) 0

-- what may leave the marked rows through cells outside the marked columns
unfoldable pub leaves : Survey → Pattern → ℕ → List Bool → List Bool → ℕ
leaves s h c rs ks = span (λ r. span (λ k. pick (slice_index_or rs r false && not (slice_index_or ks k false)) (may_give s h c (r * s.columns + k)) 0) s.columns) s.rows

-- a bar (a cut): the cell's row is marked and its column is not, no hidden cell of two workshops or more lies in a marked
-- column outside the marked rows, and less may leave than the cell lacks
pub record Bar (s : Survey) (h : Pattern) (c : ℕ) (rs ks : List Bool) : Type 0 where
  pub row : slice_index_or rs (c / s.columns) false ≡ true
  pub column : slice_index_or ks (c % s.columns) false ≡ false
  pub closed : (r k : ℕ) → r < s.rows → k < s.columns → slice_index_or rs r false ≡ false → slice_index_or ks k false ≡ true →
      hidden h (r * s.columns + k) ≡ true → many (r * s.columns + k) s.cells ≤ 1
  pub little : leaves s h c rs ks < need s c

-- what the auditor's answer of a cell means
unfoldable pub Audits : Survey → Pattern → ℕ → Finding → Type 0
Audits s h c (shown y) = (w : Witness s h c) × ((d : ℕ) → d < s.rows * s.columns → w.sums d ≡ y d)
Audits s h c (barred rs ks) = Bar s h c rs ks

-- a bar shows that there is no witness
unfoldable pub BarLaw : Type 0
BarLaw = (s : Survey) (h : Pattern) (c : ℕ) (rs ks : List Bool) → Sound s → c < s.rows * s.columns → Bar s h c rs ks → Witness s h c → ⊥

-- and for a blank cell that lacks something there always is one of the two
unfoldable pub OneOrOther : Type 0
OneOrOther =
    (s : Survey) (h : Pattern) (c : ℕ) → Sound s → c < s.rows * s.columns → hidden h c ≡ true → 0 < need s c →
    Witness s h c ⊎ ((rs : List Bool) × (ks : List Bool) × Bar s h c rs ks)

-- a cell that lacks nothing needs nothing: a workshop in it is open to every other workshop, of this cell or another,
-- though every cell is printed
unfoldable pub ByItself : Type 0
ByItself =
    (s : Survey) (a b : ℕ) → Sound s → a < length s.values → b < length s.values → a ≢ b →
    need s (slice_index s.cells b) ≡ 0 → Open s [] a b

-- hiding more never harms
unfoldable pub MoreHidden : Type 0
MoreHidden =
    (s : Survey) (h g : Pattern) → ((c : ℕ) → hidden h c ≡ true → hidden g c ≡ true) → Protected s h → Protected s g

-- nothing is hidden in vain: a hidden cell that lacks nothing can't be printed
unfoldable pub NoneInVain : Survey → Pattern → Type 0
NoneInVain s h = (c : ℕ) → c < s.rows * s.columns → hidden h c ≡ true → need s c ≡ 0 → Protected s (slice_set h c false) → ⊥

-- what the search answers: a page's pattern, or a cell that no pattern protects
pub data Outcome : Type 0 where
  page : Pattern → Outcome
  cannot : ℕ → Outcome

-- the pattern of n cells that are all blank
unfoldable pub all_hidden : ℕ → Pattern
all_hidden zero = []
all_hidden (suc n) = true ∷ all_hidden n

-- the outcome is right: a pattern that protects with no blank in vain; or the first cell that lacks something and has no
-- witness though all cells are blank, and then no pattern whatever protects
unfoldable pub OutcomeRight : Survey → Outcome → Type 0
OutcomeRight s (page h) = Protected s h × NoneInVain s h
OutcomeRight s (cannot c) =
    (0 < need s c) × (c < s.rows * s.columns) × (Witness s (all_hidden (s.rows * s.columns)) c → ⊥)
    × ((d : ℕ) → d < c → 0 < need s d → Witness s (all_hidden (s.rows * s.columns)) d)
    × ((h : Pattern) → Protected s h → ⊥)

-- the sums add up: all rows together are all columns together, and both are the sum of all turnovers
unfoldable pub AddsUp : Type 0
AddsUp =
    (s : Survey) → Sound s →
    (span (λ r. row_sum s.columns s.cells s.values r) s.rows ≡ span (λ k. column_sum s.columns s.cells s.values k) s.columns)
    × (span (λ r. row_sum s.columns s.cells s.values r) s.rows ≡ sum_of_all s.values)

-- workshop a lies in cell c
abbrev pub Lies : Survey → ℕ → ℕ → Type 0
Lies s c a = (a < length s.values) × (slice_index s.cells a ≡ c)

-- the largest and the second largest of a cell are there: two different workshops have them; a lone workshop has the
-- largest and the second is 0; where there is no workshop both are 0
unfoldable pub Attained : Survey → ℕ → Type 0
Attained s c =
    ((a : ℕ) × (b : ℕ) × (a ≢ b) × Lies s c a × Lies s c b
    × (slice_index s.values a ≡ largest c s.cells s.values) × (slice_index s.values b ≡ second c s.cells s.values))
    ⊎ (((a : ℕ) × (many c s.cells ≡ 1) × Lies s c a
    × (slice_index s.values a ≡ largest c s.cells s.values) × (second c s.cells s.values ≡ 0))
    ⊎ ((many c s.cells ≡ 0) × (largest c s.cells s.values ≡ 0) × (second c s.cells s.values ≡ 0)))

-- the two largest: no two workshops of a cell have more together, and the two are attained
unfoldable pub TwoLargest : Type 0
TwoLargest =
    (s : Survey) (c : ℕ) → Sound s →
    ((a b : ℕ) → a ≢ b → Lies s c a → Lies s c b →
    slice_index s.values a + slice_index s.values b ≤ largest c s.cells s.values + second c s.cells s.values)
    × Attained s c
