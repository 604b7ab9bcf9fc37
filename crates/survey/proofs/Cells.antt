-- The workshops of one cell: their sum, the largest, the second largest and how many they are, over the bare lists of
-- cells and turnovers. Nobody else unfolds sum-at, largest, second or many.
use Rattle.std.proofs.Common.{◌≡◌, ℕ, zero, suc, ◌+◌, ◌<◌, ◌≤◌, max, Bool, true, false, eqb, ltb, ◌≢◌, ◌⊎◌, List, [], ◌∷◌, length, get_or, refl, ◌∙◌, inl, inr, arith}
use Rattle.std.proofs.lemmas.Bool.{cases_Bool, cases_eq, cases_lt, eqb-true, eqb-false, ltb-true, ltb-false}
use Rattle.std.proofs.lemmas.Nat.{mul-le}
use Rattle.survey.specs.Survey.{pick, sum_at, largest, second, many, open_above, lacks}

-- what pick gives where the test is true, and where it is false
pub pick_true : {A : Type 0} (t : Bool) (x y : A) → t ≡ true → pick t x y ≡ x
pick_true t x y e = rw e

pub pick_false : {A : Type 0} (t : Bool) (x y : A) → t ≡ false → pick t x y ≡ y
pick_false t x y e = rw e

-- the two cases of a pick by two numbers being the same
pub pick_eqb : (m k x y : ℕ) → ((m ≡ k) × (pick (eqb m k) x y ≡ x)) ⊎ ((m ≢ k) × (pick (eqb m k) x y ≡ y))
pick_eqb m k x y = elim (cases_Bool (eqb m k)) [
  | inl e ↦ inl (eqb-true m k e, pick_true (eqb m k) x y e)
  | inr e ↦ inr (eqb-false m k e, pick_false (eqb m k) x y e)
]

-- a pick by two numbers that are the same, and by two that are not
pub pick_same : (m k x y : ℕ) → m ≡ k → pick (eqb m k) x y ≡ x
pick_same m k x y e = omega (arith, pick_eqb m k x y)

pub pick_other : (m k x y : ℕ) → m ≢ k → pick (eqb m k) x y ≡ y
pick_other m k x y ne = omega (arith, pick_eqb m k x y)

-- the two cases of a pick by one number being below another
pub pick_ltb : (m k x y : ℕ) → ((m < k) × (pick (ltb m k) x y ≡ x)) ⊎ ((k ≤ m) × (pick (ltb m k) x y ≡ y))
pick_ltb m k x y = elim (cases_Bool (ltb m k)) [
  | inl e ↦ inl (ltb-true m k e, pick_true (ltb m k) x y e)
  | inr e ↦ inr (ltb-false m k e, pick_false (ltb m k) x y e)
]

-- one workshop more in front: the sum
pub sum_at_cons : (k m v : ℕ) (ms vs : List ℕ) → sum_at k (m ∷ ms) (v ∷ vs) ≡ pick (eqb m k) v 0 + sum_at k ms vs
unfolding sum_at
sum_at_cons k m v ms vs = refl

-- one workshop more in front: the largest
pub largest_cons : (k m v : ℕ) (ms vs : List ℕ) → largest k (m ∷ ms) (v ∷ vs) ≡ max (pick (eqb m k) v 0) (largest k ms vs)
unfolding largest
largest_cons k m v ms vs = refl

-- one workshop more in front: the second largest
pub second_cons : (k m v : ℕ) (ms vs : List ℕ) →
    second k (m ∷ ms) (v ∷ vs) ≡ pick (eqb m k) (pick (ltb v (largest k ms vs)) (max v (second k ms vs)) (largest k ms vs)) (second k ms vs)
unfolding second
second_cons k m v ms vs = refl

-- one workshop more in front: how many
pub many_cons : (k m : ℕ) (ms : List ℕ) → many k (m ∷ ms) ≡ pick (eqb m k) 1 0 + many k ms
unfolding many
many_cons k m ms = refl

-- no workshop: nothing, and none
pub no_sum : (k : ℕ) (vs : List ℕ) → sum_at k [] vs ≡ 0
unfolding sum_at
no_sum k vs = refl

pub no_largest : (k : ℕ) (vs : List ℕ) → largest k [] vs ≡ 0
unfolding largest
no_largest k vs = refl

pub no_second : (k : ℕ) (vs : List ℕ) → second k [] vs ≡ 0
unfolding second
no_second k vs = refl

pub no_many : (k : ℕ) → many k [] ≡ 0
unfolding many
no_many k = refl

-- no turnovers: nothing
pub sum_without : (k m : ℕ) (ms : List ℕ) → sum_at k (m ∷ ms) [] ≡ 0
unfolding sum_at
sum_without k m ms = refl

pub largest_without : (k m : ℕ) (ms : List ℕ) → largest k (m ∷ ms) [] ≡ 0
unfolding largest
largest_without k m ms = refl

pub second_without : (k m : ℕ) (ms : List ℕ) → second k (m ∷ ms) [] ≡ 0
unfolding second
second_without k m ms = refl

-- a workshop of cell k in front is counted, and one of another cell is not
pub many_step : (k m : ℕ) (ms : List ℕ) → ((m ≡ k) × (many k (m ∷ ms) ≡ suc (many k ms))) ⊎ ((m ≢ k) × (many k (m ∷ ms) ≡ many k ms))
many_step k m ms = elim (pick_eqb m k 1 0) [
  | inl p ↦ inl (p.0, omega (arith, many_cons k m ms))
  | inr p ↦ inr (p.0, omega (arith, many_cons k m ms))
]

-- a workshop of cell k in front counts in all four, and one of another cell in none
pub cell_step : (k m v : ℕ) (ms vs : List ℕ) →
    ((m ≡ k) × (sum_at k (m ∷ ms) (v ∷ vs) ≡ v + sum_at k ms vs) × (largest k (m ∷ ms) (v ∷ vs) ≡ max v (largest k ms vs))
    × (((v < largest k ms vs) × (second k (m ∷ ms) (v ∷ vs) ≡ max v (second k ms vs)))
    ⊎ ((largest k ms vs ≤ v) × (second k (m ∷ ms) (v ∷ vs) ≡ largest k ms vs)))
    × (many k (m ∷ ms) ≡ suc (many k ms)))
    ⊎ ((m ≢ k) × (sum_at k (m ∷ ms) (v ∷ vs) ≡ sum_at k ms vs) × (largest k (m ∷ ms) (v ∷ vs) ≡ largest k ms vs)
    × (second k (m ∷ ms) (v ∷ vs) ≡ second k ms vs) × (many k (m ∷ ms) ≡ many k ms))
cell_step k m v ms vs = elim (pick_eqb m k v 0) [
  | inl p ↦ inl (
    p.0,
    omega (arith, sum_at_cons k m v ms vs),
    omega (arith, largest_cons k m v ms vs),
    behind p.0,
    omega (arith, many_step k m ms),
  )
  | inr p ↦ inr (
    p.0,
    omega (arith, sum_at_cons k m v ms vs),
    omega (arith, largest_cons k m v ms vs),
    omega (arith, second_cons k m v ms vs, pick_eqb m k (pick (ltb v L) (max v S) L) S),
    omega (arith, many_step k m ms),
  )
]
  where
    L : ℕ
    L = largest k ms vs

    S : ℕ
    S = second k ms vs

    behind : m ≡ k → ((v < L) × (second k (m ∷ ms) (v ∷ vs) ≡ max v S)) ⊎ ((L ≤ v) × (second k (m ∷ ms) (v ∷ vs) ≡ L))
    behind e =
        let here : second k (m ∷ ms) (v ∷ vs) ≡ pick (ltb v L) (max v S) L
        = omega (arith, second_cons k m v ms vs, pick_eqb m k (pick (ltb v L) (max v S) L) S) in
        elim (pick_ltb v L (max v S) L) [ inl p ↦ inl (p.0, here ∙ p.1) | inr p ↦ inr (p.0, here ∙ p.1) ]

-- the second largest is at most the largest
pub second_le_largest : (k : ℕ) (ms vs : List ℕ) → second k ms vs ≤ largest k ms vs
second_le_largest k [] vs = omega (arith, no_second k vs)
second_le_largest k (m ∷ ms) [] = omega (arith, second_without k m ms)
second_le_largest k (m ∷ ms) (v ∷ vs) = omega (arith, cell_step k m v ms vs, second_le_largest k ms vs)

-- the two largest are together at most the cell's sum
pub two_le_sum : (k : ℕ) (ms vs : List ℕ) → largest k ms vs + second k ms vs ≤ sum_at k ms vs
two_le_sum k [] vs = omega (arith, no_largest k vs, no_second k vs)
two_le_sum k (m ∷ ms) [] = omega (arith, largest_without k m ms, second_without k m ms)
two_le_sum k (m ∷ ms) (v ∷ vs) = omega (arith, cell_step k m v ms vs, two_le_sum k ms vs)

-- the largest is at most the cell's sum
pub largest_le_sum : (k : ℕ) (ms vs : List ℕ) → largest k ms vs ≤ sum_at k ms vs
largest_le_sum k ms vs = omega (arith, two_le_sum k ms vs)

-- a workshop's turnover is at most its cell's largest
pub one_le_largest : (k i : ℕ) (ms vs : List ℕ) → i < length ms → get_or ms i 0 ≡ k → get_or vs i 0 ≤ largest k ms vs
one_le_largest k i [] vs h e = omega arith
one_le_largest k i (m ∷ ms) [] h e = omega arith
one_le_largest k zero (m ∷ ms) (v ∷ vs) h e = omega (arith, cell_step k m v ms vs)
one_le_largest k (suc i) (m ∷ ms) (v ∷ vs) h e = omega (arith, cell_step k m v ms vs, one_le_largest k i ms vs (omega arith) e)

-- two different workshops of a cell have together at most the two largest
pub pair_le_two : (k i j : ℕ) (ms vs : List ℕ) → i ≢ j → i < length ms → j < length ms → get_or ms i 0 ≡ k → get_or ms j 0 ≡ k →
    get_or vs i 0 + get_or vs j 0 ≤ largest k ms vs + second k ms vs
pair_le_two k i j [] vs ne h l e f = omega arith
pair_le_two k i j (m ∷ ms) [] ne h l e f = omega arith
pair_le_two k zero zero (m ∷ ms) (v ∷ vs) ne h l e f = absurd (ne refl)
pair_le_two k zero (suc j) (m ∷ ms) (v ∷ vs) ne h l e f = omega (arith, cell_step k m v ms vs, one_le_largest k j ms vs (omega arith) f)
pair_le_two k (suc i) zero (m ∷ ms) (v ∷ vs) ne h l e f = omega (arith, cell_step k m v ms vs, one_le_largest k i ms vs (omega arith) e)
pair_le_two k (suc i) (suc j) (m ∷ ms) (v ∷ vs) ne h l e f =
    omega (arith, cell_step k m v ms vs, second_le_largest k ms vs, pair_le_two k i j ms vs (omega arith) (omega arith) (omega arith) e f)

-- a cell with none has nothing
pub none_sum : (k : ℕ) (ms vs : List ℕ) → many k ms ≡ 0 → sum_at k ms vs ≡ 0
none_sum k [] vs e = no_sum k vs
none_sum k (m ∷ ms) [] e = sum_without k m ms
none_sum k (m ∷ ms) (v ∷ vs) e = omega (arith, cell_step k m v ms vs, many_step k m ms, none_sum k ms vs)

-- in a cell with one workshop or none the largest is the whole sum
pub lone_sum : (k : ℕ) (ms vs : List ℕ) → many k ms ≤ 1 → sum_at k ms vs ≡ largest k ms vs
lone_sum k [] vs h = omega (arith, no_sum k vs, no_largest k vs)
lone_sum k (m ∷ ms) [] h = omega (arith, sum_without k m ms, largest_without k m ms)
lone_sum k (m ∷ ms) (v ∷ vs) h = elim (many_step k m ms) [
  | inl p ↦ omega (arith, cell_step k m v ms vs, none_sum k ms vs (omega arith), two_le_sum k ms vs)
  | inr p ↦ omega (arith, cell_step k m v ms vs, lone_sum k ms vs (omega arith))
]

-- where no workshop has the mark k, none is counted
pub none_counted : (k : ℕ) (ms : List ℕ) → ((i : ℕ) → i < length ms → get_or ms i 0 ≢ k) → many k ms ≡ 0
none_counted k [] none = no_many k
none_counted k (m ∷ ms) none = omega (arith, many_step k m ms, none 0 (omega arith), none_counted k ms (λ i h. none (suc i) (omega arith)))

-- a workshop of the cell is counted
pub one_counted : (k i : ℕ) (ms : List ℕ) → i < length ms → get_or ms i 0 ≡ k → 1 ≤ many k ms
one_counted k i [] h e = omega arith
one_counted k zero (m ∷ ms) h e = omega (arith, many_step k m ms)
one_counted k (suc i) (m ∷ ms) h e = omega (arith, many_step k m ms, one_counted k i ms (omega arith) e)

-- two different workshops of the cell are both counted
pub two_counted : (k i j : ℕ) (ms : List ℕ) → i ≢ j → i < length ms → j < length ms → get_or ms i 0 ≡ k → get_or ms j 0 ≡ k → 2 ≤ many k ms
two_counted k i j [] ne h l e f = omega arith
two_counted k zero zero (m ∷ ms) ne h l e f = absurd (ne refl)
two_counted k zero (suc j) (m ∷ ms) ne h l e f = omega (arith, many_step k m ms, one_counted k j ms (omega arith) f)
two_counted k (suc i) zero (m ∷ ms) ne h l e f = omega (arith, many_step k m ms, one_counted k i ms (omega arith) e)
two_counted k (suc i) (suc j) (m ∷ ms) ne h l e f = omega (arith, many_step k m ms, two_counted k i j ms (omega arith) (omega arith) (omega arith) e f)

-- workshop i has a turnover and lies in cell k
abbrev pub InCell : ℕ → List ℕ → List ℕ → ℕ → Type 0
InCell k ms vs i = (i < length vs) × (get_or ms i 0 ≡ k)

-- two different workshops have the largest and the second largest
abbrev pub TwoHave : ℕ → List ℕ → List ℕ → Type 0
TwoHave k ms vs =
    (a : ℕ) × (b : ℕ) × (a ≢ b) × InCell k ms vs a × InCell k ms vs b × (get_or vs a 0 ≡ largest k ms vs) × (get_or vs b 0 ≡ second k ms vs)

-- a lone workshop has the largest
abbrev pub OneHas : ℕ → List ℕ → List ℕ → Type 0
OneHas k ms vs = (a : ℕ) × (many k ms ≡ 1) × InCell k ms vs a × (get_or vs a 0 ≡ largest k ms vs) × (second k ms vs ≡ 0)

-- there is no workshop
abbrev pub NoneHas : ℕ → List ℕ → List ℕ → Type 0
NoneHas k ms vs = (many k ms ≡ 0) × (largest k ms vs ≡ 0) × (second k ms vs ≡ 0)

-- the largest and the second largest of cell k are there
abbrev pub AttainedIn : ℕ → List ℕ → List ℕ → Type 0
AttainedIn k ms vs = TwoHave k ms vs ⊎ (OneHas k ms vs ⊎ NoneHas k ms vs)

-- a workshop of another cell in front changes nothing but the places
attained_past : (k m v : ℕ) (ms vs : List ℕ) → m ≢ k → AttainedIn k ms vs → AttainedIn k (m ∷ ms) (v ∷ vs)
attained_past k m v ms vs ne (inl (a, b, d, p, q, e, f)) =
    let step = cell_step k m v ms vs in
    inl (suc a, suc b, omega arith, (omega arith, p.1), (omega arith, q.1), omega arith, omega arith)
attained_past k m v ms vs ne (inr (inl (a, n, p, e, f))) =
    let step = cell_step k m v ms vs in
    inr (inl (suc a, omega arith, (omega arith, p.1), omega arith, omega arith))
attained_past k m v ms vs ne (inr (inr (n, e, f))) =
    let step = cell_step k m v ms vs in
    inr (inr (omega arith, omega arith, omega arith))

-- a workshop of the cell in front is the largest, the second largest, or neither
attained_joined : (k m v : ℕ) (ms vs : List ℕ) → m ≡ k → AttainedIn k ms vs → AttainedIn k (m ∷ ms) (v ∷ vs)
attained_joined k m v ms vs here (inl (a, b, d, p, q, e, f)) =
    let step = cell_step k m v ms vs in
    let below = second_le_largest k ms vs in
    elim (cases_lt v (largest k ms vs)) [
      | inl l ↦ elim (cases_lt v (second k ms vs)) [
        | inl u ↦ inl (suc a, suc b, omega arith, (omega arith, p.1), (omega arith, q.1), omega arith, omega arith)
        | inr u ↦ inl (suc a, zero, omega arith, (omega arith, p.1), (omega arith, here), omega arith, omega arith)
      ]
      | inr l ↦ inl (zero, suc a, omega arith, (omega arith, here), (omega arith, p.1), omega arith, omega arith)
    ]
attained_joined k m v ms vs here (inr (inl (a, n, p, e, f))) =
    let step = cell_step k m v ms vs in
    elim (cases_lt v (largest k ms vs)) [
      | inl l ↦ inl (suc a, zero, omega arith, (omega arith, p.1), (omega arith, here), omega arith, omega arith)
      | inr l ↦ inl (zero, suc a, omega arith, (omega arith, here), (omega arith, p.1), omega arith, omega arith)
    ]
attained_joined k m v ms vs here (inr (inr (n, e, f))) =
    let step = cell_step k m v ms vs in
    inr (inl (zero, omega arith, (omega arith, here), omega arith, omega arith))

-- they always are
pub attained : (k : ℕ) (ms vs : List ℕ) → length vs ≡ length ms → AttainedIn k ms vs
attained k [] vs e = inr (inr (no_many k, no_largest k vs, no_second k vs))
attained k (m ∷ ms) [] e = absurd (omega arith)
attained k (m ∷ ms) (v ∷ vs) e = elim (cases_eq m k) [
  | inl here ↦ attained_joined k m v ms vs here (attained k ms vs (omega arith))
  | inr ne ↦ attained_past k m v ms vs ne (attained k ms vs (omega arith))
]

-- more turnover, more must stay open above it
pub open_above_le : (p v w : ℕ) → v ≤ w → open_above p v ≤ open_above p w
open_above_le p v w h = omega (arith, mul-le v p w p h (omega arith))

-- raised by what it lacks, a cell has room for its two largest and for what must stay open above the largest
pub lacks_covers : (p c : ℕ) (ms vs : List ℕ) →
    largest c ms vs + second c ms vs + open_above p (largest c ms vs) ≤ sum_at c ms vs + lacks p ms vs c
unfolding lacks
lacks_covers p c ms vs = omega (arith, two_le_sum c ms vs)
