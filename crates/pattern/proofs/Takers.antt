-- Turnovers made from given cell sums: in each cell the first workshop takes all. And two workshops whose turnovers are
-- given apart from that. Over the bare lists of cells and turnovers.
use Rattle.std.proofs.Common.{◌≡◌, ℕ, zero, suc, ◌+◌, ◌-◌, ◌<◌, ◌≤◌, eqb, ◌≢◌, List, [], ◌∷◌, length, get_or, set, sym, refl, ap, ◌∙◌, inl, inr, arith}
use Rattle.std.proofs.lemmas.Bool.{cases_eq, cases_lt}
use Rattle.std.proofs.lemmas.List.{length-set, get_or-set_same, get_or-set_other, set-get_or}
use Rattle.survey.specs.Survey.{pick, sum_at, largest, many}
use Rattle.survey.proofs.Cells.{pick_eqb, pick_same, pick_other, sum_at_cons, many_cons, no_sum, no_many, none_sum, many_step, one_le_largest}

-- the first workshop of each cell takes all that its cell has left
fill : (ℕ → ℕ) → List ℕ → List ℕ
fill left [] = []
fill left (m ∷ ms) = left m ∷ fill (λ d. pick (eqb m d) 0 (left d)) ms

-- each workshop gets a turnover
length_fill : (left : ℕ → ℕ) (ms : List ℕ) → length (fill left ms) ≡ length ms
unfolding fill
length_fill left [] = refl
length_fill left (m ∷ ms) = ap suc (length_fill (λ d. pick (eqb m d) 0 (left d)) ms)

-- a cell that has nothing left gets nothing
fill_nothing : (left : ℕ → ℕ) (k : ℕ) (ms : List ℕ) → left k ≡ 0 → sum_at k ms (fill left ms) ≡ 0
unfolding fill
fill_nothing left k [] e = no_sum k []
fill_nothing left k (m ∷ ms) e =
    let rest : ℕ → ℕ = λ d. pick (eqb m d) 0 (left d) in
    let none : rest k ≡ 0 = omega (arith, pick_eqb m k 0 (left k)) in
    elim (pick_eqb m k (left m) 0) [
      | inl p ↦ omega (arith, sum_at_cons k m (left m) ms (fill rest ms), fill_nothing rest k ms none, ap left p.0)
      | inr p ↦ omega (arith, sum_at_cons k m (left m) ms (fill rest ms), fill_nothing rest k ms none)
    ]

-- a cell with a workshop gets all that it has left
fill_all : (left : ℕ → ℕ) (k : ℕ) (ms : List ℕ) → 0 < many k ms → sum_at k ms (fill left ms) ≡ left k
unfolding fill
fill_all left k [] h = omega (arith, no_many k)
fill_all left k (m ∷ ms) h =
    let rest : ℕ → ℕ = λ d. pick (eqb m d) 0 (left d) in
    elim (pick_eqb m k (left m) 0) [
      | inl p ↦ omega (arith, sum_at_cons k m (left m) ms (fill rest ms), fill_nothing rest k ms (pick_same m k 0 (left k) p.0), ap left p.0)
      | inr p ↦ omega (
        arith,
        sum_at_cons k m (left m) ms (fill rest ms),
        pick_other m k 0 (left k) p.0,
        fill_all rest k ms (omega (arith, many_step k m ms)),
      )
    ]

-- a workshop's turnover counts in its cell; the rest is the sum without it, as if it lay in another cell n
sum_set : (k n i v : ℕ) (ms vs : List ℕ) → n ≢ k → i < length ms → length vs ≡ length ms →
    sum_at k ms (set vs i v) ≡ pick (eqb (get_or ms i 0) k) v 0 + sum_at k (set ms i n) vs
sum_set k n i v [] vs ne h l = omega arith
sum_set k n i v (m ∷ ms) [] ne h l = omega arith
sum_set k n zero v (m ∷ ms) (u ∷ us) ne h l =
    omega (arith, sum_at_cons k m v ms us, sum_at_cons k n u ms us, pick_other n k u 0 ne)
sum_set k n (suc i) v (m ∷ ms) (u ∷ us) ne h l =
    omega (arith, sum_at_cons k m u ms (set us i v), sum_at_cons k m u (set ms i n) us, sum_set k n i v ms us ne (omega arith) (omega arith))

-- a workshop counts in its cell; the rest is the count without it
many_set : (k n i : ℕ) (ms : List ℕ) → n ≢ k → i < length ms → many k ms ≡ pick (eqb (get_or ms i 0) k) 1 0 + many k (set ms i n)
many_set k n i [] ne h = omega arith
many_set k n zero (m ∷ ms) ne h = omega (arith, many_cons k m ms, many_step k n ms)
many_set k n (suc i) (m ∷ ms) ne h = omega (arith, many_cons k m ms, many_cons k m (set ms i n), many_set k n i ms ne (omega arith))

-- the cells as if workshops a and b lay in cell n
abbrev without : List ℕ → ℕ → ℕ → ℕ → List ℕ
without ms n a b = set (set ms b n) a n

-- a cell's sum where workshops a and b have x and z, and the others what fs gives them
apart_sum : (d n a b x z : ℕ) (ms fs : List ℕ) → n ≢ d → a ≢ b → a < length ms → b < length ms → length fs ≡ length ms →
    sum_at d ms (set (set fs a x) b z) ≡ pick (eqb (get_or ms b 0) d) z 0 + (pick (eqb (get_or ms a 0) d) x 0 + sum_at d (without ms n a b) fs)
apart_sum d n a b x z ms fs off ne ha hb l =
    let la = length-set ms b n in
    omega (
      arith,
      sum_set d n b z ms (set fs a x) off hb (length-set fs a x ∙ l),
      rw (get_or-set_other ms b a n 0 ne) at (sum_set d n a x (set ms b n) fs off (omega arith) (omega arith)),
    )

-- how many a cell has: workshops a and b where they lie in it, and the others
apart_many : (d n a b : ℕ) (ms : List ℕ) → n ≢ d → a ≢ b → a < length ms → b < length ms →
    many d ms ≡ pick (eqb (get_or ms b 0) d) 1 0 + (pick (eqb (get_or ms a 0) d) 1 0 + many d (without ms n a b))
apart_many d n a b ms off ne ha hb =
    let la = length-set ms b n in
    omega (arith, many_set d n b ms off hb, rw (get_or-set_other ms b a n 0 ne) at (many_set d n a (set ms b n) off (omega arith)))

-- what workshop a has in cell d: its turnover where it lies there, else 0
abbrev pub share : List ℕ → List ℕ → ℕ → ℕ → ℕ
share ms vs a d = pick (eqb (get_or ms a 0) d) (get_or vs a 0) 0

-- the share is at most the cell's largest
pub share_le_largest : (ms vs : List ℕ) (a d : ℕ) → a < length ms → share ms vs a d ≤ largest d ms vs
share_le_largest ms vs a d h = elim (pick_eqb (get_or ms a 0) d (get_or vs a 0) 0) [
  | inl p ↦ omega (arith, one_le_largest d a ms vs h p.0)
  | inr p ↦ omega arith
]

-- what the workshops besides a and b have left: nothing in b's cell, and elsewhere the cell's sum less a's share
abbrev left : List ℕ → List ℕ → ℕ → ℕ → (ℕ → ℕ) → ℕ → ℕ
left ms vs a b y d = pick (eqb (get_or ms b 0) d) 0 (y d - share ms vs a d)

-- turnovers with the cell sums y: workshop a keeps its own, b takes what is left of its cell, and in each other cell the
-- first workshop that is not a takes what is left
pub world : List ℕ → List ℕ → ℕ → ℕ → ℕ → (ℕ → ℕ) → List ℕ
world ms vs n a b y =
    set (set (fill (left ms vs a b y) (without ms n a b)) a (get_or vs a 0)) b (y (get_or ms b 0) - share ms vs a (get_or ms b 0))

module _ (ms vs : List ℕ) (n a b : ℕ) (y : ℕ → ℕ) (each : length vs ≡ length ms) (ne : a ≢ b) (ha : a < length ms) (hb : b < length ms) where
  -- all but a and b: as many as there are
  length_others : length (fill (left ms vs a b y) (without ms n a b)) ≡ length ms
  length_others = length_fill (left ms vs a b y) (without ms n a b) ∙ simp length-set

  -- each workshop has a turnover
  pub world_length : length (world ms vs n a b y) ≡ length vs
  unfolding world
  world_length = simp length-set (length_others ∙ sym each)

  -- a has its own
  pub world_own : get_or (world ms vs n a b y) a 0 ≡ get_or vs a 0
  unfolding world
  world_own = get_or-set_other _ b a _ 0 ne ∙ get_or-set_same _ a _ 0 (omega (arith, length_others))

  -- b has what is left of its cell
  pub world_taker : get_or (world ms vs n a b y) b 0 ≡ y (get_or ms b 0) - share ms vs a (get_or ms b 0)
  unfolding world
  world_taker = get_or-set_same _ b _ 0 (simp length-set (omega (arith, length_others)))

  -- a cell's own sum: b's turnover where b lies in it, a's share, and what the others have
  own_sum : (d : ℕ) → n ≢ d → sum_at d ms vs ≡ share ms vs b d + (share ms vs a d + sum_at d (without ms n a b) vs)
  own_sum d off = simp set-get_or at (apart_sum d n a b (get_or vs a 0) (get_or vs b 0) ms vs off ne ha hb each)

  -- each cell has the sum y, where a's share is at most that and a cell with nobody besides a keeps its sum
  pub world_sum : (d : ℕ) → n ≢ d → share ms vs a d ≤ y d → (d ≢ get_or ms b 0 → many d ms ≤ 1 → y d ≡ sum_at d ms vs) →
      sum_at d ms (world ms vs n a b y) ≡ y d
  unfolding world
  world_sum d off fits alone =
      let taken : ℕ = y (get_or ms b 0) - share ms vs a (get_or ms b 0) in
      let sum = apart_sum d n a b (get_or vs a 0) taken ms (fill (left ms vs a b y) (without ms n a b)) off ne ha hb length_others in
      elim (cases_eq (get_or ms b 0) d) [
        | inl e ↦ omega (
          arith,
          pick_same (get_or ms b 0) d taken 0 e,
          ap y e,
          ap (share ms vs a) e,
          fill_nothing (left ms vs a b y) d (without ms n a b) (pick_same (get_or ms b 0) d 0 _ e),
        )
        | inr f ↦ elim (cases_lt 0 (many d (without ms n a b))) [
          | inl some ↦ omega (
            arith,
            pick_other (get_or ms b 0) d taken 0 f,
            fill_all (left ms vs a b y) d (without ms n a b) some,
            pick_other (get_or ms b 0) d 0 (y d - share ms vs a d) f,
          )
          | inr none ↦
              let few : many d ms ≤ 1 = omega (arith, apart_many d n a b ms off ne ha hb, pick_other (get_or ms b 0) d 1 0 f, pick_eqb (get_or ms a 0) d 1 0) in
              omega (
                arith,
                pick_other (get_or ms b 0) d taken 0 f,
                none_sum d (without ms n a b) (fill (left ms vs a b y) (without ms n a b)) (omega arith),
                alone (λ e. f (sym e)) few,
                own_sum d off,
                pick_other (get_or ms b 0) d (get_or vs b 0) 0 f,
                none_sum d (without ms n a b) vs (omega arith),
              )
        ]
      ]
