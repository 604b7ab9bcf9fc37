-- The cells that lack something, listed. Assumes nothing.
use Rattle.std.proofs.Common.{◌≡◌, ℕ, zero, suc, ◌+◌, ◌<◌, Bool, true, ltb, List, [], ◌∷◌, length, get_or, set, Option, sym, refl, ap, ◌∙◌, inl, inr, arith}
use Rattle.std.proofs.Math.Seq.{map-set_same}
use Rattle.std.proofs.lemmas.Bool.{cases_eq, cases_lt, cases_Bool, lt-ltb, ltb-true}
use Rattle.std.proofs.lemmas.List.{length-map, get_or-map, get_or_default}
use Rattle.std.proofs.lemmas.List.Elements.{All-filter, All-set, filter_passes}
use Rattle.std.proofs.lemmas.List.FromFn.{length-range_with_len, get_or-range_with_len}
use Rattle.std.proofs.lemmas.List.Kept.{AllPairs-filter}
use Rattle.std.specs.List.{All, AllPairs, Contains, filter, range_with_len}
use Rattle.survey.specs.Model.{size}
use Rattle.survey.specs.Page.{Survey, Pattern, hidden, need, Witness, Protected}
use Rattle.survey.specs.Promise.{all_hidden}
use Rattle.survey.proofs.Witnesses.{witness_more}
use Rattle.search.specs.Lacking.{cells_lacking, lacking_cells, unknown, Known}
use Rattle.search.specs.Search.{Refuses}
use Rattle.search.specs.declared.lacking.Lacking.{Lacking}
use Rattle.search.specs.declared.moves.Moves.{Moves}

-- a filter keeps what passes
pub contains_filter : {X : Type 0} (p : X → Bool) (xs : List X) (x : X) → p x ≡ true → Contains xs x → Contains (filter p xs) x
contains_filter p [] x passes (k, below, is) = absurd (omega arith)
contains_filter p (y ∷ ys) x passes (zero, below, is) = rw (ap p is ∙ passes) (0, omega arith, is)
contains_filter p (y ∷ ys) x passes (suc k, below, is) =
    let (j, within, at) = contains_filter p ys x passes (k, omega arith, is) in
    elim (cases_Bool (p y)) [
      | inl kept ↦ rw kept (suc j, omega arith, at)
      | inr dropped ↦ rw dropped (j, within, at)
    ]

-- the numbers below n are below n
pub range_below : (n : ℕ) → All (λ c. c < n) (range_with_len 0 n)
range_below n k d less =
    let here : k < n = omega (arith, length-range_with_len 0 n) in
    omega (arith, get_or-range_with_len 0 n k d here)

-- and each is below those after it
pub range_rising : (n : ℕ) → AllPairs (λ a b. a < b) (range_with_len 0 n)
range_rising n i j d less below =
    let here : j < n = omega (arith, length-range_with_len 0 n) in
    omega (arith, get_or-range_with_len 0 n i d (omega arith), get_or-range_with_len 0 n j d here)

-- and all of these are among them
pub range_has : (n c : ℕ) → c < n → Contains (range_with_len 0 n) c
range_has n c below = (c, omega (arith, length-range_with_len 0 n), get_or-range_with_len 0 n c c below ∙ omega arith)

module _ (s : Survey) where
  -- whether a cell lacks something
  abbrev lacks : ℕ → Bool
  lacks c = ltb 0 (need s c)

  -- those listed lie in the table
  pub lacking_inside : (i : ℕ) → i < length (lacking_cells s) → get_or (lacking_cells s) i 0 < size s
  lacking_inside i below = All-filter lacks (λ c. c < size s) (range_with_len 0 (size s)) (range_below (size s)) i 0 below

  -- and lack something
  pub lacking_lacks : (i : ℕ) → i < length (lacking_cells s) → 0 < need s (get_or (lacking_cells s) i 0)
  lacking_lacks i below = ltb-true 0 _ (filter_passes lacks (range_with_len 0 (size s)) i 0 below)

  -- the smaller number stands first
  pub lacking_rising : (i j : ℕ) → i < j → j < length (lacking_cells s) → get_or (lacking_cells s) i 0 < get_or (lacking_cells s) j 0
  lacking_rising i j less below = AllPairs-filter (λ a b. a < b) lacks (range_with_len 0 (size s)) (range_rising (size s)) i j 0 less below

  -- and no other cell of the table lacks something
  lacking_all : (c : ℕ) → c < size s → 0 < need s c → Contains (lacking_cells s) c
  lacking_all c inside lacking = contains_filter lacks (range_with_len 0 (size s)) c (lt-ltb 0 _ lacking) (range_has (size s) c inside)

  -- where it stands
  pub lacking_place : (c : ℕ) → c < size s → 0 < need s c → (i : ℕ) × (i < length (lacking_cells s)) × (get_or (lacking_cells s) i 0 ≡ c)
  lacking_place c inside lacking = let (i, below, is) = lacking_all c inside lacking in (i, below, get_or_default (lacking_cells s) i 0 c below ∙ is)

  module _ (h : Pattern) where
    -- the first n listed have witnesses
    abbrev pub Served : ℕ → Type 0
    Served n = (i : ℕ) → i < n → Witness s h (get_or (lacking_cells s) i 0)

    -- one more
    pub served_next : (n : ℕ) → Served n → Witness s h (get_or (lacking_cells s) n 0) → Served (n + 1)
    served_next n each here i less = elim (cases_eq i n) [
      | inl same ↦ rw same here
      | inr other ↦ each i (omega arith)
    ]

    -- all have: the pattern protects
    pub served_all : Served (length (lacking_cells s)) → Protected s h
    unfolding Protected
    served_all each c inside lacking = let (i, below, is) = lacking_place c inside lacking in rw (← is) (each i below)

    -- hiding more keeps their witnesses
    pub served_more : (g : Pattern) → ((d : ℕ) → hidden h d ≡ true → hidden g d ≡ true) → (n : ℕ) → Served n → (i : ℕ) → i < n → Witness s g (get_or (lacking_cells s) i 0)
    served_more g more n each i below = witness_more s h g _ more (each i below)

  -- with all cells blank the next has none: there the search refuses
  pub served_refuses : (n : ℕ) → n < length (lacking_cells s) → Served (all_hidden (size s)) n → (Witness s (all_hidden (size s)) (get_or (lacking_cells s) n 0) → ⊥) →
      Refuses s (get_or (lacking_cells s) n 0)
  served_refuses n below each none = record {
    inside = lacking_inside n below;
    lacking = lacking_lacks n below;
    none = none;
    first = λ d before lacking.
        let (i, within, is) = lacking_place d (omega (arith, lacking_inside n below)) lacking in
        elim (cases_lt i n) [
          | inl earlier ↦ rw (← is) (each i earlier)
          | inr later ↦ elim (cases_eq i n) [
            | inl same ↦ absurd (omega (arith, ap (λ m. get_or (lacking_cells s) m 0) same))
            | inr other ↦ absurd (omega (arith, lacking_rising n i (omega arith) within))
          ]
        ];
  }

-- the cell at a place of the list
abbrev pub cell_at : List Lacking → ℕ → ℕ
cell_at ls i = (get_or ls i (unknown 0)).cell

module _ (s : Survey) (ls : List Lacking) (listed : cells_lacking ls ≡ lacking_cells s) where
  -- as many as there are
  pub listed_long : length ls ≡ length (lacking_cells s)
  listed_long = sym (length-map ls (λ (l : Lacking). l.cell)) ∙ ap length listed

  -- as the list of the cells has it
  pub listed_at : (i : ℕ) → i < length ls → cell_at ls i ≡ get_or (lacking_cells s) i 0
  listed_at i below = sym (get_or-map (λ (l : Lacking). l.cell) ls i (unknown 0) 0 below) ∙ ap (λ cs. get_or cs i 0) listed

  -- it lies in the table
  pub listed_inside : (i : ℕ) → i < length ls → cell_at ls i < size s
  listed_inside i below = omega (arith, listed_at i below, lacking_inside s i (omega (arith, listed_long)))

  -- and lacks something
  pub listed_lacks : (i : ℕ) → i < length ls → 0 < need s (cell_at ls i)
  listed_lacks i below = rw (listed_at i below) (lacking_lacks s i (omega (arith, listed_long)))

-- a cell of the list is looked at, and what is known of it is kept
abbrev pub LookedAt : List Lacking → ℕ → Option Moves → List Lacking → Type 0
LookedAt ls i o ls' = ls' ≡ set ls i (record { cell = cell_at ls i; moves = o })

module _ (s : Survey) (ls ls' : List Lacking) (i : ℕ) (o : Option Moves) (looked : LookedAt ls i o ls') where
  -- the list is of the same cells
  pub looked_listed : cells_lacking ls ≡ lacking_cells s → cells_lacking ls' ≡ lacking_cells s
  looked_listed listed = ap cells_lacking looked ∙ map-set_same (λ (l : Lacking). l.cell) ls i _ (unknown 0) refl ∙ listed

  -- and still what is known is of witnesses
  pub looked_known_all : (h : Pattern) → Known s h (record { cell = cell_at ls i; moves = o }) → All (Known s h) ls → All (Known s h) ls'
  looked_known_all h known all = rw looked (All-set (Known s h) ls i _ known all)
