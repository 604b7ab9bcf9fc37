-- The rule by which a survey's pattern of blanks is found, or the survey refused. Assumes nothing: these are definitions.
use Rattle.std.specs.Prelude.{◌≡◌, ℕ, suc, ◌+◌, ◌<◌, ◌≤◌, Bool, false, ◌||◌, ◌≢◌, ◌⊎◌, List, [], ◌∷◌, map, length, take, ◌==◌, nat_lt, slice_index, slice_set}
use Rattle.std.specs.List.{range_with_len, ContainsAt as Has}
use Rattle.survey.specs.Model.{size}
use Rattle.survey.specs.Page.{Survey, Pattern, Sound, Open, true_sum, need, Witness, Protected}
use Rattle.survey.specs.Promise.{Outcome, all_hidden, OutcomeRight}
use Rattle.survey.specs.Promise.Outcome.{page, cannot}

-- cell a comes before cell b: its sum is smaller, or the sums are equal and its number is smaller
abbrev pub Before : Survey → ℕ → ℕ → Type 0
Before s a b = (true_sum s a < true_sum s b) ⊎ ((true_sum s a ≡ true_sum s b) × (a < b))

-- cs holds exactly the cells of the table that lack nothing, each before the next
pub record InOrder (s : Survey) (cs : List ℕ) : Type 0 where
  pub only : (c : ℕ) → Has cs c → (c < size s) × (need s c ≡ 0)
  pub all : (c : ℕ) → c < size s → need s c ≡ 0 → Has cs c
  pub rising : (i : ℕ) → i + 1 < length cs → Before s (slice_index cs i) (slice_index cs (i + 1))

-- whether cell c is one of ds
unfoldable pub among : ℕ → List ℕ → Bool
among c [] = false
among c (d ∷ ds) = c == d || among c ds

-- the table's pattern in which the cells that lack something and those of ds are blank
unfoldable pub blanked : Survey → List ℕ → Pattern
blanked s ds = map (λ c. nat_lt 0 (need s c) || among c ds) (range_with_len 0 (size s))

-- the first k of cs must be blank: with them the pattern protects, and with fewer of the first it doesn't
pub record LeastEnough (s : Survey) (cs : List ℕ) (k : ℕ) : Type 0 where
  pub within : k ≤ length cs
  pub enough : Protected s (blanked s (take k cs))
  pub least : (j : ℕ) → j < k → Protected s (blanked s (take j cs)) → ⊥

-- from pattern h, each of the first k of cs, the last of them first, is printed again if the pattern still protects, and
-- else kept blank; this ends in g
pub data PrintedBack (s : Survey) (cs : List ℕ) : ℕ → Pattern → Pattern → Type 0 where
  done : {h : Pattern} → PrintedBack s cs 0 h h
  prints : {k : ℕ} {h g : Pattern} → Protected s (slice_set h (slice_index cs k) false) →
      PrintedBack s cs k (slice_set h (slice_index cs k) false) g → PrintedBack s cs (suc k) h g
  keeps : {k : ℕ} {h g : Pattern} → (Protected s (slice_set h (slice_index cs k) false) → ⊥) →
      PrintedBack s cs k h g → PrintedBack s cs (suc k) h g

-- the search finds pattern g: all cells blank protect; of the cells that lack nothing, in their order, the least number
-- that is enough is made blank, and what can be printed again is
pub record Finds (s : Survey) (g : Pattern) : Type 0 where
  pub can : Protected s (all_hidden (size s))
  pub order : List ℕ
  pub count : ℕ
  pub in_order : InOrder s order
  pub least_enough : LeastEnough s order count
  pub printed_back : PrintedBack s order count (blanked s (take count order)) g

-- the search refuses the survey at cell c: the first that lacks something and has no witness though all cells are blank
pub record Refuses (s : Survey) (c : ℕ) : Type 0 where
  pub inside : c < size s
  pub lacking : 0 < need s c
  pub none : Witness s (all_hidden (size s)) c → ⊥
  pub first : (d : ℕ) → d < c → 0 < need s d → Witness s (all_hidden (size s)) d

-- the search has this outcome
unfoldable pub Searched : Survey → Outcome → Type 0
Searched s (page g) = Finds s g
Searched s (cannot c) = Refuses s c

-- a search has one outcome at most
unfoldable pub OneOutcome : Type 0
OneOutcome = (s : Survey) (o o' : Outcome) → Searched s o → Searched s o' → o ≡ o'

-- and for every survey in order it has one
unfoldable pub SomeOutcome : Type 0
SomeOutcome = (s : Survey) → Sound s → (o : Outcome) × Searched s o

-- the search's outcome is right
unfoldable pub SearchedRight : Type 0
SearchedRight = (s : Survey) (o : Outcome) → Searched s o → OutcomeRight s o

-- THE MAIN PROMISE of the search: where it finds a pattern, each workshop is open to each other one
unfoldable pub SearchedSafe : Type 0
SearchedSafe =
    (s : Survey) (g : Pattern) → Sound s → Searched s (page g) → (a b : ℕ) → a < length s.values → b < length s.values →
    a ≢ b → Open s g a b
