-- The tests of a search, as functions of where it comes from and where it goes.
use Rattle.std.proofs.Common.{◌≡◌, ℕ, ◌+◌, ◌*◌, Bool, eqb, List, get_or, sym, ap, ◌∙◌}
use Rattle.survey.specs.Page.{Survey, Pattern}
use Rattle.flow.specs.Ways.{takes_part, can_fall}

-- whether a cell of column k can rise in row r
abbrev pub can_rise_in : Survey → Pattern → ℕ → ℕ → ℕ → Bool
can_rise_in s h c k r = takes_part s h c (r * s.columns + k)

-- whether a cell of row r can fall in column k
abbrev pub can_fall_in : Survey → Pattern → ℕ → (ℕ → ℕ) → ℕ → ℕ → Bool
can_fall_in s h c y r k = can_fall s h c y (r * s.columns + k)

-- what was reached in this round
abbrev pub in_round : List ℕ → ℕ → ℕ → Bool
in_round rounds n x = eqb (get_or rounds x 0) n

-- what was told of a cell by its number
pub rise_told : (s : Survey) (h : Pattern) (c k r d : ℕ) (b v : Bool) → d ≡ r * s.columns + k → b ≡ takes_part s h c d → b ≡ v →
    can_rise_in s h c k r ≡ v
rise_told s h c k r d b v at is was = sym (ap (λ (m : ℕ). takes_part s h c m) at) ∙ sym is ∙ was

-- the same of a fall
pub fall_told : (s : Survey) (h : Pattern) (c : ℕ) (y : ℕ → ℕ) (r k d : ℕ) (b v : Bool) → d ≡ r * s.columns + k → b ≡ can_fall s h c y d →
    b ≡ v → can_fall_in s h c y r k ≡ v
fall_told s h c y r k d b v at is was = sym (ap (λ (m : ℕ). can_fall s h c y m) at) ∙ sym is ∙ was
