-- What the bytes say where nothing is refused. Assumes nothing.
use Rattle.std.proofs.Common.{◌≡◌, ℕ, zero, suc, ◌+◌, ◌*◌, ◌<◌, ◌≤◌, Bool, true, false, List, map, length, get_or, None, Option, refl, inl, inr, arith}
use Rattle.std.proofs.lemmas.List.FromFn.{get_or-map-range_with_len, length-map-range_with_len}
use Rattle.std.proofs.lemmas.Bool.{ltb-true, leb-true, cases_eq}
use Rattle.std.proofs.lemmas.Bool.Decides.{nat_tests}
use Rattle.std.specs.List.{range_with_len}
use Rattle.survey.specs.Format.{cell_at, turnover_at, unless, first_bad, verdict}
use Rattle.survey.specs.Reading.{workshop_in, Headed}
use Rattle.survey.specs.declared.format.Head.{Head}
use Rattle.survey.specs.declared.refusal.Refusal.{Refusal}
use Rattle.survey.specs.declared.workshop.Workshop.{Workshop}

module _ (bytes : List ℕ) (n : ℕ) (ws : List Workshop) (all : ws ≡ map (workshop_in bytes) (range_with_len 0 n)) where
  -- there are as many as were read
  pub read_length : length ws ≡ n
  read_length = rw all (length-map-range_with_len (workshop_in bytes) 0 n)

  -- each of them
  pub read_item : (k : ℕ) (d : Workshop) → k < n → get_or ws k d ≡ workshop_in bytes k
  read_item k d below = rw all (get_or-map-range_with_len (workshop_in bytes) 0 n k k d below (omega arith))

-- where nothing is refused the test held, and nothing after it is refused
unless_none : (b : Bool) (e : Refusal) (rest : Option Refusal) → unless b e rest ≡ None → (b ≡ true) × (rest ≡ None)
unless_none true e rest none = (refl, none)
unless_none false e rest none = cc

-- a workshop that is in order
abbrev pub InOrder : List ℕ → ℕ → ℕ → Type 0
InOrder bytes cells k = (cell_at bytes k < cells) × (turnover_at bytes k ≤ 1000000000)

-- where no workshop is refused each is in order
pub none_bad : (bytes : List ℕ) (cells i n : ℕ) → first_bad bytes cells i n ≡ None → (k : ℕ) → i ≤ k → k < i + n → InOrder bytes cells k
none_bad bytes cells i zero none k from below = absurd (omega arith)
none_bad bytes cells i (suc n) none k from below =
    let cell = unless_none _ _ _ none in
    let turnover = unless_none _ _ _ cell.1 in
    elim (cases_eq k i) [
      | inl same ↦ rw same (ltb-true _ _ cell.0, leb-true _ _ turnover.0)
      | inr other ↦ none_bad bytes cells (i + 1) n turnover.1 k (omega arith) (omega arith)
    ]

-- where the head is in order the workshops decide
pub workshops_decide : (bytes : List ℕ) (h : Head) → Headed bytes h → verdict bytes ≡ first_bad bytes (h.rows * h.columns) 0 h.workshops
workshops_decide bytes h head = grind (arith, nat_tests)
