-- Lists that are filled from the front.
use Rattle.std.proofs.Common.{◌≡◌, ℕ, ◌+◌, ◌<◌, List, length, get_or, set, ◌∙◌, inl, inr, arith}
use Rattle.std.proofs.lemmas.List.{get_or-set_same, get_or-set_other}
use Rattle.std.proofs.lemmas.Bool.{cases_eq}

-- the first n entries are f's
abbrev pub First : (ℕ → ℕ) → ℕ → List ℕ → Type 0
First f n xs = (d : ℕ) → d < n → get_or xs d 0 ≡ f d

pub first_more : (f : ℕ → ℕ) (n : ℕ) (xs : List ℕ) (v : ℕ) → First f n xs → n < length xs → v ≡ f n → First f (n + 1) (set xs n v)
first_more f n xs v so_far room is d l = elim (cases_eq d n) [
  | inl same ↦ rw same (get_or-set_same xs n v 0 room ∙ is)
  | inr other ↦ get_or-set_other xs n d v 0 other ∙ so_far d (omega arith)
]
