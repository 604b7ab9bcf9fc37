-- What lent memory holds after a call. Assumes nothing: these are definitions.
use Rattle.std.specs.Prelude.{◌≡◌, ℕ, ◌<◌, ◌≤◌, List, length, Ok, Err, Result, slice_index_or}
use Rattle.survey.specs.declared.refusal.Refusal.{Refusal}

-- the first n entries are f's, and those past them are as before; z is any value to read past the end
pub record Written {X : Type 0} (z : X) (f : ℕ → X) (n : ℕ) (before after : List X) : Type 0 where
  pub long : length after ≡ length before
  pub here : (d : ℕ) → d < n → slice_index_or after d z ≡ f d
  pub past : (d : ℕ) → n ≤ d → slice_index_or after d z ≡ slice_index_or before d z

-- where n entries are lent they are filled with f's; else the call is refused, and nothing has changed
abbrev pub Fills : {X : Type 0} → X → (ℕ → X) → ℕ → Refusal → List X → List X → Result (Unit {0}) Refusal → Type 0
Fills z f n short before after (Ok _) = (n ≤ length before) × Written z f n before after
Fills z f n short before after (Err e) = (length before < n) × ((e ≡ short) × (after ≡ before))
