-- Which surveys a program serves. Assumes nothing: these are definitions.
use Rattle.std.specs.Prelude.{◌≡◌, ℕ, Bool, true, false, ◌&&◌, ◌||◌, ◌⊎◌, List, length, None, Ok, Err, Result, nat_le}
use Rattle.survey.specs.Format.{decoded, verdict}
use Rattle.survey.specs.Model.{size}
use Rattle.survey.specs.Page as page
use Rattle.survey.specs.Reading.{Refuses}
use Rattle.survey.specs.declared.refusal.Lent.TheVariants.{Sums}
use Rattle.survey.specs.declared.refusal.Refusal.{Refusal}
use Rattle.survey.specs.declared.refusal.Refusal.TheVariants.{Short}

-- at most 64 cells and 2,000 workshops
abbrev pub is_small : page.Survey → Bool
is_small s = nat_le (size s) 64 && nat_le (length s.values) 2000

-- a small survey is served, and any where the call asks for it
abbrev pub serves : Bool → page.Survey → Bool
serves full s = full || is_small s

-- a survey that is not served is refused as one whose sums find no room
abbrev pub serving : Bool → Result (Unit {0}) Refusal
serving true = Ok tt
serving false = Err (Short Sums)

-- the bytes are refused by themselves; or they are taken, and their survey is not served
abbrev pub TurnedAway : List ℕ → Bool → Refusal → Type 0
TurnedAway bytes full e = Refuses bytes e ⊎ ((verdict bytes ≡ None) × ((serves full (decoded bytes) ≡ false) × (e ≡ Short Sums)))
