-- Patterns from bytes, and one cell made blank or printed. Assumes nothing: these are definitions.
use Rattle.std.specs.Prelude.{◌≡◌, ℕ, ◌+◌, ◌<◌, ◌≤◌, Bool, false, List, [], ◌∷◌, length, Some, None, Ok, Err, Option, Result, ◌==◌, nat_le, nat_lt, slice_index, slice_set}
use Rattle.survey.specs.Format.{unless}
use Rattle.survey.specs.Lending.{Written}
use Rattle.survey.specs.Survey.{pick}
use Rattle.survey.specs.declared.refusal.Lent.TheVariants as lent
use Rattle.survey.specs.declared.refusal.Refusal.{Refusal}
use Rattle.survey.specs.declared.refusal.Refusal.TheVariants.{Pattern, Short}

-- the refusal of the first byte that is neither 0 nor 1; i is the number of the list's first byte
abbrev pub first_odd : List ℕ → ℕ → Option Refusal
first_odd [] i = None
first_odd (b ∷ bs) i = unless (nat_le b 1) (Pattern i) (first_odd bs (i + 1))

-- the first of two refusals
abbrev pub or_else : Option Refusal → Option Refusal → Option Refusal
or_else None later = later
or_else (Some e) later = Some e

-- the first refusal of a pattern's bytes for a table of n cells and so much lent memory, None where they are taken
abbrev pub pattern_verdict : ℕ → List ℕ → ℕ → Option Refusal
pattern_verdict n bytes room =
    unless (length bytes == n) (Pattern (length bytes))
    (or_else (first_odd bytes 0) (unless (nat_le n room) (Short lent.Pattern) None))

-- whether byte d says blank
abbrev pub byte_blank : List ℕ → ℕ → Bool
byte_blank bytes d = slice_index bytes d == 1

-- the bytes are taken, and the pattern is what they say; or they are refused by the first number, and nothing has changed
abbrev pub FromBytes : ℕ → List ℕ → List Bool → List Bool → Result (Unit {0}) Refusal → Type 0
FromBytes n bytes before after (Ok _) = (pattern_verdict n bytes (length before) ≡ None) × Written false (byte_blank bytes) n before after
FromBytes n bytes before after (Err e) = (pattern_verdict n bytes (length before) ≡ Some e) × (after ≡ before)

-- one cell of a table of n cells is marked, where so much is lent
abbrev pub Marks : ℕ → ℕ → Bool → List Bool → List Bool → Result (Unit {0}) Refusal → Type 0
Marks n cell blank before after (Ok _) = (n ≤ length before) × (after ≡ pick (nat_lt cell n) (slice_set before cell blank) before)
Marks n cell blank before after (Err e) = (length before < n) × ((e ≡ Short lent.Pattern) × (after ≡ before))
