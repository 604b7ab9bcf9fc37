-- The cells that a witness changes, kept as bits. Assumes nothing: these are definitions.
use Rattle.std.specs.Prelude.{◌≡◌, ℕ, ◌+◌, ◌*◌, ◌/◌, ◌%◌, ◌^◌, ◌<◌, Bool, not, List, ◌==◌, slice_index}

-- bit k of a number
abbrev pub bit_of : ℕ → ℕ → Bool
bit_of x k = (x / 2 ^ k) % 2 == 1

-- whether cell d differs in two lists of sums
abbrev pub differs : List ℕ → List ℕ → ℕ → Bool
differs sums other d = not (slice_index other d == slice_index sums d)

-- bit k of entry r says whether the cell in row r and column k differs, in a table of so many rows and columns
abbrev pub MovesOf : (rows columns : ℕ) → (sums other bits : List ℕ) → Type 0
MovesOf rows columns sums other bits = (r k : ℕ) → r < rows → k < columns → bit_of (slice_index bits r) k ≡ differs sums other (r * columns + k)
