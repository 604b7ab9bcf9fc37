-- The survey's bytes: rows, columns, percentage, the number of workshops in two bytes, and six bytes for each workshop, its
-- cell in two and its turnover in four, low byte first. What they say, and which refusal is first. Assumes nothing.
use Rattle.std.specs.Prelude.{ℕ, zero, suc, ◌+◌, ◌*◌, Bool, true, false, ◌&&◌, List, map, length, Some, None, Option, ◌==◌, nat_le, nat_lt, slice_index}
use Rattle.std.specs.List.{range_with_len}
use Rattle.survey.specs.Page as page
use Rattle.survey.specs.declared.refusal.Refusal.{Refusal}
use Rattle.survey.specs.declared.refusal.Refusal.TheVariants.{Dimension, Percentage, TooMany, Length, Cell, Turnover}
use Rattle.survey.specs.declared.refusal.Side.TheVariants.{Rows, Columns}

-- the number in two bytes from place i on
abbrev pub two_bytes : List ℕ → ℕ → ℕ
two_bytes bytes i = slice_index bytes i + 256 * slice_index bytes (i + 1)

-- the number in four bytes from place i on
abbrev pub four_bytes : List ℕ → ℕ → ℕ
four_bytes bytes i = slice_index bytes i + 256 * slice_index bytes (i + 1) + 65536 * slice_index bytes (i + 2) + 16777216 * slice_index bytes (i + 3)

-- how many workshops the head announces
abbrev pub announced : List ℕ → ℕ
announced bytes = two_bytes bytes 3

-- the cell of workshop i
abbrev pub cell_at : List ℕ → ℕ → ℕ
cell_at bytes i = two_bytes bytes (5 + 6 * i)

-- the turnover of workshop i
abbrev pub turnover_at : List ℕ → ℕ → ℕ
turnover_at bytes i = four_bytes bytes (7 + 6 * i)

-- the survey that the bytes say
unfoldable pub decoded : List ℕ → page.Survey
decoded bytes = record {
  rows = slice_index bytes 0;
  columns = slice_index bytes 1;
  percent = slice_index bytes 2;
  cells = map (cell_at bytes) (range_with_len 0 (announced bytes));
  values = map (turnover_at bytes) (range_with_len 0 (announced bytes));
}

-- from 1 to the most
abbrev pub within : ℕ → ℕ → Bool
within most n = nat_lt 0 n && nat_le n most

-- go on where the test holds; else this is the refusal
abbrev pub unless : Bool → Refusal → Option Refusal → Option Refusal
unless true e rest = rest
unless false e rest = Some e

-- of workshop i and so many after it, the first that is refused: its cell is looked at before its turnover
abbrev pub first_bad : List ℕ → ℕ → ℕ → ℕ → Option Refusal
first_bad bytes cells i zero = None
first_bad bytes cells i (suc more) =
    unless (nat_lt (cell_at bytes i) cells) (Cell i)
    (unless (nat_le (turnover_at bytes i) 1000000000) (Turnover i)
    (first_bad bytes cells (i + 1) more))

-- the first refusal that applies, None where the survey is taken
abbrev pub verdict : List ℕ → Option Refusal
verdict bytes =
    unless (nat_le 5 (length bytes)) (Length (length bytes))
    (unless (within 40 (slice_index bytes 0)) (Dimension Rows)
    (unless (within 40 (slice_index bytes 1)) (Dimension Columns)
    (unless (within 100 (slice_index bytes 2)) Percentage
    (unless (nat_le (announced bytes) 20000) TooMany
    (unless (length bytes == 5 + 6 * announced bytes) (Length (length bytes))
    (first_bad bytes (slice_index bytes 0 * slice_index bytes 1) 0 (announced bytes)))))))
