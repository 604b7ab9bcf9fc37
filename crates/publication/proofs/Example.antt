-- The page of a small survey is computed.
use Rattle.std.proofs.Common.{refl}
use Rattle.std.specs.Fmt.{digits}
use Rattle.survey.specs.Survey.{sum_at, sum_of_all, rows_of, columns_of}
use Rattle.publication.specs.Audit.{numbered}
use Rattle.publication.specs.Example.{Example}
use Rattle.publication.specs.Text.{entry, row_text, row_line, row_lines, column_text, sums_line, page_text}

pub small_page : Example
unfolding Example digits sum_at sum_of_all rows_of columns_of numbered entry row_text row_line row_lines column_text sums_line page_text
small_page = (refl, refl, refl)
