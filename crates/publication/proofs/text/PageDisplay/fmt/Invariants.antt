-- So many rows are written.
use Rattle.std.specs.Fmt.{HasWritten, IsPlainFormatter}
use Rattle.survey.specs.Model.{model}
use Rattle.publication.specs.Text.{row_lines}
use Rattle.publication.proofs.text.PageDisplay.fmt.Given as goal

abbrev pub invariant-loop-row : goal.invariant-loop-row
invariant-loop-row g l =
    IsPlainFormatter l.initial.f →
    HasWritten g.W.Write.write_str_gives l.initial.f (row_lines (model l.self.table.now.survey) l.self.pattern.now l.row) l.f
