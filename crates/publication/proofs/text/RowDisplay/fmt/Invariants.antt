-- So many cells of the row are written.
use Rattle.std.specs.Fmt.{HasWritten, IsPlainFormatter}
use Rattle.survey.specs.Model.{model}
use Rattle.publication.specs.Text.{row_text}
use Rattle.publication.proofs.text.RowDisplay.fmt.Given as goal

abbrev pub invariant-loop-k : goal.invariant-loop-k
invariant-loop-k g l =
    IsPlainFormatter l.initial.f →
    HasWritten g.W.Write.write_str_gives l.initial.f (row_text (model l.self.page.table.now.survey) l.self.page.pattern.now l.self.row l.k) l.f
