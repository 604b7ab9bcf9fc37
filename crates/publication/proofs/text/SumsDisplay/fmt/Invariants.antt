-- So many columns are written.
use Rattle.std.specs.Fmt.{HasWritten, IsPlainFormatter}
use Rattle.survey.specs.Model.{model}
use Rattle.publication.specs.Text.{column_text}
use Rattle.publication.proofs.text.SumsDisplay.fmt.Given as goal

abbrev pub invariant-loop-column : goal.invariant-loop-column
invariant-loop-column g l =
    IsPlainFormatter l.initial.f → HasWritten g.W.Write.write_str_gives l.initial.f (column_text (model l.self.0.now.survey) l.column) l.f
