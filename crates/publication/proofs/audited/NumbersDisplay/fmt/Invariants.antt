-- So many marks are looked at.
use Rattle.std.specs.Fmt.{HasWritten, IsPlainFormatter}
use Rattle.publication.specs.Audit.{numbered}
use Rattle.publication.proofs.audited.NumbersDisplay.fmt.Given as goal

abbrev pub invariant-loop-number : goal.invariant-loop-number
invariant-loop-number g l =
    IsPlainFormatter l.initial.f → HasWritten g.W.Write.write_str_gives l.initial.f (numbered l.self.0.now l.number-counter) l.f
