-- What is left to look at decides.
use Rattle.std.proofs.Common.{◌≡◌, ◌-◌}
use Rattle.survey.specs.Format.{first_bad}
use Rattle.survey.proofs.format.check_workshops.Given as goal

abbrev pub invariant-loop-i : goal.invariant-loop-i
invariant-loop-i l = first_bad l.bytes l.cells l.i (l.workshops - l.i) ≡ first_bad l.bytes l.cells 0 l.workshops
