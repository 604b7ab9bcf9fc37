-- The rest of the run makes the whole run.
use Rattle.flow.specs.Standing.{survey_of}
use Rattle.flow.proofs.Running.{Running}
use Rattle.flow.proofs.raising.take_ways.Given as goal

abbrev pub invariant-loop-lacking : goal.invariant-loop-lacking
invariant-loop-lacking l =
    Running (survey_of l.raised) l.raised.pattern.now l.raised.cell l.sums l.initial.falls l.initial.rises l.lacking l.falls l.rises

abbrev pub decreases-loop-lacking : goal.decreases-loop-lacking
decreases-loop-lacking l = l.lacking
