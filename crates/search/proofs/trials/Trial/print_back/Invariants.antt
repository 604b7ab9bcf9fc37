-- Printing has come this far.
use Rattle.std.proofs.Common.{◌≡◌, length, take}
use Rattle.search.specs.Lacking.{AllKnown}
use Rattle.search.specs.Ranking.{cells_of}
use Rattle.search.proofs.Steps.{ComeTo}
use Rattle.search.proofs.trials.Trial.print_back.Given as goal

abbrev pub invariant-loop-ranked : goal.invariant-loop-ranked
invariant-loop-ranked l =
    let rest = l.ranked-iterator.iter.rest.now in
    record {
      can : (goal.iterator-loop-ranked).can_next l.ranked-iterator;
      ends : (goal.iterator-loop-ranked).is_finite l.ranked-iterator;
      same : l.self.survey ≡ l.fn.self.survey;
      known : AllKnown l.self.lacking;
      left : rest ≡ take (length rest) l.order;
      come : ComeTo l.fn.self.survey (cells_of l.order) l.k l.fn.self.pattern (length rest) l.self.pattern;
    }
