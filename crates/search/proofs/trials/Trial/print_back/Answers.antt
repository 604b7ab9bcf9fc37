-- A cell is printed, or kept.
use Rattle.std.proofs.Common.{◌≡◌, length, take, get_or, refl, sym, ◌∙◌}
use Rattle.std.proofs.lemmas.List.{length-take-le}
use Rattle.search.specs.Ranking.{cells_of}
use Rattle.search.proofs.Blanking.{ranked_is, ranked_only}
use Rattle.search.proofs.Steps.{come_first, come_tried, come_all, take_last}
use Rattle.search.proofs.trials.Trial.print_back.Goals as goal

pub loop-ranked-init : goal.loop-ranked-init
loop-ranked-init c =
    let all : c.into_iter-ranked-iterator.result.iter.rest.now ≡ take c.args.k c.args.order.now = cc in
    let long : length (take c.args.k c.args.order.now) ≡ c.args.k = length-take-le c.args.k c.args.order.now c.requires.within in
    record { can = tt; ends = tt; same = refl; known = c.requires.known; left = rw (all, long) refl; come = rw (all, long) (come_first _ _ _ _) }

pub print_again-requires-clause-inside : goal.print_again-requires-clause-inside
print_again-requires-clause-inside c =
    let last = take_last _ _ _ _ c.loop-ranked.invariant.left c.in-Some.ensures.steps in
    rw (c.loop-ranked.invariant.same, ← last.is) (ranked_only _ c.args.order.now c.requires.ordered _ last.within).0

pub print_again-requires-clause-enough : goal.print_again-requires-clause-enough
print_again-requires-clause-enough c =
    let last = take_last _ _ _ _ c.loop-ranked.invariant.left c.in-Some.ensures.steps in
    rw (c.loop-ranked.invariant.same, ← last.is) (ranked_only _ c.args.order.now c.requires.ordered _ last.within).1

pub loop-ranked-preserved : goal.loop-ranked-preserved
loop-ranked-preserved c =
    let last = take_last _ _ _ _ c.loop-ranked.invariant.left c.in-Some.ensures.steps in
    let this : c.in-Some.ranked.now.cell ≡ get_or (cells_of c.args.order.now) (length c.next.new.self.iter.rest.now) 0 =
    sym last.is ∙ sym (ranked_is c.args.order.now _ last.within) in
    record {
      can = tt;
      ends = tt;
      same = c.print_again.ensures.same ∙ c.loop-ranked.invariant.same;
      known = c.print_again.ensures.keeps;
      left = last.left;
      come = come_tried _ _ _ _ _ _ _ _ c.print_again.result last.long c.loop-ranked.invariant.come (rw (c.loop-ranked.invariant.same, this) at c.print_again.ensures.tried);
    }

pub returns : goal.returns
returns c = come_all _ _ _ _ _ _ c.in-None.ensures.steps.0 c.loop-ranked.invariant.come
