-- A cell has a witness, or another is made blank.
use Rattle.std.proofs.Common.{◌≡◌, ◌<◌, true, length, refl, sym, ◌∙◌, ap, subst, arith}
use Rattle.std.proofs.lemmas.List.{length-set}
use Rattle.std.proofs.lemmas.List.Elements.{AllWithin-more_set}
use Rattle.std.specs.Option.{is_some}
use Rattle.survey.specs.Model.{model}
use Rattle.survey.specs.Page.{Witness}
use Rattle.search.specs.Ranking.{cells_of}
use Rattle.search.specs.Trials.{Tried}
use Rattle.search.specs.declared.lacking.Lacking.{Lacking}
use Rattle.search.proofs.Blanking.{blanking_all, next, ranked_at}
use Rattle.search.proofs.Keeping.{looked_known, looked_some}
use Rattle.search.proofs.Listing.{cell_at, listed_at, listed_long, listed_inside, listed_lacks, served_next, served_more, served_all, looked_listed, looked_known_all}
use Rattle.search.proofs.Trying.{blank_still, tries_more}
use Rattle.search.proofs.trials.Trial.blank_enough.Goals as goal

pub look-moves-requires-clause-inside : goal.look-moves-requires-clause-inside
look-moves-requires-clause-inside c = listed_inside _ c.loop-lack.lack-items c.loop-lack.invariant.tries.listed c.loop-lack.lack-index (omega arith)

pub look-moves-requires-clause-blank : goal.look-moves-requires-clause-blank
look-moves-requires-clause-blank c =
    let s = model c.self.inside.table.now.survey in
    let ls = c.loop-lack.lack-items in
    let i = c.loop-lack.lack-index in
    let tries = c.loop-lack.invariant.tries in
    rw c.deref.ensures.value
    (c.blanks.invariant.more _ (tries.blank (cell_at ls i) (listed_inside s ls tries.listed i (omega arith)) (listed_lacks s ls tries.listed i (omega arith))))

pub bounds-order-k : goal.bounds-order-k
bounds-order-k c =
    (next _ _ c.blanks.k _ c.blanks.invariant.so_far _ (ap (λ (t : Tried). t.survey) c.self.view_is) c.requires.ordered c.requires.begins.can c.loop-lack.lack-items c.loop-lack.invariant.tries.listed
    c.loop-lack.lack-index (omega arith) c.look-moves.result (rw c.deref.ensures.value at c.look-moves.ensures.found) (sym c.is_some.ensures ∙ c.if-is_some.false)).room

pub index_mut-requires : goal.index_mut-requires
index_mut-requires c =
    let next = next _ _ c.blanks.k _ c.blanks.invariant.so_far _ (ap (λ (t : Tried). t.survey) c.self.view_is) c.requires.ordered c.requires.begins.can c.loop-lack.lack-items c.loop-lack.invariant.tries.listed
    c.loop-lack.lack-index (omega arith) c.look-moves.result (rw c.deref.ensures.value at c.look-moves.ensures.found) (sym c.is_some.ensures ∙ c.if-is_some.false) in
    omega (arith, next.inside, c.blanks.invariant.long, c.blanks.pattern.ok.0)

pub blanks-smaller : goal.blanks-smaller
blanks-smaller c =
    let next = next _ _ c.blanks.k _ c.blanks.invariant.so_far _ (ap (λ (t : Tried). t.survey) c.self.view_is) c.requires.ordered c.requires.begins.can c.loop-lack.lack-items c.loop-lack.invariant.tries.listed
    c.loop-lack.lack-index (omega arith) c.look-moves.result (rw c.deref.ensures.value at c.look-moves.ensures.found) (sym c.is_some.ensures ∙ c.if-is_some.false) in
    omega (arith, next.room)

pub blanks-preserved : goal.blanks-preserved
blanks-preserved c =
    let next = next _ _ c.blanks.k _ c.blanks.invariant.so_far _ (ap (λ (t : Tried). t.survey) c.self.view_is) c.requires.ordered c.requires.begins.can c.loop-lack.lack-items c.loop-lack.invariant.tries.listed
    c.loop-lack.lack-index (omega arith) c.look-moves.result (rw c.deref.ensures.value at c.look-moves.ensures.found) (sym c.is_some.ensures ∙ c.if-is_some.false) in
    record {
      roomy = c.look-moves.ensures.room;
      long = length-set c.blanks.pattern.items _ true ∙ c.blanks.invariant.long;
      more = λ d blank. blank_still c.blanks.pattern.items (ranked_at c.args.order.now c.blanks.k) d (c.blanks.invariant.more d blank);
      so_far = next.more;
    }

pub loop-lack-preserved : goal.loop-lack-preserved
loop-lack-preserved c =
    let s = model c.self.inside.table.now.survey in
    let h = c.loop-lack.pattern.items in
    let g = c.blanks.pattern.items in
    let ls = c.loop-lack.lack-items in
    let i = c.loop-lack.lack-index in
    let below : i < length ls = omega arith in
    let tries = tries_more s h g ls _ c.look-moves.new.scratch c.blanks.invariant.more c.blanks.invariant.long c.look-moves.ensures.room c.loop-lack.invariant.tries in
    let found = rw c.deref.ensures.value at c.look-moves.ensures.found in
    let witness = looked_some s g (cell_at ls i) c.look-moves.result found (sym c.is_some.ensures ∙ c.if-is_some.true) in
    record {
      tries = record {
        long = tries.long;
        blank = tries.blank;
        listed = looked_listed s ls _ i c.look-moves.result refl tries.listed;
        known = looked_known_all s ls _ i c.look-moves.result refl g (looked_known s g (cell_at ls i) c.look-moves.result found) tries.known;
        roomy = tries.roomy;
      };
      so_far = c.blanks.invariant.so_far;
      known = AllWithin-more_set ls i _ below (λ (d : Lacking). is_some d.moves ≡ true) c.loop-lack.invariant.known (sym c.is_some.ensures ∙ c.if-is_some.true);
      served =
          served_next s g i (served_more s h g c.blanks.invariant.more i c.loop-lack.invariant.served)
          (subst (λ d. Witness s g d) (listed_at s ls c.loop-lack.invariant.tries.listed i below) witness);
    }

pub returns-clause-enough : goal.returns-clause-enough
returns-clause-enough c =
    let s = model c.self.inside.table.now.survey in
    let survey : s ≡ c.args.self.now.survey = ap (λ (t : Tried). t.survey) c.self.view_is in
    let so_far = c.loop-lack.invariant in
    let all = served_all s c.loop-lack.pattern.items (λ i below. so_far.served i (omega (arith, listed_long s c.loop-lack.lack-items so_far.tries.listed))) in
    rw (← survey) (blanking_all s (cells_of c.args.order.now) c.loop-lack.k c.loop-lack.pattern.items so_far.so_far all)
