-- One cell more has a witness, or is the first that has none.
use Rattle.std.proofs.Common.{◌<◌, not, length, refl, ◌∙◌, ap, subst, arith}
use Rattle.survey.specs.Model.{model, size}
use Rattle.survey.specs.Page.{Witness}
use Rattle.survey.specs.Promise.{all_hidden}
use Rattle.search.proofs.Keeping.{looked_some, looked_none}
use Rattle.search.proofs.Listing.{Served, cell_at, listed_at, listed_long, listed_inside, served_next, served_all, served_refuses}
use Rattle.search.proofs.Patterns.{length_all_hidden, all_hidden_at}
use Rattle.search.proofs.trials.first_open.Goals as goal

pub look-requires : goal.look-requires
look-requires c =
    let s = model c.args.table.now.survey in
    let ls = c.args.lacking.now in
    let i = c.loop-lack.lack-index in
    let inside = listed_inside s ls c.requires.listed i (omega arith) in
    record {
      roomy = c.loop-lack.invariant.room;
      long = omega (arith, ap length c.requires.blank, length_all_hidden (size s));
      inside = inside;
      blank = rw c.requires.blank (all_hidden_at (size s) (cell_at ls i) inside);
    }

pub loop-lack-preserved : goal.loop-lack-preserved
loop-lack-preserved c =
    let s = model c.args.table.now.survey in
    let ls = c.args.lacking.now in
    let i = c.loop-lack.lack-index in
    let below : i < length ls = omega arith in
    let witness = looked_some s _ (cell_at ls i) c.look.result c.look.ensures.found (c.is_none.ensures ∙ ap not c.if-is_none.false) in
    record {
      room = c.look.ensures.room;
      served = served_next s _ i c.loop-lack.invariant.served (subst (λ d. Witness s c.args.pattern.now d) (listed_at s ls c.requires.listed i below) witness);
    }

pub returns-then-is_none : goal.returns-then-is_none
returns-then-is_none c =
    let s = model c.args.table.now.survey in
    let ls = c.args.lacking.now in
    let i = c.loop-lack.lack-index in
    let h = all_hidden (size s) in
    let below : i < length ls = omega arith in
    let long = listed_long s ls c.requires.listed in
    let at = listed_at s ls c.requires.listed i below in
    let none = looked_none s _ (cell_at ls i) c.look.result c.look.ensures.found (c.is_none.ensures ∙ ap not c.if-is_none.true) in
    let refuses = served_refuses s i (omega arith) (subst (λ g. Served s g i) c.requires.blank c.loop-lack.invariant.served) (subst (λ d. Witness s h d → ⊥) at (rw c.requires.blank at none)) in
    record { room = c.look.ensures.room; found = (cell_at ls i, refl, rw at refuses) }

pub returns-clause-found : goal.returns-clause-found
returns-clause-found c =
    let s = model c.args.table.now.survey in
    let all = served_all s c.args.pattern.now (λ i below. c.loop-lack.invariant.served i (omega (arith, listed_long s c.args.lacking.now c.requires.listed))) in
    rw c.requires.blank at all
