-- Each witness that may change the cell is looked for again.
use Rattle.std.proofs.Common.{◌≡◌, ◌<◌, Some, length, get_or, set, refl, true, sym, ◌∙◌, ap, arith}
use Rattle.std.proofs.lemmas.List.{set-get_or, with_items_is, length-set}
use Rattle.std.proofs.lemmas.List.Elements.{All-set}
use Rattle.std.specs.Option.{is_some}
use Rattle.survey.specs.Model.{model, size}
use Rattle.survey.specs.Page.{need}
use Rattle.search.specs.Lacking.{cells_lacking, unknown}
use Rattle.search.specs.Trials.{Tried}
use Rattle.search.specs.declared.lacking.Lacking.{Lacking}
use Rattle.search.proofs.Listing.{cell_at, listed_at, listed_long, listed_inside, listed_lacks, served_all, looked_listed}
use Rattle.search.proofs.Patterns.{without_witness}
use Rattle.search.proofs.Printing.{put_back, blank_besides, printing_undone, printing_found, printing_skip}
use Rattle.search.proofs.trials.Trial.print_again.Goals as goal
use Rattle.search.proofs.trials.Trial.print_again.Goals.{In_default, After-look, then-changes+in-Some, else-changes}

pub look-requires-clause-inside : goal.look-requires-clause-inside
look-requires-clause-inside c = listed_inside _ c.loop-lack.lack-items c.loop-lack.invariant.listed c.loop-lack.lack-index (omega arith)

pub look-requires-clause-blank : goal.look-requires-clause-blank
look-requires-clause-blank c =
    let s = model c.self.inside.table.now.survey in
    let ls = c.loop-lack.lack-items in
    let i = c.loop-lack.lack-index in
    let listed = c.loop-lack.invariant.listed in
    let was : c.self.inside.pattern.items ≡ c.args.self.now.pattern = ap (λ (t : Tried). t.pattern) c.self.view_is in
    let enough : need s c.args.cell ≡ 0 = rw (← c.self.view_is) at c.requires.enough in
    rw (c.deref.ensures.value, c.loop-lack.invariant.pattern, ← was) (blank_besides s c.self.inside.pattern.items c.args.cell enough c.self.invariant.blank (cell_at ls i) (listed_inside s ls listed i (omega arith)) (listed_lacks s ls listed i (omega arith)))

pub invariant_of-self-in_default : goal.invariant_of-self-in_default
invariant_of-self-in_default c =
    let s = model c.self.inside.table.now.survey in
    let ls = c.loop-lack.lack-items in
    let i = c.loop-lack.lack-index in
    let d = c.args.cell in
    let so_far = c.loop-lack.invariant in
    let was : c.self.inside.pattern.items ≡ c.args.self.now.pattern = ap (λ (t : Tried). t.pattern) c.self.view_is in
    let back : set c.loop-lack.pattern.items d c.index-before.result.now ≡ c.self.inside.pattern.items =
    ap (λ g. set g d c.index-before.result.now) so_far.pattern ∙ put_back c.args.self.now.pattern d _ (rw was at c.index-before.ensures) ∙ sym was in
    let long : length (set ls i (get_or ls i (unknown 0))) ≡ c.self.inside.lacking.len = length-set ls i _ ∙ c.loop-lack.auto.lack-items ∙ c.deref_mut-lack-items.ensures.len in
    let same = with_items_is c.self.inside.lacking (set ls i (get_or ls i (unknown 0))) long ∙ set-get_or ls i (unknown 0) in
    rw (back, same) (record {
      long = c.self.invariant.long;
      blank = c.self.invariant.blank;
      listed = so_far.listed;
      known = rw was (printing_undone s c.args.self.now.pattern d ls i so_far.so_far);
      roomy = c.look.ensures.room;
    })

pub returns-in_default-clause-tried : goal.returns-in_default-clause-tried
returns-in_default-clause-tried c =
    let s = model c.self.inside.table.now.survey in
    let ls = c.loop-lack.lack-items in
    let i = c.loop-lack.lack-index in
    let d = c.args.cell in
    let so_far = c.loop-lack.invariant in
    let below : i < length ls = omega arith in
    let was : c.self.inside.pattern.items ≡ c.args.self.now.pattern = ap (λ (t : Tried). t.pattern) c.self.view_is in
    let survey : s ≡ c.args.self.now.survey = ap (λ (t : Tried). t.survey) c.self.view_is in
    let none = rw (c.deref.ensures.value, so_far.pattern) at c.in_default.ensures.found in (
      ap (λ g. set g d c.index-before.result.now) so_far.pattern ∙ put_back c.args.self.now.pattern d _ (rw was at c.index-before.ensures),
      rw (← survey) (without_witness s _ (cell_at ls i) (listed_inside s ls so_far.listed i below) (listed_lacks s ls so_far.listed i below) none),
    )

pub loop-lack-preserved : goal.loop-lack-preserved
loop-lack-preserved c =
    let s = model c.self.inside.table.now.survey in
    let h = c.args.self.now.pattern in
    let d = c.args.cell in
    let ls = c.loop-lack.lack-items in
    let i = c.loop-lack.lack-index in
    let so_far = c.loop-lack.invariant in
    let below : i < length ls = omega arith in
    let at = listed_at s ls so_far.listed i below in
    elim c.if-changes.branch [
      | then-changes+in-Some w ↦
          let kept = rw (w.deref.ensures.value, so_far.pattern) at w.in-Some.ensures.found in
          record {
            pattern = so_far.pattern;
            listed = looked_listed s ls c.if-changes.lack-items i (Some w.in-Some.moves) w.lack-items-is so_far.listed;
            roomy = rw w.scratch-is w.look.ensures.room;
            known = rw w.lack-items-is (All-set (λ (l : Lacking). is_some l.moves ≡ true) ls i _ refl so_far.known);
            so_far = printing_found s h d ls i so_far.so_far below at c.if-changes.lack-items w.in-Some.moves w.lack-items-is kept;
          }
      | else-changes w ↦
          let same = w.lack-items-is ∙ set-get_or ls i (unknown 0) in
          let (m, is, says) = c.changes.ensures in
          let unmoved = sym says ∙ w.if-changes.false in
          let width : c.columns-columns.result ≡ s.columns = c.columns-columns.ensures ∙ ap (λ t. (model t).columns) c.survey.ensures in
          let inside : d < size s = rw (← c.self.view_is) at c.requires.inside in
          record {
            pattern = so_far.pattern;
            listed = ap cells_lacking same ∙ so_far.listed;
            roomy = rw w.scratch-is so_far.roomy;
            known = rw same so_far.known;
            so_far = rw same (printing_skip s h d ls i so_far.so_far below at m is (rw width at unmoved) c.self.inside.table.now.survey.some_columns inside);
          }
    ]

pub returns-clause-tried : goal.returns-clause-tried
returns-clause-tried c =
    let s = model c.self.inside.table.now.survey in
    let so_far = c.loop-lack.invariant in
    let survey : s ≡ c.args.self.now.survey = ap (λ (t : Tried). t.survey) c.self.view_is in
    (so_far.pattern, rw (← survey) (served_all s _ (λ i below. so_far.so_far.served i (omega (arith, listed_long s c.loop-lack.lack-items so_far.listed)))))
