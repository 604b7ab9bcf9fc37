-- What was made is as the first look and the trial ask for it.
use Rattle.std.proofs.Common.{◌≡◌, [], length, refl, ap, ◌∙◌}
use Rattle.std.proofs.lemmas.List.{map-id, with_items_is}
use Rattle.std.proofs.lemmas.List.Elements.{All-map}
use Rattle.std.proofs.lemmas.Simd.{map-map}
use Rattle.std.specs.Vec.{with_items}
use Rattle.survey.specs.Model.{model, size}
use Rattle.survey.specs.Promise.{all_hidden}
use Rattle.cut.proofs.Scratched.{cleared_roomy}
use Rattle.search.specs.Lacking.{Known, lacking_cells, unknown}
use Rattle.search.specs.Search.{blanked}
use Rattle.search.proofs.Patterns.{blanked_first, blanked_lacking, length_blanked, replicate_hidden}
use Rattle.search.proofs.trials.Trial.new.Goals as goal
use Rattle.search.proofs.trials.Trial.new.Goals.{After-unwrap}

pub first_open-requires : goal.first_open-requires
first_open-requires c =
    let s = model c.args.table.now.survey in
    let many : c.cells-cells.result ≡ size s = c.cells-cells.ensures.value ∙ ap (λ t. size (model t)) c.survey.ensures in
    record {
      roomy = rw many at (cleared_roomy _ _ c.in_ok-scratch.ensures);
      listed = rw (c.deref.ensures.value, c.in_ok-lacking.ensures) (simp (map-map, map-id));
      blank = c.deref-2.ensures.value ∙ c.in_ok-pattern.ensures.items_if_clones_equal (λ y same. same) ∙ replicate_hidden c.cells-cells.result ∙ ap all_hidden many;
    }

-- the table's pattern is the first of the rule
first : (c : After-unwrap) → (with_items c.in_ok-pattern.pattern c.blank_lacking.new.pattern).items ≡ blanked (model c.args.table.now.survey) []
first c =
    let s = model c.args.table.now.survey in
    let filled = rw c.unwrap.ensures at c.blank_lacking.ensures in
    let wrote = filled.1 in
    let many : c.cells-cells.result ≡ size s = c.cells-cells.ensures.value ∙ ap (λ t. size (model t)) c.survey.ensures in
    let long : length c.blank_lacking.new.pattern ≡ c.in_ok-pattern.pattern.len = wrote.long ∙ c.deref_mut.ensures.len in
    with_items_is c.in_ok-pattern.pattern c.blank_lacking.new.pattern long
    ∙ blanked_first s c.blank_lacking.new.pattern (long ∙ c.in_ok-pattern.ensures.len ∙ many) wrote.here

pub invariant_of-result : goal.invariant_of-result
invariant_of-result c =
    let s = model c.args.table.now.survey in
    record {
      long = ap length (first c) ∙ length_blanked s [];
      blank = λ d inside lacking. rw (first c) (blanked_lacking s [] d inside lacking);
      listed = rw c.in_ok-lacking.ensures (simp (map-map, map-id));
      known = rw c.in_ok-lacking.ensures (All-map (Known s _) unknown (lacking_cells s) (λ k d below. tt));
      roomy = c.first_open.ensures.room;
    }

pub returns : goal.returns
returns c = record { survey = refl; can = c.in_ok-first_open.ensures.found; first = first c }
