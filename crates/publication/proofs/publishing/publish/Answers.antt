-- The pattern that was found is the one that the text is written with.
use Rattle.std.proofs.Common.{refl, ap, ◌∙◌, rules}
use Rattle.std.proofs.lemmas.List.{with_items_is}
use Rattle.survey.proofs.Facts.{model_sound}
use Rattle.survey.specs.Model.{model, size}
use Rattle.publication.specs.Written.{Published}
use Rattle.publication.proofs.Letting.{wrote_found, publishes}
use Rattle.publication.proofs.publishing.publish.Goals as goal

pub returns : goal.returns
returns c =
    let s = model c.args.table.now.survey in
    let made = c.in_ok-search.ensures.1 in
    let wide = c.cells.ensures.value ∙ ap (λ t. size (model t)) c.survey.ensures in
    let held = with_items_is c.in_ok-pattern.pattern c.search.new.pattern (c.search.auto.pattern ∙ c.deref_mut.ensures.len) in
    let wrote = held ∙ wrote_found s made.0 _ _ made.1 (c.deref_mut.ensures.len ∙ c.in_ok-pattern.ensures.len ∙ wide) made.2 in
    let written : Published s made.0 c.page_text.result = search (rules, wrote) in
    publishes s made.0 made.0 c.page_text.result (model_sound c.args.table.now.survey) made.1 refl written
