-- A page whose text is written with the pattern that was found is let out. Assumes nothing.
use Rattle.std.proofs.Common.{◌≡◌, false, length, Ok, Err, Result, String, sym, ap, ◌∙◌, inl, inr, arith}
use Rattle.std.proofs.lemmas.List.{ext_get_or}
use Rattle.survey.specs.Lending.{Written}
use Rattle.survey.specs.Model.{size}
use Rattle.survey.specs.Page.{Survey, Pattern, Sound, hidden}
use Rattle.survey.specs.declared.refusal.Refusal.{Refusal}
use Rattle.search.proofs.Right.{finds_long}
use Rattle.search.specs.Outcomes.{Found}
use Rattle.publication.specs.Publishing.{Publishes}
use Rattle.publication.specs.Text.{page_text}
use Rattle.publication.specs.Worlds.{SameText}
use Rattle.publication.specs.Written.{Published}
use Rattle.publication.proofs.Same.{same_text}

-- memory for just the table's cells that the search wrote to holds the pattern that was found
pub wrote_found : (s : Survey) (g before h : Pattern) → Found s g → length before ≡ size s → Written false (hidden g) (size s) before h → h ≡ g
wrote_found s g before h found long wrote =
    let as_long : length h ≡ length g = wrote.long ∙ long ∙ sym (finds_long s g found.finds) in
    ext_get_or false h g as_long (λ d below. wrote.here d (omega (arith, as_long, finds_long s g found.finds)))

-- what is written with it is let out
pub publishes : {Z : Type 0} (s : Survey) (g h : Pattern) (r : Result (String Z) Refusal) → Sound s → Found s g → h ≡ g → Published s h r → Publishes s r
unfolding SameText
publishes s g h (Ok text) sound found same written =
    record { pattern = g; found = found; text = written.1 ∙ ap (page_text s) same; safe = same_text.2 s g sound found.safe }
publishes s g h (Err e) sound found same (inl short) = absurd (omega (arith, short.0, ap length same, finds_long s g found.finds))
publishes s g h (Err e) sound found same (inr memory) = inr memory.1
