-- A page may be safe though it is not protected. Assumes nothing: this is a statement.
use Rattle.survey.specs.Page.{Survey, Pattern, Sound, Safe, Protected}

-- there is a survey with a page that is safe and not protected
unfoldable pub SafeUnprotected : Type 0
SafeUnprotected = (s : Survey) × (h : Pattern) × Sound s × Safe s h × (Protected s h → ⊥)
