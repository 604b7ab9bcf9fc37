-- What goes with a pattern that is found and with a refusal. Assumes nothing.
use Rattle.std.proofs.Common.{◌-◌, ◌≤◌, false, ◌++◌, length, get_or, drop, refl, ap, ◌∙◌, inl, inr, arith, length-append, length-drop}
use Rattle.std.proofs.lemmas.List.{get_or_append_left, get_or-append_right, get_or-drop}
use Rattle.pattern.proofs.Guard.{guard}
use Rattle.survey.specs.Lending.{Written}
use Rattle.survey.specs.Page.{Survey, Pattern, Sound, hidden}
use Rattle.survey.specs.Promise.{Guard}
use Rattle.survey.specs.Promise.Outcome.{cannot}
use Rattle.survey.specs.declared.refusal.Refusal.{Refusal}
use Rattle.search.specs.Outcomes.{Found, Stops, Failed}
use Rattle.search.specs.Search.{Finds, Searched, SearchedRight}
use Rattle.search.proofs.Right.{finds_protected, finds_none_in_vain, searched_right}

-- a pattern that the rule gives protects, has no blank in vain, and is safe
pub found_by_rule : (s : Survey) (g : Pattern) → Sound s → Finds s g → Found s g
unfolding Guard
found_by_rule s g sound finds =
    let protects = finds_protected s g finds in
    record { finds = finds; protected = protects; none_in_vain = finds_none_in_vain s g finds; safe = guard s g sound protects }

-- a refusal by the rule is right
pub failed_by_rule : (s : Survey) (e : Refusal) → Stops s e → Failed s e
unfolding Searched SearchedRight
failed_by_rule s e (inl (c, is, refuses)) = inl (c, is, record { refuses = refuses; right = searched_right s (cannot c) refuses })
failed_by_rule s e (inr memory) = inr memory

-- a pattern written over the front of another
pub written_front : (g h : Pattern) → length g ≤ length h → Written false (hidden g) (length g) h (g ++ drop (length g) h)
written_front g h fits = record {
  long = omega (arith, length-append g (drop (length g) h), length-drop (length g) h);
  here = λ d below. get_or_append_left g (drop (length g) h) false d below;
  past = λ d past.
      get_or-append_right g (drop (length g) h) (length g) d false refl past ∙ get_or-drop (length g) h (d - length g) false
      ∙ ap (λ i. get_or h i false) (omega arith);
}
