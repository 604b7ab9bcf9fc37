-- A search has one outcome at most.
use Rattle.std.proofs.Common.{◌≡◌, ℕ, List, take, refl, ap, subst, inl, inr}
use Rattle.std.proofs.lemmas.Bool.{cases_order}
use Rattle.survey.specs.Page.{Survey, Pattern, Protected}
use Rattle.survey.specs.Promise.Outcome.{page, cannot}
use Rattle.search.specs.Search.{blanked, LeastEnough, PrintedBack, Finds, Refuses, Searched, OneOutcome}
use Rattle.search.specs.Search.PrintedBack.{done, prints, keeps}
use Rattle.search.proofs.Order.{in_order_one}

-- the least number that is enough is one
pub least_one : (s : Survey) (cs : List ℕ) (k j : ℕ) → LeastEnough s cs k → LeastEnough s cs j → k ≡ j
least_one s cs k j a b = elim (cases_order k j) [
  | inl e ↦ e
  | inr (inl l) ↦ absurd (b.least k l a.enough)
  | inr (inr l) ↦ absurd (a.least j l b.enough)
]

-- what can be printed again is one pattern
pub printed_one : {s : Survey} {cs : List ℕ} {k : ℕ} {h g f : Pattern} → PrintedBack s cs k h g → PrintedBack s cs k h f → g ≡ f
printed_one done done = refl
printed_one (prints p t) (prints q u) = printed_one t u
printed_one (prints p t) (keeps n u) = absurd (n p)
printed_one (keeps n t) (prints q u) = absurd (n q)
printed_one (keeps n t) (keeps m u) = printed_one t u

-- the search finds one pattern
finds_one : (s : Survey) (g f : Pattern) → Finds s g → Finds s f → g ≡ f
finds_one s g f a b =
    let e : b.order ≡ a.order = in_order_one s b.order a.order b.in_order a.in_order in
    let least : LeastEnough s a.order b.count = subst (λ cs. LeastEnough s cs b.count) e b.least_enough in
    let back : PrintedBack s a.order b.count (blanked s (take b.count a.order)) f =
    subst (λ cs. PrintedBack s cs b.count (blanked s (take b.count cs)) f) e b.printed_back in
    let m : b.count ≡ a.count = least_one s a.order b.count a.count least a.least_enough in
    printed_one a.printed_back (subst (λ k. PrintedBack s a.order k (blanked s (take k a.order)) f) m back)

-- the search refuses at one cell
refuses_one : (s : Survey) (c d : ℕ) → Refuses s c → Refuses s d → c ≡ d
refuses_one s c d a b = elim (cases_order c d) [
  | inl e ↦ e
  | inr (inl l) ↦ absurd (a.none (b.first c l a.lacking))
  | inr (inr l) ↦ absurd (b.none (a.first d l b.lacking))
]

-- it doesn't do both
never_both : (s : Survey) (g : Pattern) (c : ℕ) → Finds s g → Refuses s c → ⊥
unfolding Protected
never_both s g c a b = b.none (a.can c b.inside b.lacking)

-- a search has one outcome at most
pub one_outcome : OneOutcome
unfolding OneOutcome Searched
one_outcome s (page g) (page f) a b = ap page (finds_one s g f a b)
one_outcome s (page g) (cannot c) a b = absurd (never_both s g c a b)
one_outcome s (cannot c) (page g) a b = absurd (never_both s g c b a)
one_outcome s (cannot c) (cannot d) a b = ap cannot (refuses_one s c d a b)
