-- The search's outcome is right: the pattern that it finds protects with no blank in vain, and is safe; where it refuses,
-- no pattern protects.
use Rattle.std.proofs.Common.{◌≡◌, ℕ, ◌<◌, true, false, List, length, get_or, take, set, sym, refl, ap, ◌∙◌, subst, inl, inr, arith}
use Rattle.std.proofs.lemmas.Bool.{cases_eq, both_ways}
use Rattle.std.proofs.lemmas.List.{get_or-take, length-take-le, length-set}
use Rattle.survey.specs.Page.{Survey, Pattern, Protected, Safe, hidden}
use Rattle.survey.specs.Promise.{OutcomeRight, NoneInVain, MoreHidden, Guard}
use Rattle.survey.specs.Promise.Outcome.{page, cannot}
use Rattle.pattern.proofs.Guard.{guard, more_hidden}
use Rattle.survey.specs.Model.{size}
use Rattle.search.specs.Search.{PrintedBack, Finds, Refuses, Searched, SearchedRight, SearchedSafe}
use Rattle.search.specs.Search.PrintedBack.{done, prints, keeps}
use Rattle.search.proofs.Patterns.{length_blanked, has_blanked}
use Rattle.search.proofs.Witnesses.{printed_shows, printed_fewer, printed_both, protected_all}

-- hiding more never harms
pub protected_more : (s : Survey) (h g : Pattern) → ((c : ℕ) → hidden h c ≡ true → hidden g c ≡ true) → Protected s h → Protected s g
unfolding MoreHidden
protected_more = more_hidden

-- printing cells again keeps the pattern one that protects
pub still_protects : {s : Survey} {cs : List ℕ} {k : ℕ} {h g : Pattern} → PrintedBack s cs k h g → Protected s h → Protected s g
still_protects done protects = protects
still_protects (prints p t) protects = still_protects t p
still_protects (keeps n t) protects = still_protects t protects

-- and hides no more
pub still_fewer : {s : Survey} {cs : List ℕ} {k : ℕ} {h g : Pattern} → PrintedBack s cs k h g → (c : ℕ) → hidden g c ≡ true → hidden h c ≡ true
still_fewer done c blank = blank
still_fewer {cs = cs} (prints {k = k} {h = h} p t) c blank = printed_fewer h (get_or cs k 0) c (still_fewer t c blank)
still_fewer (keeps n t) c blank = still_fewer t c blank

-- and has as many entries
pub still_long : {s : Survey} {cs : List ℕ} {k : ℕ} {h g : Pattern} → PrintedBack s cs k h g → length g ≡ length h
still_long done = refl
still_long {cs = cs} (prints {k = k} {h = h} p t) = still_long t ∙ length-set h (get_or cs k 0) false
still_long (keeps n t) = still_long t

-- a cell that was looked at and is blank can't be printed
pub kept_since : {s : Survey} {cs : List ℕ} {k : ℕ} {h g : Pattern} → PrintedBack s cs k h g → (i : ℕ) → i < k →
    hidden g (get_or cs i 0) ≡ true → Protected s (set g (get_or cs i 0) false) → ⊥
kept_since done i l blank protects = omega arith
kept_since {s} {cs} {g = g} (prints {k = k} {h = h} p t) i l blank protects = elim (cases_eq i k) [
  | inl e ↦ both_ways _ (ap (λ j. hidden (set h (get_or cs k 0) false) (get_or cs j 0)) e ∙ printed_shows h (get_or cs k 0)) (still_fewer t (get_or cs i 0) blank)
  | inr ne ↦ kept_since t i (omega arith) blank protects
]
kept_since {s} {cs} {g = g} (keeps {k = k} {h = h} n t) i l blank protects = elim (cases_eq i k) [
  | inl e ↦ n (protected_more s (set g (get_or cs k 0) false) (set h (get_or cs k 0) false) (printed_both h g (get_or cs k 0) (still_fewer t))
      (subst (λ j. Protected s (set g (get_or cs j 0) false)) e protects))
  | inr ne ↦ kept_since t i (omega arith) blank protects
]

-- the pattern found protects
pub finds_protected : (s : Survey) (g : Pattern) → Finds s g → Protected s g
finds_protected s g f = still_protects f.printed_back f.least_enough.enough

-- it has an entry for each cell of the table
pub finds_long : (s : Survey) (g : Pattern) → Finds s g → length g ≡ size s
finds_long s g f = still_long f.printed_back ∙ length_blanked s (take f.count f.order)

-- and hides no cell in vain
pub finds_none_in_vain : (s : Survey) (g : Pattern) → Finds s g → NoneInVain s g
unfolding NoneInVain
finds_none_in_vain s g f c l blank nothing protects =
    let k = f.count in
    let cs = f.order in
    let (i, m, at) = has_blanked s (take k cs) c l nothing (still_fewer f.printed_back c blank) in
    let below : i < k = omega (arith, length-take-le k cs f.least_enough.within) in
    let is : get_or cs i 0 ≡ c = sym (get_or-take k cs i 0 below) ∙ at 0 in
    kept_since f.printed_back i below (subst (λ x. hidden g x ≡ true) (sym is) blank)
    (subst (λ x. Protected s (set g x false)) (sym is) protects)

-- where the search refuses, no pattern protects
pub refuses_all : (s : Survey) (c : ℕ) → Refuses s c → (h : Pattern) → Protected s h → ⊥
unfolding Protected
refuses_all s c r h protects = r.none (protected_all s h protects c r.inside r.lacking)

-- the search's outcome is right
pub searched_right : SearchedRight
unfolding SearchedRight Searched OutcomeRight
searched_right s (page g) f = (finds_protected s g f, finds_none_in_vain s g f)
searched_right s (cannot c) r = (r.lacking, r.inside, r.none, r.first, refuses_all s c r)

-- the pattern found is safe
pub searched_safe : SearchedSafe
unfolding SearchedSafe Searched Guard Safe
searched_safe s g sound f = guard s g sound (finds_protected s g f)
