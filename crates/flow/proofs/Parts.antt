-- Which cells take part, and which of them can fall.
use Rattle.std.proofs.Common.{◌≡◌, ℕ, ◌-◌, ◌<◌, ◌≤◌, true, false, not, eqb, ltb, ◌≢◌, ◌⊎◌, sym, refl, ◌∙◌, inl, inr, arith}
use Rattle.std.proofs.lemmas.Bool.{both_ways, and_parts, and_from, and_cases, not-true, not_from_false, eqb-false, ne_eqb, ltb-true, ltb-false, lt-ltb, le-ltb, and_left, and_right, cases_Bool, cases_lt, false_from_ne_true}
use Rattle.survey.specs.Survey.{pick, largest, many}
use Rattle.survey.specs.Page.{Survey, Pattern, hidden, true_sum}
use Rattle.survey.specs.Promise.{may_give}
use Rattle.flow.specs.Ways.{takes_part, spare, can_fall}

module _ (s : Survey) (h : Pattern) (c d : ℕ) where
  -- a cell that takes part is hidden
  pub part_hidden : takes_part s h c d ≡ true → hidden h d ≡ true
  unfolding takes_part
  part_hidden t = (and_parts _ _ t).0

  -- a cell that takes part is not the raised one
  pub part_other : takes_part s h c d ≡ true → d ≢ c
  unfolding takes_part
  part_other t = eqb-false d c (not-true _ (and_parts _ _ (and_parts (hidden h d) _ t).1).0)

  -- a cell that takes part has two workshops or more
  pub part_many : takes_part s h c d ≡ true → 1 < many d s.cells
  unfolding takes_part
  part_many t = ltb-true 1 _ (and_parts (not (eqb d c)) _ (and_parts (hidden h d) _ t).1).1

  -- a hidden cell of two workshops or more, other than the raised one, takes part
  pub part_from : hidden h d ≡ true → d ≢ c → 1 < many d s.cells → takes_part s h c d ≡ true
  unfolding takes_part
  part_from t o m = and_from _ _ t (and_from _ _ (not_from_false _ (ne_eqb d c o)) (lt-ltb 1 _ m))

  -- the raised cell takes no part itself
  pub part_own : d ≡ c → takes_part s h c d ≡ false
  part_own same = false_from_ne_true _ (λ t. part_other t same)

  -- another cell that takes no part is printed, or has one workshop or none
  pub no_part : takes_part s h c d ≡ false → d ≢ c → (hidden h d ≡ false) ⊎ (many d s.cells ≤ 1)
  no_part f o = elim (cases_Bool (hidden h d)) [
    | inl t ↦ inr (omega (arith, (λ (m : 1 < many d s.cells). both_ways _ f (part_from t o m))))
    | inr t ↦ inl t
  ]

  -- what a cell may give
  pub may_give_is : may_give s h c d ≡ pick (takes_part s h c d) (true_sum s d - largest d s.cells s.values) 0
  unfolding may_give takes_part
  may_give_is = refl

  module _ (y : ℕ → ℕ) where
    -- a cell that can fall takes part
    pub fall_part : can_fall s h c y d ≡ true → takes_part s h c d ≡ true
    unfolding can_fall
    fall_part t = (and_parts _ _ t).0

    -- a cell that can fall stands above its largest workshop
    pub fall_above : can_fall s h c y d ≡ true → largest d s.cells s.values < y d
    unfolding can_fall
    fall_above t = ltb-true _ _ (and_parts (takes_part s h c d) _ t).1

    -- a cell that takes part and can't fall stands at its largest workshop or below
    pub no_fall : takes_part s h c d ≡ true → can_fall s h c y d ≡ false → y d ≤ largest d s.cells s.values
    unfolding can_fall
    no_fall t f = elim (and_cases (takes_part s h c d) _ f) [ inl e ↦ absurd (both_ways _ e t) | inr e ↦ ltb-false _ _ e ]

module _ (s : Survey) (h : Pattern) (c d : ℕ) where
  -- the test of a hidden cell other than the raised one
  pub part_test : (w : ℕ) → hidden h d ≡ true → d ≢ c → w ≡ many d s.cells → ltb 1 w ≡ takes_part s h c d
  unfolding takes_part
  part_test w t o is = rw (is, t, ne_eqb d c o)

  -- a printed cell takes no part
  pub part_printed : hidden h d ≡ false → takes_part s h c d ≡ false
  unfolding takes_part
  part_printed f = and_left _ _ f

  module _ (y : ℕ → ℕ) where
    -- the test of a cell that takes part
    pub fall_test : (x : ℕ) → takes_part s h c d ≡ true → x ≡ spare s y d → ltb 0 x ≡ can_fall s h c y d
    unfolding can_fall spare
    fall_test x t is = elim (cases_lt (largest d s.cells s.values) (y d)) [
      | inl l ↦ lt-ltb 0 x (omega arith) ∙ sym (and_from _ _ t (lt-ltb _ _ l))
      | inr l ↦ le-ltb 0 x (omega arith) ∙ sym (and_right (takes_part s h c d) _ (le-ltb _ _ l))
    ]

    -- a cell that takes no part can't fall
    pub no_part_fall : takes_part s h c d ≡ false → can_fall s h c y d ≡ false
    unfolding can_fall
    no_part_fall f = and_left _ _ f
