-- A pattern in which the cells that lack something are blank protects or doesn't; all cells blank protect or there is a
-- first cell to refuse at; and where they protect, some least number of cells is enough.
use Rattle.std.proofs.Common.{◌≡◌, ℕ, zero, suc, ◌+◌, ◌<◌, ◌≤◌, true, ◌⊎◌, List, length, take, sym, subst, inl, inr, arith}
use Rattle.std.proofs.lemmas.Bool.{cases_lt, cases_eq}
use Rattle.std.proofs.lemmas.List.{take_all}
use Rattle.survey.specs.Page.{Survey, Pattern, Sound, Witness, Protected, hidden, need}
use Rattle.survey.specs.Promise.{all_hidden, BarLaw, OneOrOther}
use Rattle.cut.proofs.BarLaw.{bar_law}
use Rattle.cut.proofs.OneOrOther.{one_or_other}
use Rattle.survey.specs.Model.{size}
use Rattle.search.specs.Search.{InOrder, blanked, LeastEnough, Refuses}
use Rattle.search.proofs.Patterns.{blanked_all, blanked_lacking, all_hidden_at}

-- a blank cell that lacks something has a witness or none
pub witness_or_none : (s : Survey) (h : Pattern) (c : ℕ) → Sound s → c < size s → hidden h c ≡ true → 0 < need s c →
    Witness s h c ⊎ (Witness s h c → ⊥)
unfolding BarLaw OneOrOther
witness_or_none s h c sound l blank lacking = elim (one_or_other s h c sound l blank lacking) [
  | inl w ↦ inl w
  | inr (rs, ks, bar) ↦ inr (bar_law s h c rs ks sound l bar)
]

-- each cell below n that lacks something has a witness
abbrev pub Served : Survey → Pattern → ℕ → Type 0
Served s h n = (c : ℕ) → c < n → 0 < need s c → Witness s h c

-- one cell more
pub served_more : (s : Survey) (h : Pattern) (n m : ℕ) → m ≤ n + 1 → Served s h n → (0 < need s n → Witness s h n) → Served s h m
served_more s h n m next each here c l lacking = elim (cases_eq c n) [
  | inl e ↦ subst (λ d. Witness s h d) (sym e) (here (subst (λ d. 0 < need s d) e lacking))
  | inr ne ↦ each c (omega arith) lacking
]

module _ (s : Survey) (h : Pattern) (sound : Sound s) (blank : (c : ℕ) → c < size s → 0 < need s c → hidden h c ≡ true) where
  -- cell c is the first that lacks something and has no witness
  abbrev Unserved : ℕ → ℕ → Type 0
  Unserved n c = (c < n) × (0 < need s c) × (Witness s h c → ⊥) × Served s h c

  -- all below n are served, or there is a first that is not
  pub served_or_first : (n : ℕ) → n ≤ size s → Served s h n ⊎ ((c : ℕ) × Unserved n c)
  served_or_first zero fits = inl (λ c l. absurd (omega arith))
  served_or_first (suc n) fits = elim (served_or_first n (omega arith)) [
    | inl each ↦ elim (cases_lt 0 (need s n)) [
      | inl lacking ↦ elim (witness_or_none s h n sound (omega arith) (blank n (omega arith) lacking) lacking) [
        | inl w ↦ inl (served_more s h n (suc n) (omega arith) each (λ _. w))
        | inr none ↦ inr (n, (omega arith, lacking, none, each))
      ]
      | inr nothing ↦ inl (served_more s h n (suc n) (omega arith) each (λ lacking. absurd (omega arith)))
    ]
    | inr (c, (l, lacking, none, each)) ↦ inr (c, (omega arith, lacking, none, each))
  ]

  -- the pattern protects or doesn't
  pub protected_or_not : Protected s h ⊎ (Protected s h → ⊥)
  unfolding Protected
  protected_or_not = elim (served_or_first (size s) (omega arith)) [
    | inl each ↦ inl each
    | inr (c, (l, lacking, none, each)) ↦ inr (λ protects. none (protects c l lacking))
  ]

-- all cells blank protect, or the search refuses
pub can_or_refuses : (s : Survey) → Sound s → Protected s (all_hidden (size s)) ⊎ ((c : ℕ) × Refuses s c)
unfolding Protected
can_or_refuses s sound = elim (served_or_first s (all_hidden (size s)) sound (λ c l _. all_hidden_at (size s) c l) (size s) (omega arith)) [
  | inl each ↦ inl each
  | inr (c, (l, lacking, none, each)) ↦ inr (c, record { inside = l; lacking = lacking; none = none; first = each })
]

-- where all cells blank protect, all of cs are enough
pub all_enough : (s : Survey) (cs : List ℕ) → InOrder s cs → Protected s (all_hidden (size s)) → Protected s (blanked s cs)
all_enough s cs o can = subst (λ h. Protected s h) (sym (blanked_all s cs o)) can

module _ (s : Survey) (cs : List ℕ) (sound : Sound s) where
  -- fewer than n of the first are not enough
  abbrev Short : ℕ → Type 0
  Short n = (j : ℕ) → j < n → Protected s (blanked s (take j cs)) → ⊥

  -- one more
  short_more : (n : ℕ) → Short n → (Protected s (blanked s (take n cs)) → ⊥) → Short (suc n)
  short_more n each here j l protects = elim (cases_eq j n) [
    | inl e ↦ here (subst (λ k. Protected s (blanked s (take k cs))) e protects)
    | inr ne ↦ each j (omega arith) protects
  ]

  -- some least number below n is enough, or none is
  least_or_short : (n : ℕ) → n ≤ length cs → ((k : ℕ) × LeastEnough s cs k) ⊎ Short n
  least_or_short zero fits = inr (λ j l. absurd (omega arith))
  least_or_short (suc n) fits = elim (least_or_short n (omega arith)) [
    | inl found ↦ inl found
    | inr none ↦ elim (protected_or_not s (blanked s (take n cs)) sound (blanked_lacking s (take n cs))) [
      | inl protects ↦ inl (n, record { within = omega arith; enough = protects; least = none })
      | inr doesn't ↦ inr (short_more n none doesn't)
    ]
  ]

  -- where all cells blank protect, some least number is enough
  pub some_least : InOrder s cs → Protected s (all_hidden (size s)) → (k : ℕ) × LeastEnough s cs k
  some_least o can = elim (least_or_short (length cs) (omega arith)) [
    | inl found ↦ found
    | inr none ↦ (
      length cs,
      record {
        within = omega arith;
        enough = subst (λ ds. Protected s (blanked s ds)) (sym (take_all (length cs) cs (omega arith))) (all_enough s cs o can);
        least = none;
      },
    )
  ]
