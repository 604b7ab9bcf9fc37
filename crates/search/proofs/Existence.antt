-- Every survey in order has an outcome: its cells that lack nothing can be put in order, and what can be printed again is
-- decided cell by cell.
use Rattle.std.proofs.Common.{◌≡◌, ℕ, zero, suc, ◌<◌, ◌≤◌, true, false, eqb, ◌⊎◌, List, [], ◌∷◌, length, get_or, take, set, sym, refl, ap, ◌∙◌, subst, inl, inr, add-one, arith}
use Rattle.std.proofs.ByRecursion.{has_get_or}
use Rattle.std.proofs.lemmas.List.{get_or-set_other}
use Rattle.std.proofs.lemmas.Bool.{cases_lt, cases_eq, both_ways, eq-eqb, eqb-true, or_left, or_right, or_cases}
use Rattle.survey.specs.Model.{size}
use Rattle.survey.specs.Page.{Survey, Pattern, Sound, hidden, need, true_sum}
use Rattle.survey.specs.Promise.Outcome.{page, cannot}
use Rattle.search.specs.Search.{Before, InOrder, among, blanked, PrintedBack, Searched, SomeOutcome}
use Rattle.search.specs.Search.PrintedBack.{done, prints, keeps}
use Rattle.search.proofs.Deciding.{protected_or_not, can_or_refuses, some_least}
use Rattle.search.proofs.Patterns.{among_has, has_among, blanked_lacking}

-- the first of a list is among it
among_here : (c : ℕ) (cs : List ℕ) → among c (c ∷ cs) ≡ true
unfolding among
among_here c cs = or_left _ _ (eq-eqb c c refl)

-- and what is among the rest
among_there : (c d : ℕ) (cs : List ℕ) → among c cs ≡ true → among c (d ∷ cs) ≡ true
unfolding among
among_there c d cs t = or_right _ _ t

-- and nothing else
among_cases : (c d : ℕ) (cs : List ℕ) → among c (d ∷ cs) ≡ true → (c ≡ d) ⊎ (among c cs ≡ true)
unfolding among
among_cases c d cs t = elim (or_cases (eqb c d) (among c cs) t) [ inl e ↦ inl (eqb-true c d e) | inr u ↦ inr u ]

-- nothing is among nothing
among_none : (c : ℕ) → among c [] ≡ true → ⊥
unfolding among
among_none c t = both_ways false refl t

module _ (s : Survey) where
  -- cell x comes before the first of these
  Ahead : ℕ → List ℕ → Type 0
  Ahead x [] = Unit {0}
  Ahead x (d ∷ ds) = Before s x d

  -- each comes before the next
  Rising : List ℕ → Type 0
  Rising [] = Unit {0}
  Rising (c ∷ cs) = Ahead c cs × Rising cs

  -- by place
  rising_at : (cs : List ℕ) → Rising cs → (i : ℕ) → suc i < length cs → Before s (get_or cs i 0) (get_or cs (suc i) 0)
  unfolding Rising Ahead
  rising_at [] r i l = absurd (omega arith)
  rising_at (c ∷ []) r i l = absurd (omega arith)
  rising_at (c ∷ (d ∷ ds)) (b, r) zero l = b
  rising_at (c ∷ (d ∷ ds)) (b, r) (suc i) l = rising_at (d ∷ ds) r i (omega arith)

  -- a cell with a smaller number and no larger sum comes before
  comes_before : (c n : ℕ) → true_sum s c ≤ true_sum s n → c < n → Before s c n
  comes_before c n le l = elim (cases_lt (true_sum s c) (true_sum s n)) [
    | inl less ↦ inl less
    | inr more ↦ inr (omega arith, l)
  ]

  -- ds holds cell n and what cs holds
  record Inserted (n : ℕ) (cs ds : List ℕ) : Type 0 where
    rising : Rising ds
    ahead : (x : ℕ) → Ahead x cs → Before s x n → Ahead x ds
    old : (c : ℕ) → among c cs ≡ true → among c ds ≡ true
    new : among n ds ≡ true
    only : (c : ℕ) → among c ds ≡ true → (among c cs ≡ true) ⊎ (c ≡ n)

  -- a cell can be put into its place among those with smaller numbers
  insert : (n : ℕ) (cs : List ℕ) → Rising cs → ((c : ℕ) → among c cs ≡ true → c < n) → (ds : List ℕ) × Inserted n cs ds
  unfolding Rising Ahead
  insert n [] r low = (
    n ∷ [],
    record {
      rising = (tt, tt);
      ahead = λ x _ b. b;
      old = λ c t. absurd (among_none c t);
      new = among_here n [];
      only = λ c t. elim (among_cases c n [] t) [ inl e ↦ inr e | inr u ↦ absurd (among_none c u) ];
    },
  )
  insert n (c ∷ cs) (ahead, r) low = elim (cases_lt (true_sum s n) (true_sum s c)) [
    | inl less ↦ (
      n ∷ (c ∷ cs),
      record {
        rising = (inl less, (ahead, r));
        ahead = λ x _ b. b;
        old = λ d t. among_there d n (c ∷ cs) t;
        new = among_here n (c ∷ cs);
        only = λ d t. elim (among_cases d n (c ∷ cs) t) [ inl e ↦ inr e | inr u ↦ inl u ];
      },
    )
    | inr le ↦
        let (ds, ins) = insert n cs r (λ d t. low d (among_there d c cs t)) in (
          c ∷ ds,
          record {
            rising = (ins.ahead c ahead (comes_before c n le (low c (among_here c cs))), ins.rising);
            ahead = λ x b _. b;
            old = λ d t. elim (among_cases d c cs t) [ inl e ↦ rw e (among_here c ds) | inr u ↦ among_there d c ds (ins.old d u) ];
            new = among_there n c ds ins.new;
            only = λ d t. elim (among_cases d c ds t) [
              | inl e ↦ inl (rw e (among_here c cs))
              | inr u ↦ elim (ins.only d u) [ inl v ↦ inl (among_there d c cs v) | inr e ↦ inr e ]
            ];
          },
        )
  ]

  -- cs holds the cells below n that lack nothing, in their order
  record Listed (n : ℕ) (cs : List ℕ) : Type 0 where
    rising : Rising cs
    only : (c : ℕ) → among c cs ≡ true → (c < n) × (need s c ≡ 0)
    all : (c : ℕ) → c < n → need s c ≡ 0 → among c cs ≡ true

  -- there is such a list
  listed : (n : ℕ) → (cs : List ℕ) × Listed n cs
  unfolding Rising
  listed zero = ([], record { rising = tt; only = λ c t. absurd (among_none c t); all = λ c l. absurd (omega arith) })
  listed (suc n) =
      let (cs, so_far) = listed n in
      elim (cases_eq (need s n) 0) [
        | inl nothing ↦
            let (ds, ins) = insert n cs so_far.rising (λ c t. (so_far.only c t).0) in (
              ds,
              record {
                rising = ins.rising;
                only = λ c t. elim (ins.only c t) [
                  | inl u ↦ (omega (arith, (so_far.only c u).0), (so_far.only c u).1)
                  | inr e ↦ (omega arith, ap (need s) e ∙ nothing)
                ];
                all = λ c l z. elim (cases_eq c n) [
                  | inl e ↦ rw e ins.new
                  | inr ne ↦ ins.old c (so_far.all c (omega arith) z)
                ];
              },
            )
        | inr lacks ↦ (
          cs,
          record {
            rising = so_far.rising;
            only = λ c t. (omega (arith, (so_far.only c t).0), (so_far.only c t).1);
            all = λ c l z. elim (cases_eq c n) [
              | inl e ↦ absurd (lacks (sym (ap (need s) e) ∙ z))
              | inr ne ↦ so_far.all c (omega arith) z
            ];
          },
        )
      ]

  -- so the cells that lack nothing can be put in order
  some_order : (cs : List ℕ) × InOrder s cs
  some_order =
      let (cs, all) = listed (size s) in (
        cs,
        record {
          only = λ c has. all.only c (among_has c cs has);
          all = λ c l z. has_among c cs (all.all c l z);
          rising = λ i l. subst (λ j. Before s (get_or cs i 0) (get_or cs j 0)) (sym (add-one i)) (rising_at cs all.rising i (omega arith));
        },
      )

  module _ (sound : Sound s) (cs : List ℕ) (nothing : (i : ℕ) → i < length cs → need s (get_or cs i 0) ≡ 0) where
    -- the cells that lack something are blank
    Hides : Pattern → Type 0
    Hides h = (c : ℕ) → c < size s → 0 < need s c → hidden h c ≡ true

    -- and stay so where one is printed that lacks nothing
    hides_still : (h : Pattern) (d : ℕ) → need s d ≡ 0 → Hides h → Hides (set h d false)
    unfolding Hides
    hides_still h d none hides c l lacking =
        get_or-set_other h d c false false (λ e. omega (arith, ap (need s) e)) ∙ hides c l lacking

    -- what can be printed again comes to some pattern
    some_printed : (k : ℕ) → k ≤ length cs → (h : Pattern) → Hides h → (g : Pattern) × PrintedBack s cs k h g
    unfolding Hides
    some_printed zero fits h hides = (h, done)
    some_printed (suc k) fits h hides =
        let printed = hides_still h (get_or cs k 0) (nothing k (omega arith)) hides in
        elim (protected_or_not s (set h (get_or cs k 0) false) sound printed) [
          | inl protects ↦ let (g, t) = some_printed k (omega arith) (set h (get_or cs k 0) false) printed in (g, prints protects t)
          | inr open' ↦ let (g, t) = some_printed k (omega arith) h hides in (g, keeps open' t)
        ]

-- every survey in order has an outcome
pub some_outcome : SomeOutcome
unfolding SomeOutcome Searched Hides
some_outcome s sound = elim (can_or_refuses s sound) [
  | inr (c, refuses) ↦ (cannot c, refuses)
  | inl can ↦
      let (cs, order) = some_order s in
      let (k, least) = some_least s cs sound order can in
      let (g, back) = some_printed s sound cs (λ i l. (order.only _ (has_get_or cs i 0 l)).1) k least.within (blanked s (take k cs)) (blanked_lacking s (take k cs)) in
      (page g, record { can = can; order = cs; count = k; in_order = order; least_enough = least; printed_back = back })
]
