-- The cells in order by a sort: entries of a sum and a cell are gathered for the cells that lack nothing, and sorted by
-- sum and then by cell; at the end the same of the crate's own entries. Assumes nothing.
use Rattle.std.proofs.Common.{◌≡◌, ℕ, zero, suc, ◌+◌, ◌<◌, ◌≤◌, Bool, true, false, cond, eqb, ◌⊎◌, List, [], ◌∷◌, ◌++◌, map, length, get_or, count_by, Ordering, Less, Equal, sym, refl, ap, ◌∙◌, subst, inl, inr, arith}
use Rattle.std.specs.Ordering.{is_lt, nat_cmp, ordering_then}
use Rattle.std.specs.List.{ContainsAt as Has, AllByRecursion as All, filter, range_with_len}
use Rattle.std.specs.List.Sorted.{IsPermutation, IsSortedWithin}
use Rattle.std.specs.Cmp.{nat_cmp_is}
use Rattle.std.proofs.lemmas.Bool.{cases_eq, cases_lt, cases_order, both_ways, eq-eqb, ne_eqb, cond-true, cond-false}
use Rattle.std.proofs.lemmas.List.{length-map, get_or-map, map-append, map-id, append-nil}
use Rattle.std.proofs.lemmas.List.Elements.{filter-append}
use Rattle.std.proofs.lemmas.List.FromFn.{map-range_with_len_more}
use Rattle.std.proofs.ByRecursion.{All-get_or, All-push, All-weaker, All-map, all-has, has_push, has_append_left, all_shuffled, has_shuffled}
use Rattle.std.proofs.lemmas.List.Sums.{sum_by-cons, sum_by_push, count_by_more_yes, sum_by-take-le}
use Rattle.std.proofs.lemmas.List.Sorted.{sum_by-IsPermutation}
use Rattle.survey.specs.Page.{Survey, true_sum, need}
use Rattle.survey.specs.Model.{size}
use Rattle.search.specs.Ranking.{cells_of, with_sum, ranked_cells}
use Rattle.search.specs.Search.{Before, InOrder}
use Rattle.search.specs.declared.ranking.Ranked.{Ranked}

module _ {X : Type 0} (s : Survey) (sum cell : X → ℕ) where
  -- how many entries are of cell c
  abbrev pub times : ℕ → List X → ℕ
  times c ps = count_by (λ p. eqb (cell p) c) ps

  -- the entries of the cells below n that lack nothing, each once
  pub record Gathered (n : ℕ) (ps : List X) : Type 0 where
    pub sums : All (λ p. sum p ≡ true_sum s (cell p)) ps
    pub only : All (λ p. (cell p < n) × (need s (cell p) ≡ 0)) ps
    pub all : (c : ℕ) → c < n → need s c ≡ 0 → (p : X) × Has ps p × (cell p ≡ c)
    pub once : (c : ℕ) → times c ps ≤ 1

  -- none below 0
  pub gathered_none : Gathered 0 []
  gathered_none = record { sums = tt; only = tt; all = λ c l. absurd (omega arith); once = λ c. omega arith }

  -- a cell that lacks something is passed over
  pub gathered_skip : (n : ℕ) (ps : List X) → Gathered n ps → 0 < need s n → Gathered (n + 1) ps
  gathered_skip n ps g lacking = record {
    sums = g.sums;
    only = All-weaker _ (λ p. (cell p < n + 1) × (need s (cell p) ≡ 0)) (λ p h. (omega arith, h.1)) ps g.only;
    all = λ c l nothing. elim (cases_eq c n) [
      | inl e ↦ absurd (omega (arith, ap (need s) e))
      | inr ne ↦ g.all c (omega arith) nothing
    ];
    once = g.once;
  }

  -- no entry is of a cell past them
  times_past : (n : ℕ) (ps : List X) → All (λ p. (cell p < n) × (need s (cell p) ≡ 0)) ps → times n ps ≡ 0
  times_past n [] a = refl
  times_past n (p ∷ ps) a =
      omega (
        arith,
        sum_by-cons (λ q. cond (eqb (cell q) n) 1 0) p ps,
        times_past n ps a.1,
        cond-false {A = ℕ} (eqb (cell p) n) 1 0 (ne_eqb (cell p) n (omega arith)),
      )

  -- one that lacks nothing is added
  pub gathered_push : (n : ℕ) (ps : List X) (q : X) → Gathered n ps → need s n ≡ 0 → cell q ≡ n → sum q ≡ true_sum s n → Gathered (n + 1) (ps ++ q ∷ [])
  gathered_push n ps q g nothing is is_sum = record {
    sums = All-push _ ps q g.sums (is_sum ∙ ap (true_sum s) (sym is));
    only = All-push _ ps q (All-weaker _ (λ p. (cell p < n + 1) × (need s (cell p) ≡ 0)) (λ p h. (omega arith, h.1)) ps g.only)
        (omega arith, ap (need s) is ∙ nothing);
    all = λ c l e. elim (cases_eq c n) [
      | inl f ↦ (q, has_push ps q, is ∙ sym f)
      | inr ne ↦ let (p, has, at) = g.all c (omega arith) e in (p, has_append_left ps (q ∷ []) p has, at)
    ];
    once = λ c. elim (cases_eq n c) [
      | inl e ↦ omega (arith, pushed c, subst (λ d. times d ps ≡ 0) e (times_past n ps g.only), cond-true {A = ℕ} (eqb (cell q) c) 1 0 (eq-eqb (cell q) c (is ∙ e)))
      | inr ne ↦ omega (arith, pushed c, g.once c, cond-false {A = ℕ} (eqb (cell q) c) 1 0 (ne_eqb (cell q) c (omega arith)))
    ];
  }
    where
      pushed : (c : ℕ) → times c (ps ++ q ∷ []) ≡ times c ps + cond (eqb (cell q) c) 1 0
      pushed c = sum_by_push (λ p. cond (eqb (cell p) c) 1 0) ps q

  -- two neighbours of one cell: the cell is there twice
  times_two : (c i : ℕ) (d : X) (qs : List X) → i + 1 < length qs → cell (get_or qs i d) ≡ c → cell (get_or qs (i + 1) d) ≡ c → 2 ≤ times c qs
  times_two c i d qs l a b =
      omega (
        arith,
        count_by_more_yes (λ p. eqb (cell p) c) qs i d (omega arith) (eq-eqb _ c a),
        count_by_more_yes (λ p. eqb (cell p) c) qs (i + 1) d l (eq-eqb _ c b),
        sum_by-take-le (λ p. cond (eqb (cell p) c) 1 0) qs (i + 1 + 1),
      )

  -- by sum and then by cell
  abbrev pub by_sum : X → X → Ordering
  by_sum p q = ordering_then (nat_cmp (sum p) (sum q)) (nat_cmp (cell p) (cell q))

  -- an entry with a smaller sum is less
  less_sum : (p q : X) → sum q < sum p → is_lt (by_sum q p) ≡ true
  less_sum p q l = ap (λ o. is_lt (ordering_then o (nat_cmp (cell q) (cell p)))) (sym (nat_cmp_is (sum q) (sum p) Less l))

  -- and of equal sums one with a smaller cell
  less_cell : (p q : X) → sum p ≡ sum q → cell q < cell p → is_lt (by_sum q p) ≡ true
  less_cell p q same l =
      ap (λ o. is_lt (ordering_then o (nat_cmp (cell q) (cell p)))) (sym (nat_cmp_is (sum q) (sum p) Equal (sym same)))
      ∙ ap is_lt (sym (nat_cmp_is (cell q) (cell p) Less l))

  -- one entry does not come after the next: its sum is smaller, or the sums are equal and its cell is no larger
  not_after : (p q : X) → is_lt (by_sum q p) ≡ false → (sum p < sum q) ⊎ ((sum p ≡ sum q) × (cell p ≤ cell q))
  not_after p q e = elim (cases_order (sum p) (sum q)) [
    | inl same ↦ elim (cases_lt (cell q) (cell p)) [
      | inl l ↦ absurd (both_ways _ e (less_cell p q same l))
      | inr l ↦ inr (same, l)
    ]
    | inr (inl l) ↦ inl l
    | inr (inr l) ↦ absurd (both_ways _ e (less_sum p q l))
  ]

  -- an entry of some
  some_entry : (qs : List X) → 0 < length qs → X
  some_entry [] l = absurd (omega arith)
  some_entry (q ∷ qs) l = q

  -- the cell of one entry comes before that of the next
  before_next : (qs : List X) (i : ℕ) (d : X) → i + 1 < length qs → All (λ p. sum p ≡ true_sum s (cell p)) qs → ((c : ℕ) → times c qs ≤ 1) →
      is_lt (by_sum (get_or qs (i + 1) d) (get_or qs i d)) ≡ false → Before s (get_or (map cell qs) i 0) (get_or (map cell qs) (i + 1) 0)
  before_next qs i d l sums once up =
      let here : sum (get_or qs i d) ≡ true_sum s (cell (get_or qs i d)) = All-get_or _ qs i d (omega arith) sums in
      let there : sum (get_or qs (i + 1) d) ≡ true_sum s (cell (get_or qs (i + 1) d)) = All-get_or _ qs (i + 1) d l sums in
      rw (get_or-map cell qs i d 0 (omega arith), get_or-map cell qs (i + 1) d 0 l) (elim (not_after (get_or qs i d) (get_or qs (i + 1) d) up) [
        | inl less ↦ inl (omega arith)
        | inr (same, le) ↦ elim (cases_eq (cell (get_or qs i d)) (cell (get_or qs (i + 1) d))) [
          | inl e ↦ absurd (omega (arith, once (cell (get_or qs (i + 1) d)), times_two (cell (get_or qs (i + 1) d)) i d qs l e refl))
          | inr ne ↦ inr (omega arith, omega arith)
        ]
      ])

  -- sorted, they are in order; n is the length as a sort has it
  pub sorted_in_order : (n : ℕ) (ps qs : List X) → Gathered (size s) ps → IsPermutation ps qs → length qs ≡ n →
      IsSortedWithin (λ p q. is_lt (by_sum p q)) qs 0 n → InOrder s (map cell qs)
  sorted_in_order n ps qs g mix long up = record {
    only = λ c has. all-has (λ d. (d < size s) × (need s d ≡ 0)) (map cell qs) c (All-map _ cell qs (all_shuffled _ ps qs mix g.only)) has;
    all = λ c l e.
        let (p, has, is) = g.all c l e in
        let (k, m, at) = has_shuffled ps qs p mix has in
        (k, omega (arith, length-map qs cell), λ d. get_or-map cell qs k p d m ∙ ap cell (at p) ∙ is);
    rising = λ i l.
        let more : i + 1 < length qs = omega (arith, length-map qs cell) in
        let d : X = some_entry qs (omega arith) in
        before_next qs i d more (all_shuffled _ ps qs mix g.sums)
        (λ c. omega (arith, g.once c, sum_by-IsPermutation (λ p. cond (eqb (cell p) c) 1 0) ps qs mix)) (up i d (omega arith) (omega arith));
  }

module _ (s : Survey) where
  -- whether a cell lacks nothing
  abbrev enough : ℕ → Bool
  enough c = eqb (need s c) 0

  -- the entries of the cells below n that lack nothing, by number
  abbrev ranked_below : ℕ → List Ranked
  ranked_below n = map (with_sum s) (filter enough (range_with_len 0 n))

  -- of one cell more
  ranked_more : (n : ℕ) → ranked_below (n + 1) ≡ ranked_below n ++ map (with_sum s) (filter enough (n ∷ []))
  ranked_more n =
      let more : range_with_len 0 (n + 1) ≡ range_with_len 0 n ++ n ∷ [] =
      sym (map-id (range_with_len 0 (n + 1))) ∙ map-range_with_len_more (λ c. c) 0 n n (omega arith) ∙ ap (λ cs. cs ++ n ∷ []) (map-id (range_with_len 0 n)) in
      ap (λ cs. map (with_sum s) (filter enough cs)) more
      ∙ ap (map (with_sum s)) (filter-append enough (range_with_len 0 n) (n ∷ []))
      ∙ map-append (with_sum s) (filter enough (range_with_len 0 n)) (filter enough (n ∷ []))

  -- that these are gathered
  abbrev RankedGathered : ℕ → Type 0
  RankedGathered n = Gathered s (λ (p : Ranked). p.sum) (λ (p : Ranked). p.cell) n (ranked_below n)

  -- with one cell more they are still
  ranked_next : (n : ℕ) → RankedGathered n → RankedGathered (n + 1)
  ranked_next n g = rw (ranked_more n) (elim (cases_eq (need s n) 0) [
    | inl nothing ↦ rw (eq-eqb (need s n) 0 nothing)
        (gathered_push s (λ (p : Ranked). p.sum) (λ (p : Ranked). p.cell) n (ranked_below n) (with_sum s n) g nothing refl refl)
    | inr lacks ↦ rw (ne_eqb (need s n) 0 lacks, append-nil (ranked_below n))
        (gathered_skip s (λ (p : Ranked). p.sum) (λ (p : Ranked). p.cell) n (ranked_below n) g (omega arith))
  ])

  -- so they are, however many cells there are
  ranked_gathered : (n : ℕ) → RankedGathered n
  ranked_gathered zero = gathered_none s (λ (p : Ranked). p.sum) (λ (p : Ranked). p.cell)
  ranked_gathered (suc n) = subst RankedGathered (omega arith) (ranked_next n (ranked_gathered n))

  -- sorted, the cells that lack nothing are in order
  pub ranked_in_order : (qs : List Ranked) → IsPermutation (ranked_cells s) qs →
      IsSortedWithin (λ p q. is_lt (by_sum s (λ (p : Ranked). p.sum) (λ (p : Ranked). p.cell) p q)) qs 0 (length qs) → InOrder s (cells_of qs)
  ranked_in_order qs mix up =
      sorted_in_order s (λ (p : Ranked). p.sum) (λ (p : Ranked). p.cell) (length qs) (ranked_cells s) qs (ranked_gathered (size s)) mix refl up
