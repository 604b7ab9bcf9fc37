-- The blanked pattern, entry by entry; and when a pattern fails to protect.
use Rattle.std.proofs.Common.{◌≡◌, ℕ, zero, suc, ◌+◌, ◌<◌, ◌≤◌, Bool, true, false, ◌||◌, eqb, ltb, ◌≢◌, List, [], ◌∷◌, ◌++◌, length, get_or, take, drop, set, replicate, sym, refl, ap, ◌∙◌, inl, inr, arith}
use Rattle.std.specs.List.{ContainsAt as Has}
use Rattle.std.proofs.lemmas.Bool.{cases_eq, cases_lt, both_ways, or_left, or_right, or_cases, or_from, eq-eqb, ne_eqb, eqb-true, lt-ltb, ltb-true}
use Rattle.std.proofs.lemmas.List.{ext_get_or, length-set, get_or-set_same, get_or-set_other, get_or_past, take_more, take-take, take-append-drop}
use Rattle.std.proofs.lemmas.List.FromFn.{length-map-range_with_len, get_or-map-range_with_len}
use Rattle.std.proofs.ByRecursion.{has_push, has_append_left}
use Rattle.survey.specs.Page.{Survey, Pattern, Witness, Protected, hidden, need}
use Rattle.survey.specs.Promise.{all_hidden}
use Rattle.survey.specs.Model.{size}
use Rattle.search.specs.Search.{InOrder, among, blanked}

-- a cell that lacks something and has no witness: the pattern doesn't protect
pub without_witness : (s : Survey) (h : Pattern) (c : ℕ) → c < size s → 0 < need s c → (Witness s h c → ⊥) → Protected s h → ⊥
unfolding Protected
without_witness s h c l lacking none protects = none (protects c l lacking)

-- as many entries as the table has cells
pub length_blanked : (s : Survey) (ds : List ℕ) → length (blanked s ds) ≡ size s
unfolding blanked
length_blanked s ds = length-map-range_with_len (λ c. ltb 0 (need s c) || among c ds) 0 (size s)

-- a cell of the table is blank where it lacks something or is one of ds
pub blanked_at : (s : Survey) (ds : List ℕ) (c : ℕ) (d : Bool) → c < size s → get_or (blanked s ds) c d ≡ (ltb 0 (need s c) || among c ds)
unfolding blanked
blanked_at s ds c d l = get_or-map-range_with_len (λ e. ltb 0 (need s e) || among e ds) 0 (size s) c c d l (omega arith)

-- what the list holds is among it
pub among_has : (c : ℕ) (ds : List ℕ) → Has ds c → among c ds ≡ true
unfolding among
among_has c [] (k, l, at) = absurd (omega arith)
among_has c (d ∷ ds) (zero, l, at) = or_left _ _ (eq-eqb c d (sym (at 0)))
among_has c (d ∷ ds) (suc k, l, at) = or_right _ _ (among_has c ds (k, omega arith, at))

-- and what is among it the list holds
pub has_among : (c : ℕ) (ds : List ℕ) → among c ds ≡ true → Has ds c
unfolding among
has_among c [] e = absurd (both_ways false refl e)
has_among c (d ∷ ds) e = elim (or_cases (eqb c d) (among c ds) e) [
  | inl t ↦ (0, omega arith, λ x. sym (eqb-true c d t))
  | inr t ↦ let (k, l, at) = has_among c ds t in (suc k, omega arith, at)
]

-- a cell other than the one at the end
among_push_other : (c d : ℕ) (ds : List ℕ) → c ≢ d → among c (ds ++ d ∷ []) ≡ among c ds
unfolding among
among_push_other c d [] ne = or_from _ _ (ne_eqb c d ne) refl
among_push_other c d (e ∷ ds) ne = ap (λ t. eqb c e || t) (among_push_other c d ds ne)

-- what fewer of the first hold, more hold
has_take_more : (cs : List ℕ) (i j c : ℕ) → i ≤ j → Has (take i cs) c → Has (take j cs) c
has_take_more cs i j c le has = has_part (rw (take-take i j cs le) has)
  where
    has_part : Has (take i (take j cs)) c → Has (take j cs) c
    has_part h = rw (← take-append-drop i (take j cs)) (has_append_left (take i (take j cs)) (drop i (take j cs)) c h)

-- a cell that lacks something is blank
pub blanked_lacking : (s : Survey) (ds : List ℕ) (c : ℕ) → c < size s → 0 < need s c → hidden (blanked s ds) c ≡ true
blanked_lacking s ds c l lacking = blanked_at s ds c false l ∙ or_left _ _ (lt-ltb 0 (need s c) lacking)

-- a cell of ds is blank
pub blanked_among : (s : Survey) (ds : List ℕ) (c : ℕ) → c < size s → Has ds c → hidden (blanked s ds) c ≡ true
blanked_among s ds c l has = blanked_at s ds c false l ∙ or_right _ _ (among_has c ds has)

-- a cell of the table that lacks nothing and is blank is one of ds
pub has_blanked : (s : Survey) (ds : List ℕ) (c : ℕ) → c < size s → need s c ≡ 0 → hidden (blanked s ds) c ≡ true → Has ds c
has_blanked s ds c l nothing blank = elim (or_cases (ltb 0 (need s c)) (among c ds) (sym (blanked_at s ds c false l) ∙ blank)) [
  | inl t ↦ absurd (omega (arith, ltb-true 0 (need s c) t))
  | inr t ↦ has_among c ds t
]

-- no cell is blank past the table
pub blanked_past : (s : Survey) (ds : List ℕ) (c : ℕ) → size s ≤ c → hidden (blanked s ds) c ≡ false
blanked_past s ds c l = get_or_past (blanked s ds) c false (omega (arith, length_blanked s ds))

-- at first the cells that lack something are blank
pub blanked_none : (s : Survey) (c : ℕ) → c < size s → hidden (blanked s []) c ≡ ltb 0 (need s c)
unfolding among
blanked_none s c l = blanked_at s [] c false l ∙ or_false (ltb 0 (need s c))
  where
    or_false : (t : Bool) → (t || false) ≡ t
    or_false true = refl
    or_false false = refl

-- with one more cell: that cell is made blank
pub blanked_push : (s : Survey) (ds : List ℕ) (d : ℕ) → blanked s (ds ++ d ∷ []) ≡ set (blanked s ds) d true
blanked_push s ds d = ext_get_or false _ _ (length_blanked s (ds ++ d ∷ []) ∙ sym (length-set (blanked s ds) d true ∙ length_blanked s ds)) same
  where
    same : (c : ℕ) → c < length (blanked s (ds ++ d ∷ [])) → get_or (blanked s (ds ++ d ∷ [])) c false ≡ get_or (set (blanked s ds) d true) c false
    same c l =
        let m : c < size s = omega (arith, length_blanked s (ds ++ d ∷ [])) in
        elim (cases_eq c d) [
          | inl e ↦
              blanked_among s (ds ++ d ∷ []) c m (rw e (has_push ds d))
              ∙ sym (ap (λ x. get_or (set (blanked s ds) d true) x false) e ∙ get_or-set_same (blanked s ds) d true false (omega (arith, length_blanked s ds)))
          | inr ne ↦
              blanked_at s (ds ++ d ∷ []) c false m ∙ ap (λ t. ltb 0 (need s c) || t) (among_push_other c d ds ne)
              ∙ sym (get_or-set_other (blanked s ds) d c true false ne ∙ blanked_at s ds c false m)
        ]

-- with one more of cs
pub blanked_more : (s : Survey) (cs : List ℕ) (i : ℕ) → i < length cs →
    blanked s (take (i + 1) cs) ≡ set (blanked s (take i cs)) (get_or cs i 0) true
blanked_more s cs i l = ap (blanked s) (take_more cs i 0 l) ∙ blanked_push s (take i cs) (get_or cs i 0)

-- all blank: as many entries as cells
pub length_all_hidden : (n : ℕ) → length (all_hidden n) ≡ n
unfolding all_hidden
length_all_hidden zero = refl
length_all_hidden (suc n) = ap suc (length_all_hidden n)

-- all blank: each cell is blank
pub all_hidden_at : (n c : ℕ) → c < n → hidden (all_hidden n) c ≡ true
unfolding all_hidden
all_hidden_at zero c l = absurd (omega arith)
all_hidden_at (suc n) zero l = refl
all_hidden_at (suc n) (suc c) l = all_hidden_at n c (omega arith)

-- with all of cs every cell of the table is blank
pub blanked_all : (s : Survey) (cs : List ℕ) → InOrder s cs → blanked s cs ≡ all_hidden (size s)
blanked_all s cs o = ext_get_or false _ _ (length_blanked s cs ∙ sym (length_all_hidden (size s))) same
  where
    same : (c : ℕ) → c < length (blanked s cs) → get_or (blanked s cs) c false ≡ get_or (all_hidden (size s)) c false
    same c l =
        let m : c < size s = omega (arith, length_blanked s cs) in
        elim (cases_lt 0 (need s c)) [
          | inl lacking ↦ blanked_lacking s cs c m lacking ∙ sym (all_hidden_at (size s) c m)
          | inr nothing ↦ blanked_among s cs c m (o.all c m (omega arith)) ∙ sym (all_hidden_at (size s) c m)
        ]

-- what fewer of cs hide, more hide
pub blanked_grows : (s : Survey) (cs : List ℕ) (i j : ℕ) → i ≤ j → (c : ℕ) → hidden (blanked s (take i cs)) c ≡ true →
    hidden (blanked s (take j cs)) c ≡ true
blanked_grows s cs i j le c blank = elim (cases_lt c (size s)) [
  | inl l ↦ elim (cases_lt 0 (need s c)) [
    | inl lacking ↦ blanked_lacking s (take j cs) c l lacking
    | inr nothing ↦ blanked_among s (take j cs) c l (has_take_more cs i j c le (has_blanked s (take i cs) c l (omega arith) blank))
  ]
  | inr past ↦ absurd (both_ways _ (blanked_past s (take i cs) c past) blank)
]

-- a pattern of the table in which the cells that lack something are blank, and no other is, is the first one
pub blanked_first : (s : Survey) (h : Pattern) → length h ≡ size s → ((c : ℕ) → c < size s → hidden h c ≡ ltb 0 (need s c)) → h ≡ blanked s []
blanked_first s h size_is each = ext_get_or false _ _ (size_is ∙ sym (length_blanked s [])) (λ c l.
    let m : c < size s = omega arith in
    each c m ∙ sym (blanked_none s c m))

-- so many blanks in a row are all of them blank
pub replicate_hidden : (n : ℕ) → replicate n true ≡ all_hidden n
unfolding all_hidden
replicate_hidden zero = refl
replicate_hidden (suc n) = ap (λ (l : List Bool). true ∷ l) (replicate_hidden n)
