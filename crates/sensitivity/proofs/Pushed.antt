-- A cell's profile with one workshop more at the end, as a loop adds it. Assumes nothing.
use Rattle.std.proofs.Common.{◌≡◌, ℕ, ◌+◌, ◌*◌, ◌<◌, ◌≤◌, min, max, ◌≢◌, ◌⊎◌, List, [], ◌∷◌, ◌++◌, map, length, get_or, take, set, sym, refl, ap, ◌∙◌, inl, inr, arith}
use native.Mathlib.Nat.{max_comm}
use Rattle.std.proofs.lemmas.List.{take_more, get_or-set_same, get_or-set_other}
use Rattle.std.proofs.lemmas.Bool.{cases_eq}
use Rattle.survey.proofs.Cells.{cell_step, second_le_largest, no_sum, no_largest, no_second, no_many}
use Rattle.survey.proofs.Lending.{written_changed}
use Rattle.survey.specs.Lending.{Written}
use Rattle.survey.specs.Model.{cells_of, turnovers_of}
use Rattle.survey.specs.Survey.{sum_at, largest, second, many}
use Rattle.survey.specs.declared.workshop.Workshop.{Workshop}
use Rattle.sensitivity.specs.Profiles.{profile_of, joined, no_profile}
use Rattle.sensitivity.specs.declared.profile.Profile.{Profile}

-- how a cell's four numbers change where one workshop more stands at the end
Ends : ℕ → ℕ → ℕ → (ms vs ms' vs' : List ℕ) → Type 0
Ends k m v ms vs ms' vs' =
    ((m ≡ k) × (sum_at k ms' vs' ≡ sum_at k ms vs + v) × (largest k ms' vs' ≡ max (largest k ms vs) v)
    × (second k ms' vs' ≡ max (min v (largest k ms vs)) (second k ms vs)) × (many k ms' ≡ many k ms + 1))
    ⊎ ((m ≢ k) × (sum_at k ms' vs' ≡ sum_at k ms vs) × (largest k ms' vs' ≡ largest k ms vs)
    × (second k ms' vs' ≡ second k ms vs) × (many k ms' ≡ many k ms))

-- a workshop of the cell in front
own_step : (k m v : ℕ) (ms vs : List ℕ) → m ≡ k →
    (sum_at k (m ∷ ms) (v ∷ vs) ≡ v + sum_at k ms vs) × (largest k (m ∷ ms) (v ∷ vs) ≡ max v (largest k ms vs))
    × (second k (m ∷ ms) (v ∷ vs) ≡ max (min v (largest k ms vs)) (second k ms vs)) × (many k (m ∷ ms) ≡ many k ms + 1)
own_step k m v ms vs own = elim (cell_step k m v ms vs) [
  | inl p ↦ (p.1, p.2, omega (arith, p.3, second_le_largest k ms vs), omega (arith, p.4))
  | inr p ↦ absurd (p.0 own)
]

-- a workshop of another cell in front
other_step : (k m v : ℕ) (ms vs : List ℕ) → m ≢ k →
    (sum_at k (m ∷ ms) (v ∷ vs) ≡ sum_at k ms vs) × (largest k (m ∷ ms) (v ∷ vs) ≡ largest k ms vs)
    × (second k (m ∷ ms) (v ∷ vs) ≡ second k ms vs) × (many k (m ∷ ms) ≡ many k ms)
other_step k m v ms vs other = elim (cell_step k m v ms vs) [
  | inl p ↦ absurd (other p.0)
  | inr p ↦ (p.1, p.2, p.3, p.4)
]

-- the middle one of three numbers: it is the same in either order
lub : (x y z : ℕ) → x ≤ z → y ≤ z → max x y ≤ z
lub x y z h k = omega arith

both_ways : (x y : ℕ) → x ≤ y → y ≤ x → x ≡ y
both_ways x y h k = omega arith

middle_le : (a b l : ℕ) → max (min a (max l b)) (min b l) ≤ max (min b (max l a)) (min a l)
middle_le a b l = lub (min a (max l b)) (min b l) (max (min b (max l a)) (min a l)) (omega arith) (omega arith)

regroup : (x y s : ℕ) → max x (max y s) ≡ max (max x y) s
regroup x y s = omega arith

-- two workshops give the same second largest in either order
either_order : (a b l s : ℕ) → max (min a (max l b)) (max (min b l) s) ≡ max (min b (max a l)) (max (min a l) s)
either_order a b l s =
    regroup (min a (max l b)) (min b l) s
    ∙ ap (λ (x : ℕ). max x s) (both_ways (max (min a (max l b)) (min b l)) (max (min b (max l a)) (min a l)) (middle_le a b l) (middle_le b a l))
    ∙ sym (regroup (min b (max l a)) (min a l) s)
    ∙ ap (λ (x : ℕ). max (min b x) (max (min a l) s)) (max_comm l a)

cell_ends : (k : ℕ) (ws : List Workshop) (w : Workshop) →
    Ends k w.cell w.turnover (map (λ (x : Workshop). x.cell) ws) (map (λ (x : Workshop). x.turnover) ws)
    (map (λ (x : Workshop). x.cell) (ws ++ w ∷ [])) (map (λ (x : Workshop). x.turnover) (ws ++ w ∷ []))
unfolding Ends
cell_ends k [] w =
    elim (cell_step k w.cell w.turnover [] []) [
      | inl p ↦ inl (p.0, omega (arith, no_sum k []), omega (arith, no_largest k []), omega (arith, no_second k [], no_largest k []), omega (arith, no_many k))
      | inr p ↦ inr (p.0, p.1, p.2, p.3, p.4)
    ]
cell_ends k (x ∷ xs) w =
    let ms = map (λ (y : Workshop). y.cell) xs in
    let vs = map (λ (y : Workshop). y.turnover) xs in
    let ms' = map (λ (y : Workshop). y.cell) (xs ++ w ∷ []) in
    let vs' = map (λ (y : Workshop). y.turnover) (xs ++ w ∷ []) in
    elim (cases_eq x.cell k) [
      | inl own ↦
          let here = own_step k x.cell x.turnover ms vs own in
          let there = own_step k x.cell x.turnover ms' vs' own in
          elim (cell_ends k xs w) [
            | inl p ↦ inl (
              p.0,
              omega (arith, here, there, p.1),
              omega (arith, here.1, there.1, p.2),
              there.2 ∙ (λ i. max (min x.turnover (p.2 i)) (p.3 i)) ∙ either_order x.turnover w.turnover (largest k ms vs) (second k ms vs)
                  ∙ sym (λ i. max (min w.turnover (here.1 i)) (here.2 i)),
              omega (arith, here.3, there.3, p.4),
            )
            | inr p ↦ inr (
              p.0,
              omega (arith, here.0, there.0, p.1),
              omega (arith, here.1, there.1, p.2),
              there.2 ∙ (λ i. max (min x.turnover (p.2 i)) (p.3 i)) ∙ sym here.2,
              omega (arith, here.3, there.3, p.4),
            )
          ]
      | inr other ↦
          let here = other_step k x.cell x.turnover ms vs other in
          let there = other_step k x.cell x.turnover ms' vs' other in
          elim (cell_ends k xs w) [
            | inl p ↦ inl (
              p.0,
              omega (arith, here.0, there.0, p.1),
              omega (arith, here.1, there.1, p.2),
              there.2 ∙ p.3 ∙ sym (λ i. max (min w.turnover (here.1 i)) (here.2 i)),
              omega (arith, here.3, there.3, p.4),
            )
            | inr p ↦ inr (p.0, there.0 ∙ p.1 ∙ sym here.0, there.1 ∙ p.2 ∙ sym here.1, there.2 ∙ p.3 ∙ sym here.2, there.3 ∙ p.4 ∙ sym here.3)
          ]
    ]

-- the profile of cell k among the first i workshops
abbrev pub profile_of_first : ℕ → List Workshop → ℕ → Profile
profile_of_first i ws k = profile_of (cells_of (take i ws)) (turnovers_of (take i ws)) k

-- none has been looked at
pub profile_none : (ws : List Workshop) (k : ℕ) → profile_of_first 0 ws k ≡ no_profile
profile_none ws k = λ i. record { workshops = no_many k i; sum = no_sum k [] i; largest = no_largest k [] i; second = no_second k [] i }

module _ (i : ℕ) (ws : List Workshop) (z : Workshop) (below : i < length ws) (k : ℕ) where
  -- how the cell's numbers change with the workshop at i
  ends_at : Ends k (get_or ws i z).cell (get_or ws i z).turnover (cells_of (take i ws)) (turnovers_of (take i ws)) (cells_of (take (i + 1) ws)) (turnovers_of (take (i + 1) ws))
  ends_at = rw (take_more ws i z below) (cell_ends k (take i ws) (get_or ws i z))

  -- the workshop at i joins its own cell
  pub profile_joins : (get_or ws i z).cell ≡ k → profile_of_first (i + 1) ws k ≡ joined (profile_of_first i ws k) (get_or ws i z).turnover
  unfolding Ends
  profile_joins own = elim ends_at [
    | inl p ↦ λ j. record { workshops = p.4 j; sum = p.1 j; largest = p.2 j; second = p.3 j }
    | inr p ↦ absurd (p.0 own)
  ]

  -- and no other
  pub profile_stays : (get_or ws i z).cell ≢ k → profile_of_first (i + 1) ws k ≡ profile_of_first i ws k
  unfolding Ends
  profile_stays other = elim ends_at [
    | inl p ↦ absurd (other p.0)
    | inr p ↦ λ j. record { workshops = p.4 j; sum = p.1 j; largest = p.2 j; second = p.3 j }
  ]

-- the profiles after so many workshops, none of them too large
pub record Tallied (ws : List Workshop) (i n : ℕ) (before now : List Profile) : Type 0 where
  pub written : Written no_profile (profile_of_first i ws) n before now
  pub few : (d : ℕ) → d < n → (get_or now d no_profile).workshops ≤ i
  pub small : (d : ℕ) → d < n → (get_or now d no_profile).sum ≤ 1000000000 * i

-- before the first workshop, where all profiles are empty
pub tallied_none : (ws : List Workshop) (n : ℕ) (before : List Profile) → ((d : ℕ) → d < n → get_or before d no_profile ≡ no_profile) → Tallied ws 0 n before before
tallied_none ws n before empty =
    record {
      written = record { long = refl; here = λ d below. empty d below ∙ sym (profile_none ws d); past = λ d above. refl };
      few = λ d below. omega (arith, ap (λ (p : Profile). p.workshops) (empty d below));
      small = λ d below. omega (arith, ap (λ (p : Profile). p.sum) (empty d below));
    }

-- one workshop more
pub tallied_more : (ws : List Workshop) (i n : ℕ) (before now : List Profile) (z : Workshop) (p : Profile) → Tallied ws i n before now → n ≤ length before →
    i < length ws → (get_or ws i z).cell < n → (get_or ws i z).turnover ≤ 1000000000 →
    p ≡ joined (get_or now (get_or ws i z).cell no_profile) (get_or ws i z).turnover → Tallied ws (i + 1) n before (set now (get_or ws i z).cell p)
tallied_more ws i n before now z p so_far room below inside in_range is =
    let w = get_or ws i z in
    let fits : w.cell < length now = omega (arith, so_far.written.long) in
    let same : get_or (set now w.cell p) w.cell no_profile ≡ p = get_or-set_same now w.cell p no_profile fits in
    record {
      written = written_changed no_profile (profile_of_first i ws) n before now so_far.written (profile_of_first (i + 1) ws) w.cell p inside room
          (is ∙ ap (λ (q : Profile). joined q w.turnover) (so_far.written.here w.cell inside) ∙ sym (profile_joins i ws z below w.cell refl))
          (λ d other. sym (profile_stays i ws z below d (λ e. other (sym e))));
      few = λ d in_table. elim (cases_eq d w.cell) [
        | inl e ↦ rw e (omega (arith, ap (λ (q : Profile). q.workshops) (same ∙ is), so_far.few w.cell inside))
        | inr other ↦ omega (arith, ap (λ (q : Profile). q.workshops) (get_or-set_other now w.cell d p no_profile other), so_far.few d in_table)
      ];
      small = λ d in_table. elim (cases_eq d w.cell) [
        | inl e ↦ rw e (omega (arith, ap (λ (q : Profile). q.sum) (same ∙ is), so_far.small w.cell inside))
        | inr other ↦ omega (arith, ap (λ (q : Profile). q.sum) (get_or-set_other now w.cell d p no_profile other), so_far.small d in_table)
      ];
    }
