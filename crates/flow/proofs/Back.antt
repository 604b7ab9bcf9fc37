-- The walk back by the parents, step by step.
use Rattle.std.proofs.Common.{◌≡◌, ℕ, zero, suc, ◌+◌, ◌-◌, ◌*◌, ◌%◌, ◌^◌, ◌<◌, ◌≤◌, min, List, length, get_or, set, Some, is_some, sym, refl, ap, ◌∙◌, subst, arith}
use Rattle.survey.specs.Page.{Survey, Pattern}
use Rattle.flow.specs.Ways.{spare, parent_row, falling, column_before, rising, room, add_at, fallen, risen, way_level, carried, next_falls, next_rises}
use Rattle.flow.specs.Afoot.{Afoot}
use Rattle.flow.specs.Searching.{parents, Trail, Searched}
use Rattle.flow.specs.declared.search.Search.{Search}
use Rattle.flow.proofs.Moves.{length_add_at}
use Rattle.flow.proofs.Reach.{OnWay, parent_inside, on_before, way_on, carried_fits}
use Rattle.flow.proofs.Once.{fallen_here, risen_here, fallen_once, risen_once}
use Rattle.flow.proofs.Runs.{carried_le}

module _ (s : Survey) (h : Pattern) (c : ℕ) (y : ℕ → ℕ) (rp cp : List ℕ) where
  -- the walk stands at column k with l rises to go
  pub record Stands (l k : ℕ) : Type 0 where
    pub on : OnWay s h c y l k
    pub trail : Trail s h c y rp cp l k

  module _ (l k : ℕ) (st : Stands l k) where
    -- the row that the way comes from
    parent_is : get_or cp k 0 ≡ parent_row s h c y l k
    parent_is = at l st.trail
      where
        at : (l : ℕ) → Trail s h c y rp cp l k → get_or cp k 0 ≡ parent_row s h c y l k
        at zero t = t
        at (suc l) t = t.0

    pub parent_below : get_or cp k 0 < s.rows
    parent_below = omega (arith, parent_is, parent_inside s h c y l k st.on)

    -- the cell that falls
    pub fall_place : get_or cp k 0 * s.columns + k ≡ falling s h c y l k
    unfolding falling
    fall_place = ap (λ (r : ℕ). r * s.columns + k) parent_is

  -- one step back from column k with l rises to go, by row r, to column j with m rises to go
  pub record Steps (l k r m j : ℕ) : Type 0 where
    pub next : Stands m j
    pub rise_here : (x : ℕ) (rises : List ℕ) → length rises ≡ s.rows * s.columns →
        get_or rises (r * s.columns + j) 0 + x ≤ get_or (risen s h c y l k x rises) (r * s.columns + j) 0
    pub room_is : room s h c y l k ≡ min (spare s y (r * s.columns + k)) (room s h c y m j)
    pub fallen_is : (x : ℕ) (falls : List ℕ) → fallen s h c y l k x falls ≡ fallen s h c y m j x (add_at falls (r * s.columns + k) x)
    pub risen_is : (x : ℕ) (rises : List ℕ) → risen s h c y l k x rises ≡ risen s h c y m j x (add_at rises (r * s.columns + j) x)

  steps_own : (n k : ℕ) → Stands (suc n) k → Steps (suc n) k (parent_row s h c y (suc n) k) n (column_before s h c y n k)
  unfolding room fallen risen falling rising
  steps_own n k st = record {
    next = record { on = on_before s h c y n k st.on; trail = st.trail.2 };
    rise_here = λ x rises long. risen_here s h c y x n k rises long st.on;
    room_is = refl;
    fallen_is = λ x falls. refl;
    risen_is = λ x rises. refl;
  }

  -- by the names that the code has for them
  pub steps : (l k : ℕ) → 0 < l → Stands l k → Steps l k (get_or cp k 0) (l - 1) (get_or rp (get_or cp k 0) 0)
  steps zero k p st = absurd (omega arith)
  steps (suc n) k p st =
      let less : n ≡ suc n - 1 = omega arith in
      let row : parent_row s h c y (suc n) k ≡ get_or cp k 0 = sym st.trail.0 in
      let column : column_before s h c y n k ≡ get_or rp (get_or cp k 0) 0 = sym st.trail.1 ∙ ap (λ (r : ℕ). get_or rp r 0) row in
      subst (λ r. Steps (suc n) k r (suc n - 1) (get_or rp (get_or cp k 0) 0)) row
      (subst (λ m. Steps (suc n) k (parent_row s h c y (suc n) k) m (get_or rp (get_or cp k 0) 0)) less
      (subst (λ j. Steps (suc n) k (parent_row s h c y (suc n) k) n j) column (steps_own n k st)))

  module _ (k : ℕ) (st : Stands 0 k) where
    -- at the end: the last fall
    pub last_room : room s h c y 0 k ≡ spare s y (get_or cp k 0 * s.columns + k)
    unfolding room
    last_room = ap (λ (d : ℕ). spare s y d) (sym (fall_place 0 k st))

    pub last_fall : (x : ℕ) (falls : List ℕ) → fallen s h c y 0 k x falls ≡ add_at falls (get_or cp k 0 * s.columns + k) x
    unfolding fallen
    last_fall x falls = ap (λ (d : ℕ). add_at falls d x) (sym (fall_place 0 k st))

    pub last_rise : (x : ℕ) (rises : List ℕ) → risen s h c y 0 k x rises ≡ rises
    unfolding risen
    last_rise x rises = refl

-- the way that was found: the walk starts at its end
pub stands_first : {s : Survey} {h : Pattern} {c : ℕ} {y : ℕ → ℕ} {q : Search} {n l : ℕ} → 0 < s.columns → Searched s h c y q → q.level ≡ Some n → l ≡ n →
    Stands s h c y (parents q.rows) (parents q.columns) l (c % s.columns)
stands_first {s} {h} {c} {y} {q} {n} {l} some searched found is = rw is (record {
  on = subst (λ l. OnWay s h c y l (c % s.columns)) (sym (searched.level n found)) (way_on s h c y some (sym searched.found ∙ ap is_some found));
  trail = searched.trail n found;
})

module _ (s : Survey) (h : Pattern) (c : ℕ) (y : ℕ → ℕ) (rp cp : List ℕ) where
  -- the first pass: what is left of the way, and the least so far, make what the way carries
  pub record Measures (lacking l k most : ℕ) : Type 0 where
    pub stands : Stands s h c y rp cp l k
    pub column : k < s.columns
    pub row : get_or cp k 0 < s.rows
    pub rest : min (room s h c y l k) most ≡ carried s h c y lacking

  -- the second pass: the rest of the walk makes the whole walk's result
  pub record Carries (x l k : ℕ) (falls₀ rises₀ falls rises : List ℕ) : Type 0 where
    pub stands : Stands s h c y rp cp l k
    pub column : k < s.columns
    pub row : get_or cp k 0 < s.rows
    pub long_falls : length falls ≡ s.rows * s.columns
    pub long_rises : length rises ≡ s.rows * s.columns
    pub falls_rest : fallen s h c y l k x falls ≡ fallen s h c y (way_level s h c y) (c % s.columns) x falls₀
    pub rises_rest : risen s h c y l k x rises ≡ risen s h c y (way_level s h c y) (c % s.columns) x rises₀

module _ {s : Survey} {h : Pattern} {c : ℕ} {y : ℕ → ℕ} {rp cp : List ℕ} where
  pub measures_first : {lacking l k : ℕ} → Stands s h c y rp cp l (c % s.columns) → l ≡ way_level s h c y → k ≡ c % s.columns →
      Measures s h c y rp cp lacking l k lacking
  unfolding carried
  measures_first {lacking} {l} st e is = subst (λ i. Measures s h c y rp cp lacking l i lacking) (sym is) (record {
    stands = st;
    column = st.on.inside;
    row = parent_below s h c y rp cp _ _ st;
    rest = ap (λ (n : ℕ). min (room s h c y n (c % s.columns)) lacking) e;
  })

  module _ {lacking l k most : ℕ} (so_far : Measures s h c y rp cp lacking l k most) where
    pub measures_next : {r d x most' j m : ℕ} → 0 < l → r ≡ get_or cp k 0 → d ≡ r * s.columns + k → x ≡ spare s y d → most' ≡ min most x →
        j ≡ get_or rp r 0 → m ≡ l - 1 → Measures s h c y rp cp lacking m j most'
    measures_next {r} p from at is least back less =
        let step = steps s h c y rp cp l k p so_far.stands in
        rw (less, back, from) (record {
          stands = step.next;
          column = step.next.on.inside;
          row = parent_below s h c y rp cp _ _ step.next;
          rest = omega (arith, so_far.rest, step.room_is, ap (λ (i : ℕ). spare s y i) (at ∙ ap (λ (i : ℕ). i * s.columns + k) from));
        })

    pub measures_last : {r d x most' : ℕ} → l ≡ 0 → r ≡ get_or cp k 0 → d ≡ r * s.columns + k → x ≡ spare s y d → most' ≡ min most x → most' ≡ carried s h c y lacking
    measures_last e from at is least =
        let st : Stands s h c y rp cp 0 k = subst (λ i. Stands s h c y rp cp i k) e so_far.stands in
        omega (arith, so_far.rest, last_room s h c y rp cp k st, ap (λ (i : ℕ). room s h c y i k) e, ap (λ (i : ℕ). spare s y i) (at ∙ ap (λ (i : ℕ). i * s.columns + k) from))

  pub carries_first : {x l k : ℕ} {falls rises : List ℕ} → Stands s h c y rp cp l (c % s.columns) → l ≡ way_level s h c y → k ≡ c % s.columns →
      length falls ≡ s.rows * s.columns → length rises ≡ s.rows * s.columns → Carries s h c y rp cp x l k falls rises falls rises
  carries_first {x} {l} {falls = falls} {rises = rises} st e is long long' = subst (λ i. Carries s h c y rp cp x l i falls rises falls rises) (sym is) (record {
    stands = st;
    column = st.on.inside;
    row = parent_below s h c y rp cp _ _ st;
    long_falls = long;
    long_rises = long';
    falls_rest = ap (λ (n : ℕ). fallen s h c y n (c % s.columns) x falls) e;
    rises_rest = ap (λ (n : ℕ). risen s h c y n (c % s.columns) x rises) e;
  })

  module _ {x l k : ℕ} {falls₀ rises₀ falls rises : List ℕ} (so_far : Carries s h c y rp cp x l k falls₀ rises₀ falls rises) where
    carries_step : 0 < l → Carries s h c y rp cp x (l - 1) (get_or rp (get_or cp k 0) 0) falls₀ rises₀
        (add_at falls (get_or cp k 0 * s.columns + k) x) (add_at rises (get_or cp k 0 * s.columns + get_or rp (get_or cp k 0) 0) x)
    carries_step p =
        let step = steps s h c y rp cp l k p so_far.stands in
        record {
          stands = step.next;
          column = step.next.on.inside;
          row = parent_below s h c y rp cp _ _ step.next;
          long_falls = length_add_at falls _ x ∙ so_far.long_falls;
          long_rises = length_add_at rises _ x ∙ so_far.long_rises;
          falls_rest = sym (step.fallen_is x falls) ∙ so_far.falls_rest;
          rises_rest = sym (step.risen_is x rises) ∙ so_far.rises_rest;
        }

    -- the column before is in the table
    pub column_next : 0 < l → get_or rp (get_or cp k 0) 0 < s.columns
    column_next p = (steps s h c y rp cp l k p so_far.stands).next.on.inside

    pub carries_next : {r d e j m : ℕ} → 0 < l → r ≡ get_or cp k 0 → d ≡ r * s.columns + k → j ≡ get_or rp r 0 → e ≡ r * s.columns + j → m ≡ l - 1 →
        Carries s h c y rp cp x m j falls₀ rises₀ (set falls d (get_or falls d 0 + x)) (set rises e (get_or rises e 0 + x))
    unfolding add_at
    carries_next p from at back at' less = rw (less, at, at', back, from) (carries_step p)

    module _ (e : l ≡ 0) where
      last_stands : Stands s h c y rp cp 0 k
      last_stands = subst (λ i. Stands s h c y rp cp i k) e so_far.stands

      carries_last_falls : {d : ℕ} → d ≡ get_or cp k 0 * s.columns + k →
          set falls d (get_or falls d 0 + x) ≡ fallen s h c y (way_level s h c y) (c % s.columns) x falls₀
      unfolding add_at
      carries_last_falls at = ap (λ (i : ℕ). add_at falls i x) at ∙ sym (last_fall s h c y rp cp k last_stands x falls) ∙ ap (λ (i : ℕ). fallen s h c y i k x falls) (sym e) ∙ so_far.falls_rest

      carries_last_rises : rises ≡ risen s h c y (way_level s h c y) (c % s.columns) x rises₀
      carries_last_rises = sym (last_rise s h c y rp cp k last_stands x rises) ∙ ap (λ (i : ℕ). risen s h c y i k x rises) (sym e) ∙ so_far.rises_rest

    -- no cell gets more than it had before the walk, and x
    module _ (on : OnWay s h c y (way_level s h c y) (c % s.columns)) where
      pub fall_fits : (d : ℕ) → d ≡ get_or cp k 0 * s.columns + k → length falls₀ ≡ s.rows * s.columns → x ≤ room s h c y (way_level s h c y) (c % s.columns) →
          get_or falls d 0 ≤ get_or falls₀ d 0
      fall_fits d at long fits =
          omega (
            arith,
            subst (λ i. get_or falls i 0 + x ≤ get_or (fallen s h c y l k x falls) i 0) (sym (at ∙ fall_place s h c y rp cp l k so_far.stands))
                (fallen_here s h c y x l k falls so_far.long_falls so_far.stands.on),
            ap (λ (xs : List ℕ). get_or xs d 0) so_far.falls_rest,
            fallen_once s h c y x (way_level s h c y) (c % s.columns) falls₀ d long on fits,
          )

      pub rise_fits : (d : ℕ) → d ≡ get_or cp k 0 * s.columns + get_or rp (get_or cp k 0) 0 → length rises₀ ≡ s.rows * s.columns → 0 < l →
          get_or rises d 0 ≤ get_or rises₀ d 0
      rise_fits d at long p =
          omega (
            arith,
            subst (λ i. get_or rises i 0 + x ≤ get_or (risen s h c y l k x rises) i 0) (sym at)
                ((steps s h c y rp cp l k p so_far.stands).rise_here x rises so_far.long_rises),
            ap (λ (xs : List ℕ). get_or xs d 0) so_far.rises_rest,
            risen_once s h c y x (way_level s h c y) (c % s.columns) rises₀ d long on,
          )

    -- so nothing comes near the end of its type
    module _ {sums : List ℕ} {q : Search} {n lacking : ℕ} (afoot : Afoot s h sums falls₀ rises₀) (some : 0 < s.columns) (searched : Searched s h c y q)
        (found : q.level ≡ Some n) (is : x ≡ carried s h c y lacking) (small : lacking < 2 ^ 62) where
      on_way : OnWay s h c y (way_level s h c y) (c % s.columns)
      on_way = way_on s h c y some (sym searched.found ∙ ap is_some found)

      pub fall_small : {d : ℕ} → d ≡ get_or cp k 0 * s.columns + k → d < s.rows * s.columns → get_or falls d 0 + x < 2 ^ 64
      fall_small {d} at inside = omega (
        arith,
        fall_fits on_way d at afoot.long_falls (omega (arith, carried_fits s h c y lacking)),
        afoot.covered d inside,
        afoot.small d inside,
        carried_le s h c y lacking,
      )

      pub rise_small : {d : ℕ} → d ≡ get_or cp k 0 * s.columns + get_or rp (get_or cp k 0) 0 → d < s.rows * s.columns → 0 < l → get_or rises d 0 + x < 2 ^ 64
      rise_small {d} at inside p = omega (
        arith,
        rise_fits on_way d at afoot.long_rises p,
        afoot.small d inside,
        carried_le s h c y lacking,
      )

    -- and the whole walk has done what the next way does
    module _ (lacking : ℕ) (is : x ≡ carried s h c y lacking) (e : l ≡ 0) where
      pub all_fallen : {d : ℕ} → d ≡ get_or cp k 0 * s.columns + k → set falls d (get_or falls d 0 + x) ≡ next_falls s h c y lacking falls₀
      unfolding next_falls
      all_fallen at = carries_last_falls e at ∙ ap (λ (i : ℕ). fallen s h c y (way_level s h c y) (c % s.columns) i falls₀) is

      pub all_risen : rises ≡ next_rises s h c y lacking rises₀
      unfolding next_rises
      all_risen = carries_last_rises e ∙ ap (λ (i : ℕ). risen s h c y (way_level s h c y) (c % s.columns) i rises₀) is
