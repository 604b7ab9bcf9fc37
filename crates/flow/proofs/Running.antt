-- A run in the middle, as the loop of ways has it.
use Rattle.std.proofs.Common.{◌≡◌, ℕ, ◌+◌, ◌-◌, ◌<◌, ◌≤◌, Bool, true, false, None, is_some, List, length, get_or, replicate, sym, refl, ap, ◌∙◌, subst, arith, Some}
use Rattle.std.proofs.lemmas.List.{length-replicate, get_or-replicate}
use Rattle.survey.specs.Page.{Survey, Pattern, true_sum, need}
use Rattle.survey.specs.Model.{model, size}
use Rattle.survey.specs.declared.checked.Survey as checked
use Rattle.flow.specs.Afoot.{Afoot}
use Rattle.flow.specs.Raising.{Marked}
use Rattle.flow.specs.Searching.{Searched}
use Rattle.flow.specs.declared.raising.Flow.{Flow}
use Rattle.flow.specs.declared.search.Search.{Search}
use Rattle.flow.specs.Ways.{Run, standing, way_left, carried, next_falls, next_rises}
use Rattle.flow.specs.Ways.Run.{nothing_lacks, no_way, one_way}
use Rattle.flow.proofs.Partial.{Partial, partial_start, partial_next, standing_sum, get_or_zeros}
use Rattle.flow.proofs.Once.{next_falls_le, next_rises_le}
use Rattle.flow.proofs.Bounds.{sum_small, need_small}
use Rattle.flow.proofs.Runs.{carried_le, carried_some}

-- the rest of the run makes the whole run; the cell is raised by what is lacking no more, and no cell changed by more
pub record Running (s : Survey) (h : Pattern) (c : ℕ) (sums falls₀ rises₀ : List ℕ) (lacking : ℕ) (falls rises : List ℕ) : Type 0 where
  pub onward : (l' : ℕ) (falls' rises' : List ℕ) → Run s h c lacking falls rises l' falls' rises' → Run s h c (need s c) falls₀ rises₀ l' falls' rises'
  pub less : lacking ≤ need s c
  pub part : Partial s h c (need s c - lacking) falls rises
  pub small_falls : (d : ℕ) → get_or falls d 0 + lacking ≤ need s c
  pub small_rises : (d : ℕ) → get_or rises d 0 + lacking ≤ need s c
  pub afoot : Afoot s h sums falls rises

module _ (t : checked.Survey) where
  -- the survey as the statements have it
  abbrev s : Survey
  s = model t

  -- the memory between two ways, from the balance
  afoot_from : {h : Pattern} {c : ℕ} {sums : List ℕ} (e : ℕ) (falls rises : List ℕ) → size s ≤ length h → length sums ≡ size s → ((d : ℕ) → d < size s → get_or sums d 0 ≡ true_sum s d) →
      Partial s h c e falls rises → ((d : ℕ) → get_or rises d 0 ≤ need s c) → Afoot s h sums falls rises
  afoot_from {h} {c} e falls rises long long_sums known part small = record {
    long_pattern = long;
    long_sums = long_sums;
    long_falls = part.balanced.long_falls;
    long_rises = part.balanced.long_rises;
    known = known;
    covered = λ d l. omega (arith, standing_sum s h c e falls rises part t.some_columns d);
    small = λ d l. omega (arith, small d, need_small t c, sum_small t d);
  }

  -- the memory before the first way
  pub afoot_first : {h : Pattern} {sums falls rises : List ℕ} → size s ≤ length h → length sums ≡ size s → ((d : ℕ) → d < size s → get_or sums d 0 ≡ true_sum s d) →
      falls ≡ replicate (size s) 0 → rises ≡ replicate (size s) 0 → Afoot s h sums falls rises
  afoot_first {h} {falls = falls} {rises = rises} long long_sums known is_falls is_rises =
      afoot_from {c = 0} 0 falls rises long long_sums known (rw (is_falls, is_rises) (partial_start s h 0))
      (λ d. omega (arith, ap (λ (l : List ℕ). get_or l d 0) is_rises, get_or_zeros (size s) d))

  -- before the first way
  pub running_first : {h : Pattern} {c : ℕ} {sums : List ℕ} {lacking : ℕ} {falls rises : List ℕ} → lacking ≡ need s c → falls ≡ replicate (size s) 0 → rises ≡ replicate (size s) 0 →
      Afoot s h sums falls rises → Running s h c sums falls rises lacking falls rises
  running_first {h} {c} {falls = falls} {rises = rises} is is_falls is_rises afoot = rw is (record {
    onward = λ l' falls' rises' run. run;
    less = omega arith;
    part =
        let none : 0 ≡ need s c - need s c = omega arith in
        subst (λ e. Partial s h c e falls rises) none (rw (is_falls, is_rises) (partial_start s h c));
    small_falls = λ d. omega (arith, ap (λ (l : List ℕ). get_or l d 0) is_falls, get_or_zeros (size s) d);
    small_rises = λ d. omega (arith, ap (λ (l : List ℕ). get_or l d 0) is_rises, get_or_zeros (size s) d);
    afoot = afoot;
  })

  module _ {h : Pattern} {c : ℕ} {sums falls₀ rises₀ : List ℕ} {lacking : ℕ} {falls rises : List ℕ}
      (so_far : Running s h c sums falls₀ rises₀ lacking falls rises) where
    -- nothing is lacking
    pub running_done : lacking ≡ 0 → Run s h c (need s c) falls₀ rises₀ 0 falls rises
    running_done e = so_far.onward 0 falls rises (subst (λ l. Run s h c l falls rises 0 falls rises) (sym e) (nothing_lacks refl))

    module _ {q : Search} (p : 0 < lacking) (searched : Searched s h c (standing s falls rises) q) where
      -- no way is left
      pub running_stuck : q.level ≡ None → Run s h c (need s c) falls₀ rises₀ lacking falls rises
      running_stuck none = so_far.onward lacking falls rises (no_way p (sym searched.found ∙ ap is_some none))

      module _ {n x : ℕ} (found : q.level ≡ Some n) (is : x ≡ carried s h c (standing s falls rises) lacking) where
        left : way_left s h c (standing s falls rises) ≡ true
        left = sym searched.found ∙ ap is_some found

        -- a way carries something
        pub running_less : (0 < x) × (x ≤ lacking)
        running_less = (
          omega (arith, carried_some s h c (standing s falls rises) lacking t.some_columns left p),
          omega (arith, carried_le s h c (standing s falls rises) lacking),
        )

        -- one way more
        pub running_next : {falls' rises' : List ℕ} → falls' ≡ next_falls s h c (standing s falls rises) lacking falls →
            rises' ≡ next_rises s h c (standing s falls rises) lacking rises → Running s h c sums falls₀ rises₀ (lacking - x) falls' rises'
        running_next is_falls is_rises =
            let y = standing s falls rises in
            let fits = carried_le s h c y lacking in
            let raised : need s c - lacking + carried s h c y lacking ≡ need s c - (lacking - carried s h c y lacking) = omega (arith, so_far.less) in
            let part = subst (λ e. Partial s h c e (next_falls s h c y lacking falls) (next_rises s h c y lacking rises)) raised
            (partial_next s h c (need s c - lacking) falls rises so_far.part t.some_columns lacking left) in
            let fallen : (d : ℕ) → get_or (next_falls s h c y lacking falls) d 0 + (lacking - carried s h c y lacking) ≤ need s c
            = λ d. omega (arith, next_falls_le s h c y lacking t.some_columns left falls d so_far.part.balanced.long_falls, so_far.small_falls d) in
            let risen : (d : ℕ) → get_or (next_rises s h c y lacking rises) d 0 + (lacking - carried s h c y lacking) ≤ need s c
            = λ d. omega (arith, next_rises_le s h c y lacking t.some_columns left rises d so_far.part.balanced.long_rises, so_far.small_rises d) in
            rw (is, is_falls, is_rises) (record {
              onward = λ l' falls'' rises'' run. so_far.onward l' falls'' rises'' (one_way p left run);
              less = omega (arith, so_far.less);
              part = part;
              small_falls = fallen;
              small_rises = risen;
              afoot = afoot_from _ _ _ so_far.afoot.long_pattern so_far.afoot.long_sums so_far.afoot.known part (λ d. omega (arith, risen d));
            })

-- the marks where nothing is lacking
pub marked_done : (s : Survey) (h : Pattern) (c : ℕ) (y : ℕ → ℕ) (flow : Flow) → flow.lacking ≡ 0 → flow.rows ≡ replicate 40 false →
    flow.columns ≡ replicate 40 false → Marked s h c y flow
marked_done s h c y flow e rows columns = record {
  long_rows = ap length rows ∙ length-replicate 40 false;
  long_columns = ap length columns ∙ length-replicate 40 false;
  no_row = λ _ i l. ap (λ (m : List Bool). get_or m i false) rows ∙ get_or-replicate 40 i false false l;
  no_column = λ _ i l. ap (λ (m : List Bool). get_or m i false) columns ∙ get_or-replicate 40 i false false l;
  rows = λ p. absurd (omega arith);
  columns = λ p. absurd (omega arith);
}
