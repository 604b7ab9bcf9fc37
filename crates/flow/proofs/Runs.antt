-- A run: it has one result, keeps the balance, and ends with nothing lacking or with no way left.
use Rattle.std.proofs.Common.{◌≡◌, ℕ, zero, suc, ◌+◌, ◌-◌, ◌%◌, ◌<◌, ◌≤◌, true, false, ◌⊎◌, List, refl, inl, inr, arith}
use Rattle.std.proofs.lemmas.Bool.{both_ways, cases_lt, cases_Bool}
use Rattle.survey.specs.Page.{Survey, Pattern}
use Rattle.flow.specs.Ways.{Run, standing, way_left, way_level, carried, next_falls, next_rises}
use Rattle.flow.specs.Ways.Run.{nothing_lacks, no_way, one_way}
use Rattle.flow.proofs.Reach.{way_on, room_some}
use Rattle.flow.proofs.Partial.{Partial, partial_next}

-- two runs from one start end alike
pub run_one : {s : Survey} {h : Pattern} {c l : ℕ} {falls rises : List ℕ} {l₁ : ℕ} {falls₁ rises₁ : List ℕ} {l₂ : ℕ}
    {falls₂ rises₂ : List ℕ} → Run s h c l falls rises l₁ falls₁ rises₁ → Run s h c l falls rises l₂ falls₂ rises₂ →
    (l₁ ≡ l₂) × (falls₁ ≡ falls₂) × (rises₁ ≡ rises₂)
run_one (nothing_lacks e) (nothing_lacks e') = (refl, refl, refl)
run_one (nothing_lacks e) (no_way p w) = absurd (omega arith)
run_one (nothing_lacks e) (one_way p w t) = absurd (omega arith)
run_one (no_way p w) (nothing_lacks e) = absurd (omega arith)
run_one (no_way p w) (no_way p' w') = (refl, refl, refl)
run_one (no_way p w) (one_way p' w' t) = absurd (both_ways _ w w')
run_one (one_way p w t) (nothing_lacks e) = absurd (omega arith)
run_one (one_way p w t) (no_way p' w') = absurd (both_ways _ w' w)
run_one (one_way p w t) (one_way p' w' t') = run_one t t'

-- a run ends with nothing lacking, or with no way left
pub run_end : {s : Survey} {h : Pattern} {c l : ℕ} {falls rises : List ℕ} {l' : ℕ} {falls' rises' : List ℕ} →
    Run s h c l falls rises l' falls' rises' →
    (l' ≡ 0) ⊎ ((0 < l') × (way_left s h c (standing s falls' rises') ≡ false))
run_end (nothing_lacks e) = inl e
run_end (no_way p w) = inr (p, w)
run_end (one_way p w t) = run_end t

-- the next way carries something where something is lacking
pub carried_some : (s : Survey) (h : Pattern) (c : ℕ) (y : ℕ → ℕ) (l : ℕ) → 0 < s.columns → way_left s h c y ≡ true → 0 < l →
    0 < carried s h c y l
unfolding carried
carried_some s h c y l some w p = omega (arith, room_some s h c y (way_level s h c y) (c % s.columns) (way_on s h c y some w))

-- and no more than that
pub carried_le : (s : Survey) (h : Pattern) (c : ℕ) (y : ℕ → ℕ) (l : ℕ) → carried s h c y l ≤ l
unfolding carried
carried_le s h c y l = omega arith

-- what a run adds to what the cell is raised by is what it takes off what is lacking
pub run_keeps : {s : Survey} {h : Pattern} {c l : ℕ} {falls rises : List ℕ} {l' : ℕ} {falls' rises' : List ℕ} →
    Run s h c l falls rises l' falls' rises' → 0 < s.columns → (e : ℕ) → Partial s h c e falls rises →
    (e' : ℕ) × (e' + l' ≡ e + l) × Partial s h c e' falls' rises'
run_keeps (nothing_lacks z) some e part = (e, refl, part)
run_keeps (no_way p w) some e part = (e, refl, part)
run_keeps {s} {h} {c} {l} {falls} {rises} (one_way p w t) some e part =
    let y = standing s falls rises in
    let (e', sum, part') = run_keeps t some (e + carried s h c y l) (partial_next s h c e falls rises part some l w) in
    (e', omega (arith, carried_le s h c y l), part')

-- a run from any start, and where it ends
abbrev pub Ends : Survey → Pattern → ℕ → ℕ → List ℕ → List ℕ → Type 0
Ends s h c l falls rises = (l' : ℕ) × (falls' : List ℕ) × (rises' : List ℕ) × Run s h c l falls rises l' falls' rises'

-- there is one, since each way takes something off what is lacking
pub run_some : (s : Survey) (h : Pattern) (c : ℕ) → 0 < s.columns → (fuel l : ℕ) (falls rises : List ℕ) → l ≤ fuel →
    Ends s h c l falls rises
run_some s h c some zero l falls rises fits = (l, falls, rises, nothing_lacks (omega arith))
run_some s h c some (suc fuel) l falls rises fits =
    let y = standing s falls rises in
    elim (cases_lt 0 l) [
      | inl p ↦ elim (cases_Bool (way_left s h c y)) [
        | inl w ↦
            let (l', falls', rises', run) = run_some s h c some fuel (l - carried s h c y l) (next_falls s h c y l falls)
            (next_rises s h c y l rises) (omega (arith, carried_some s h c y l some w p)) in
            (l', falls', rises', one_way p w run)
        | inr w ↦ (l, falls, rises, no_way p w)
      ]
      | inr z ↦ (l, falls, rises, nothing_lacks (omega arith))
    ]
