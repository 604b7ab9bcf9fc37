-- For a blank cell that lacks something there is a witness or a bar: a run ends with the one or the other.
use Rattle.std.proofs.Common.{◌≡◌, ℕ, ◌+◌, ◌*◌, ◌<◌, Bool, true, false, ◌⊎◌, List, replicate, subst, inl, inr, arith}
use Rattle.survey.specs.Page.{Survey, Pattern, Sound, hidden, need, Witness}
use Rattle.survey.specs.Promise.{Bar, OneOrOther}
use Rattle.flow.specs.Ways.{standing, way_left, reached_rows, reached_columns}
use Rattle.flow.proofs.Partial.{Partial, partial_start, partial_witness}
use Rattle.flow.proofs.Stuck.{stuck_closed, stuck_leaves}
use Rattle.flow.proofs.Runs.{run_some, run_keeps, run_end}
use Rattle.cut.proofs.BarLaw.{closed_bar}

-- a run that ends with no way left and something lacking shows a bar
pub stuck_bar : (s : Survey) (h : Pattern) (c e : ℕ) (falls rises : List ℕ) → Partial s h c e falls rises →
    0 < s.columns → c < s.rows * s.columns → way_left s h c (standing s falls rises) ≡ false → e < need s c →
    Bar s h c (reached_rows s h c (standing s falls rises)) (reached_columns s h c (standing s falls rises))
stuck_bar s h c e falls rises part some inside none lacks =
    closed_bar s h c _ _ (stuck_closed s h c (standing s falls rises) some inside none) (omega (arith, stuck_leaves s h c e falls rises part some inside none))

module _ (s : Survey) (h : Pattern) (c : ℕ) (sound : Sound s) (inside : c < s.rows * s.columns) (hid : hidden h c ≡ true) where
  -- where a run comes to
  outcome : (l e : ℕ) (falls rises : List ℕ) → Partial s h c e falls rises → e + l ≡ need s c →
      (l ≡ 0) ⊎ ((0 < l) × (way_left s h c (standing s falls rises) ≡ false)) →
      Witness s h c ⊎ ((rs : List Bool) × (ks : List Bool) × Bar s h c rs ks)
  outcome l e falls rises part sum (inl z) =
      let all : e ≡ need s c = omega arith in
      inl (partial_witness s h c falls rises (subst (λ x. Partial s h c x falls rises) all part) sound.some_columns inside hid).0
  outcome l e falls rises part sum (inr (p, none)) =
      inr (_, _, stuck_bar s h c e falls rises part sound.some_columns inside none (omega arith))

-- there is a witness or a bar
pub one_or_other : OneOrOther
unfolding OneOrOther
one_or_other s h c sound inside hid lacks =
    let (l, falls, rises, run) = run_some s h c sound.some_columns (need s c) (need s c)
    (replicate (s.rows * s.columns) 0) (replicate (s.rows * s.columns) 0) (omega arith) in
    let (e, sum, part) = run_keeps run sound.some_columns 0 (partial_start s h c) in
    outcome s h c sound inside hid l e falls rises part (omega arith) (run_end run)
