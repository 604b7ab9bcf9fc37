-- The least cut: there is one at most, and where no way is left what is reached is one.
use Rattle.std.proofs.Common.{◌≡◌, ℕ, ◌*◌, ◌<◌, Bool, true, false, List, get_or, sym, refl, ◌∙◌, arith}
use Rattle.std.proofs.lemmas.Bool.{both_ways}
use Rattle.survey.specs.Page.{Survey, Pattern}
use Rattle.flow.specs.Ways.{standing, way_left, reached_rows, reached_columns}
use Rattle.flow.proofs.Partial.{Partial}
use Rattle.flow.proofs.Stuck.{stuck_closed, stuck_leaves, others_leave, rows_among, columns_among}
use Rattle.cut.specs.Least.{LeastCut, Within}

-- marks that lie within each other are the same
within_both : (n : ℕ) (xs ys : List Bool) → Within n xs ys → Within n ys xs → (i : ℕ) → i < n → get_or xs i false ≡ get_or ys i false
unfolding Within
within_both n xs ys a b i l = at (get_or xs i false) refl (get_or ys i false) refl
  where
    at : (u : Bool) → get_or xs i false ≡ u → (v : Bool) → get_or ys i false ≡ v → get_or xs i false ≡ get_or ys i false
    at true p true q = p ∙ sym q
    at true p false q = absurd (both_ways _ q (a i l p))
    at false p true q = absurd (both_ways _ p (b i l q))
    at false p false q = p ∙ sym q

-- two least cuts mark the same rows of the table
pub least_rows : (s : Survey) (h : Pattern) (c : ℕ) (rs ks rs' ks' : List Bool) → LeastCut s h c rs ks → LeastCut s h c rs' ks' →
    (r : ℕ) → r < s.rows → get_or rs r false ≡ get_or rs' r false
least_rows s h c rs ks rs' ks' a b =
    within_both s.rows rs rs' (a.inner rs' ks' b.closed (b.least rs ks a.closed)).0
    (b.inner rs ks a.closed (a.least rs' ks' b.closed)).0

-- and the same columns
pub least_columns : (s : Survey) (h : Pattern) (c : ℕ) (rs ks rs' ks' : List Bool) → LeastCut s h c rs ks → LeastCut s h c rs' ks' →
    (k : ℕ) → k < s.columns → get_or ks k false ≡ get_or ks' k false
least_columns s h c rs ks rs' ks' a b =
    within_both s.columns ks ks' (a.inner rs' ks' b.closed (b.least rs ks a.closed)).1
    (b.inner rs ks a.closed (a.least rs' ks' b.closed)).1

-- where no way is left, what is reached is the least cut
pub stuck_least : (s : Survey) (h : Pattern) (c e : ℕ) (falls rises : List ℕ) → Partial s h c e falls rises →
    0 < s.columns → c < s.rows * s.columns → way_left s h c (standing s falls rises) ≡ false →
    LeastCut s h c (reached_rows s h c (standing s falls rises)) (reached_columns s h c (standing s falls rises))
unfolding Within
stuck_least s h c e falls rises part some inside none =
    let y = standing s falls rises in
    let just = stuck_leaves s h c e falls rises part some inside none in
    record {
      closed = stuck_closed s h c y some inside none;
      least = λ rs ks shut. omega (arith, just, others_leave s h c e falls rises part some inside rs ks shut);
      inner = λ rs ks shut little. (
        rows_among s h c e falls rises part some inside rs ks shut (omega (arith, just)),
        columns_among s h c e falls rises part some inside rs ks shut (omega (arith, just)),
      );
    }
