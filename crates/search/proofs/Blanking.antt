-- The state of the search while cells are made blank. Assumes nothing.
use Rattle.std.proofs.Common.{◌≡◌, ℕ, ◌+◌, ◌<◌, ◌≤◌, true, false, Option, List, [], length, get_or, take, set, sym, ap, ◌∙◌, inl, inr, arith}
use Rattle.std.proofs.ByRecursion.{has_get_or}
use Rattle.std.proofs.lemmas.List.{take_all, length-map, get_or-map}
use Rattle.std.proofs.lemmas.Bool.{cases_eq, cases_lt}
use Rattle.std.specs.Option.{is_some}
use Rattle.survey.specs.Model.{size}
use Rattle.survey.specs.Page.{Survey, Pattern, need, Protected}
use Rattle.survey.specs.Promise.{all_hidden}
use Rattle.search.specs.Lacking.{cells_lacking, lacking_cells}
use Rattle.search.specs.Ranking.{cells_of}
use Rattle.search.specs.Search.{InOrder, LeastEnough, blanked}
use Rattle.search.specs.declared.lacking.Lacking.{Lacking}
use Rattle.search.specs.declared.moves.Moves.{Moves}
use Rattle.search.specs.declared.ranking.Ranked.{Ranked}
use Rattle.search.proofs.Keeping.{Looked, looked_none}
use Rattle.search.proofs.Listing.{cell_at, listed_inside, listed_lacks}
use Rattle.search.proofs.Patterns.{without_witness, blanked_more, blanked_all}

-- the cell at a place of the order
abbrev pub ranked_at : List Ranked → ℕ → ℕ
ranked_at order k = (get_or order k (record { sum = 0; cell = 0 })).cell

-- as the list of the cells has it
pub ranked_is : (order : List Ranked) (k : ℕ) → k < length order → get_or (cells_of order) k 0 ≡ ranked_at order k
ranked_is order k below = get_or-map (λ (p : Ranked). p.cell) order k (record { sum = 0; cell = 0 }) 0 below

-- it is a cell of the table that lacks nothing
pub ranked_only : (s : Survey) (order : List Ranked) → InOrder s (cells_of order) → (k : ℕ) → k < length order →
    (ranked_at order k < size s) × (need s (ranked_at order k) ≡ 0)
ranked_only s order ordered k below =
    rw (← ranked_is order k below) (ordered.only _ (has_get_or (cells_of order) k 0 (omega (arith, length-map order (λ (p : Ranked). p.cell)))))

-- the first k of cs are blank, and fewer were not enough
pub record Blanking (s : Survey) (cs : List ℕ) (k : ℕ) (h : Pattern) : Type 0 where
  pub within : k ≤ length cs
  pub blanks : h ≡ blanked s (take k cs)
  pub least : (j : ℕ) → j < k → Protected s (blanked s (take j cs)) → ⊥

-- before the first
pub blanking_none : (s : Survey) (cs : List ℕ) (h : Pattern) → h ≡ blanked s [] → Blanking s cs 0 h
blanking_none s cs h first = record { within = omega arith; blanks = first; least = λ j below. absurd (omega arith) }

module _ (s : Survey) (cs : List ℕ) (k : ℕ) (h : Pattern) (so_far : Blanking s cs k h) where
  -- the pattern protects: so many are enough
  pub blanking_all : Protected s h → LeastEnough s cs k
  blanking_all protects = record { within = so_far.within; enough = rw (← so_far.blanks) protects; least = so_far.least }

  module _ (too_few : Protected s h → ⊥) where
    -- it doesn't: there is another cell to make blank
    pub blanking_room : InOrder s cs → Protected s (all_hidden (size s)) → k < length cs
    blanking_room ordered can = elim (cases_lt k (length cs)) [
      | inl less ↦ less
      | inr end ↦ absurd (too_few (rw (so_far.blanks, take_all k cs end, blanked_all s cs ordered) can))
    ]

    -- which then is blank
    pub blanking_more : k < length cs → Blanking s cs (k + 1) (set h (get_or cs k 0) true)
    blanking_more room = record {
      within = omega arith;
      blanks = ap (λ g. set g (get_or cs k 0) true) so_far.blanks ∙ sym (blanked_more s cs k room);
      least = λ j less protects. elim (cases_eq j k) [
        | inl same ↦ too_few (rw (so_far.blanks, ← same) protects)
        | inr other ↦ so_far.least j (omega arith) protects
      ];
    }

-- the next in order can be made blank
pub record Next (s : Survey) (order : List Ranked) (k : ℕ) (h : Pattern) : Type 0 where
  pub room : k < length order
  pub inside : ranked_at order k < size s
  pub more : Blanking s (cells_of order) (k + 1) (set h (ranked_at order k) true)

-- where the cell at place i of the list was looked at and has no witness
pub next : (s : Survey) (order : List Ranked) (k : ℕ) (h : Pattern) → Blanking s (cells_of order) k h → (t : Survey) → s ≡ t → InOrder t (cells_of order) →
    Protected t (all_hidden (size t)) → (ls : List Lacking) → cells_lacking ls ≡ lacking_cells s → (i : ℕ) → i < length ls →
    (o : Option Moves) → Looked s h (cell_at ls i) o → is_some o ≡ false → Next s order k h
next s order k h so_far t same ordered can ls listed i below o looked none =
    let too_few = without_witness s h (cell_at ls i) (listed_inside s ls listed i below) (listed_lacks s ls listed i below) (looked_none s h (cell_at ls i) o looked none) in
    let ordered : InOrder s (cells_of order) = rw same ordered in
    let less : k < length (cells_of order) = blanking_room s (cells_of order) k h so_far too_few ordered (rw same can) in
    let room : k < length order = omega (arith, length-map order (λ (p : Ranked). p.cell)) in
    record {
      room = room;
      inside = (ranked_only s order ordered k room).0;
      more = rw (← ranked_is order k room) (blanking_more s (cells_of order) k h so_far too_few less);
    }
