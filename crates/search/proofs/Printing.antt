-- The state of the search while one cell is tried as printed. Assumes nothing.
use Rattle.std.proofs.Common.{◌≡◌, ℕ, ◌+◌, ◌*◌, ◌/◌, ◌%◌, ◌<◌, ◌≤◌, Bool, true, false, List, Some, length, get_or, set, ap, ◌∙◌, subst, inl, inr, arith}
use Rattle.std.specs.List.{All, AllWithin}
use Rattle.std.proofs.lemmas.Nat.{div_below, mod_below}
use Rattle.std.proofs.lemmas.List.{get_or-set_other, get_or_default, length-set, set-set, set-get_or}
use Rattle.std.proofs.lemmas.List.Elements.{AllWithin-more_set, AllWithin-more, AllWithin-none, AllWithin-from_all}
use Rattle.std.proofs.lemmas.Bool.{cases_lt}
use Rattle.survey.specs.Model.{size}
use Rattle.survey.specs.Page.{Survey, Pattern, hidden, need, Witness}
use Rattle.search.specs.Lacking.{Kept, Known, lacking_cells, unknown}
use Rattle.search.specs.Moves.{bit_of}
use Rattle.search.specs.declared.lacking.Lacking.{Lacking}
use Rattle.search.specs.declared.moves.Moves.{Moves}
use Rattle.search.proofs.Keeping.{known_more, kept_printing}
use Rattle.search.proofs.Listing.{LookedAt, Served, cell_at, served_next}
use Rattle.search.proofs.Witnesses.{printed_fewer}

-- a cell of a table of at most forty rows and columns lies in one of forty rows and columns
pub row_and_column : (cell rows columns : ℕ) → 0 < columns → cell < rows * columns → rows ≤ 40 → columns ≤ 40 → (cell / columns < 40) × (cell % columns < 40)
row_and_column cell rows columns some inside few_rows few_columns =
    (omega (arith, div_below cell columns rows some inside), omega (arith, mod_below cell columns some))

-- an entry that is cleared and put back as it was read
pub put_back : (h : Pattern) (d : ℕ) (before : Bool) → before ≡ get_or h d before → set (set h d false) d before ≡ h
put_back h d before read = set-set h d false before ∙ ap (set h d) read ∙ set-get_or h d before

-- where a cell is printed that lacks nothing, those that lack something stay blank
pub blank_besides : (s : Survey) (h : Pattern) (d : ℕ) → need s d ≡ 0 → ((c : ℕ) → c < size s → 0 < need s c → hidden h c ≡ true) →
    (c : ℕ) → c < size s → 0 < need s c → hidden (set h d false) c ≡ true
blank_besides s h d enough blank c inside lacking =
    get_or-set_other h d c false false (λ same. omega (arith, ap (need s) same)) ∙ blank c inside lacking

-- of the first i of ls what is known is of witnesses with cell d printed, and of the others of witnesses with pattern h
pub record Printing (s : Survey) (h : Pattern) (d : ℕ) (ls : List Lacking) (i : ℕ) : Type 0 where
  pub done : AllWithin (Known s (set h d false)) ls 0 i
  pub rest : AllWithin (Known s h) ls i (length ls)
  pub served : Served s (set h d false) i

-- before the first
pub printing_none : (s : Survey) (h : Pattern) (d : ℕ) (ls : List Lacking) → All (Known s h) ls → Printing s h d ls 0
printing_none s h d ls known = record {
  done = AllWithin-none (Known s (set h d false)) ls 0;
  rest = AllWithin-from_all (Known s h) ls known;
  served = λ i below. absurd (omega arith);
}

module _ (s : Survey) (h : Pattern) (d : ℕ) (ls : List Lacking) (i : ℕ) (so_far : Printing s h d ls i) where
  -- what was known serves the pattern as it was
  pub printing_undone : All (Known s h) ls
  printing_undone k z below = elim (cases_lt k i) [
    | inl less ↦ known_more s (set h d false) h (printed_fewer h d) (get_or ls k z) (so_far.done k z (omega arith) less)
    | inr more ↦ so_far.rest k z more below
  ]

  -- all have witnesses: it serves the pattern with the cell printed
  pub printing_all : length ls ≤ i → All (Known s (set h d false)) ls
  printing_all end k z below = so_far.done k z (omega arith) (omega arith)

  module _ (below : i < length ls) (at : cell_at ls i ≡ get_or (lacking_cells s) i 0) where
    -- a witness is found
    pub printing_found : (ls' : List Lacking) (m : Moves) → LookedAt ls i (Some m) ls' → Kept s (set h d false) (cell_at ls i) m → Printing s h d ls' (i + 1)
    printing_found ls' m found kept = record {
      done = rw found (AllWithin-more_set ls i _ below (Known s (set h d false)) so_far.done kept);
      rest = λ k z from less.
          let within : k < length ls = omega (arith, ap length found, length-set {A = Lacking}) in
          rw (found, get_or-set_other ls i k _ z (λ same. omega arith)) (so_far.rest k z (omega arith) within);
      served = served_next s (set h d false) i so_far.served (subst (λ c. Witness s (set h d false) c) at kept.witness);
    }

    -- the witness that is known leaves the cell as it is
    pub printing_skip : (m : Moves) → (get_or ls i (unknown 0)).moves ≡ Some m → bit_of (get_or m.rows (d / s.columns) 0) (d % s.columns) ≡ false →
        0 < s.columns → d < size s → Printing s h d ls (i + 1)
    printing_skip m is unmoved some inside =
        let kept = kept_printing s h (cell_at ls i) d m some inside unmoved (rw is at (so_far.rest i (unknown 0) (omega arith) below)) in
        record {
          done = AllWithin-more (Known s (set h d false)) ls 0 i so_far.done
              (λ z. rw (get_or_default ls i z (unknown 0) below, is) kept);
          rest = λ k z from less. so_far.rest k z (omega arith) less;
          served = served_next s (set h d false) i so_far.served (subst (λ c. Witness s (set h d false) c) at kept.witness);
        }
