-- A witness that is kept, in other patterns. Assumes nothing.
use Rattle.std.proofs.Common.{◌≡◌, ℕ, ◌+◌, ◌*◌, ◌/◌, ◌%◌, ◌<◌, true, false, Option, Some, None, MatchOption, get_or, set, refl, sym, ◌∙◌, subst, inl, inr}
use Rattle.std.proofs.lemmas.Bool.{both_ways, cases_eq}
use Rattle.std.proofs.lemmas.List.{get_or-set_other}
use Rattle.std.proofs.lemmas.Nat.{div-add-mod', div_below, mod_below}
use Rattle.std.proofs.lemmas.Option.{IfSome_then}
use Rattle.std.specs.Option.{is_some}
use Rattle.survey.specs.Model.{size}
use Rattle.survey.specs.Page.{Survey, Pattern, Witness, hidden, true_sum}
use Rattle.survey.proofs.Witnesses.{witness_in, still_printed}
use Rattle.search.specs.Lacking.{Kept, Known}
use Rattle.search.specs.Moves.{bit_of}
use Rattle.search.specs.declared.lacking.Lacking.{Lacking}
use Rattle.search.specs.declared.moves.Moves.{Moves}

-- a kept witness serves another pattern that prints only what it leaves as it is
kept_in : (s : Survey) (h g : Pattern) (c : ℕ) (moves : Moves) (kept : Kept s h c moves) →
    ((d : ℕ) → hidden g d ≡ false → kept.witness.sums d ≡ true_sum s d) → Kept s g c moves
unfolding witness_in
kept_in s h g c moves kept as_is = record { witness = witness_in s h g c kept.witness as_is; still = kept.still }

-- what a look at a cell answers
abbrev pub Looked : Survey → Pattern → ℕ → Option Moves → Type 0
Looked s h c o = MatchOption o (Witness s h c → ⊥) (λ m. Kept s h c m)

-- what it answers is known of the cell
pub looked_known : (s : Survey) (h : Pattern) (c : ℕ) (o : Option Moves) → Looked s h c o → Known s h (record { cell = c; moves = o })
looked_known s h c None none = tt
looked_known s h c (Some m) kept = kept

-- where it answers with something there is a witness
pub looked_some : (s : Survey) (h : Pattern) (c : ℕ) (o : Option Moves) → Looked s h c o → is_some o ≡ true → Witness s h c
looked_some s h c None none some = absurd (both_ways false refl some)
looked_some s h c (Some m) kept some = kept.witness

-- and else none
pub looked_none : (s : Survey) (h : Pattern) (c : ℕ) (o : Option Moves) → Looked s h c o → is_some o ≡ false → Witness s h c → ⊥
looked_none s h c None none empty = none
looked_none s h c (Some m) kept empty = absurd (both_ways true empty refl)

-- hiding more keeps what is known
pub known_more : (s : Survey) (h g : Pattern) → ((d : ℕ) → hidden h d ≡ true → hidden g d ≡ true) → (l : Lacking) → Known s h l → Known s g l
known_more s h g more l known = IfSome_then l.moves known (λ m kept. kept_in s h g l.cell m kept (still_printed s h g l.cell more kept.witness))

-- printing a cell that the witness does not change keeps it
pub kept_printing : (s : Survey) (h : Pattern) (c d : ℕ) (moves : Moves) → 0 < s.columns → d < size s →
    bit_of (get_or moves.rows (d / s.columns) 0) (d % s.columns) ≡ false → Kept s h c moves → Kept s (set h d false) c moves
kept_printing s h c d moves some inside unmoved kept =
    let place : d / s.columns * s.columns + d % s.columns ≡ d = div-add-mod' d s.columns in
    let as_is : kept.witness.sums d ≡ true_sum s d =
    subst (λ e. kept.witness.sums e ≡ true_sum s e) place
    (kept.still (d / s.columns) (d % s.columns) (div_below d s.columns s.rows some inside) (mod_below d s.columns some) unmoved) in
    kept_in s h (set h d false) c moves kept (λ e printed. elim (cases_eq e d) [
      | inl same ↦ subst (λ x. kept.witness.sums x ≡ true_sum s x) (sym same) as_is
      | inr other ↦ kept.witness.printed e (sym (get_or-set_other h d e false false other) ∙ printed)
    ])
