-- One row more.
use Rattle.std.proofs.Common.{◌+◌, ◌*◌, ◌≤◌, ap, ◌∙◌, inl, inr, arith}
use Rattle.std.proofs.lemmas.Nat.{mul-le}
use Rattle.std.proofs.lemmas.List.{length-set, get_or-set_same, get_or-set_other, get_or_append_left}
use Rattle.std.proofs.lemmas.Bool.{cases_eq}
use Rattle.search.specs.Moves.{bit_of}
use Rattle.search.proofs.moves.moves_of.Goals as goal

pub row_bits-requires : goal.row_bits-requires
row_bits-requires c =
    let row = c.loop-row.row in
    let fits : (row + 1) * c.args.columns ≤ c.args.rows * c.args.columns = mul-le (row + 1) c.args.columns c.args.rows c.args.columns (omega arith) (omega arith) in
    record { few = c.requires.few_columns; sums_within = omega (arith, fits, c.requires.sums_within); other_within = omega (arith, fits, c.requires.other_within) }

pub loop-row-preserved : goal.loop-row-preserved
loop-row-preserved c =
    let row = c.loop-row.row in
    let rows = c.loop-row.bits-items in
    let bits = c.row_bits.result in (
      length-set rows row bits ∙ c.loop-row.invariant.0,
      λ r k below within. elim (cases_eq r row) [
        | inl same ↦ rw same (ap (λ x. bit_of x k) (get_or-set_same rows row bits 0 (omega (arith, c.loop-row.invariant.0))) ∙ c.row_bits.ensures k within)
        | inr other ↦ ap (λ x. bit_of x k) (get_or-set_other rows row r bits 0 other) ∙ c.loop-row.invariant.1 r k (omega arith) within
      ],
    )

pub returns : goal.returns
returns c r k below within =
    ap (λ x. bit_of x k) (get_or_append_left c.loop-row.bits-items _ 0 r (omega (arith, c.loop-row.invariant.0)))
    ∙ c.loop-row.invariant.1 r k (omega arith) within
