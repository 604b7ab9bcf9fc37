-- One column more, at the low end.
use Rattle.std.proofs.Common.{◌≡◌, ℕ, ◌+◌, ◌-◌, subst, arith}
use Rattle.search.specs.Moves.{differs}
use Rattle.search.proofs.Bits.{BitsFrom, bits_more}
use Rattle.search.proofs.moves.row_bits.Goals as goal

pub loop-k-preserved : goal.loop-k-preserved
loop-k-preserved c =
    let k = c.loop-k.k in
    let f = λ (i : ℕ). differs c.args.sums.now c.args.other.now (c.args.start + i) in
    let next : k ≡ (k - 1) + 1 = omega arith in
    bits_more f (k - 1) c.args.columns c.loop-k.bits c.changed_bit.result (omega arith) c.changed_bit.ensures.bit c.changed_bit.ensures.value
    (subst (λ (i : ℕ). BitsFrom f i c.args.columns c.loop-k.bits) next c.loop-k.invariant)
