use Rattle.std.proofs.Common.{ℕ, replicate, ap, ◌∙◌, arith}
use Rattle.flow.proofs.Bounds.{need_small}
use Rattle.flow.proofs.Running.{afoot_first}
use Rattle.flow.proofs.raising.run.Goals as goal

pub take_ways-flow-requires-clause-afoot : goal.take_ways-flow-requires-clause-afoot
take_ways-flow-requires-clause-afoot c =
    afoot_first c.args.raised.now.table.now.survey c.args.raised.now.long (c.fill_sums.ensures.long ∙ c.requires.sums)
    (λ d l. c.fill_sums.ensures.known d (omega (arith, c.requires.sums)))
    (c.fill.ensures.after (λ y e. e) ∙ ap (λ (n : ℕ). replicate n 0) c.requires.falls)
    (c.fill-2.ensures.after (λ y e. e) ∙ ap (λ (n : ℕ). replicate n 0) c.requires.rises)

pub write_witness-requires-clause-small : goal.write_witness-requires-clause-small
write_witness-requires-clause-small c = omega (arith, c.lack.ensures, need_small c.args.raised.now.table.now.survey c.args.raised.now.cell)
