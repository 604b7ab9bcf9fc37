-- What was lent for the call is given back whole.
use Rattle.std.proofs.Common.{◌∙◌}
use Rattle.std.proofs.lemmas.List.{with_items_is}
use Rattle.cut.proofs.scratch.Scratch.judge.Goals as goal

pub returns : goal.returns
returns c =
    let old = c.args.self.now in
    let new = c.witness_or_cut.new in
    let kept = c.witness_or_cut.auto in
    record {
      found = rw (
        with_items_is old.sums new.sums (kept.sums ∙ c.deref_mut.ensures.len),
        with_items_is old.falls new.falls (kept.falls ∙ c.deref_mut-2.ensures.len),
        with_items_is old.rises new.rises (kept.rises ∙ c.deref_mut-3.ensures.len),
        with_items_is old.witness new.witness (kept.witness ∙ c.deref_mut-4.ensures.len),
        ← c.deref_mut.ensures.value,
        ← c.deref_mut-2.ensures.value,
        ← c.deref_mut-3.ensures.value,
        ← c.deref_mut-4.ensures.value,
      ) c.witness_or_cut.ensures;
      room = λ n roomy. record { sums = roomy.sums; falls = roomy.falls; rises = roomy.rises; witness = roomy.witness };
    }
