-- One word more, and all words at the end.
use Rattle.std.proofs.Common.{◌≡◌, ℕ, ◌+◌, length, string_bytes, sym, ap, ◌∙◌, subst, arith}
use Rattle.command.specs.Call.{word_of, request_after, Placed}
use Rattle.command.specs.declared.call.Request.{Request}
use Rattle.command.specs.declared.call.Word.{Word}
use Rattle.command.proofs.Words.{one_more, all_words, placed_more}
use Rattle.command.proofs.call.requested.Goals as goal

pub loop-i-preserved : goal.loop-i-preserved
loop-i-preserved c =
    let i = c.loop-i.i in
    let same = c.from.ensures ∙ ap word_of c.as_str.ensures.value in (
      c.after-request.ensures ∙ ap (λ (w : Word). request_after c.loop-i.request w i) same
          ∙ one_more string_bytes c.args.words.now i c.index-words-i.result c.loop-i.request c.loop-i-test.true c.loop-i.invariant.0 c.index-words-i.is,
      subst (λ (r : Request). Placed (i + 1) r) (sym c.after-request.ensures) (placed_more i c.loop-i.request c.from.result c.loop-i.invariant.1),
    )

pub returns : goal.returns
returns c =
    let end : c.loop-i.i ≡ length c.args.words.now = omega arith in
    record {
      value = all_words string_bytes c.args.words.now c.loop-i.i c.loop-i.request end c.loop-i.invariant.0;
      within = subst (λ (n : ℕ). Placed n c.loop-i.request) end c.loop-i.invariant.1;
    }
