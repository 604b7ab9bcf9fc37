use Rattle.std.proofs.Common.{rules, arith}
use Rattle.std.proofs.lemmas.Result.{err_from_is_err_and}
use Rattle.audit.proofs.audit_of.Goals as goal

pub judged-requires : goal.judged-requires
judged-requires c = omega (arith, c.deref.ensures.len, c.in_ok-pattern.ensures.2)

pub returns-in_err-served : goal.returns-in_err-served
returns-in_err-served c =
    let p = err_from_is_err_and c.from_residual-in_err-served.result c.from_residual-in_err-served.ensures.1 in
    rw (p.1, p.2) (search rules)
