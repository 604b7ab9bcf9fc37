-- Where no byte is odd the pattern is what the bytes say.
use Rattle.std.proofs.Common.{rules}
use Rattle.pattern.proofs.Odd.{odd_is}
use Rattle.pattern.specs.Blanks.{byte_blank}
use Rattle.pattern.proofs.blanks.from_bytes.Goals as goal

pub returns-in-Some : goal.returns-in-Some
returns-in-Some c = search (rules, odd_is c.args.bytes.now)

pub returns : goal.returns
returns c =
    let filled = c.fill_cells.ensures (byte_blank c.args.bytes.now) (λ d b below said. search rules) in
    search (rules, odd_is c.args.bytes.now)
