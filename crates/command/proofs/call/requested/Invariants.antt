-- What the words so far ask for.
use Rattle.std.proofs.Common.{◌≡◌, map, string_bytes}
use Rattle.command.specs.Call.{request_up_to, Placed}
use Rattle.command.proofs.call.requested.Given as goal

abbrev pub invariant-loop-i : goal.invariant-loop-i
invariant-loop-i l = (l.request ≡ request_up_to (map string_bytes l.words) l.i) × Placed l.i l.request
