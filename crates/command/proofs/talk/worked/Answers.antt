use Rattle.std.proofs.Common.{inl}
use Rattle.command.proofs.talk.worked.Goals as goal

pub returns-in-Some : goal.returns-in-Some
returns-in-Some g c = inl (c.in-Some.task, c.work.ensures)
