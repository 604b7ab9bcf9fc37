-- A protected page is safe; a cell that lacks nothing is safe by itself; and hiding more never harms.
use Rattle.std.proofs.Common.{[], get_or, inl, inr, arith}
use Rattle.std.proofs.lemmas.Bool.{cases_lt}
use Rattle.survey.specs.Page.{Safe, Protected, need}
use Rattle.survey.specs.Promise.{Guard, ByItself, MoreHidden}
use Rattle.survey.proofs.Witnesses.{own_witness, witness_more}
use Rattle.pattern.proofs.World.{opens}

-- a cell that lacks nothing needs nothing
pub by_itself : ByItself
unfolding ByItself
by_itself s a b sound la lb ne none = opens s [] a b sound la lb ne (own_witness s [] (get_or s.cells b 0) none)

-- a protected page is safe
pub guard : Guard
unfolding Guard Safe Protected
guard s h sound protects a b la lb ne = opens s h a b sound la lb ne (elim (cases_lt 0 (need s (get_or s.cells b 0))) [
  | inl lacking ↦ protects (get_or s.cells b 0) (sound.inside b (omega (arith, sound.each))) lacking
  | inr nothing ↦ own_witness s h (get_or s.cells b 0) (omega arith)
])

-- hiding more never harms
pub more_hidden : MoreHidden
unfolding MoreHidden Protected
more_hidden s h g more protects c l lacking = witness_more s h g c more (protects c l lacking)
