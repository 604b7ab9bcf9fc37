use Rattle.cut.specs.Least.{OneCut}
use Rattle.cut.proofs.Least.{least_rows, least_columns}
use Rattle.cut.proofs.least_cut_is_one.Goals as goal

pub returns : goal.returns
unfolding OneCut
returns c s h d rs ks rs' ks' one other = (least_rows s h d rs ks rs' ks' one other, least_columns s h d rs ks rs' ks' one other)
