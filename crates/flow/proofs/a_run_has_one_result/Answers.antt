use Rattle.flow.specs.Ways.{OneRun}
use Rattle.flow.proofs.Runs.{run_one}
use Rattle.flow.proofs.a_run_has_one_result.Goals as goal

pub returns : goal.returns
unfolding OneRun
returns c s h d l falls rises l₁ falls₁ rises₁ l₂ falls₂ rises₂ one other = run_one one other
