-- The survey that was read is the one that is published.
use Rattle.std.proofs.Common.{ℕ, List, subst}
use Rattle.page.specs.Pages.{Pages}
use Rattle.page.proofs.Served.{pages}
use Rattle.page.proofs.page_of.Goals as goal

pub returns : goal.returns
returns c =
    let full = c.args.task.now.full in
    subst (λ (b : List ℕ). Pages b full c.publish.result) c.as_slice.ensures.value
    (pages c.as_slice.result.now full c.in_ok-survey.survey c.in_ok-table.table.survey c.publish.result c.in_ok-survey.ensures.0 c.in_ok-survey.ensures.1
    c.in_ok-table.ensures c.publish.ensures)
