-- `row_of` meets its contract: the row names the sources that the pick names.
use Rattle.plan_passes.proofs.Steps.{of-views, of-runs}
use Rattle.plan_passes.proofs.ask.row_of.Goals as goal

pub returns-in-Rows : goal.returns-in-Rows
returns-in-Rows c =
    let w = rw c.in-Rows.is at c.requires in
    rw c.in-Rows.is (of-views _ _ _ _ w.1 w.0)

pub returns-in-Window : goal.returns-in-Window
returns-in-Window c =
    let w = rw c.in-Window.is at c.requires in
    rw c.in-Window.is (of-runs _ _ _ _ w.1 _ w.0)
