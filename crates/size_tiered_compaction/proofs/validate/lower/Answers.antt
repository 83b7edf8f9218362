-- `lower` meets its contract: a view makes no difference, a run is held against the lowest so far.
use mathlib.Core.Path.{ap}
use Rattle.size_tiered_compaction.specs.LogicalOrder.{lowest_of}
use Rattle.size_tiered_compaction.proofs.Lowest.{view-more, run-first, run-lower, run-higher}
use Rattle.size_tiered_compaction.proofs.validate.lower.Goals as goal

pub returns-in-SstView : goal.returns-in-SstView
returns-in-SstView c = rw c.in-SstView.is (view-more _ _)

pub returns-in-None : goal.returns-in-None
returns-in-None c = rw c.in-SortedRun.is (run-first _ _ (ap lowest_of c.in-None.is))

pub returns-then-run-x : goal.returns-then-run-x
returns-then-run-x c = rw c.in-SortedRun.is (run-lower _ _ _ (ap lowest_of c.in-Some.is) c.if-run-x.true)

pub returns-else-run-x : goal.returns-else-run-x
returns-else-run-x c = rw c.in-SortedRun.is (run-higher _ _ _ (ap lowest_of c.in-Some.is) c.if-run-x.false)
