-- `put` meets its contract: its four stores write one source (`source-put`).
use mathlib.Core.Path.{refl}
use Rattle.rules.specs.declared.tables.SourceId.TheVariants.{SortedRun, SstView}
use Rattle.plan_passes.proofs.Writing.{source-put}
use Rattle.plan_passes.proofs.lay.PlanTable.put.Goals as goal

pub returns-in-SortedRun-clause-put : goal.returns-in-SortedRun-clause-put
returns-in-SortedRun-clause-put c = rw c.in-SortedRun.is (source-put (SortedRun c.in-SortedRun.run') refl c.requires)

pub returns-in-SstView-clause-put : goal.returns-in-SstView-clause-put
returns-in-SstView-clause-put c = rw c.in-SstView.is (source-put (SstView c.in-SstView.view) refl c.requires)
