-- `ask_tree` meets its contract: the pick of the tree is added.
use Rattle.rows.specs.InSlices.{trees_in}
use Rattle.plan_passes.proofs.Steps.{step-none, step-some, kept-none, kept-some}
use Rattle.plan_passes.proofs.AskedTrees.{step-asked}
use Rattle.plan_passes.proofs.ask.ask_tree.Goals as goal

pub returns-in-None : goal.returns-in-None
returns-in-None c = record { kept = kept-none; asked = λ t i. step-asked (rw c.in_use.ensures at c.in-None.ensures) i step-none }

pub returns-in-Some-clause-kept : goal.returns-in-Some-clause-kept
returns-in-Some-clause-kept c = kept-some (trees_in c.args.trees.now) _ c.use_pick.ensures c.add.ensures _ c.row_of-row.ensures.within c.row_of-row.ensures.few

pub returns-in-Some-clause-asked : goal.returns-in-Some-clause-asked
returns-in-Some-clause-asked c =
    λ t i. step-asked (rw c.in_use.ensures at c.in-Some.ensures) i (rw (c.row_of-row.ensures.is (trees_in c.args.trees.now), c.fresh_after.ensures) (step-some c.row_of-row.result c.use_pick.ensures c.add.ensures _))
