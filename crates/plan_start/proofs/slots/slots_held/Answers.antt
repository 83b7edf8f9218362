use Rattle.std.proofs.lemmas.Bool.Decides.{nat_tests}
use Rattle.std.proofs.Common.{arith}
-- `plan_start::slots::slots_held` meets its contract.
-- The loop's invariant, `Counted`: the jobs counted and those that are left hold all slots; neither looks at sources (`held-bare`). Assumes nothing.
use Rattle.plan_start.proofs.Counting.{count-starts, count_row, count-ends}
use Rattle.plan_start.proofs.JobRows.{held-bare}
use Rattle.plan_start.proofs.slots.slots_held.Goals as goal

pub loop-i-init : goal.loop-i-init
loop-i-init c = count-starts

pub loop-i-preserved : goal.loop-i-preserved
loop-i-preserved c = count_row c.loop-i.invariant c.loop-i-test.true (grind (arith, nat_tests))

pub returns : goal.returns
returns c = λ j n m.
    let counted = count-ends c.loop-i.invariant c.loop-i-test.false in
    let held = held-bare j in
    cc
