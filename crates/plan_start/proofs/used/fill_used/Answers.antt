-- `plan_start::used::fill_used` meets its contract.
-- The loop's invariant, `KeysSoFar`: the keys so far and those of the jobs that are left are those of all. Assumes nothing.
use mathlib.Core.Path.{refl}
use native.Mathlib.Omega.{arith}
use Rattle.plan_start.proofs.JobKeys.{keys-start, keys-next, sources-within, used-by}
use Rattle.plan_start.proofs.used.fill_used.Goals as goal

pub loop-i-init : goal.loop-i-init
loop-i-init c = keys-start refl refl

pub add_job-requires : goal.add_job-requires
add_job-requires c = omega (arith, c.requires, c.loop-i.invariant, sources-within c.loop-i.invariant c.loop-i-test.true)

pub overflow_add-at : goal.overflow_add-at
overflow_add-at c = omega (arith, c.requires.sources, sources-within c.loop-i.invariant c.loop-i-test.true)

pub loop-i-preserved : goal.loop-i-preserved
loop-i-preserved c = keys-next c.loop-i.invariant c.loop-i-test.true c.add_job.ensures refl

pub returns-clause-uses : goal.returns-clause-uses
returns-clause-uses c = λ j n m p sm sr sv. used-by j c.loop-i.invariant c.loop-i-test.false n m p sm sr sv
