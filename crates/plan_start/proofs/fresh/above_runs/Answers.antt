-- `plan_start::fresh::above_runs` meets its contract.
-- The loop's invariant, `Risen`: the largest so far and those of the rows that are left give that of all. Assumes nothing.
use mathlib.Core.Path.{ap, refl, ◌∙◌}
use native.Mathlib.Omega.{arith}
use Rattle.rules.specs.Lists.{one_above}
use Rattle.plan_start.proofs.SizeSums.{whole}
use Rattle.plan_start.proofs.Largest.{rise-starts, rise, rise-ends, rows-themselves}
use Rattle.plan_start.proofs.fresh.above_runs.Goals as goal

pub loop-id-init : goal.loop-id-init
loop-id-init c = rise-starts

pub loop-id-preserved : goal.loop-id-preserved
loop-id-preserved c = rise c.loop-id.invariant c.loop-id-test.true refl (omega (arith, c.max-above.ensures))

pub returns : goal.returns
returns c = rise-ends c.loop-id.invariant c.loop-id-test.false ∙ ap one_above (rows-themselves _ ∙ whole _)
