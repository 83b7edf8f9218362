-- `fiervalun::plan::tell` meets its contract: a case each. Assumes nothing.
use mathlib.Core.Path.{refl}
use Rattle.rules.specs.Calls.{plan_number, plan_values}
use Rattle.fiervalun.proofs.plan.tell.Goals as goal

pub returns-in-Ok : goal.returns-in-Ok
unfolding plan_number plan_values
returns-in-Ok c = rw c.in-Ok.is (record { numbered = refl; spec_count = refl; pass_count = refl })

pub returns-in-Err : goal.returns-in-Err
unfolding plan_number plan_values
returns-in-Err c = rw c.in-Err.is (record { numbered = c.number.ensures; spec_count = refl; pass_count = refl })
