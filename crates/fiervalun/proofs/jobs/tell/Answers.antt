-- `fiervalun::jobs::tell` meets its contract: a case each. Assumes nothing.
use mathlib.Core.Path.{refl}
use Rattle.rules.specs.Calls.{jobs_number, jobs_values}
use Rattle.fiervalun.proofs.jobs.tell.Goals as goal

pub returns-in-Ok : goal.returns-in-Ok
unfolding jobs_number jobs_values
returns-in-Ok c = rw c.in-Ok.is (record { numbered = refl; counted = refl })

pub returns-in-Err : goal.returns-in-Err
unfolding jobs_number jobs_values
returns-in-Err c = rw c.in-Err.is (record { numbered = c.number.ensures; counted = refl })
