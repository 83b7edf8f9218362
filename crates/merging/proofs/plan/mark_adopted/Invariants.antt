use mathlib.Core.Path.{◌≡◌}
use lib.ListN.{get_or}
use Rattle.rules.specs.Tables.{Job}
use Rattle.rules.specs.Lent.{LentJobs, jobs_of}
use Rattle.rows.specs.InSlices.{jobs_in}
use Rattle.merging.specs.Merge.{adopted, HasRows}
use Rattle.merging.proofs.Flagged.{Flagged}
use Rattle.merging.proofs.plan.mark_adopted.Given as goal

abbrev pub invariant-loop-i : goal.invariant-loop-i
invariant-loop-i l =
    Flagged (λ k b. (x y : LentJobs) (d : Job) → HasRows x (jobs_in l.jobs) → HasRows y (jobs_in l.remote) → b ≡ adopted (jobs_of x) (get_or (jobs_of y) k d)) l.remote.count l.i l.flags
