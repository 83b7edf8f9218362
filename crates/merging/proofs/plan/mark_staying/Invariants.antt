use mathlib.Core.Path.{◌≡◌}
use mathlib.Core.Bool.{Bool}
use lib.ListN.{get_or}
use Rattle.rules.specs.Tables.{Job}
use Rattle.rules.specs.Lent.{LentJobs, jobs_of}
use Rattle.rows.specs.InSlices.{jobs_in}
use Rattle.merging.specs.Merge.{stays, Flags, HasRows}
use Rattle.merging.proofs.Flagged.{Flagged}
use Rattle.merging.proofs.plan.mark_staying.Given as goal

abbrev pub invariant-loop-k : goal.invariant-loop-k
invariant-loop-k l =
    Flagged (λ k b. (x y : LentJobs) (p : Job → Bool) (d : Job) → HasRows x (jobs_in l.jobs) → HasRows y (jobs_in l.remote) → Flags p (jobs_of y) l.taken → b ≡ stays p (jobs_of y) (get_or (jobs_of x) k d)) l.jobs.count l.k l.flags
