use mathlib.Core.Path.{◌≡◌}
use lib.ListN.{get_or}
use Rattle.rules.specs.Tables.{Job}
use Rattle.rules.specs.Lent.{jobs_of}
use Rattle.rows.specs.InSlices.{jobs_in}
use Rattle.merging.proofs.Flagged.{Flagged}
use Rattle.compactor_state.proofs.AddCall.{others}
use Rattle.compactor_state.proofs.add.mark_others.Given as goal

abbrev pub invariant-loop-i : goal.invariant-loop-i
invariant-loop-i l = Flagged (λ k b. (d : Job) → b ≡ others l.id (get_or (jobs_of (jobs_in l.jobs)) k d)) l.jobs.count l.i l.flags
