-- `clashes` meets its contract: the invariant is that one of the jobs left clashes exactly if one of all does (`Left`), as it is
-- read off the slices (`flat-clashes`).
use mathlib.Core.Path.{sym, ◌∙◌}
use Rattle.rules.specs.Lists.{any}
use Rattle.rules.specs.Jobs.{job_of}
use Rattle.rows.specs.InSlices.{jobs_in}
use Rattle.rows.proofs.Scans.{scan-next, scan-stops, scan-ends}
use Rattle.job_rows.specs.Table.{job_in}
use Rattle.compactor_state.proofs.Clashes.{flat-clashes}
use Rattle.compactor_state.proofs.adding.clashes.Goals as goal

pub returns-then-clashes_at : goal.returns-then-clashes_at
unfolding any job_of
returns-then-clashes_at c = scan-stops c.loop-i.invariant c.loop-i-test.true (rw (sym c.clashes_at.ensures ∙ c.if-clashes_at.true)) ∙ sym (flat-clashes (jobs_in c.args.jobs.now) (job_of (job_in c.args.job.now)))

pub loop-i-preserved : goal.loop-i-preserved
unfolding any
loop-i-preserved c = scan-next c.loop-i.invariant c.loop-i-test.true (rw (sym c.clashes_at.ensures ∙ c.if-clashes_at.false))

pub returns : goal.returns
unfolding any job_of
returns c = scan-ends c.loop-i.invariant c.loop-i-test.false ∙ sym (flat-clashes (jobs_in c.args.jobs.now) (job_of (job_in c.args.job.now)))
