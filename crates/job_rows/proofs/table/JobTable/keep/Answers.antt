-- `keep` meets its contract: each mover keeps the rows that its flags say (`keeps-jobs`), and they fit.
use Rattle.job_rows.proofs.Fitting.{specs-fit, entries_fit, flags-fit, source-marks-fit, source-runs-fit, source-views-fit}
use Rattle.job_rows.proofs.Keeping.{keeps-jobs}
use Rattle.job_rows.proofs.table.JobTable.keep.Goals as goal

pub mark_entries-used-requires : goal.mark_entries-used-requires
mark_entries-used-requires c = (c.requires.0.jobs, specs-fit c.requires.0, c.requires.1, entries_fit c.requires.0)

pub keep_rows-requires : goal.keep_rows-requires
keep_rows-requires c = (flags-fit c.requires.0 c.mark_entries-used.ensures.0 c.mark_entries-used.auto.flags, source-marks-fit c.requires.0 c.mark_entries-used.ensures.0)

pub keep_rows-requires-2 : goal.keep_rows-requires-2
keep_rows-requires-2 c = (flags-fit c.requires.0 c.mark_entries-used.ensures.0 c.mark_entries-used.auto.flags, source-runs-fit c.requires.0 c.mark_entries-used.ensures.0)

pub keep_rows-requires-3 : goal.keep_rows-requires-3
keep_rows-requires-3 c = (flags-fit c.requires.0 c.mark_entries-used.ensures.0 c.mark_entries-used.auto.flags, source-views-fit c.requires.0 c.mark_entries-used.ensures.0)

pub returns-clause-kept : goal.returns-clause-kept
returns-clause-kept c =
    keeps-jobs
    _
    c.args.staying.now
    c.requires
    _
    _
    c.mark_entries-used.ensures
    c.keep_rows.ensures
    c.keep_rows-2.ensures
    c.keep_rows-3.ensures
    c.keep_rows-4.ensures
    c.keep_rows-5.ensures
    c.keep_rows-6.ensures
    c.count_marked-self.ensures
