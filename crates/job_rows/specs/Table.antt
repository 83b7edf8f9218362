-- The job table and a job by itself, as the code hands them about, are those of the definitions: each slice by what stands in it.
use Rattle.std.specs.Prelude.{◌≡◌, length}
use Rattle.rules.specs.Lent.{LentJobs, lent_jobs}
use Rattle.rules.specs.Jobs.{LentJob}
use Rattle.job_rows.specs.declared.table.JobTable.{JobTable}
use Rattle.job_rows.specs.declared.table.NewJob.{NewJob}

abbrev pub table_in : JobTable → LentJobs
table_in t =
    lent_jobs t.count t.ids.now t.marks.now t.specs.now t.source_marks.now t.source_runs.now t.source_views.now

abbrev pub job_in : NewJob → LentJob
job_in x = record {
  id = x.id;
  status = x.status;
  drain = x.drain;
  prefix = x.prefix;
  destination = x.destination;
  marks = x.sources.marks.now;
  runs = x.sources.runs.now;
  views = x.sources.views.now;
}

-- b is the table whose slices a was lent: what a caller's slices end as is what stands in b
pub record SameTables (a b : JobTable) : Type 0 where
  pub ids : b.ids.ghost_name ≡ a.ids.ghost_name
  pub marks : b.marks.ghost_name ≡ a.marks.ghost_name
  pub specs : b.specs.ghost_name ≡ a.specs.ghost_name
  pub source_marks : b.source_marks.ghost_name ≡ a.source_marks.ghost_name
  pub source_runs : b.source_runs.ghost_name ≡ a.source_runs.ghost_name
  pub source_views : b.source_views.ghost_name ≡ a.source_views.ghost_name

-- each slice of b is as long as that of a
pub record SameLengths (a b : JobTable) : Type 0 where
  pub ids : length b.ids.now ≡ length a.ids.now
  pub marks : length b.marks.now ≡ length a.marks.now
  pub specs : length b.specs.now ≡ length a.specs.now
  pub source_marks : length b.source_marks.now ≡ length a.source_marks.now
  pub source_runs : length b.source_runs.now ≡ length a.source_runs.now
  pub source_views : length b.source_views.now ≡ length a.source_views.now
