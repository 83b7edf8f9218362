-- The lent jobs of finish and drain: what stands in their slices is a table of the definitions.
use Rattle.std.specs.Prelude.{ℕ, List, ◌≡◌}
use Rattle.rules.specs.Lent.{LentJobs, lent_jobs}
use Rattle.compactor_finish.specs.declared.ending.EndingJobs.{EndingJobs}

abbrev pub ending_in : EndingJobs → LentJobs
ending_in j = lent_jobs j.count j.ids.now j.marks.now j.specs.now j.source_marks.now j.source_runs.now j.source_views.now

-- the slice that is lent to change stays the one that was lent
pub record SameMarks (a b : EndingJobs) : Type 0 where
  pub marks : b.marks.ghost_name ≡ a.marks.ghost_name

-- the jobs with other marks
abbrev pub with_marks : List ℕ → LentJobs → LentJobs
with_marks marks j = lent_jobs j.count j.job_ids marks j.job_specs j.source_marks j.source_runs j.source_views
