-- The lent tables, as the code hands them about, are those of the definitions: each slice by what stands in it.
use Rattle.std.specs.Prelude.{List}
use Rattle.rows.specs.declared.trees.Trees.{Trees}
use Rattle.rows.specs.declared.jobs.Jobs.{Jobs}
use Rattle.rows.specs.declared.sources.Sources.{Sources}
use Rattle.rules.specs.declared.tables.Source.{Source}
use Rattle.rules.specs.Validation.{lent_sources}
use Rattle.rules.specs.Lent.{LentTrees, LentJobs, lent_trees, lent_jobs}

abbrev pub trees_in : Trees → LentTrees
trees_in t =
    lent_trees t.count t.rows.now t.watermark_marks.now t.watermarks.now t.l0_ids.now t.l0_sizes.now t.run_ids.now t.run_sizes.now

abbrev pub jobs_in : Jobs → LentJobs
jobs_in j =
    lent_jobs j.count j.ids.now j.marks.now j.specs.now j.sources.marks.now j.sources.runs.now j.sources.views.now

-- all the source entries
abbrev pub sources_in : Sources → List Source
sources_in s = lent_sources s.marks.now s.runs.now s.views.now
