-- `find` meets its contract: 1 and 2 of the tables, or what `find_work` finds in good ones (Commits.antt).
use mathlib.Core.Path.{refl, sym}
use Rattle.std.proofs.lemmas.Result.{err_from_is_err_and}
use Rattle.rules.specs.Tables.{mark_of}
use Rattle.rows.specs.InSlices.{trees_in, jobs_in}
use Rattle.compactor_finish.proofs.Commits.{tables-refuse, work-fit, work-case}
use Rattle.compactor_finish.proofs.ending.find.Goals as goal

pub returns-in_err-check_tables : goal.returns-in_err-check_tables
returns-in_err-check_tables c =
    let p = err_from_is_err_and c.from_residual.result c.from_residual.ensures.1 in
    rw (p.1, p.2) (tables-refuse (trees_in c.args.trees.now) (jobs_in c.args.jobs.now) c.args.id (mark_of c.args.kind) _ c.in_err-check_tables.ensures)

pub find_work-requires : goal.find_work-requires
find_work-requires c = work-fit (trees_in c.args.trees.now) (jobs_in c.args.jobs.now) (sym c.in_ok-check_tables.ensures)

pub returns : goal.returns
returns c = work-case (trees_in c.args.trees.now) (jobs_in c.args.jobs.now) c.args.id (mark_of c.args.kind) (sym c.in_ok-check_tables.ensures) c.find_work.result (c.find_work.ensures (trees_in c.args.trees.now) (jobs_in c.args.jobs.now) refl refl refl refl refl refl)
