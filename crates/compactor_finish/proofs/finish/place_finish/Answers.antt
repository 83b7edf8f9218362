-- `place_finish` meets its contract: where the output goes decides (`finish-refused`, `finish-commits`).
use mathlib.Core.Path.{refl, ap, ◌∙◌}
use Rattle.std.proofs.lemmas.Result.{err_from_is_err_and}
use Rattle.rules.specs.Tables.{Tree, id_of}
use Rattle.rules.specs.Lent.{LentTrees, LentJobs, tree_at, l0_count, run_count, rows_from}
use Rattle.rules.specs.Lists.{total}
use Rattle.rows.specs.InSlices.{trees_in, jobs_in}
use Rattle.compactor_finish.proofs.Commits.{finish-refused, finish-commits, mark-of, own-rows, output-fit}
use Rattle.compactor_finish.proofs.finish.place_finish.Goals as goal

pub place_output-requires : goal.place_output-requires
place_output-requires c = output-fit c.requires.room.0 c.part-part.ensures c.runs_used-used.ensures c.flag_tree.ensures.runs_long

pub returns-in_err-at : goal.returns-in_err-at
returns-in_err-at c =
    λ u tg jg F G.
    let p = err_from_is_err_and c.from_residual.result c.from_residual.ensures.1 in
    rw (p.1, p.2) (finish-refused (trees_in c.args.trees.now) (jobs_in c.args.jobs.now) u tg jg F c.args.output G c.flag_tree.ensures c.part-part.ensures c.runs_used-used.ensures c.in_err-at.ensures _ refl)

pub returns : goal.returns
returns c =
    λ u tg jg F G.
    let t : LentTrees = trees_in c.args.trees.now in
    let j : LentJobs = jobs_in c.args.jobs.now in
    let x : Tree = tree_at t c.args.tree (total (rows_from (l0_count t) 0 c.args.tree)) (total (rows_from (run_count t) 0 c.args.tree)) in
    finish-commits t j u tg jg F c.args.output G c.flag_tree.ensures c.part-part.ensures c.runs_used-used.ensures c.in_ok-at.ensures _ refl c.finish_mark-watermark.result
    (mark-of j c.args.job _ _ c.part-entries.ensures c.requires.room.4 x c.finish_mark-watermark.result (c.id.ensures ∙ ap id_of c.at-first.ensures)
    (λ others. c.finish_mark-watermark.ensures t x others refl refl refl refl (own-rows t c.args.tree c.part-part.ensures)))
