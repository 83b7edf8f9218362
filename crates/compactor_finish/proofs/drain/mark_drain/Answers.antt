-- `mark_drain` meets its contract: the first row that goes decides (`drain-commits`).
use mathlib.Core.Path.{refl}
use Rattle.rows.specs.InSlices.{trees_in, jobs_in}
use Rattle.compactor_finish.proofs.Commits.{drain-commits, drained-mark}
use Rattle.compactor_finish.proofs.drain.mark_drain.Goals as goal

pub returns : goal.returns
returns c =
    λ u tg jg F G.
    drain-commits (trees_in c.args.trees.now) (jobs_in c.args.jobs.now) u tg jg F G c.flag_tree.ensures c.drain_mark.result
    (drained-mark (trees_in c.args.trees.now) (jobs_in c.args.jobs.now) c.args.job c.args.tree c.flag_tree.ensures c.part.ensures c.drain_mark.result (λ x p. c.drain_mark.ensures (trees_in c.args.trees.now) x p refl refl refl))
