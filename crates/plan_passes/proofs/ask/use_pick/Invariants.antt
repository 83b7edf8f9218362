use Rattle.rows.specs.InSlices.{trees_in}
use Rattle.plan_passes.specs.Picks.{source_in}
use Rattle.plan_passes.proofs.Adding.{Adding}
use Rattle.plan_passes.proofs.ask.use_pick.Given as goal

abbrev pub invariant-loop-k : goal.invariant-loop-k
invariant-loop-k l = Adding (source_in (trees_in l.trees) l.pick.kind) l.initial.used l.pick.prefix l.pick.from l.pick.count l.k l.used
