use Rattle.rules.specs.Limit.{limit_of}
use Rattle.plan_start.proofs.ChainParts.{ChainsSoFar}
use Rattle.plan_start.proofs.chains.fill_chains.Given as goal

abbrev pub invariant-loop-i : goal.invariant-loop-i
invariant-loop-i l = ChainsSoFar (limit_of l.o.threshold) l.trees.rows.now l.trees.run_sizes.now l.initial.chains l.trees.count l.i l.run l.chains
