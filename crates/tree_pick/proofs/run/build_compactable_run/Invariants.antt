use Rattle.rules.specs.Limit.{limit_of}
use Rattle.tree_pick.proofs.Chains.{Taken}
use Rattle.tree_pick.proofs.run.build_compactable_run.Given as goal

abbrev pub invariant-loop-i : goal.invariant-loop-i
invariant-loop-i l = Taken (limit_of l.o.threshold) l.sizes l.from l.least l.i
