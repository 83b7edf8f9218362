use Rattle.rules.specs.Limit.{limit_of}
use Rattle.tree_pick.specs.Conflict.{used_in}
use Rattle.tree_pick.proofs.LeastRun.{NoneYet}
use Rattle.tree_pick.proofs.tree.TreePart.first_window.Given as goal

abbrev pub invariant-loop-i : goal.invariant-loop-i
invariant-loop-i l = NoneYet (limit_of l.o.threshold) l.o.min l.o.max (used_in l.used l.self.prefix) l.self.run_ids.now l.self.run_sizes.now l.i
