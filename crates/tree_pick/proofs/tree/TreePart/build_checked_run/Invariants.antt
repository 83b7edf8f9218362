use mathlib.Core.Path.{◌≡◌}
use lib.ListN.{drop}
use Rattle.rules.specs.Limit.{limit_of}
use Rattle.rules.specs.Chain.{chain}
use Rattle.tree_pick.specs.Conflict.{used_in}
use Rattle.tree_pick.proofs.Beginnings.{Begun}
use Rattle.tree_pick.proofs.tree.TreePart.build_checked_run.Given as goal

abbrev pub invariant-loop-k : goal.invariant-loop-k
invariant-loop-k l =
    (l.longest ≡ chain (limit_of l.o.threshold) (drop l.from l.self.run_sizes.now)) × Begun (limit_of l.o.threshold) l.o.max (used_in l.used l.self.prefix) l.self.run_ids.now l.self.run_sizes.now l.from l.size l.k
