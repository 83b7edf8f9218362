use Rattle.rules.specs.Limit.{limit_of}
use Rattle.rows.specs.InSlices.{trees_in}
use Rattle.plan_passes.proofs.Turns.{Passing, Planning}
use Rattle.plan_passes.proofs.passes.plan_passes.Given as goal

abbrev pub invariant-trees : goal.invariant-trees
invariant-trees l =
    Passing (limit_of l.o.threshold) l.o l.asked (trees_in l.trees) l.initial.used l.initial.picks l.initial.left l.initial.next l.used l.picks l.left l.next l.i

abbrev pub invariant-planning : goal.invariant-planning
invariant-planning l =
    Planning (limit_of l.o.threshold) l.o l.asked (trees_in l.trees) l.slots l.fresh l.initial.used l.initial.picks l.used l.picks l.left l.next l.passes

abbrev pub decreases-planning : goal.decreases-planning
decreases-planning l = l.left
