use Rattle.rows.specs.InSlices.{trees_in}
use Rattle.plan_passes.specs.Lay.{plan_in, SameTable, SameLengths}
use Rattle.plan_passes.proofs.LaidPicks.{LayingPicks}
use Rattle.plan_passes.proofs.lay.PlanTable.lay_sources.Given as goal

abbrev pub invariant-loop-k : goal.invariant-loop-k
invariant-loop-k l = SameTable l.initial.self l.self × SameLengths l.initial.self l.self × LayingPicks (trees_in l.trees) l.picks (plan_in l.initial.self) l.at l.k (plan_in l.self)
