use Rattle.plan_passes.specs.Lay.{plan_in, SameTable, SameLengths}
use Rattle.plan_passes.proofs.LaidPicks.{LayingSpecs}
use Rattle.plan_passes.proofs.lay.PlanTable.lay_specs.Given as goal

abbrev pub invariant-loop-k : goal.invariant-loop-k
invariant-loop-k l = SameTable l.initial.self l.self × SameLengths l.initial.self l.self × LayingSpecs l.picks (plan_in l.initial.self) l.k (plan_in l.self)
