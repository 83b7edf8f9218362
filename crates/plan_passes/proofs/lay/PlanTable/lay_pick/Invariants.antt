use Rattle.rows.specs.InSlices.{trees_in}
use Rattle.plan_passes.specs.Picks.{source_in}
use Rattle.plan_passes.specs.Lay.{plan_in, SameTable, SameLengths}
use Rattle.plan_passes.proofs.LaidPicks.{LayingRows}
use Rattle.plan_passes.proofs.lay.PlanTable.lay_pick.Given as goal

abbrev pub invariant-loop-k : goal.invariant-loop-k
invariant-loop-k l =
    SameTable l.initial.self l.self × SameLengths l.initial.self l.self × LayingRows (source_in (trees_in l.trees) l.pick.kind) (plan_in l.initial.self) l.at l.pick.from l.pick.count l.k (plan_in l.self)
