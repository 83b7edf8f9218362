use Prim.Native.Nat.{◌≤◌}
use Rattle.rules.specs.Lent.{source_at}
use Rattle.plan_start.proofs.JobKeys.{SourcesAdded}
use Rattle.plan_start.proofs.used.add_sources.Given as goal

abbrev pub invariant-loop-k : goal.invariant-loop-k
invariant-loop-k l =
    (l.k ≤ l.count) × SourcesAdded l.prefix (source_at l.sources.marks.now l.sources.runs.now l.sources.views.now) l.at l.initial.used l.k l.used
