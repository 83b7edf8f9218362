use mathlib.Core.Bool.{true}
use lib.ListN.{length, get_or}
use Rattle.plan_start.proofs.Largest.{Risen}
use Rattle.plan_start.proofs.fresh.above_runs.Given as goal

abbrev pub invariant-loop-id : goal.invariant-loop-id
invariant-loop-id l = Risen (λ _. true) (λ x. x) (λ k. get_or l.run_ids k 0) (length l.run_ids) l.id-index l.above
