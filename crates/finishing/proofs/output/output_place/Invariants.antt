use mathlib.Core.Bool.{not}
use Prim.Native.Nat.{◌+◌}
use lib.Dec.{leb}
use lib.ListN.{get_or}
use Rattle.rules.specs.Lists.{leading}
use Rattle.rules.specs.Lent.{rows_from}
use Rattle.rows.proofs.Finds.{Sought}
use Rattle.finishing.proofs.output.output_place.Given as goal

abbrev pub invariant-loop-i : goal.invariant-loop-i
invariant-loop-i l =
    Sought (λ x. leb x l.output) (λ k. get_or l.run_ids k 0) (l.first + l.runs) l.first l.i (leading (λ x. not (leb x l.output)) (rows_from (λ k. get_or l.run_ids k 0) l.first l.runs))
