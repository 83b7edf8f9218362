use mathlib.Core.Bool.{not}
use Prim.Native.Nat.{◌-◌}
use lib.Dec.{eqb}
use lib.ListN.{get_or}
use Rattle.rules.specs.Lists.{leading}
use Rattle.rules.specs.Lent.{rows_from}
use Rattle.rows.proofs.Finds.{Sought}
use Rattle.rows.proofs.find.run_in.Given as goal

abbrev pub invariant-loop-i : goal.invariant-loop-i
invariant-loop-i l =
    Sought (λ x. eqb x l.id) (λ k. get_or l.run_ids k 0) l.to l.from l.i (leading (λ x. not (eqb x l.id)) (rows_from (λ k. get_or l.run_ids k 0) l.from (l.to - l.from)))
