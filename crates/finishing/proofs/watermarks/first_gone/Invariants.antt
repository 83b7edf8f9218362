use mathlib.Core.Bool.{not}
use Prim.Native.Nat.{◌+◌}
use lib.Dec.{eqb}
use lib.ListN.{get_or}
use Rattle.rules.specs.Lists.{leading}
use Rattle.rules.specs.Lent.{rows_from}
use Rattle.rows.proofs.Finds.{Sought}
use Rattle.finishing.proofs.watermarks.first_gone.Given as goal

abbrev pub invariant-loop-i : goal.invariant-loop-i
invariant-loop-i l =
    Sought (λ x. eqb x 0) (λ k. get_or l.kept k 0) (l.first + l.rows) l.first l.i (leading (λ x. not (eqb x 0)) (rows_from (λ k. get_or l.kept k 0) l.first l.rows))
