use Prim.Native.Nat.{◌-◌, ◌*◌}
use lib.Dec.{eqb}
use lib.ListN.{get_or}
use Rattle.rules.specs.Lists.{any}
use Rattle.rules.specs.Lent.{rows_from}
use Rattle.rows.proofs.Scans.{Left}
use Rattle.rows.proofs.shape.number_from.Given as goal

abbrev pub invariant-loop-i : goal.invariant-loop-i
invariant-loop-i l =
    Left (any (eqb l.x)) (λ k. get_or l.s (l.w * k) 0) l.n l.i (any (eqb l.x) (rows_from (λ k. get_or l.s (l.w * k) 0) l.from (l.n - l.from)))
