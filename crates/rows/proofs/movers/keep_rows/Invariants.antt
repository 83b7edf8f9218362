use Rattle.rows.proofs.Pack.{Packed}
use Rattle.rows.proofs.movers.keep_rows.Given as goal

abbrev pub invariant-loop-i : goal.invariant-loop-i
invariant-loop-i g l = Packed l.w l.n l.marks l.initial.col l.col l.i l.from l.to
