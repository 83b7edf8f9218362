use lib.ListN.{replicate}
use Rattle.rows.proofs.Paste.{Pasted}
use Rattle.rows.proofs.movers.clear.Given as goal

abbrev pub invariant-loop-k : goal.invariant-loop-k
invariant-loop-k g l = Pasted l.initial.a l.at (replicate l.n g.T.Number.ZERO) l.n l.a l.k
