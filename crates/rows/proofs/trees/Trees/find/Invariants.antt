use Rattle.std.proofs.Common.{◌*◌, not, eqb, get_or}
use Rattle.rules.specs.Lists.{leading}
use Rattle.rules.specs.Lent.{rows_from}
use Rattle.rows.proofs.Finds.{Sought}
use Rattle.rows.proofs.trees.Trees.find.Given as goal

abbrev pub invariant-loop-i : goal.invariant-loop-i
invariant-loop-i l =
    Sought (λ p. eqb p l.prefix) (λ k. get_or l.self.rows.now (3 * k) 0) l.self.count 0 l.i (leading (λ p. not (eqb p l.prefix)) (rows_from (λ k. get_or l.self.rows.now (3 * k) 0) 0 l.self.count))
