-- `first_gone` meets its contract: the invariant is that every row so far stays (`Sought`).
use borrow.Author.Tests.{ne_eqb}
use lib.ListN.{get_or}
use native.Mathlib.Omega.{arith}
use Rattle.rows.proofs.Finds.{seek-on, seek-ends}
use Rattle.finishing.proofs.Finding.{seek-within}
use Rattle.finishing.proofs.watermarks.first_gone.Goals as goal

pub loop-i-init : goal.loop-i-init
loop-i-init c = seek-within _ _

pub loop-i-preserved : goal.loop-i-preserved
loop-i-preserved c = seek-on c.loop-i.invariant c.loop-i-test.true (ne_eqb (get_or c.args.kept.now c.loop-i.i 0) 0 (λ e. omega arith))

pub returns-clause-found : goal.returns-clause-found
returns-clause-found c = omega (arith, seek-ends c.loop-i.invariant c.loop-i-test.false, c.loop-i.auto.i-end, c.loop-i-test.false)
