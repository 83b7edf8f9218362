-- `run_in` meets its contract: the invariant is that none of the rows so far has the id (`Sought`).
use borrow.Author.Tests.{eq-eqb, ne_eqb}
use native.Mathlib.Omega.{arith}
use Rattle.rows.proofs.Finds.{seek-starts-at, seek-on, seek_found, seek-ends}
use Rattle.rows.proofs.find.run_in.Goals as goal

pub loop-i-init : goal.loop-i-init
loop-i-init c = seek-starts-at _ c.requires.0

pub returns-then-run_ids-i-clause-found : goal.returns-then-run_ids-i-clause-found
returns-then-run_ids-i-clause-found c = seek_found c.loop-i.invariant c.loop-i-test.true (eq-eqb _ _ c.if-run_ids-i.true)

pub loop-i-preserved : goal.loop-i-preserved
loop-i-preserved c = seek-on c.loop-i.invariant c.loop-i-test.true (ne_eqb _ _ c.if-run_ids-i.false)

pub returns-clause-found : goal.returns-clause-found
returns-clause-found c = omega (arith, seek-ends c.loop-i.invariant c.loop-i-test.false, c.loop-i.auto.i-end, c.loop-i-test.false)
