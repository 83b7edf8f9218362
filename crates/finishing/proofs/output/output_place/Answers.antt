-- `output_place` meets its contract: the invariant is that every run so far is above the output (`Sought`).
use borrow.Author.Tests.{le-leb, lt-leb}
use native.Mathlib.Omega.{arith}
use Rattle.rows.proofs.Finds.{seek-on, seek_found, seek-ends}
use Rattle.finishing.proofs.Finding.{seek-within}
use Rattle.finishing.proofs.output.output_place.Goals as goal

pub loop-i-init : goal.loop-i-init
loop-i-init c = seek-within _ _

pub returns-then-run_ids-i : goal.returns-then-run_ids-i
returns-then-run_ids-i c = seek_found c.loop-i.invariant c.loop-i-test.true (le-leb _ _ c.if-run_ids-i.true)

pub loop-i-preserved : goal.loop-i-preserved
loop-i-preserved c = seek-on c.loop-i.invariant c.loop-i-test.true (lt-leb _ _ c.if-run_ids-i.false)

pub returns : goal.returns
returns c = omega (arith, seek-ends c.loop-i.invariant c.loop-i-test.false, c.loop-i.auto.i-end, c.loop-i-test.false)
