-- `job_marks_good` meets its contract: the invariant is that the test of the jobs left is the test of all (`Left`).
use borrow.Author.Tests.{le-leb, lt-leb}
use Prim.Native.Nat.{◌*◌}
use lib.ListN.{get_or}
use native.Mathlib.Omega.{arith}
use Rattle.rules.specs.Lists.{all}
use Rattle.rows.proofs.Scans.{scan-starts, scan-next, scan-stops, scan-ends}
use Rattle.rows.proofs.jobs.job_marks_good.Goals as goal

pub loop-i-init : goal.loop-i-init
loop-i-init c = scan-starts

pub returns-then-job_marks-i : goal.returns-then-job_marks-i
unfolding all
returns-then-job_marks-i c = scan-stops c.loop-i.invariant c.loop-i-test.true (rw (lt-leb _ _ c.if-job_marks-i.true))

pub returns-then-job_marks-i-2 : goal.returns-then-job_marks-i-2
unfolding all
returns-then-job_marks-i-2 c = scan-stops c.loop-i.invariant c.loop-i-test.true (rw (le-leb (get_or c.args.job_marks.now (2 * c.loop-i.i) 0) 5 (omega arith), lt-leb _ _ c.if-job_marks-i-2.true))

pub loop-i-preserved : goal.loop-i-preserved
unfolding all
loop-i-preserved c = scan-next c.loop-i.invariant c.loop-i-test.true (rw (le-leb (get_or c.args.job_marks.now (2 * c.loop-i.i) 0) 5 (omega arith), le-leb _ _ c.if-job_marks-i-2.false))

pub returns : goal.returns
unfolding all
returns c = scan-ends c.loop-i.invariant c.loop-i-test.false
