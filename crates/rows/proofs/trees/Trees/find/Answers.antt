-- `find` meets its contract: the invariant is that none of the rows so far has the prefix (`Sought`).
use borrow.Author.Tests.{eq-eqb, ne_eqb}
use mathlib.Core.Path.{sym, ◌∙◌}
use native.Mathlib.Nat.{sub-zero}
use native.Mathlib.Omega.{arith}
use Rattle.rows.proofs.Finds.{seek-starts, seek-on, seek_found, seek-ends}
use Rattle.rows.proofs.trees.Trees.find.Goals as goal

pub loop-i-init : goal.loop-i-init
loop-i-init c = seek-starts

pub returns-then-self-i-clause-found : goal.returns-then-self-i-clause-found
returns-then-self-i-clause-found c = sym (sub-zero c.loop-i.i) ∙ seek_found c.loop-i.invariant c.loop-i-test.true (eq-eqb _ _ c.if-self-i.true)

pub loop-i-preserved : goal.loop-i-preserved
loop-i-preserved c = seek-on c.loop-i.invariant c.loop-i-test.true (ne_eqb _ _ c.if-self-i.false)

pub returns-clause-found : goal.returns-clause-found
returns-clause-found c = omega (arith, seek-ends c.loop-i.invariant c.loop-i-test.false, c.loop-i.auto.i-end, c.loop-i-test.false)
