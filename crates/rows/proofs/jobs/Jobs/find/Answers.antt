-- `find` meets its contract: the invariant is that none of the rows so far has the id (`Sought`).
use mathlib.Core.Path.{sym, ap, ◌∙◌}
use Rattle.rules.specs.Tables.{same_ulid}
use native.Mathlib.Nat.{sub-zero}
use native.Mathlib.Omega.{arith}
use Rattle.rows.proofs.Finds.{seek-starts, seek-on, seek_found, seek-ends}
use Rattle.rows.proofs.jobs.Jobs.find.Goals as goal

pub loop-i-init : goal.loop-i-init
loop-i-init c = seek-starts

pub returns-then-eq-clause-found : goal.returns-then-eq-clause-found
returns-then-eq-clause-found c =
    sym (sub-zero c.loop-i.i) ∙ seek_found c.loop-i.invariant c.loop-i-test.true (ap (λ u. same_ulid u c.args.id) (sym c.ulid.ensures) ∙ sym c.eq.ensures ∙ c.if-eq.true)

pub loop-i-preserved : goal.loop-i-preserved
loop-i-preserved c =
    seek-on c.loop-i.invariant c.loop-i-test.true (ap (λ u. same_ulid u c.args.id) (sym c.ulid.ensures) ∙ sym c.eq.ensures ∙ c.if-eq.false)

pub returns-clause-found : goal.returns-clause-found
returns-clause-found c = omega (arith, seek-ends c.loop-i.invariant c.loop-i-test.false, c.loop-i.auto.i-end, c.loop-i-test.false)
