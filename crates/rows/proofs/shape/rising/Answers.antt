-- `rising` meets its contract: the invariant is that the rows left rise exactly if all do (`Left`); row i is held against the one
-- before it.
use mathlib.Core.Path.{sym, ap₂, ◌∙◌}
use native.Mathlib.Omega.{arith}
use Rattle.rules.specs.Tables.{ulid_below}
use Rattle.rules.proofs.Ulids.{lt-below}
use Rattle.rows.proofs.Scans.{scan-starts}
use Rattle.rows.proofs.Order.{link-next, link-breaks, link-ends}
use Rattle.rows.proofs.shape.rising.Goals as goal

pub loop-i-init : goal.loop-i-init
loop-i-init c = (omega arith, scan-starts)

pub returns-then-not-lt : goal.returns-then-not-lt
returns-then-not-lt c =
    link-breaks ulid_below c.loop-i.invariant.1 c.loop-i.invariant.0 c.loop-i-test.true
    (ap₂ ulid_below (sym c.ulid.ensures) (sym c.ulid-in-loop-i.ensures) ∙ sym (c.lt.ensures ∙ lt-below c.ulid.result c.ulid-in-loop-i.result) ∙ c.if-not-lt.true)

pub loop-i-preserved : goal.loop-i-preserved
loop-i-preserved c = (
  omega arith,
  link-next ulid_below c.loop-i.invariant.1 c.loop-i.invariant.0 c.loop-i-test.true
      (ap₂ ulid_below (sym c.ulid.ensures) (sym c.ulid-in-loop-i.ensures) ∙ sym (c.lt.ensures ∙ lt-below c.ulid.result c.ulid-in-loop-i.result) ∙ c.if-not-lt.false),
)

pub returns : goal.returns
returns c = link-ends ulid_below c.loop-i.invariant.1 c.loop-i-test.false
