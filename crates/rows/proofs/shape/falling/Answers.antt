-- `falling` meets its contract: the invariant is that the runs left fall exactly if all do (`Left`); run i is held against the one
-- before it.
use borrow.Author.Tests.{lt-ltb, le-ltb}
use mathlib.Core.Path.{ap, ◌∙◌}
use Prim.Native.Nat.{ℕ}
use native.Mathlib.Omega.{arith}
use lib.Dec.{ltb}
use Rattle.rules.specs.Lists.{linked}
use Rattle.rows.proofs.Scans.{scan-starts, whole-is}
use Rattle.rows.proofs.Order.{link-next, link-breaks, link-ends}
use Rattle.rows.proofs.shape.falling.Goals as goal

pub loop-i-init : goal.loop-i-init
loop-i-init c = (omega arith, scan-starts)

pub returns-then-run_ids-i : goal.returns-then-run_ids-i
returns-then-run_ids-i c =
    link-breaks (λ (a b : ℕ). ltb b a) c.loop-i.invariant.1 c.loop-i.invariant.0 c.loop-i-test.true (le-ltb _ _ c.if-run_ids-i.true)
    ∙ ap (linked (λ (a b : ℕ). ltb b a)) (whole-is c.args.run_ids.now)

pub loop-i-preserved : goal.loop-i-preserved
loop-i-preserved c =
    (omega arith, link-next (λ (a b : ℕ). ltb b a) c.loop-i.invariant.1 c.loop-i.invariant.0 c.loop-i-test.true (lt-ltb _ _ c.if-run_ids-i.false))

pub returns : goal.returns
returns c =
    link-ends (λ (a b : ℕ). ltb b a) c.loop-i.invariant.1 c.loop-i-test.false
    ∙ ap (linked (λ (a b : ℕ). ltb b a)) (whole-is c.args.run_ids.now)
