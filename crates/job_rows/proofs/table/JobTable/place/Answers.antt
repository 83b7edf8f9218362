-- `place` meets its contract: the invariant is that the ids of the jobs so far are lower (`Sought`).
use borrow.Author.Rules.{rules}
use Prim.Native.Nat.{◌*◌}
use mathlib.Core.Path.{◌≡◌, sym, ap, ◌∙◌}
use mathlib.Core.Bool.{true, false, not}
use native.Mathlib.Omega.{arith}
use native.Mathlib.Nat.{sub-zero}
use Rattle.rules.specs.Tables.{ulid_below}
use Rattle.rules.specs.Lent.{ulid_at}
use Rattle.rows.proofs.Finds.{seek-on, seek_found, seek-ends}
use Rattle.job_rows.proofs.Place.{leading-twice}
use Rattle.job_rows.proofs.table.JobTable.place.Goals as goal

pub returns-then-not-lt : goal.returns-then-not-lt
returns-then-not-lt c =
    let above : ulid_below (ulid_at c.args.self.now.ids.now (2 * c.loop-i.i)) c.args.id ≡ false = search rules in
    sym (sub-zero c.loop-i.i) ∙ seek_found c.loop-i.invariant c.loop-i-test.true (ap not above) ∙ leading-twice (λ u. ulid_below u c.args.id) _

pub loop-i-preserved : goal.loop-i-preserved
loop-i-preserved c =
    let lower : ulid_below (ulid_at c.args.self.now.ids.now (2 * c.loop-i.i)) c.args.id ≡ true = search rules in
    seek-on c.loop-i.invariant c.loop-i-test.true (ap not lower)

pub returns : goal.returns
returns c = omega (arith, sub-zero c.loop-i.i, c.loop-i.auto.i-end, c.loop-i-test.false) ∙ sym (sub-zero c.loop-i.i) ∙ seek-ends c.loop-i.invariant c.loop-i-test.false ∙ leading-twice (λ u. ulid_below u c.args.id) _
