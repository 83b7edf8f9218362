-- `plan_start::fresh::above_destinations` meets its contract.
-- The loop's invariant, `Risen`: the largest so far and those of the jobs that are left give that of all; sources are not looked at (`destinations-bare`). Assumes nothing.
use mathlib.Core.Path.{sym, ◌∙◌}
use native.Mathlib.Omega.{arith}
use Rattle.plan_start.proofs.Largest.{rise-starts, rise, rise-none, rise-ends}
use Rattle.plan_start.proofs.JobRows.{destinations-bare}
use Rattle.plan_start.proofs.fresh.above_destinations.Goals as goal
use Rattle.plan_start.proofs.fresh.above_destinations.Goals.{then-has_active_destination, else-has_active_destination}

pub loop-i-init : goal.loop-i-init
loop-i-init c = rise-starts

pub loop-i-preserved : goal.loop-i-preserved
loop-i-preserved c =
    let I = c.loop-i.invariant in
    elim c.if-has_active_destination.branch [
      | then-has_active_destination w ↦
          rise I c.loop-i-test.true (sym c.has_active_destination.ensures ∙ w.if-has_active_destination.true) (omega (arith, w.max-above.ensures, w.above-is))
      | else-has_active_destination w ↦ rise-none I c.loop-i-test.true (sym c.has_active_destination.ensures ∙ w.if-has_active_destination.false) w.above-is
    ]

pub returns : goal.returns
returns c = λ j n m s.
    let risen = rise-ends c.loop-i.invariant c.loop-i-test.false in
    let bare = destinations-bare j in
    cc
