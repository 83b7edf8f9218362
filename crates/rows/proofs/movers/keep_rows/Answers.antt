-- `rows::movers::keep_rows` meets its contract. The loop's invariant: of the first i rows those kept stand at the front, and
-- from row i on all is as it was. Assumes nothing.
use mathlib.Core.Path.{◌≡◌}
use Prim.Native.Nat.{◌+◌, ◌-◌}
use native.Mathlib.Omega.{arith}
use Rattle.rows.proofs.Pack.{pack-none, pack-skip, pack-more, pack-all}
use Rattle.rows.proofs.movers.keep_rows.Goals as goal
use Rattle.rows.proofs.movers.keep_rows.Goals.{then-marks-i-ne0, else-marks-i-ne0}

pub loop-i-init : goal.loop-i-init
loop-i-init g c = pack-none c.requires

pub loop-i-preserved : goal.loop-i-preserved
loop-i-preserved g c =
    let I = c.loop-i.invariant in
    let row : c.loop-i.from + c.args.w - c.loop-i.from ≡ c.args.w = omega arith in
    elim c.if-marks-i-ne0.branch [
      | then-marks-i-ne0 w ↦ pack-more I c.loop-i-test.true w.if-marks-i-ne0.true (rw row at w.copy_within.ensures.after) w.col-is w.to-is
      | else-marks-i-ne0 w ↦ pack-skip I c.loop-i-test.true w.if-marks-i-ne0.false w.col-is w.to-is
    ]

pub returns : goal.returns
returns g c = pack-all _ c.loop-i.invariant c.loop-i-test.false c.clear.ensures
