-- `mark_entries` meets its contract: the invariant is that the flags of the first i jobs' entries stand at the front
-- (`Marking`).
use Rattle.std.proofs.lemmas.Grind.{common_steps}
use Prim.Native.Nat.{◌+◌, ◌*◌, ◌≤◌}
use mathlib.Core.Path.{refl}
use lib.ListN.{length, get_or}
use native.Mathlib.Omega.{arith}
use Rattle.job_rows.proofs.Flags.{marking-starts, marking-room, marking-next}
use Rattle.job_rows.proofs.table.JobTable.mark_entries.Goals as goal

pub loop-i-init : goal.loop-i-init
loop-i-init c = marking-starts c.requires.3

pub slice_bounds-fill-end : goal.slice_bounds-fill-end
slice_bounds-fill-end c = omega (arith, marking-room c.loop-i.invariant c.loop-i-test.true)

pub overflow_add-at : goal.overflow_add-at
overflow_add-at c = omega (arith, marking-room c.loop-i.invariant c.loop-i-test.true)

pub loop-i-preserved : goal.loop-i-preserved
loop-i-preserved c =
    let room : c.loop-i.at + get_or c.args.self.now.specs.now (3 * c.loop-i.i + 2) 0 ≤ length c.loop-i.flags = omega (arith, marking-room c.loop-i.invariant c.loop-i-test.true) in
    marking-next c.loop-i.invariant c.loop-i-test.true refl (grind (arith, common_steps))
