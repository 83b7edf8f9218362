-- `rows::movers::close_rows` meets its contract: its offsets are parts of the room of n rows, and `close-all` says what the copy
-- and the zeros leave. Assumes nothing.
use mathlib.Core.Path.{◌≡◌}
use Prim.Native.Nat.{◌+◌, ◌*◌, ◌-◌}
use native.Mathlib.Omega.{arith}
use Rattle.rows.proofs.Gap.{close-room, close-all}
use Rattle.rows.proofs.movers.close_rows.Goals as goal

pub overflow_add-to : goal.overflow_add-to
overflow_add-to g c = omega (arith, close-room c.args.w c.args.n c.args.at c.args.k c.requires.0)

pub clear-requires : goal.clear-requires
clear-requires g c = omega (arith, close-room c.args.w c.args.n c.args.at c.args.k c.requires.0)

pub returns : goal.returns
returns g c =
    let a = c.args in
    let from = a.w * (a.at + a.k) in
    let rest = a.w * (a.n - (a.at + a.k)) in
    let moved : from + rest - from ≡ rest = omega arith in
    close-all _ a.w a.n a.at a.k a.col.now c.requires.0 c.requires.1
    (rw moved at c.copy_within.ensures.after) c.clear.ensures
