-- `rows::movers::open_rows` meets its contract: `open-all` says what the two copies leave. Assumes nothing.
use mathlib.Core.Path.{◌≡◌, sym}
use Prim.Native.Nat.{◌+◌, ◌*◌, ◌-◌}
use native.Mathlib.Nat.{mul-add}
use native.Mathlib.Omega.{arith}
use lib.ListN.{take}
use lib.Seq.{paste, take-take, length-take-le}
use borrow.Rule.Slice.PartMut.{put_mid}
use Rattle.std.proofs.lemmas.Slice.{put_mid-paste}
use Rattle.rows.proofs.Gap.{OpenRoom, open-room, open-all}
use Rattle.rows.proofs.movers.open_rows.Goals as goal

pub returns : goal.returns
returns g c =
    let a = c.args in
    let from = a.w * a.at in
    let gap = a.w * a.k in
    let room : OpenRoom a.w a.n a.at a.k = open-room a.w a.n a.at a.k c.requires.0 in
    let moved : a.w * a.n - from ≡ a.w * (a.n - a.at) = omega (arith, room, mul-add a.w a.n a.k) in
    let filled : put_mid from (from + gap - from) c.copy_within.new.self c.copy_from_slice.new.self ≡ paste c.copy_within.new.self from (take gap a.new.now) gap =
    put_mid-paste from _ _ _ _ gap c.copy_from_slice.ensures.after (omega arith) (sym (length-take-le gap a.new.now c.requires.2)) in
    open-all _ a.w a.n a.at a.k a.col.now a.new.now c.requires.0 c.requires.1 c.requires.2
    (rw moved at c.copy_within.ensures.after)
    (rw (take-take gap gap a.new.now (omega arith)) at filled)
