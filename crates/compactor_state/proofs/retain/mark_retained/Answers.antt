-- `mark_retained` meets its contract: the invariant is that the flags from job i on are set, and that `seen` says
-- whether one of these jobs is finished (`Retaining`).
use mathlib.Core.Path.{refl}
use Rattle.compactor_state.proofs.Retaining.{retaining-starts, retaining-next}
use Rattle.compactor_state.proofs.retain.mark_retained.Goals as goal

pub loop-i-init : goal.loop-i-init
loop-i-init c = retaining-starts c.requires.0 refl

pub loop-i-preserved : goal.loop-i-preserved
loop-i-preserved c = retaining-next c.loop-i.invariant c.loop-i-test.true c.is_kept.ensures c.finished_from-seen.ensures
