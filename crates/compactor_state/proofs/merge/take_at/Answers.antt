-- `take_at` meets its contract: the parts of the remote slices that it lends are the job's source entries (`part-put`).
use mathlib.Core.Path.{refl}
use Rattle.compactor_state.proofs.Taking.{part-put}
use Rattle.compactor_state.proofs.merge.take_at.Goals as goal

pub returns-clause-took : goal.returns-clause-took
returns-clause-took c =
    part-put _ _ c.requires c.if-taken-i-eq0.false refl refl refl c.ulid.ensures c.insert.ensures.inserted
