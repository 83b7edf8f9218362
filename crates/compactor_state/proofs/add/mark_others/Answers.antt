-- `mark_others` meets its contract: the invariant is that the first i flags say whether the ids are other ones
-- (`Flagged`).
use borrow.Author.Rules.{rules}
use Rattle.merging.proofs.Flagged.{flags-next, flags-all}
use Rattle.compactor_state.proofs.AddCall.{other-row}
use Rattle.compactor_state.proofs.add.mark_others.Goals as goal

pub loop-i-preserved : goal.loop-i-preserved
loop-i-preserved c = flags-next c.loop-i.invariant c.loop-i-test.true c.requires.0 (other-row _ c.loop-i.i c.args.id c.loop-i-test.true c.ulid.ensures (search rules))

pub returns : goal.returns
returns c = flags-all _ _ c.loop-i.invariant c.loop-i-test.false
