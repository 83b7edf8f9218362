-- `mark_staying` meets its contract: the invariant is that the flags so far say which local jobs stay (`Flagged`).
use Rattle.merging.proofs.Flagged.{flags-by}
use Rattle.merging.proofs.plan.mark_staying.Goals as goal

pub returns : goal.returns
returns c = λ l s p here there taken. flags-by l _ here.jobs (λ k b is d. is l s p d here there taken) c.loop-k.invariant c.loop-k-test.false
