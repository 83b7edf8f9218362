-- `mark_adopted` meets its contract: the invariant is that the flags so far say which remote jobs are adopted (`Flagged`).
use Rattle.merging.proofs.Flagged.{flags-by}
use Rattle.merging.proofs.plan.mark_adopted.Goals as goal

pub returns : goal.returns
returns c = λ l s here there. flags-by s _ there.jobs (λ k b is d. is l s d here there) c.loop-i.invariant c.loop-i-test.false
