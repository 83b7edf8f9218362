-- `rows::movers::clear` meets its contract. The loop's invariant: k zeros are written. Assumes nothing.
use Rattle.rows.proofs.Paste.{pasted-all, zeros-none, zeros-more}
use Rattle.rows.proofs.movers.clear.Goals as goal

pub loop-k-init : goal.loop-k-init
loop-k-init g c = zeros-none _ c.requires

pub loop-k-preserved : goal.loop-k-preserved
loop-k-preserved g c = rw c.ZERO.ensures (zeros-more _ c.loop-k.invariant c.loop-k-test.true)

pub returns : goal.returns
returns g c = pasted-all c.loop-k.invariant c.loop-k-test.false
