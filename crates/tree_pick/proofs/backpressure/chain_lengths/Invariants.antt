use lib.ListN.{length, drop}
use Rattle.rules.specs.Limit.{limit_of}
use Rattle.rules.specs.Chain.{chain}
use Rattle.tree_pick.proofs.Filling.{Filled}
use Rattle.tree_pick.proofs.backpressure.chain_lengths.Given as goal

abbrev pub invariant-loop-i : goal.invariant-loop-i
invariant-loop-i l = Filled (λ k. chain (limit_of l.o.threshold) (drop k l.sizes)) (length l.sizes) l.initial.chains l.i l.chains
