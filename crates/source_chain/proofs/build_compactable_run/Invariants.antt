-- The loop's invariant is `Inv` of Chains: behind the first source the chain is under way, with the smallest size so far.
use Rattle.std.proofs.Common.{map}
use Rattle.rules.specs.Limit.{limit_of}
use Rattle.source_chain.specs.declared.Source.{Source}
use Rattle.source_chain.proofs.Chains.{Inv}
use Rattle.source_chain.proofs.build_compactable_run.Given as goal

abbrev pub invariant-loop-i : goal.invariant-loop-i
invariant-loop-i l = Inv (limit_of l.threshold) (map (λ (x : Source). x.size) l.sources) l.from l.i l.least
