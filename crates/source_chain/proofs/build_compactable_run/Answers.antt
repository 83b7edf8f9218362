-- `source_chain::build_compactable_run` meets its contract. A turn reads one size and calls `step`, of which it knows the contract
-- alone. Assumes nothing.
use Rattle.std.proofs.Common.{arith, ◌≡◌, ℕ, List, length, get_or, map, sym, ◌∙◌}
use Rattle.std.proofs.Math.ListN.{length-map, get_or-map}
use Rattle.rules.specs.Limit.{limit_of}
use Rattle.source_chain.specs.declared.Source.{Source}
use Rattle.source_chain.proofs.Chains.{at-end, over-at, next}
use Rattle.source_chain.proofs.build_compactable_run.Goals as goal

abbrev size_of : Source → ℕ
size_of x = x.size

sized : (ys : List Source) → length (map size_of ys) ≡ length ys
sized ys = length-map ys size_of

size_at : (ys : List Source) (i : ℕ) → get_or (map size_of ys) i 0 ≡ (get_or ys i (record { id = 0; size = 0 })).size
size_at ys i = get_or-map size_of ys i (record { id = 0; size = 0 })

pub loop-i-preserved : goal.loop-i-preserved
loop-i-preserved c =
    next (limit_of c.args.threshold) (map size_of c.args.sources.now) c.args.from c.loop-i.i c.loop-i.least c.loop-i.invariant
    (omega (arith, sized c.args.sources.now)) _ (size_at c.args.sources.now c.loop-i.i) _ (sym c.step.ensures ∙ c.in-Continue.is)

pub returns-in-Break : goal.returns-in-Break
returns-in-Break c =
    over-at (limit_of c.args.threshold) (map size_of c.args.sources.now) c.args.from c.loop-i.i c.loop-i.least c.loop-i.invariant
    (omega (arith, sized c.args.sources.now)) _ (size_at c.args.sources.now c.loop-i.i) _ (sym c.step.ensures ∙ c.in-Break.is)

pub returns : goal.returns
returns c =
    omega (arith, at-end (limit_of c.args.threshold) (map size_of c.args.sources.now) c.args.from c.loop-i.i c.loop-i.least c.loop-i.invariant (omega (arith, sized c.args.sources.now)), c.loop-i.auto.i-end, c.loop-i-test.false)
