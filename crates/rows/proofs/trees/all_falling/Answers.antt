-- `all_falling` meets its contract: the invariant is that the runs of the trees left fall exactly if those of all do (`Falls`).
use mathlib.Core.Path.{refl, sym, ap, ◌∙◌}
use Prim.Native.Nat.{ℕ, ◌+◌, ◌-◌, ◌*◌}
use lib.Dec.{ltb}
use lib.ListN.{get_or}
use Rattle.rules.specs.Lists.{linked}
use Rattle.rules.proofs.Rows.{part-is}
use native.Mathlib.Omega.{arith}
use Rattle.rows.proofs.Falls.{falls-starts, runs-within, falls-on, falls-breaks, falls-ends}
use Rattle.rows.proofs.trees.all_falling.Goals as goal

pub loop-i-init : goal.loop-i-init
loop-i-init c = falls-starts

pub overflow_add-end : goal.overflow_add-end
overflow_add-end c = omega (arith, runs-within c.loop-i.invariant c.loop-i-test.true _ refl)

pub slice_bounds-falling-end : goal.slice_bounds-falling-end
slice_bounds-falling-end c = omega (arith, runs-within c.loop-i.invariant c.loop-i-test.true _ refl)

-- the runs of tree i, one by one, are its part of the slice
pub returns-then-not-falling : goal.returns-then-not-falling
returns-then-not-falling c =
    let d = get_or c.args.trees.now (3 * c.loop-i.i + 2) 0 in
    let part = part-is c.args.run_ids.now c.loop-i.at (c.loop-i.at + d - c.loop-i.at) (omega (arith, runs-within c.loop-i.invariant c.loop-i-test.true _ refl)) in
    falls-breaks c.loop-i.invariant c.loop-i-test.true _ refl (sym c.if-not-falling.true ∙ c.falling.ensures ∙ ap (linked (λ (x y : ℕ). ltb y x)) (sym part))

pub loop-i-preserved : goal.loop-i-preserved
loop-i-preserved c =
    let d = get_or c.args.trees.now (3 * c.loop-i.i + 2) 0 in
    let part = part-is c.args.run_ids.now c.loop-i.at (c.loop-i.at + d - c.loop-i.at) (omega (arith, runs-within c.loop-i.invariant c.loop-i-test.true _ refl)) in
    falls-on c.loop-i.invariant c.loop-i-test.true _ refl (sym c.if-not-falling.false ∙ c.falling.ensures ∙ ap (linked (λ (x y : ℕ). ltb y x)) (sym part))

pub returns : goal.returns
returns c = falls-ends c.loop-i.invariant c.loop-i-test.false
