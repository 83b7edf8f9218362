-- `plan_passes` meets its contract. The inner loop's invariant, `Passing`: the pass is what the trees left make of the state. The
-- outer one's, `Planning`: the plan is what the passes left make of it; a pass that picked takes a slot, the measure.
use mathlib.Core.Logic.{inl, inr}
use mathlib.Core.Path.{refl}
use native.Mathlib.Nat.{sub-zero}
use Rattle.plan_passes.proofs.Turns.{pass-starts, pass-next, planning-starts, planning-next, planning-ends, planning-made}
use Rattle.plan_passes.proofs.passes.plan_passes.Goals as goal
use Rattle.plan_passes.proofs.passes.plan_passes.Goals.{in-Some, in_default, else-trees-test, then-trees-test+then-left-eq0}

pub planning-init : goal.planning-init
planning-init c = planning-starts refl

pub trees-init : goal.trees-init
trees-init c = pass-starts

pub trees-preserved : goal.trees-preserved
trees-preserved c =
    let q = pass-next c.trees.invariant c.ask_tree.result c.trees-test.true c.if-left-eq0.false c.ask_tree.ensures.kept c.ask_tree.ensures.asked in
    elim c.match-ask_tree.branch [
      | in-Some w ↦ rw (w.left-is, w.next-is) (rw w.in-Some.is at q)
      | in_default w ↦ rw (w.left-is, w.next-is) (rw (w.in_default.is, sub-zero) at q)
    ]

pub planning-preserved : goal.planning-preserved
planning-preserved c = planning-next c.planning.invariant c.trees.invariant (elim c.trees-test.branch [ else-trees-test w ↦ inl w.trees-test.false | then-trees-test+then-left-eq0 w ↦ inr w.if-left-eq0.true ]) c.requires.2 c.if-picks-before.false

pub returns : goal.returns
returns c =
    let m = planning-made c.planning.invariant c.trees.invariant in record {
      made = record { used_same = m.used_same; used_kept = m.used_kept; picks_same = m.picks_same; picks_kept = m.picks_kept; most = m.most; within = m.within };
      planned = planning-ends c.planning.invariant c.trees.invariant (elim c.trees-test.branch [ else-trees-test w ↦ inl w.trees-test.false | then-trees-test+then-left-eq0 w ↦ inr w.if-left-eq0.true ]) c.requires.2 c.if-picks-before.true;
    }
