-- `check` meets its contract: each return is one case of its two refusals (OneTable.antt); the rules on trees are read off
-- the slices by `trees-read`.
use mathlib.Core.Path.{refl, sym, ◌∙◌}
use mathlib.Core.Bool.{false}
use Rattle.rules.specs.Lent.{LentTrees, l0_used, runs_used}
use Rattle.rows.specs.InSlices.{trees_in}
use Rattle.rules.proofs.Bounds.{trees-within, trees-lent}
use Rattle.rows.proofs.OneTable.{trees-told, trees-read}
use Rattle.rows.proofs.trees.Trees.check.Goals as goal

pub returns-then-trees_outside : goal.returns-then-trees_outside
returns-then-trees_outside c = trees-told _ (sym (c.trees_outside.ensures _ refl refl) ∙ c.if-trees_outside.true) refl refl

pub returns-then-not-at_capacity : goal.returns-then-not-at_capacity
returns-then-not-at_capacity c =
    trees-told _ {o = false} (sym (c.trees_outside.ensures _ refl refl) ∙ (cc)) (sym c.at_capacity.ensures ∙ c.if-not-at_capacity.true) refl

pub are_good-requires : goal.are_good-requires
unfolding l0_used runs_used
are_good-requires c =
    let lent : LentTrees = trees_in c.args.self.now in
    let w = trees-within lent (sym (c.trees_outside.ensures lent refl refl) ∙ (cc)) in
    let f = trees-lent lent (sym c.at_capacity.ensures ∙ c.if-not-at_capacity.false) in
    record { count_nonzero = (w.some, w.trees, f.trees, f.watermark_marks, f.l0_ids, f.run_ids); count_bound = (w.l0, w.runs) }

pub returns-then-are_good : goal.returns-then-are_good
returns-then-are_good c =
    trees-told _ {o = false} (sym (c.trees_outside.ensures _ refl refl) ∙ (cc)) (sym c.at_capacity.ensures ∙ c.if-not-at_capacity.false) (trees-read _ (sym (c.trees_outside.ensures _ refl refl) ∙ (cc)) ∙ sym c.are_good.ensures ∙ c.if-are_good.true)

pub returns : goal.returns
returns c =
    trees-told _ {o = false} (sym (c.trees_outside.ensures _ refl refl) ∙ (cc)) (sym c.at_capacity.ensures ∙ c.if-not-at_capacity.false) (trees-read _ (sym (c.trees_outside.ensures _ refl refl) ∙ (cc)) ∙ sym c.are_good.ensures ∙ c.if-are_good.false)
