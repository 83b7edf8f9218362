-- `are_good` meets its contract: each return settles one part of `flat_trees`, in its order.
use borrow.Author.Tests.{eq-eqb, ne_eqb}
use mathlib.Core.Path.{sym, ap, ◌∙◌}
use Prim.Native.Nat.{◌*◌}
use native.Mathlib.Omega.{arith}
use Rattle.rules.specs.Lists.{all}
use Rattle.rules.specs.Bounds.{is_mark}
use Rattle.rules.proofs.Rows.{part-is}
use Rattle.rows.proofs.Scans.{all_listed}
use Rattle.rows.specs.Shape.{flat_trees}
use Rattle.rows.proofs.trees.Trees.are_good.Goals as goal

pub returns-then-self-ne0 : goal.returns-then-self-ne0
unfolding flat_trees
returns-then-self-ne0 c = rw (ne_eqb _ _ c.if-self-ne0.true)

pub returns-then-not-numbers_distinct : goal.returns-then-not-numbers_distinct
unfolding flat_trees
returns-then-not-numbers_distinct c = rw (eq-eqb _ _ c.if-self-ne0.false, sym c.numbers_distinct.ensures ∙ c.if-not-numbers_distinct.true)

pub returns-then-not-all_falling : goal.returns-then-not-all_falling
unfolding flat_trees
returns-then-not-all_falling c = rw (eq-eqb _ _ c.if-self-ne0.false, sym c.numbers_distinct.ensures ∙ c.if-not-numbers_distinct.false, sym c.all_falling.ensures ∙ c.if-not-all_falling.true)

pub returns-then-not-numbers_distinct-2 : goal.returns-then-not-numbers_distinct-2
unfolding flat_trees
returns-then-not-numbers_distinct-2 c = rw (eq-eqb _ _ c.if-self-ne0.false, sym c.numbers_distinct.ensures ∙ c.if-not-numbers_distinct.false, sym c.all_falling.ensures ∙ c.if-not-all_falling.false, ← c.column_sum.ensures, sym c.numbers_distinct-2.ensures ∙ c.if-not-numbers_distinct-2.true)

pub returns-then-not-views_distinct : goal.returns-then-not-views_distinct
unfolding flat_trees
returns-then-not-views_distinct c = rw (eq-eqb _ _ c.if-self-ne0.false, sym c.numbers_distinct.ensures ∙ c.if-not-numbers_distinct.false, sym c.all_falling.ensures ∙ c.if-not-all_falling.false, ← c.column_sum.ensures, sym c.numbers_distinct-2.ensures ∙ c.if-not-numbers_distinct-2.false, ← c.column_sum-2.ensures, sym c.views_distinct.ensures ∙ c.if-not-views_distinct.true)

pub returns : goal.returns
unfolding flat_trees
returns c = rw (eq-eqb _ _ c.if-self-ne0.false, sym c.numbers_distinct.ensures ∙ c.if-not-numbers_distinct.false, sym c.all_falling.ensures ∙ c.if-not-all_falling.false, ← c.column_sum.ensures, sym c.numbers_distinct-2.ensures ∙ c.if-not-numbers_distinct-2.false, ← c.column_sum-2.ensures, sym c.views_distinct.ensures ∙ c.if-not-views_distinct.false) (c.marks_good.ensures ∙ all_listed is_mark _ ∙ sym (ap (all is_mark) (part-is c.args.self.now.watermark_marks.now 0 (2 * c.args.self.now.count) (omega arith))))
