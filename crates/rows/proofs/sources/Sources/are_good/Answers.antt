-- `are_good` meets its contract: the lengths first, then the marks; 2n is tested by halves, since it may not fit.
use borrow.Author.Tests.{eq-eqb, ne_eqb}
use mathlib.Core.Path.{sym, ap, ◌∙◌}
use Prim.Native.Nat.{◌*◌}
use native.Mathlib.Omega.{arith}
use lib.ListN.{length}
use Rattle.rules.specs.Lists.{all}
use Rattle.rules.specs.Bounds.{is_mark}
use Rattle.rows.proofs.Scans.{all_listed, whole-is}
use Rattle.rows.proofs.Shapes.{source-marks}
use Rattle.rows.proofs.sources.Sources.are_good.Goals as goal

pub returns-then-self : goal.returns-then-self
returns-then-self c = rw (ne_eqb _ _ c.if-self.true)

pub returns-then-self-2 : goal.returns-then-self-2
returns-then-self-2 c = rw (eq-eqb _ _ c.if-self.false, ne_eqb (length c.args.self.now.views.now) (2 * length c.args.self.now.marks.now) (λ e. c.if-self-2.true (omega arith)))

pub returns-then-self-ne0 : goal.returns-then-self-ne0
returns-then-self-ne0 c = rw (eq-eqb _ _ c.if-self.false, ne_eqb (length c.args.self.now.views.now) (2 * length c.args.self.now.marks.now) (λ e. c.if-self-ne0.true (omega arith)))

pub returns : goal.returns
returns c = rw (eq-eqb _ _ c.if-self.false, eq-eqb (length c.args.self.now.views.now) (2 * length c.args.self.now.marks.now) (omega arith)) (c.marks_good.ensures ∙ all_listed is_mark _ ∙ sym (ap (all is_mark) (whole-is c.args.self.now.marks.now)) ∙ sym (source-marks c.args.self.now.marks.now c.args.self.now.runs.now c.args.self.now.views.now 0 (length c.args.self.now.marks.now)))
