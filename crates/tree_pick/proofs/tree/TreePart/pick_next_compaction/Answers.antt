-- `tree_pick::tree::TreePart::pick_next_compaction` meets its contract.
-- Step 1 decides, else the window that `find_window` found is the pick, by its place. Assumes nothing.
use mathlib.Core.Path.{sym, ◌∙◌}
use native.Mathlib.Omega.{arith}
use Rattle.rules.specs.Limit.{limit_of}
use Rattle.rules.specs.Windows.{window}
use Rattle.tree_pick.specs.Conflict.{used_in}
use Rattle.tree_pick.proofs.OnePick.{window-within, window-some, rows-picked, nothing-picked, window-picked}
use Rattle.tree_pick.proofs.tree.TreePart.pick_next_compaction.Goals as goal

pub returns-then-takes_rows : goal.returns-then-takes_rows
returns-then-takes_rows c =
    record {
      within = (omega (arith, c.oldest_from-from.ensures), omega (arith, c.oldest_from-from.ensures));
      is = λ t i. rows-picked i _ _ _ _ (sym c.if-takes_rows.true ∙ c.takes_rows.ensures t i) c.oldest_from-from.ensures;
    }

pub returns-in_err-w : goal.returns-in_err-w
returns-in_err-w c =
    rw c.from_residual.ensures
    (record { within = tt; is = λ t i. nothing-picked i _ _ _ _ (sym c.if-takes_rows.false ∙ c.takes_rows.ensures t i) c.in_err-w.ensures })

pub overflow_sub-result-2 : goal.overflow_sub-result-2
overflow_sub-result-2 c =
    let a = c.args in
    let found = c.in_ok-w.ensures in
    window-some a.o (window (limit_of a.o.threshold) a.o.min a.o.max (used_in a.used.now a.self.now.prefix) a.self.now.run_ids.now a.self.now.run_sizes.now) found.1 (omega arith) found.0

pub returns : goal.returns
returns c =
    let a = c.args in
    let found = c.in_ok-w.ensures in
    record {
      within = (found.1.within, window-within a.o (window (limit_of a.o.threshold) a.o.min a.o.max (used_in a.used.now a.self.now.prefix) a.self.now.run_ids.now a.self.now.run_sizes.now) found.1);
      is = λ t i. window-picked i _ _ _ _ (sym c.if-takes_rows.false ∙ c.takes_rows.ensures t i) (omega arith) found.0 found.1;
    }
