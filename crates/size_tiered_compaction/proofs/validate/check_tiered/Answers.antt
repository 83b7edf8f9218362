-- `check_tiered` meets its contract: the tree that is found is the tree of the prefix (`of-found`), and its parts of the slices are its one list.
use mathlib.Core.Path.{refl, sym, ap, ◌∙◌}
use Prim.Native.Nat.{◌+◌, ◌≤◌}
use native.Mathlib.Omega.{arith}
use lib.ListN.{length}
use Rattle.rules.specs.Lent.{runs_used}
use Rattle.rows.specs.Found.{place_of}
use Rattle.rows.specs.InSlices.{trees_in}
use Rattle.size_tiered_compaction.proofs.OneList.{of-missing, of-found}
use Rattle.size_tiered_compaction.proofs.validate.check_tiered.Goals as goal

pub returns-in-None : goal.returns-in-None
returns-in-None c = of-missing (trees_in c.args.trees.now) _ _ (ap (place_of _) (sym c.in-None.is) ∙ c.find.ensures.found) _ _ _ (omega arith) refl

pub returns-in-Some : goal.returns-in-Some
unfolding runs_used
returns-in-Some c =
    let w = c.part-part.result in
    let fits : w.first_run + w.runs ≤ length c.args.trees.now.run_ids.now = omega (arith, c.requires.tables.3, c.requires.row_counts.1, c.part-part.ensures.runs_within) in
    of-found (trees_in c.args.trees.now) _ _ (ap (place_of _) (sym c.in-Some.is) ∙ c.find.ensures.found) _ _ _ (omega arith) w.first_row w.rows w.first_run w.runs c.part-part.ensures fits c.check_sources.ensures
