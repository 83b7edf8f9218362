use mathlib.Core.List.{map}
use mathlib.Core.Bool.{not}
use Prim.Native.Nat.{◌-◌, ◌*◌}
use lib.ListN.{length}
use Rattle.rules.specs.Lists.{all}
use Rattle.rules.specs.declared.tables.SourceId.TheVariants.{SstView}
use Rattle.rules.specs.Lent.{ulid_at}
use Rattle.rows.proofs.Scans.{Left}
use Rattle.tree_pick.specs.Conflict.{used_in}
use Rattle.tree_pick.specs.Pick.{views_in}
use Rattle.tree_pick.proofs.tree.TreePart.views_free.Given as goal

abbrev pub invariant-loop-i : goal.invariant-loop-i
invariant-loop-i l =
    Left (λ us. all (λ x. not (used_in l.used l.self.prefix x)) (map SstView us)) (λ k. ulid_at l.self.l0_ids.now (4 * k)) (length l.self.l0_sizes.now) l.i (all (λ x. not (used_in l.used l.self.prefix x)) (views_in l.self.l0_ids.now l.from ((length l.self.l0_sizes.now) - l.from)))
