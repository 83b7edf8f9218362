-- What the passes answer.
use Rattle.std.specs.Prelude.{ℕ, ◌<◌, ◌≤◌, ◌≡◌, List, length, get_or}
use Rattle.rules.specs.Tables.{Tree}
use Rattle.rules.specs.Lent.{LentTrees}
use Rattle.rules.specs.Plan.{Plan}
use Rattle.tree_pick.specs.declared.tree.AskedTree.{AskedTree}
use Rattle.tree_pick.specs.Asked.{AskedAt}
use Rattle.plan_passes.specs.declared.picks.Picks.{Picks}
use Rattle.plan_passes.specs.Picks.{specs_of, PicksWithin, picks_in}
use Rattle.tree_pick.specs.declared.conflict.UsedIds.{UsedIds}

-- the trees that are asked
pub record AskedAll (asked : List AskedTree) (t : LentTrees) (ts : List Tree) : Type 0 where
  pub counted : length ts ≡ length asked
  pub at : (k : ℕ) (d : AskedTree) (e : Tree) → k < length asked → AskedAt (get_or asked k d) t (get_or ts k e)

-- the answer and the rows that were written are the plan
pub record Plans (p : Plan) (t : LentTrees) (passes : ℕ) (picks : Picks) : Type 0 where
  pub rows : specs_of t (picks_in picks) ≡ p.specs
  pub turns : passes ≡ p.passes

-- the tables keep their lengths; the picks are at most as many as the slots, and their sources lie within the slices
pub record Made (used : UsedIds) (picks : Picks) (slots : ℕ) (used' : UsedIds) (picks' : Picks) : Type 0 where
  pub used_same : used'.keys.ghost_name ≡ used.keys.ghost_name
  pub used_kept : length used'.keys.now ≡ length used.keys.now
  pub picks_same : picks'.rows.ghost_name ≡ picks.rows.ghost_name
  pub picks_kept : length picks'.rows.now ≡ length picks.rows.now
  pub most : picks'.count ≤ slots
  pub within : PicksWithin (picks_in picks')
