-- Asking a tree: its pick is added to a planning call's own tables.
use Rattle.std.specs.Prelude.{ℕ, ◌+◌, ◌-◌, ◌*◌, ◌^◌, ◌<◌, ◌≤◌, ◌≡◌, List, ◌++◌, map, length, take, drop}
use Rattle.rules.specs.declared.Options.{Options}
use Rattle.rules.specs.Lists.{total}
use Rattle.rules.specs.declared.tables.SourceId.{SourceId}
use Rattle.rules.specs.Tables.{Tree}
use Rattle.rules.specs.Lent.{LentTrees}
use Rattle.rules.specs.Bounds.{max_l0, max_runs}
use Rattle.rules.specs.Pick.{risen, pick}
use Rattle.rules.specs.Plan.{State}
use Rattle.tree_pick.specs.declared.pick.Pick.{Pick}
use Rattle.tree_pick.specs.declared.pick.Pick.TheVariants.{Rows, Window}
use Rattle.tree_pick.specs.declared.tree.AskedTree.{AskedTree}
use Rattle.std.specs.declared.option.Option as rust
use Rattle.std.specs.declared.option.Option.TheVariants.{None, Some}
use Rattle.std.proofs.Math.Option.{some}
use Rattle.tree_pick.specs.declared.conflict.UsedIds.{UsedIds}
use Rattle.plan_passes.specs.declared.picks.PickRow.{PickRow}
use Rattle.plan_passes.specs.declared.picks.Picks.{Picks}
use Rattle.plan_passes.specs.Picks.{spec_of, specs_of, PickWithin, PicksWithin, picks_in}
use Rattle.tree_pick.specs.declared.conflict.Key.{Key}
use Rattle.tree_pick.specs.Conflict.{key_of, keys_in, used_in}
use Rattle.tree_pick.specs.Backpressure.{Chains}
use Rattle.tree_pick.specs.Asked.{AskedAt}
use Rattle.tree_pick.specs.Pick.{Within, pick_in}

-- these ids of a tree are used besides
pub record UsedMore (before : UsedIds) (prefix : ℕ) (ids : List SourceId) (after : UsedIds) : Type 0 where
  pub same : after.keys.ghost_name ≡ before.keys.ghost_name
  pub kept : length after.keys.now ≡ length before.keys.now
  pub counted : after.count ≡ before.count + length ids
  pub rows : keys_in after ≡ keys_in before ++ map (key_of prefix) ids

-- the fresh number after a pick
abbrev pub fresh_after : ℕ → Pick → ℕ
fresh_after fresh (Rows from count) = risen fresh
fresh_after fresh (Window from count destination) = fresh

-- the row that says what the pick is
pub record RowOf (tree fresh : ℕ) (p : Pick) (r : PickRow) : Type 0 where
  pub prefix : r.prefix ≡ tree
  pub within : PickWithin r
  pub few : r.count ≤ 64
  pub is : (t : LentTrees) → pick_in tree fresh t.l0_ids t.run_ids (Some p) ≡ some (record { spec = spec_of t r; fresh = fresh_after fresh p })

-- ---- the trees that are asked

-- "Every table is lent at its full capacity"; the table of chain lengths is as long as that of runs
pub record AtCapacity (t : LentTrees) (chains : List ℕ) : Type 0 where
  pub views : 4 * max_l0 ≤ length t.l0_ids
  pub rows : max_l0 ≤ length t.l0_sizes
  pub ids : max_runs ≤ length t.run_ids
  pub sizes : max_runs ≤ length t.run_sizes
  pub lengths : max_runs ≤ length chains

-- it names rows that are there, whose sums are refusal 4's, and whose chains stand beside the runs
pub record AskedRow (lim : ℕ → ℕ) (a : AskedTree) (t : LentTrees) (chains : List ℕ) : Type 0 where
  pub l0 : a.l0_from + a.l0_count ≤ max_l0
  pub runs : a.run_from + a.run_count ≤ max_runs
  pub l0_summed : total (take a.l0_count (drop a.l0_from t.l0_sizes)) < 2 ^ 64
  pub runs_summed : total (take a.run_count (drop a.run_from t.run_sizes)) < 2 ^ 64
  pub chained : Chains lim (take a.run_count (drop a.run_from t.run_sizes)) (take a.run_count (drop a.run_from chains))

-- a pick of a tree whose rows start at L0 row l and run r
abbrev pub shifted_by : ℕ → ℕ → rust.Option Pick → rust.Option Pick
shifted_by l r None = None
shifted_by l r (Some (Rows from count)) = Some (Rows (l + from) count)
shifted_by l r (Some (Window from count destination)) = Some (Window (r + from) count destination)

-- the pick of the tree, by rows of the whole slices
pub record PickedAsked (lim : ℕ → ℕ) (o : Options) (used : List Key) (fresh : ℕ) (a : AskedTree) (t : LentTrees) (p : rust.Option Pick) : Type 0 where
  pub within : Within 64 max_l0 max_runs p
  pub is : (x : Tree) → AskedAt a t x → pick_in a.prefix fresh t.l0_ids t.run_ids p ≡ pick lim o (used_in used a.prefix) fresh x

-- ---- what asking a tree answers: the next fresh number, if the tree gave a pick

abbrev pub given : rust.Option ℕ → ℕ
given None = 0
given (Some fresh) = 1

abbrev pub fresh_by : ℕ → rust.Option ℕ → ℕ
fresh_by fresh None = fresh
fresh_by fresh (Some next) = next

-- a planning call under way, as it lies in its tables
abbrev pub state_in : LentTrees → UsedIds → ℕ → ℕ → Picks → State
state_in t used slots fresh picks = record {
  used = used_in (keys_in used);
  slots = slots;
  fresh = fresh;
  specs = specs_of t (picks_in picks);
}

-- the tables keep their lengths, and a pick uses its 64 sources and the destination at most
pub record Kept (used : UsedIds) (picks : Picks) (a : rust.Option ℕ) (used' : UsedIds) (picks' : Picks) : Type 0 where
  pub used_same : used'.keys.ghost_name ≡ used.keys.ghost_name
  pub used_kept : length used'.keys.now ≡ length used.keys.now
  pub picks_same : picks'.rows.ghost_name ≡ picks.rows.ghost_name
  pub picks_kept : length picks'.rows.now ≡ length picks.rows.now
  pub grown : used'.count ≤ used.count + 65 * given a
  pub counted : picks'.count ≡ picks.count + given a
  pub within : PicksWithin (picks_in picks) → PicksWithin (picks_in picks')

-- what f makes of the call's state, whatever slots are left
pub record Step (f : State → State) (t : LentTrees) (used : UsedIds) (fresh : ℕ) (picks : Picks) (a : rust.Option ℕ) (used' : UsedIds) (picks' : Picks) : Type 0 where
  pub state : (slots : ℕ) → f (state_in t used slots fresh picks) ≡ state_in t used' (slots - given a) (fresh_by fresh a) picks'
