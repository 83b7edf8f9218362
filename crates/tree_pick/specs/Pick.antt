-- A tree as parts of the lent slices, and a pick by the places of its sources there.
use Rattle.std.specs.Prelude.{ℕ, ◌+◌, ◌*◌, ◌^◌, ◌<◌, ◌≤◌, ◌≡◌, List, map, Bool, length, get_or}
use Rattle.std.proofs.Math.Option.{Option, some, none}
use Rattle.rules.specs.declared.Options.{Options}
use Rattle.rules.specs.Lists.{total}
use Rattle.rules.specs.declared.tables.SourceId.{SourceId}
use Rattle.rules.specs.declared.tables.SourceId.TheVariants.{SortedRun, SstView}
use Rattle.rules.specs.Tables.{Tree}
use Rattle.rules.specs.Lent.{rows_from, ulid_at}
use Rattle.rules.specs.Pick.{Picked, risen, ids_of, sizes_of, pick}
use Rattle.tree_pick.specs.declared.pick.Pick.{Pick}
use Rattle.tree_pick.specs.declared.pick.Pick.TheVariants.{Rows, Window}
use Rattle.tree_pick.specs.declared.tree.TreePart.{TreePart}
use Rattle.std.specs.declared.option.Option as rust
use Rattle.std.specs.declared.option.Option.TheVariants.{None, Some}
use Rattle.tree_pick.specs.Asked.{row_in}

-- four numbers of ids for each L0 size; the sum is refusal 4's: "one tree's L0 sizes .. sum above 2^64 - 1"
pub record L0State (p : TreePart) : Type 0 where
  pub sized : 4 * length p.l0_sizes.now ≤ length p.l0_ids.now
  pub summed : total p.l0_sizes.now < 2 ^ 64

-- the slices hold this tree's rows and no others
pub record TreeIn (p : TreePart) (t : Tree) : Type 0 where
  pub prefix : t.prefix ≡ p.prefix
  pub l0 : t.l0 ≡ rows_from (row_in p.l0_ids.now p.l0_sizes.now) 0 (length p.l0_sizes.now)
  pub ids : ids_of t.runs ≡ p.run_ids.now
  pub sizes : sizes_of t.runs ≡ p.run_sizes.now

-- the views of the `count` L0 rows from row `from` on, and such runs
abbrev pub views_in : List ℕ → ℕ → ℕ → List SourceId
views_in l0_ids from count = map SstView (rows_from (λ i. ulid_at l0_ids (4 * i)) from count)

abbrev pub runs_in : List ℕ → ℕ → ℕ → List SourceId
runs_in run_ids from count = map SortedRun (rows_from (λ i. get_or run_ids i 0) from count)

-- refusal 3's bounds: "not 1 <= min <= max <= 64"
pub record Bounded (o : Options) : Type 0 where
  pub some : 1 ≤ o.min
  pub ordered : o.min ≤ o.max
  pub most : o.max ≤ 64

-- a pick of a tree, as document 01 has it
abbrev pub pick_in : ℕ → ℕ → List ℕ → List ℕ → rust.Option Pick → Option Picked
pick_in prefix fresh l0_ids run_ids None = none
pick_in prefix fresh l0_ids run_ids (Some (Rows from count)) =
    some (record { spec = record { prefix = prefix; sources = views_in l0_ids from count; destination = fresh }; fresh = risen fresh })
pick_in prefix fresh l0_ids run_ids (Some (Window from count destination)) =
    some (record { spec = record { prefix = prefix; sources = runs_in run_ids from count; destination = destination }; fresh = fresh })

-- `rows` or `runs` rows hold the sources, of which there are at most `most`
abbrev pub Within : ℕ → ℕ → ℕ → rust.Option Pick → Type 0
Within most rows runs None = Unit {0}
Within most rows runs (Some (Rows from count)) = (from + count ≤ rows) × (count ≤ most)
Within most rows runs (Some (Window from count destination)) = (from + count ≤ runs) × (count ≤ most)

-- the pick of each tree that the slices hold
pub record PickedFrom (lim : ℕ → ℕ) (o : Options) (used : SourceId → Bool) (fresh : ℕ) (p : TreePart) (picked : rust.Option Pick) : Type 0 where
  pub within : Within o.max (length p.l0_sizes.now) (length p.run_ids.now) picked
  pub is : (t : Tree) → TreeIn p t → pick_in p.prefix fresh p.l0_ids.now p.run_ids.now picked ≡ pick lim o used fresh t
