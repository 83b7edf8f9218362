-- A tree that is asked: its rows as parts of the slices, and its pick by rows of the whole slices.
use Prim.Native.Nat.{ℕ, ◌+◌, ◌*◌, ◌≤◌, ◌<◌}
use mathlib.Core.Path.{◌≡◌, refl, sym, ap, ◌∙◌}
use mathlib.Core.List.{List, map}
use mathlib.Core.Option.{Option}
use native.Mathlib.Nat.{zero-add}
use native.Mathlib.Omega.{arith}
use lib.ListN.{length, take, drop, get_or, length-drop}
use lib.Seq.{get_or-take, get_or-drop, length-take-le}
use Rattle.rules.specs.declared.Options.{Options}
use Rattle.rules.specs.declared.tables.SourceId.TheVariants.{SortedRun, SstView}
use Rattle.rules.specs.Tables.{Tree}
use Rattle.rules.specs.Lent.{LentTrees, rows_from, ulid_at, run_at}
use Rattle.rules.specs.Bounds.{max_l0, max_runs}
use Rattle.rules.specs.Pick.{Picked, pick}
use Rattle.rules.specs.Plan.{ask, with_pick}
use Rattle.rules.proofs.Rows.{rows_from-same, part-is, map-rows_from}
use Rattle.tree_pick.specs.declared.pick.Pick.{Pick}
use Rattle.tree_pick.specs.declared.pick.Pick.TheVariants.{Rows, Window}
use Rattle.tree_pick.specs.declared.tree.AskedTree.{AskedTree}
use Rattle.tree_pick.specs.declared.tree.TreePart.{TreePart}
use Rattle.std.specs.declared.option.Option as rust
use Rattle.std.specs.declared.option.Option.TheVariants.{None, Some}
use Rattle.tree_pick.specs.declared.conflict.UsedIds.{UsedIds}
use Rattle.plan_passes.specs.declared.picks.Picks.{Picks}
use Rattle.tree_pick.specs.declared.conflict.Key.{Key}
use Rattle.tree_pick.specs.Conflict.{keys_in, used_in}
use Rattle.tree_pick.specs.TreeState.{TreeState}
use Rattle.tree_pick.specs.Asked.{row_in, AskedAt, PartOf}
use Rattle.tree_pick.specs.Pick.{L0State, TreeIn, views_in, runs_in, Bounded, Within, pick_in, PickedFrom}
use Rattle.plan_passes.specs.Ask.{AtCapacity, AskedRow, shifted_by, PickedAsked, state_in, Step}

-- number i of a part
in-part : (s : List ℕ) (a n i : ℕ) → i < n → get_or (take n (drop a s)) i 0 ≡ get_or s (a + i) 0
in-part s a n i h = get_or-take n (drop a s) i 0 h ∙ get_or-drop a s i 0

sized : (s : List ℕ) (a n : ℕ) → a + n ≤ length s → length (take n (drop a s)) ≡ n
sized s a n h = length-take-le n (drop a s) (omega (arith, length-drop a s))

-- where the part starts at a row of four numbers
in_row : (s : List ℕ) (l c i j : ℕ) → i < c → j < 4 → get_or (take (4 * c) (drop (4 * l) s)) (4 * i + j) 0 ≡ get_or s (4 * (l + i) + j) 0
in_row s l c i j h g = in-part s (4 * l) (4 * c) (4 * i + j) (omega arith) ∙ ap (λ (k : ℕ). get_or s k 0) (omega arith)

first-in-row : (s : List ℕ) (l c i : ℕ) → i < c → get_or (take (4 * c) (drop (4 * l) s)) (4 * i) 0 ≡ get_or s (4 * (l + i)) 0
first-in-row s l c i h = in-part s (4 * l) (4 * c) (4 * i) (omega arith) ∙ ap (λ (k : ℕ). get_or s k 0) (omega arith)

module _ (l0_ids l0_sizes : List ℕ) (l c : ℕ) (h : l + c ≤ length l0_sizes) where
  -- the tree's L0 rows
  rows_in : rows_from (row_in l0_ids l0_sizes) l c ≡ rows_from (row_in (take (4 * c) (drop (4 * l) l0_ids)) (take c (drop l l0_sizes))) 0 (length (take c (drop l l0_sizes)))
  rows_in =
      rows_from-same (row_in l0_ids l0_sizes) (row_in (take (4 * c) (drop (4 * l) l0_ids)) (take c (drop l l0_sizes))) l 0 c
      (λ i g. rw (zero-add, first-in-row l0_ids l c i g, in_row l0_ids l c i 1 g (omega arith), in_row l0_ids l c i 2 g (omega arith), later i g, in-part l0_sizes l c i g))
      ∙ ap (rows_from (row_in (take (4 * c) (drop (4 * l) l0_ids)) (take c (drop l l0_sizes))) 0) (sym (sized l0_sizes l c h))
    where
      later : (i : ℕ) → i < c → get_or (take (4 * c) (drop (4 * l) l0_ids)) (4 * i + 2 + 1) 0 ≡ get_or l0_ids (4 * (l + i) + 2 + 1) 0
      later i g = ap (λ (k : ℕ). get_or (take (4 * c) (drop (4 * l) l0_ids)) k 0) (omega arith) ∙ in_row l0_ids l c i 3 g (omega arith) ∙ ap (λ (k : ℕ). get_or l0_ids k 0) (omega arith)

-- ---- the pick

module _ (l0_ids run_ids : List ℕ) (l c r d : ℕ) where
  views-shifted : (from count : ℕ) → from + count ≤ c → views_in (take (4 * c) (drop (4 * l) l0_ids)) from count ≡ views_in l0_ids (l + from) count
  views-shifted from count h =
      ap (map SstView)
      (rows_from-same (λ i. ulid_at (take (4 * c) (drop (4 * l) l0_ids)) (4 * i)) (λ i. ulid_at l0_ids (4 * i)) from (l + from) count
      (λ i g. let same : l + from + i ≡ l + (from + i) = omega arith in rw (same, first-in-row l0_ids l c (from + i) (omega arith), in_row l0_ids l c (from + i) 1 (omega arith) (omega arith))))

  runs-shifted : (from count : ℕ) → from + count ≤ d → runs_in (take d (drop r run_ids)) from count ≡ runs_in run_ids (r + from) count
  runs-shifted from count h =
      ap (map SortedRun)
      (rows_from-same (λ i. get_or (take d (drop r run_ids)) i 0) (λ i. get_or run_ids i 0) from (r + from) count
      (λ i g. in-part run_ids r d (from + i) (omega arith) ∙ ap (λ (k : ℕ). get_or run_ids k 0) (omega arith)))

  pub pick-shifted : (prefix fresh most : ℕ) (p : rust.Option Pick) → Within most c d p → pick_in prefix fresh (take (4 * c) (drop (4 * l) l0_ids)) (take d (drop r run_ids)) p ≡ pick_in prefix fresh l0_ids run_ids (shifted_by l r p)
  pick-shifted prefix fresh most None w = refl
  pick-shifted prefix fresh most (Some (Rows from count)) w = rw (views-shifted from count w.0)
  pick-shifted prefix fresh most (Some (Window from count destination)) w = rw (runs-shifted from count w.0)

-- within the tree's rows, and so within the slices
pub within_all : (l c r d most rows runs : ℕ) (p : rust.Option Pick) → l + c ≤ rows → r + d ≤ runs → most ≤ 64 → Within most c d p → Within 64 rows runs (shifted_by l r p)
within_all l c r d most rows runs None h g k w = tt
within_all l c r d most rows runs (Some (Rows from count)) h g k w = (omega (arith, w.0), omega (arith, w.1))
within_all l c r d most rows runs (Some (Window from count destination)) h g k w = (omega (arith, w.0), omega (arith, w.1))

within_more : (c d most rows runs : ℕ) (p : rust.Option Pick) → c ≤ rows → d ≤ runs → most ≤ 64 → Within most c d p → Within 64 rows runs p
within_more c d most rows runs None h g k w = tt
within_more c d most rows runs (Some (Rows from count)) h g k w = (omega (arith, w.0), omega (arith, w.1))
within_more c d most rows runs (Some (Window from count destination)) h g k w = (omega (arith, w.0), omega (arith, w.1))

-- ---- a tree that is asked, and its part of the slices

module _ {lim : ℕ → ℕ} {a : AskedTree} {t : LentTrees} {chains : List ℕ} (b : AtCapacity t chains) (r : AskedRow lim a t chains) where
  -- its rows start within the slices
  pub starts : (a.l0_from ≤ max_l0) × (a.run_from ≤ max_runs)
  starts = (omega (arith, r.l0), omega (arith, r.runs))

  rows : length (take a.l0_count (drop a.l0_from t.l0_sizes)) ≡ a.l0_count
  rows = sized t.l0_sizes a.l0_from a.l0_count (omega (arith, r.l0, b.rows))

  runs : length (take a.run_count (drop a.run_from t.run_ids)) ≡ a.run_count
  runs = sized t.run_ids a.run_from a.run_count (omega (arith, r.runs, b.ids))

  module _ {p : TreePart} (q : PartOf a t chains p) where
    pub l0-good : L0State p
    l0-good = record {
      sized = rw (q.l0_ids, q.l0_sizes) (omega (arith, rows, sized t.l0_ids (4 * a.l0_from) (4 * a.l0_count) (omega (arith, b.views, r.l0))));
      summed = rw q.l0_sizes r.l0_summed;
    }

    pub runs-good : TreeState lim p
    runs-good = record {
      sized = rw (q.run_ids, q.run_sizes) (runs ∙ sym (sized t.run_sizes a.run_from a.run_count (omega (arith, r.runs, b.sizes))));
      summed = rw q.run_sizes r.runs_summed;
      chained = rw (q.run_sizes, q.lengths) r.chained;
    }

    -- its part holds its rows
    tree-in : {x : Tree} → AskedAt a t x → TreeIn p x
    tree-in i = record {
      prefix = i.prefix ∙ sym q.prefix;
      l0 = rw (q.l0_ids, q.l0_sizes) (i.l0 ∙ rows_in t.l0_ids t.l0_sizes a.l0_from a.l0_count (omega (arith, r.l0, b.rows)));
      ids = rw q.run_ids (rw (i.runs, map-rows_from (λ r. r.id) (run_at t)) (part-is t.run_ids a.run_from a.run_count (omega (arith, r.runs, b.ids))));
      sizes = rw q.run_sizes (rw (i.runs, map-rows_from (λ r. r.size) (run_at t)) (part-is t.run_sizes a.run_from a.run_count (omega (arith, r.runs, b.sizes))));
    }

    within : (most : ℕ) (made : rust.Option Pick) → Within most (length p.l0_sizes.now) (length p.run_ids.now) made → Within most a.l0_count a.run_count made
    within most made w = rw (q.l0_sizes, q.run_ids, rows, runs) at w

    pub asked-within : {o : Options} (made : rust.Option Pick) → Bounded o → Within o.max (length p.l0_sizes.now) (length p.run_ids.now) made → Within 64 max_l0 max_runs made
    asked-within {o} made g w = within_more a.l0_count a.run_count o.max max_l0 max_runs made (omega (arith, r.l0)) (omega (arith, r.runs)) g.most (within o.max made w)

    module _ {used : List Key} {o : Options} {fresh : ℕ} {made : rust.Option Pick} (g : Bounded o) (k : PickedFrom lim o (used_in used p.prefix) fresh p made) where
      -- its pick, by rows of the whole slices
      pub asked-picked : PickedAsked lim o used fresh a t (shifted_by a.l0_from a.run_from made)
      asked-picked = record {
        within = within_all a.l0_from a.l0_count a.run_from a.run_count o.max max_l0 max_runs made r.l0 r.runs g.most (within o.max made k.within);
        is = λ x i.
            sym (pick-shifted t.l0_ids t.run_ids a.l0_from a.l0_count a.run_from a.run_count a.prefix fresh o.max made (within o.max made k.within))
            ∙ rw (q.prefix, q.l0_ids, q.run_ids) at (k.is x (tree-in i));
      }

-- the tree is asked: its pick is added
pub step-asked : {lim : ℕ → ℕ} {o : Options} {a : AskedTree} {l : LentTrees} {used used' : UsedIds} {picks picks' : Picks} {fresh : ℕ} {p : rust.Option Pick} {x : rust.Option ℕ} {t : Tree} → PickedAsked lim o (keys_in used) fresh a l p → AskedAt a l t → Step (with_pick (pick_in a.prefix fresh l.l0_ids l.run_ids p)) l used fresh picks x used' picks' → Step (ask lim o t) l used fresh picks x used' picks'
unfolding ask
step-asked {lim} {o} {l = l} {used} {picks = picks} {fresh = fresh} {t = t} q i s = record {
  state = λ slots.
      ap (λ (x : ℕ). with_pick (pick lim o (used_in (keys_in used) x) fresh t) (state_in l used slots fresh picks)) i.prefix
      ∙ ap (λ (x : Option Picked). with_pick x (state_in l used slots fresh picks)) (sym (q.is t i))
      ∙ s.state slots;
}
