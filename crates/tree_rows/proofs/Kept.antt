-- What keep_rows leaves in each slice is laid by the trees with the rows of tree i that its flags keep.
use Prim.Native.Nat.{ℕ, ◌+◌, ◌-◌, ◌*◌, ◌≤◌, ◌<◌}
use mathlib.Core.Path.{subst, ◌≡◌, refl, sym, ap, ap₂, ◌∙◌}
use mathlib.Core.List.{List, [], ◌∷◌, ◌++◌, map}
use mathlib.Core.Bool.{Bool}
use native.Mathlib.Nat.{one-mul}
use native.Mathlib.Omega.{arith}
use lib.ListN.{length, get_or, take, drop, set, length-take}
use Rattle.rules.specs.Lists.{keep, concat_map}
use Rattle.rules.specs.declared.tables.Run.{Run}
use Rattle.rules.specs.Tables.{L0Row, Tree}
use Rattle.rules.specs.Lent.{LentTrees, lent_trees, trees_of, tree_at, lay_trees, laid, l0_used, runs_used, l0_words, tree_words}
use Rattle.rules.proofs.Packed.{length-trees_of, length-l0, length_runs}
use Rattle.rows.specs.Movers.{marked, kept}
use Rattle.rows.specs.Read.{Stands}
use Rattle.rows.proofs.Lift.{singles, laid-singles}
use Rattle.tree_rows.specs.Change.{changed_at, keep_rows, kept_in, L0Flags, RunFlags}
use Rattle.tree_rows.specs.Slices.{KeepRoom}
use Rattle.tree_rows.specs.Table.{with_rows}
use Rattle.tree_rows.proofs.Again.{lent-eq}
use Rattle.tree_rows.proofs.Room.{keep-fewer}
use Rattle.tree_rows.proofs.Standing.{trees-stand, l0-ids-stand, l0-sizes-stand, run-ids-stand, run-sizes-stand, rows_before_lem, runs-before, rows_of, runs_of_lem}
use Rattle.tree_rows.proofs.OneRow.{apart, set-behind}
use Rattle.tree_rows.proofs.Flags.{kept-changed, flags-mine}
use Rattle.tree_rows.proofs.Counts.{kept-many}

-- a column of one number to a row
module _ {A : Type 0} (of : Tree → List A) (p : A → Bool) (f : Tree → Tree) (keeps : (t : Tree) → of (f t) ≡ keep p (of t)) (number : A → ℕ) where
  kept-column : (i : ℕ) (ts : List Tree) (n : ℕ) (l flags : List ℕ) → n ≡ length (concat_map of ts) → take n l ≡ map number (concat_map of ts) → n ≤ length flags
      → map marked (take n flags) ≡ kept_in of i p ts → laid (1 * n) (kept 1 (take n flags) l) l ≡ laid n (map number (concat_map of (changed_at i f ts))) l
  kept-column i ts n l flags count rows have says =
      kept-changed of p f keeps (λ x. number x ∷ []) 1 (λ x. refl) i ts n l flags count (rw (one-mul, singles number (concat_map of ts)) rows) have says
      ∙ laid-singles number n (concat_map of (changed_at i f ts)) l

-- where the rows of a tree lie, in the table of which it is said
pub part-of : {s t : LentTrees} → s ≡ t → {i l c r d : ℕ} → Stands s.trees s.count i l c r d → Stands t.trees t.count i l c r d
part-of e {i} {l} {c} {r} {d} at = subst (λ (x : LentTrees). Stands x.trees x.count i l c r d) e at

-- what the calls of keep_rows ask for
module _ {t : LentTrees} {i : ℕ} {l0_kept runs_kept : List ℕ} (room : KeepRoom t i l0_kept runs_kept) where
  pub run-ids-fit : {n : ℕ} → n ≡ runs_used t → (n ≤ length runs_kept) × (1 * n ≤ length t.run_ids)
  run-ids-fit h = (omega arith, omega arith)

  pub run-sizes-fit : {n : ℕ} → n ≡ runs_used t → (n ≤ length runs_kept) × (1 * n ≤ length t.run_sizes)
  run-sizes-fit h = (omega arith, omega arith)

  module _ {l c r d : ℕ} (at : Stands t.trees t.count i l c r d) where
    pub rows_end : l + c ≤ length l0_kept
    unfolding l0_used
    rows_end = omega (arith, room.l0_flags)

    pub runs-end : r + d ≤ length runs_kept
    unfolding runs_used
    runs-end = omega (arith, room.run_flags)

    pub rows_few : {m : ℕ} → m ≡ length (keep marked (take (l + c - l) (drop l l0_kept))) → m ≤ 512
    unfolding l0_used
    rows_few h = omega (arith, h, keep-fewer marked (take (l + c - l) (drop l l0_kept)), length-take (l + c - l) (drop l l0_kept), room.l0)

    pub runs-few : {m : ℕ} → m ≡ length (keep marked (take (r + d - r) (drop r runs_kept))) → m ≤ 512
    unfolding runs_used
    runs-few h = omega (arith, h, keep-fewer marked (take (r + d - r) (drop r runs_kept)), length-take (r + d - r) (drop r runs_kept), room.runs)

module _ {t : LentTrees} {i : ℕ} {l0_kept runs_kept : List ℕ} (room : KeepRoom t i l0_kept runs_kept) (p : L0Row → Bool) (q : Run → Bool) (fl : L0Flags t i p l0_kept) (fr : RunFlags t i q runs_kept) where
  abbrev after : LentTrees
  after = lay_trees t (changed_at i (keep_rows p q) (trees_of t))

  pub kept-l0-ids : {n : ℕ} {s : List ℕ} → n ≡ l0_used t → s ≡ laid (4 * n) (kept 4 (take n l0_kept) t.l0_ids) t.l0_ids → s ≡ after.l0_ids
  unfolding lay_trees
  kept-l0-ids {n} h g =
      g
      ∙ rw h
      (kept-changed (λ (x : Tree). x.l0) p (keep_rows p q) (λ x. refl) l0_words 4 (λ v. refl) i (trees_of t) (l0_used t) t.l0_ids l0_kept (sym (length-l0 t)) (l0-ids-stand t (omega (arith, room.l0, room.l0_ids))) (omega (arith, room.l0_flags)) fl)

  pub kept-l0-sizes : {n : ℕ} {s : List ℕ} → n ≡ l0_used t → s ≡ laid (1 * n) (kept 1 (take n l0_kept) t.l0_sizes) t.l0_sizes → s ≡ after.l0_sizes
  unfolding lay_trees
  kept-l0-sizes {n} h g =
      g
      ∙ rw h
      (kept-column (λ (x : Tree). x.l0) p (keep_rows p q) (λ x. refl) (λ (v : L0Row). v.size) i (trees_of t) (l0_used t) t.l0_sizes l0_kept (sym (length-l0 t)) (l0-sizes-stand t (omega (arith, room.l0, room.l0_sizes))) (omega (arith, room.l0_flags)) fl)

  pub kept-run-ids : {n : ℕ} {s : List ℕ} → n ≡ runs_used t → s ≡ laid (1 * n) (kept 1 (take n runs_kept) t.run_ids) t.run_ids → s ≡ after.run_ids
  unfolding lay_trees
  kept-run-ids {n} h g =
      g
      ∙ rw h
      (kept-column (λ (x : Tree). x.runs) q (keep_rows p q) (λ x. refl) (λ (v : Run). v.id) i (trees_of t) (runs_used t) t.run_ids runs_kept (sym (length_runs t)) (run-ids-stand t (omega (arith, room.runs, room.run_ids))) (omega (arith, room.run_flags)) fr)

  pub kept-run-sizes : {n : ℕ} {s : List ℕ} → n ≡ runs_used t → s ≡ laid (1 * n) (kept 1 (take n runs_kept) t.run_sizes) t.run_sizes → s ≡ after.run_sizes
  unfolding lay_trees
  kept-run-sizes {n} h g =
      g
      ∙ rw h
      (kept-column (λ (x : Tree). x.runs) q (keep_rows p q) (λ x. refl) (λ (v : Run). v.size) i (trees_of t) (runs_used t) t.run_sizes runs_kept (sym (length_runs t)) (run-sizes-stand t (omega (arith, room.runs, room.run_sizes))) (omega (arith, room.run_flags)) fr)

  -- a tree, for want of one
  abbrev none : Tree
  none = tree_at t 0 0 0

  abbrev mine : Tree
  mine = get_or (trees_of t) i none

  listed : i < length (trees_of t)
  listed = omega (arith, room.tree, length-trees_of t)

  module _ {l c r d : ℕ} (at : Stands t.trees t.count i l c r d) where
    rows-many : {m : ℕ} → m ≡ length (keep marked (take (l + c - l) (drop l l0_kept))) → m ≡ length (keep p mine.l0)
    rows-many h =
        let cut : l + c - l ≡ c = omega arith in
        h
        ∙ rw cut
        (kept-many marked p (take c (drop l l0_kept)) mine.l0
        (flags-mine (λ (x : Tree). x.l0) p (trees_of t) i none listed (l0_used t) l0_kept (sym (length-l0 t)) (omega (arith, room.l0_flags)) l c
        (rows_before_lem t i (omega (arith, room.tree)) ∙ sym at.first_row)
        (rows_of t i none room.tree ∙ sym at.rows)
        fl))

    runs-many : {m : ℕ} → m ≡ length (keep marked (take (r + d - r) (drop r runs_kept))) → m ≡ length (keep q mine.runs)
    runs-many h =
        let cut : r + d - r ≡ d = omega arith in
        h
        ∙ rw cut
        (kept-many marked q (take d (drop r runs_kept)) mine.runs
        (flags-mine (λ (x : Tree). x.runs) q (trees_of t) i none listed (runs_used t) runs_kept (sym (length_runs t)) (omega (arith, room.run_flags)) r d
        (runs-before t i (omega (arith, room.tree)) ∙ sym at.first_run)
        (runs_of_lem t i none room.tree ∙ sym at.runs)
        fr))

    pub kept-trees : {m k : ℕ} {s : List ℕ} → m ≡ length (keep marked (take (l + c - l) (drop l l0_kept))) → k ≡ length (keep marked (take (r + d - r) (drop r runs_kept)))
        → s ≡ set (set t.trees (3 * i + 1) m) (3 * i + 2) k → s ≡ after.trees
    unfolding lay_trees
    kept-trees {m} {k} u v g =
        let a = apart tree_words 3 (λ x. refl) (trees_of t) t.count t.trees (sym (length-trees_of t)) (trees-stand t (omega (arith, room.few, room.trees))) i room.tree none in
        g
        ∙ ap (λ (s : List ℕ). set (set s (3 * i + 1) m) (3 * i + 2) k) a.stood
        ∙ ap (λ (s : List ℕ). set s (3 * i + 2) k) (set-behind a.before (tree_words mine ++ a.behind) (3 * i + 1) 1 m (omega (arith, a.long)))
        ∙ set-behind a.before (mine.prefix ∷ m ∷ length mine.runs ∷ a.behind) (3 * i + 2) 2 k (omega (arith, a.long))
        ∙ ap₂ (λ (y z : ℕ). a.before ++ (mine.prefix ∷ y ∷ z ∷ a.behind)) (rows-many u) (runs-many v)
        ∙ sym (a.changed (keep_rows p q))

  -- the whole table
  module _ {l c r d : ℕ} (at : Stands t.trees t.count i l c r d) {rows runs : ℕ} (u : rows ≡ l0_used t) (v : runs ≡ runs_used t) where
    pub kept-table : {trees l0_ids l0_sizes run_ids run_sizes : List ℕ} {m k : ℕ}
        → m ≡ length (keep marked (take (l + c - l) (drop l l0_kept))) → k ≡ length (keep marked (take (r + d - r) (drop r runs_kept))) → trees ≡ set (set t.trees (3 * i + 1) m) (3 * i + 2) k
        → l0_ids ≡ laid (4 * rows) (kept 4 (take rows l0_kept) t.l0_ids) t.l0_ids → l0_sizes ≡ laid (1 * rows) (kept 1 (take rows l0_kept) t.l0_sizes) t.l0_sizes
        → run_ids ≡ laid (1 * runs) (kept 1 (take runs runs_kept) t.run_ids) t.run_ids → run_sizes ≡ laid (1 * runs) (kept 1 (take runs runs_kept) t.run_sizes) t.run_sizes
        → lent_trees t.count trees t.watermark_marks t.watermarks l0_ids l0_sizes run_ids run_sizes ≡ with_rows t after
    kept-table a b w x y z o = lent-eq refl (kept-trees at a b w) refl refl (kept-l0-ids u x) (kept-l0-sizes u y) (kept-run-ids v z) (kept-run-sizes v o)
