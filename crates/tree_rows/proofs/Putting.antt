-- What put_run leaves in each slice is laid by the trees with the run in tree i.
use Prim.Native.Nat.{ℕ, suc, ◌+◌, ◌-◌, ◌*◌, ◌≤◌, ◌<◌}
use mathlib.Core.Path.{◌≡◌, refl, sym, ap, ◌∙◌}
use mathlib.Core.List.{List, [], ◌∷◌, ◌++◌, map, append_assoc}
use native.Mathlib.Nat.{one-mul}
use native.Mathlib.Omega.{arith}
use lib.ListN.{length, get_or, take, drop, set, length-append, length-take, length-drop}
use lib.Seq.{take-append-le, drop-append-le, take-append-add, drop-append-add, split_at}
use Rattle.rules.specs.Lists.{concat_map}
use Rattle.rules.specs.declared.tables.Run.{Run}
use Rattle.rules.specs.Tables.{Tree}
use Rattle.rules.specs.Lent.{LentTrees, lent_trees, run_count, trees_of, tree_at, lay_trees, laid, runs_used, runs_of, tree_words}
use Rattle.rules.proofs.Rows.{concat_map-append}
use Rattle.rules.proofs.Packed.{length-trees_of, length_runs}
use Rattle.rows.specs.Movers.{opened}
use Rattle.rows.proofs.Lift.{singles, laid-singles, opened-laid}
use Rattle.rows.proofs.Sums.{part-within}
use Rattle.tree_rows.specs.Change.{changed_at, put_run}
use Rattle.tree_rows.specs.Slices.{PutRoom, runs_before}
use Rattle.tree_rows.specs.Table.{with_runs}
use Rattle.tree_rows.proofs.Again.{lent-eq}
use Rattle.tree_rows.proofs.Changes.{changed-parts}
use Rattle.tree_rows.proofs.Standing.{trees-stand, run-ids-stand, run-sizes-stand, runs-before, runs_of_lem}
use Rattle.tree_rows.proofs.OneRow.{apart, set-behind}

-- an entry put into the middle of three parts
put-middle : {A : Type 0} (xs ys zs : List A) (n k : ℕ) (v : A) → n ≡ length xs + k → k ≤ length ys
    → take n (xs ++ (ys ++ zs)) ++ ((v ∷ []) ++ drop n (xs ++ (ys ++ zs))) ≡ xs ++ ((take k ys ++ (v ∷ drop k ys)) ++ zs)
put-middle xs ys zs n k v e h =
    rw (e, take-append-add xs (ys ++ zs) k, drop-append-add xs (ys ++ zs) k, take-append-le k ys zs h, drop-append-le k ys zs h, append_assoc, append_assoc)

-- the runs of all trees, with one more in tree i
runs-put : (ts : List Tree) (i : ℕ) (d : Tree) (at k : ℕ) (out : Run) → i < length ts → at ≡ length (runs_of (take i ts)) + k → k ≤ length (get_or ts i d).runs
    → take at (runs_of ts) ++ ((out ∷ []) ++ drop at (runs_of ts)) ≡ runs_of (changed_at i (put_run k out) ts)
unfolding concat_map
runs-put ts i d at k out there e h =
    let whole : runs_of ts ≡ runs_of (take i ts) ++ ((get_or ts i d).runs ++ runs_of (drop (suc i) ts)) = ap runs_of (split_at ts i d there) ∙ concat_map-append (λ (x : Tree). x.runs) (take i ts) (get_or ts i d ∷ drop (suc i) ts) in
    ap (λ (l : List Run). take at l ++ ((out ∷ []) ++ drop at l)) whole
    ∙ put-middle (runs_of (take i ts)) (get_or ts i d).runs (runs_of (drop (suc i) ts)) at k out e h
    ∙ sym (ap runs_of (changed-parts i (put_run k out) ts d there) ∙ concat_map-append (λ (x : Tree). x.runs) (take i ts) (put_run k out (get_or ts i d) ∷ drop (suc i) ts))

-- what the calls of put_run ask for
module _ {t : LentTrees} {i at : ℕ} (room : PutRoom t i at) where
  pub place-within : at ≤ runs_used t
  unfolding runs_used
  place-within = omega (arith, room.last, part-within (run_count t) i t.count room.tree)

  pub count-few : run_count t i + 1 ≤ 512
  unfolding runs_used
  count-few = omega (arith, room.runs, part-within (run_count t) i t.count room.tree)

  module _ (out : Run) where
    abbrev after : LentTrees
    after = lay_trees t (changed_at i (put_run (at - runs_before t.trees i) out) (trees_of t))

    -- a tree, for want of one
    abbrev none : Tree
    none = tree_at t 0 0 0

    abbrev mine : Tree
    mine = get_or (trees_of t) i none

    first : length (runs_of (take i (trees_of t))) ≡ runs_before t.trees i
    first = runs-before t i (omega (arith, room.tree))

    many : length mine.runs ≡ run_count t i
    many = runs_of_lem t i none room.tree

    -- a column of one number to a run
    column-put : (number : Run → ℕ) (l : List ℕ) → take (runs_used t) l ≡ map number (runs_of (trees_of t))
        → laid (1 * runs_used t) (opened 1 (runs_used t) at (number out ∷ []) 1 l) l ≡ laid (runs_used t) (map number (runs_of (changed_at i (put_run (at - runs_before t.trees i) out) (trees_of t)))) l
    unfolding concat_map
    column-put number l rows =
        opened-laid (λ (r : Run). number r ∷ []) 1 (λ r. refl) (runs_of (trees_of t)) (runs_used t) l (sym (length_runs t)) (rw (one-mul, singles number (runs_of (trees_of t))) rows) at 1 (number out ∷ []) (out ∷ []) place-within refl
        ∙ ap (λ (rs : List Run). laid (1 * runs_used t) (concat_map (λ (r : Run). number r ∷ []) rs) l)
        (runs-put (trees_of t) i none at (at - runs_before t.trees i) out (omega (arith, room.tree, length-trees_of t)) (omega (arith, first, room.first)) (omega (arith, many, room.last)))
        ∙ laid-singles number (runs_used t) (runs_of (changed_at i (put_run (at - runs_before t.trees i) out) (trees_of t))) l

    pub put-run-ids : {n : ℕ} {s : List ℕ} → n ≡ runs_used t → s ≡ laid (1 * n) (opened 1 n at (out.id ∷ []) 1 t.run_ids) t.run_ids → s ≡ after.run_ids
    unfolding lay_trees
    put-run-ids h g = g ∙ rw h (column-put (λ (r : Run). r.id) t.run_ids (run-ids-stand t (omega (arith, room.runs, room.run_ids))))

    pub put-run-sizes : {n : ℕ} {s : List ℕ} → n ≡ runs_used t → s ≡ laid (1 * n) (opened 1 n at (out.size ∷ []) 1 t.run_sizes) t.run_sizes → s ≡ after.run_sizes
    unfolding lay_trees
    put-run-sizes h g = g ∙ rw h (column-put (λ (r : Run). r.size) t.run_sizes (run-sizes-stand t (omega (arith, room.runs, room.run_sizes))))

    -- one run more
    more : length (put_run (at - runs_before t.trees i) out mine).runs ≡ run_count t i + 1
    more =
        let k = at - runs_before t.trees i in
        omega (arith, length-append (take k mine.runs) (out ∷ drop k mine.runs), length-take k mine.runs, length-drop k mine.runs, many, room.last, room.first)

    pub put-trees : {s : List ℕ} → s ≡ set t.trees (3 * i + 2) (run_count t i + 1) → s ≡ after.trees
    unfolding lay_trees
    put-trees g =
        let a = apart tree_words 3 (λ x. refl) (trees_of t) t.count t.trees (sym (length-trees_of t)) (trees-stand t (omega (arith, room.few, room.trees))) i room.tree none in
        g
        ∙ ap (λ (s : List ℕ). set s (3 * i + 2) (run_count t i + 1)) a.stood
        ∙ set-behind a.before _ (3 * i + 2) 2 (run_count t i + 1) (omega (arith, a.long))
        ∙ ap (λ (n : ℕ). a.before ++ (mine.prefix ∷ length mine.l0 ∷ n ∷ a.behind)) (sym more)
        ∙ sym (a.changed (put_run (at - runs_before t.trees i) out))

    -- the whole table
    pub put-table : {trees run_ids run_sizes : List ℕ} {n : ℕ} → n ≡ runs_used t → trees ≡ set t.trees (3 * i + 2) (run_count t i + 1)
        → run_ids ≡ laid (1 * n) (opened 1 n at (out.id ∷ []) 1 t.run_ids) t.run_ids → run_sizes ≡ laid (1 * n) (opened 1 n at (out.size ∷ []) 1 t.run_sizes) t.run_sizes
        → lent_trees t.count trees t.watermark_marks t.watermarks t.l0_ids t.l0_sizes run_ids run_sizes ≡ with_runs t after
    put-table h a b c = lent-eq refl (put-trees a) refl refl refl refl (put-run-ids h b) (put-run-sizes h c)
