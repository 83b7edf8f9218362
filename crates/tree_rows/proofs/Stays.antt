-- The slices that a change of one tree leaves as they were, and the whole table after each of the three functions.
use Prim.Native.Nat.{ℕ, ◌*◌, ◌≤◌}
use mathlib.Core.Path.{◌≡◌, refl, sym, ap, ◌∙◌}
use mathlib.Core.List.{List, [], ◌∷◌, ◌++◌, map}
use native.Mathlib.Omega.{arith}
use lib.ListN.{length}
use Rattle.rules.specs.Lists.{concat_map}
use Rattle.rules.specs.declared.tables.Run.{Run}
use Rattle.rules.specs.declared.tables.Watermark.{Watermark}
use Rattle.rules.specs.Tables.{L0Row, Tree}
use Rattle.rules.specs.Lent.{LentTrees, trees_of, lay_trees, laid, l0_used, runs_used, ulid_words, tree_words, watermark_mark_words, watermark_words, l0_words}
use Rattle.rules.proofs.Laid.{laid_same}
use Rattle.rules.proofs.Packed.{length-trees_of}
use Rattle.rules.proofs.Bounds.{TreesWithin, TreesLent}
use Rattle.tree_rows.specs.Change.{changed_at}
use Rattle.tree_rows.specs.Table.{with_rows, with_runs, with_watermarks}
use Rattle.tree_rows.proofs.Changes.{changed-keeps, length-changed}
use Rattle.tree_rows.proofs.Standing.{trees-stand, marks-stand, watermarks-stand, l0-ids-stand, l0-sizes-stand, run-ids-stand, run-sizes-stand}
use Rattle.tree_rows.proofs.Again.{lent-eq}

module _ (t : LentTrees) (within : TreesWithin t) (lent : TreesLent t) (i : ℕ) (f : Tree → Tree) where
  abbrev after : LentTrees
  after = lay_trees t (changed_at i f (trees_of t))

  pub count-stays : after.count ≡ t.count
  unfolding lay_trees
  count-stays = length-changed i f (trees_of t) ∙ length-trees_of t

  -- prefixes and counts
  pub trees-stay : ((x : Tree) → tree_words (f x) ≡ tree_words x) → after.trees ≡ t.trees
  unfolding lay_trees
  trees-stay h =
      let room : 3 * t.count ≤ length t.trees = omega (arith, within.trees, lent.trees) in
      ap (λ (r : List ℕ). laid (3 * t.count) r t.trees) (changed-keeps tree_words f h i (trees_of t) ∙ sym (trees-stand t room)) ∙ laid_same (3 * t.count) t.trees room

  -- watermarks
  module _ (h : (x : Tree) → (f x).watermark ≡ x.watermark) where
    pub marks_stay : after.watermark_marks ≡ t.watermark_marks
    unfolding lay_trees
    marks_stay =
        let room : 2 * t.count ≤ length t.watermark_marks = omega (arith, within.trees, lent.watermark_marks) in
        ap (λ (r : List ℕ). laid (2 * t.count) r t.watermark_marks) (changed-keeps watermark_mark_words f (λ x. ap (λ (w : Watermark). w.view_mark ∷ w.sst_mark ∷ []) (h x)) i (trees_of t) ∙ sym (marks-stand t room))
        ∙ laid_same (2 * t.count) t.watermark_marks room

    pub watermarks-stay : after.watermarks ≡ t.watermarks
    unfolding lay_trees
    watermarks-stay =
        let room : 4 * t.count ≤ length t.watermarks = omega (arith, within.trees, lent.watermarks) in
        ap (λ (r : List ℕ). laid (4 * t.count) r t.watermarks) (changed-keeps watermark_words f (λ x. ap (λ (w : Watermark). ulid_words w.view ++ ulid_words w.sst) (h x)) i (trees_of t) ∙ sym (watermarks-stand t room))
        ∙ laid_same (4 * t.count) t.watermarks room

  -- L0 rows
  module _ (h : (x : Tree) → (f x).l0 ≡ x.l0) where
    pub l0-ids-stay : after.l0_ids ≡ t.l0_ids
    unfolding lay_trees
    l0-ids-stay =
        let room : 4 * l0_used t ≤ length t.l0_ids = omega (arith, within.l0, lent.l0_ids) in
        ap (λ (r : List ℕ). laid (4 * l0_used t) r t.l0_ids) (ap (concat_map l0_words) (changed-keeps (λ (x : Tree). x.l0) f h i (trees_of t)) ∙ sym (l0-ids-stand t room))
        ∙ laid_same (4 * l0_used t) t.l0_ids room

    pub l0-sizes-stay : after.l0_sizes ≡ t.l0_sizes
    unfolding lay_trees
    l0-sizes-stay =
        let room : l0_used t ≤ length t.l0_sizes = omega (arith, within.l0, lent.l0_sizes) in
        ap (λ (r : List ℕ). laid (l0_used t) r t.l0_sizes) (ap (map (λ (v : L0Row). v.size)) (changed-keeps (λ (x : Tree). x.l0) f h i (trees_of t)) ∙ sym (l0-sizes-stand t room))
        ∙ laid_same (l0_used t) t.l0_sizes room

  -- runs
  module _ (h : (x : Tree) → (f x).runs ≡ x.runs) where
    pub run-ids-stay : after.run_ids ≡ t.run_ids
    unfolding lay_trees
    run-ids-stay =
        let room : runs_used t ≤ length t.run_ids = omega (arith, within.runs, lent.run_ids) in
        ap (λ (r : List ℕ). laid (runs_used t) r t.run_ids) (ap (map (λ (v : Run). v.id)) (changed-keeps (λ (x : Tree). x.runs) f h i (trees_of t)) ∙ sym (run-ids-stand t room))
        ∙ laid_same (runs_used t) t.run_ids room

    pub run-sizes-stay : after.run_sizes ≡ t.run_sizes
    unfolding lay_trees
    run-sizes-stay =
        let room : runs_used t ≤ length t.run_sizes = omega (arith, within.runs, lent.run_sizes) in
        ap (λ (r : List ℕ). laid (runs_used t) r t.run_sizes) (ap (map (λ (v : Run). v.size)) (changed-keeps (λ (x : Tree). x.runs) f h i (trees_of t)) ∙ sym (run-sizes-stand t room))
        ∙ laid_same (runs_used t) t.run_sizes room

  -- ---- the whole table is the changed one, where the change leaves alone what is not taken from it

  -- after keep_rows
  pub whole-rows : ((x : Tree) → (f x).watermark ≡ x.watermark) → with_rows t after ≡ after
  whole-rows h = lent-eq (sym count-stays) refl (sym (marks_stay h)) (sym (watermarks-stay h)) refl refl refl refl

  -- after put_run
  pub whole-runs : ((x : Tree) → (f x).watermark ≡ x.watermark) → ((x : Tree) → (f x).l0 ≡ x.l0) → with_runs t after ≡ after
  whole-runs h g = lent-eq (sym count-stays) refl (sym (marks_stay h)) (sym (watermarks-stay h)) (sym (l0-ids-stay g)) (sym (l0-sizes-stay g)) refl refl

  -- after set_watermark
  pub whole-watermarks : ((x : Tree) → (f x).prefix ≡ x.prefix) → ((x : Tree) → (f x).l0 ≡ x.l0) → ((x : Tree) → (f x).runs ≡ x.runs) → with_watermarks t after ≡ after
  whole-watermarks p g h =
      lent-eq (sym count-stays)
      (sym (trees-stay (λ x. λ j. p x j ∷ length (g x j) ∷ length (h x j) ∷ [])))
      refl
      refl
      (sym (l0-ids-stay g))
      (sym (l0-sizes-stay g))
      (sym (run-ids-stay h))
      (sym (run-sizes-stay h))
