-- What set_watermark leaves in its two slices is laid by the trees with tree i's watermark replaced.
use Prim.Native.Nat.{ℕ, ◌+◌, ◌*◌, ◌≤◌, ◌<◌}
use mathlib.Core.Path.{◌≡◌, refl, sym, ap, ◌∙◌}
use mathlib.Core.List.{List}
use native.Mathlib.Omega.{arith}
use lib.ListN.{length, set}
use Rattle.rules.specs.declared.tables.Watermark.{Watermark}
use Rattle.rules.specs.Lent.{LentTrees, lent_trees, trees_of, tree_at, lay_trees, watermark_mark_words, watermark_words}
use Rattle.rules.proofs.Packed.{length-trees_of}
use Rattle.tree_rows.specs.Change.{changed_at, put_watermark}
use Rattle.tree_rows.specs.Table.{with_watermarks}
use Rattle.tree_rows.proofs.Again.{lent-eq}
use Rattle.tree_rows.proofs.Standing.{marks-stand, watermarks-stand}
use Rattle.tree_rows.proofs.OneRow.{apart, set-behind}

module _ (t : LentTrees) (i : ℕ) (there : i < t.count) (few : t.count ≤ 32) (w : Watermark) where
  abbrev after : LentTrees
  after = lay_trees t (changed_at i (put_watermark w) (trees_of t))

  pub marks-put : {s s' : List ℕ} → length s ≡ 64 → s ≡ t.watermark_marks → s' ≡ set (set s (2 * i) w.view_mark) (2 * i + 1) w.sst_mark → s' ≡ after.watermark_marks
  unfolding lay_trees
  marks-put {s} h e g =
      let a = apart watermark_mark_words 2 (λ x. refl) (trees_of t) t.count t.watermark_marks (sym (length-trees_of t)) (marks-stand t (omega (arith, ap length e))) i there (tree_at t 0 0 0) in
      g
      ∙ ap (λ (r : List ℕ). set (set r (2 * i) w.view_mark) (2 * i + 1) w.sst_mark) (e ∙ a.stood)
      ∙ ap (λ (r : List ℕ). set r (2 * i + 1) w.sst_mark) (set-behind a.before _ (2 * i) 0 w.view_mark (omega (arith, a.long)))
      ∙ set-behind a.before _ (2 * i + 1) 1 w.sst_mark (omega (arith, a.long))
      ∙ sym (a.changed (put_watermark w))

  pub watermarks-put : {s s' : List ℕ} → length s ≡ 128 → s ≡ t.watermarks
      → s' ≡ set (set (set (set s (4 * i) w.view.high) (4 * i + 1) w.view.low) (4 * i + 2) w.sst.high) (4 * i + 3) w.sst.low → s' ≡ after.watermarks
  unfolding lay_trees
  watermarks-put {s} h e g =
      let a = apart watermark_words 4 (λ x. refl) (trees_of t) t.count t.watermarks (sym (length-trees_of t)) (watermarks-stand t (omega (arith, ap length e))) i there (tree_at t 0 0 0) in
      g
      ∙ ap (λ (r : List ℕ). set (set (set (set r (4 * i) w.view.high) (4 * i + 1) w.view.low) (4 * i + 2) w.sst.high) (4 * i + 3) w.sst.low) (e ∙ a.stood)
      ∙ ap (λ (r : List ℕ). set (set (set r (4 * i + 1) w.view.low) (4 * i + 2) w.sst.high) (4 * i + 3) w.sst.low) (set-behind a.before _ (4 * i) 0 w.view.high (omega (arith, a.long)))
      ∙ ap (λ (r : List ℕ). set (set r (4 * i + 2) w.sst.high) (4 * i + 3) w.sst.low) (set-behind a.before _ (4 * i + 1) 1 w.view.low (omega (arith, a.long)))
      ∙ ap (λ (r : List ℕ). set r (4 * i + 3) w.sst.low) (set-behind a.before _ (4 * i + 2) 2 w.sst.high (omega (arith, a.long)))
      ∙ set-behind a.before _ (4 * i + 3) 3 w.sst.low (omega (arith, a.long))
      ∙ sym (a.changed (put_watermark w))

  -- the whole table
  pub watermark-table : {marks words : List ℕ} → length t.watermark_marks ≡ 64 → length t.watermarks ≡ 128 → marks ≡ set (set t.watermark_marks (2 * i) w.view_mark) (2 * i + 1) w.sst_mark
      → words ≡ set (set (set (set t.watermarks (4 * i) w.view.high) (4 * i + 1) w.view.low) (4 * i + 2) w.sst.high) (4 * i + 3) w.sst.low
      → lent_trees t.count t.trees marks words t.l0_ids t.l0_sizes t.run_ids t.run_sizes ≡ with_watermarks t after
  watermark-table a b c d = lent-eq refl refl (marks-put a refl c) (watermarks-put b refl d) refl refl refl refl
