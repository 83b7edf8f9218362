-- What finish and drain leave: the slices after each step, put together.
use Prim.Native.Nat.{ℕ, ◌+◌, ◌-◌, ◌*◌, ◌≤◌, ◌<◌}
use mathlib.Core.Path.{◌≡◌, refl, sym, ap, subst, ◌∙◌}
use mathlib.Core.List.{List}
use mathlib.Core.Bool.{Bool}
use native.Mathlib.Omega.{arith}
use lib.ListN.{length, get_or, set}
use Rattle.std.specs.declared.result.Result.TheVariants.{Ok, Err}
use Rattle.rules.specs.declared.answers.Refusal.{Refusal}
use Rattle.rules.specs.declared.answers.Finished.TheVariants.{Committed, SegmentMissing}
use Rattle.rules.specs.Answers.{number_of}
use Rattle.rules.specs.Answers.FinishAnswer.{Committed as Answered}
use Rattle.rules.specs.Lists.{keep}
use Rattle.rules.specs.declared.tables.Run.{Run}
use Rattle.rules.specs.declared.tables.Watermark.{Watermark}
use Rattle.rules.specs.Tables.{L0Row, Tree}
use Rattle.rules.specs.Lent.{LentTrees, LentJobs, tree_at, trees_of, lay_trees, l0_used, runs_used, l0_of, runs_of}
use Rattle.rules.specs.Bounds.{max_l0, max_runs}
use Rattle.rules.specs.Calls.{FinishResult}
use Rattle.rules.proofs.Packed.{length-trees_of, length-l0, length_runs}
use Rattle.rules.proofs.ReadBack.{trees-back}
use Rattle.rules.proofs.Bounds.{TreesWithin, TreesLent, TreesGood, trees-good}
use Rattle.tree_rows.specs.Change.{changed_at, keep_rows, put_run, put_watermark}
use Rattle.tree_rows.specs.Slices.{KeepRoom, PutRoom, runs_before}
use Rattle.tree_rows.specs.Table.{with_rows, with_runs, with_watermarks}
use Rattle.tree_rows.proofs.Changes.{length-changed, changed-keeps, changed-twice, changed-there}
use Rattle.tree_rows.proofs.Again.{laid-runs-used, changed-again}
use Rattle.tree_rows.proofs.Stays.{count-stays, whole-rows, whole-runs, whole-watermarks}
use Rattle.tree_rows.proofs.Room.{keep-room, put-room, laid-within, laid-lent, changed-fewer, keep-fewer, put-more, first-run-stays}
use Rattle.compactor_finish.specs.Ending.{with_marks}
use Rattle.compactor_finish.specs.Finishes.{refused_with, SegmentGone, Commits, Drains, Leaves}

module _ {x : FinishResult} {t : LentTrees} {j : LentJobs} where
  -- nothing has changed
  pub leaves-refused : (r : Refusal) → x ≡ refused_with (number_of r) t j → Leaves x j (Err r) t j
  leaves-refused r e = record { answer = sym (ap (λ (y : FinishResult). y.answer) e); trees = sym (ap (λ (y : FinishResult). y.trees) e); jobs = sym (ap (λ (y : FinishResult). with_marks y.job_marks j) e) }

  pub leaves-missing : {job : ℕ} → SegmentGone x t j job → {k : LentJobs} → k ≡ with_marks (set j.job_marks (2 * job) 5) j → Leaves x j (Ok SegmentMissing) t k
  leaves-missing g e = record {
    answer = sym (ap (λ (y : FinishResult). y.answer) g.is);
    trees = sym (ap (λ (y : FinishResult). y.trees) g.is);
    jobs = e ∙ sym (ap (λ (y : FinishResult). with_marks y.job_marks j) g.is);
  }

-- the table is the result's, and the status is 4
leaves-commit : {x : FinishResult} {j : LentJobs} {s us : LentTrees} {k : LentJobs} {n : List ℕ} → s ≡ us → k ≡ with_marks n j → x ≡ record { answer = Answered; trees = us; job_marks = n } → Leaves x j (Ok Committed) s k
leaves-commit {j = j} e f is = record {
  answer = sym (ap (λ (y : FinishResult). y.answer) is);
  trees = e ∙ sym (ap (λ (y : FinishResult). y.trees) is);
  jobs = f ∙ sym (ap (λ (y : FinishResult). with_marks y.job_marks j) is);
}

-- ---- rows taken out of tree i: the table then

module _ (t : LentTrees) (G : TreesGood t) (i : ℕ) (there : i < t.count) (p : L0Row → Bool) (q : Run → Bool) where
  abbrev kept : List Tree
  kept = changed_at i (keep_rows p q) (trees_of t)

  abbrev once : LentTrees
  once = lay_trees t kept

  counted : length kept ≡ t.count
  counted = length-changed i (keep_rows p q) (trees_of t) ∙ length-trees_of t

  fewer-l0 : length (l0_of kept) ≤ l0_used t
  fewer-l0 = omega (arith, changed-fewer (λ (y : Tree). y.l0) (keep_rows p q) (λ y. keep-fewer p y.l0) i (trees_of t), length-l0 t)

  fewer-runs : length (runs_of kept) ≤ runs_used t
  fewer-runs = omega (arith, changed-fewer (λ (y : Tree). y.runs) (keep_rows p q) (λ y. keep-fewer q y.runs) i (trees_of t), length_runs t)

  once-within : TreesWithin once
  once-within = laid-within t G.within G.lent kept counted (omega (arith, fewer-l0, G.within.l0)) (omega (arith, fewer-runs, G.within.runs))

  once-lent : TreesLent once
  once-lent = laid-lent t G.within G.lent kept counted (omega (arith, fewer-l0, G.within.l0)) (omega (arith, fewer-runs, G.within.runs))

  once-count : once.count ≡ t.count
  once-count = count-stays t G.within G.lent i (keep_rows p q)

  pub keep-asks : {l0_kept runs_kept : List ℕ} → length l0_kept ≡ max_l0 → length runs_kept ≡ max_runs → KeepRoom t i l0_kept runs_kept
  keep-asks a b = keep-room t G.within G.lent there (omega (arith, G.within.l0)) (omega (arith, G.within.runs))

  module _ {s : LentTrees} (K : s ≡ with_rows t once) where
    first : s ≡ once
    first = K ∙ whole-rows t G.within G.lent i (keep_rows p q) (λ y. refl)

    -- ---- a watermark set then: a drain
    module _ (w : Watermark) where
      pub drained-is : {v : LentTrees} → (i < s.count → s.count ≤ 32 → v ≡ with_watermarks s (lay_trees s (changed_at i (put_watermark w) (trees_of s)))) → v ≡ lay_trees t (changed_at i (λ y. put_watermark w (keep_rows p q y)) (trees_of t))
      drained-is M =
          let count : s.count ≡ t.count = ap (λ (y : LentTrees). y.count) first ∙ once-count in
          M (omega (arith, there)) (omega (arith, G.within.trees))
          ∙ ap (λ (y : LentTrees). with_watermarks y (lay_trees y (changed_at i (put_watermark w) (trees_of y)))) first
          ∙ whole-watermarks once once-within once-lent i (put_watermark w) (λ y. refl) (λ y. refl) (λ y. refl)
          ∙ changed-again t i (keep_rows p q) (put_watermark w) (omega (arith, fewer-l0)) (omega (arith, fewer-runs))

    -- ---- a run put in after k runs, where there is room for it
    module _ (k : ℕ) (out : Run) {at : ℕ} (place : at ≡ runs_before t.trees i + k) (low : (d : Tree) → k ≤ length (keep q (get_or (trees_of t) i d).runs)) (fits : length (runs_of kept) + 1 ≤ max_runs) (d : Tree) where
      start : runs_before once.trees i ≡ runs_before t.trees i
      start = first-run-stays t i (keep_rows p q) (omega arith)

      one_more : runs_used once + 1 ≤ max_runs
      one_more = omega (arith, laid-runs-used t kept)

      pub put-asks : PutRoom s i at
      put-asks = subst (λ (y : LentTrees). PutRoom y i at) (sym first) (put-room once once-within once-lent (omega (arith, there, once-count)) d k (omega (arith, start)) own one_more)
        where
          own : k ≤ length (get_or (trees_of once) i d).runs
          own = rw (trees-back t kept, changed-there i (keep_rows p q) (trees_of t) d (omega (arith, length-trees_of t))) (low d)

      abbrev twice : LentTrees
      twice = lay_trees once (changed_at i (put_run k out) (trees_of once))

      more : length (runs_of (changed_at i (put_run k out) (trees_of once))) ≡ runs_used once + 1
      more = put-more i k out (trees_of once) (omega (arith, length-trees_of once, once-count)) ∙ ap (λ (n : ℕ). n + 1) (length_runs once)

      same-l0 : length (l0_of (changed_at i (put_run k out) (trees_of once))) ≡ l0_used once
      same-l0 = ap length (changed-keeps (λ (y : Tree). y.l0) (put_run k out) (λ y. refl) i (trees_of once)) ∙ length-l0 once

      same_count : length (changed_at i (put_run k out) (trees_of once)) ≡ once.count
      same_count = length-changed i (put_run k out) (trees_of once) ∙ length-trees_of once

      twice-within : TreesWithin twice
      twice-within = laid-within once once-within once-lent (changed_at i (put_run k out) (trees_of once)) same_count (omega (arith, same-l0, once-within.l0)) (omega (arith, more, one_more))

      twice-lent : TreesLent twice
      twice-lent = laid-lent once once-within once-lent (changed_at i (put_run k out) (trees_of once)) same_count (omega (arith, same-l0, once-within.l0)) (omega (arith, more, one_more))

      -- both changes at once
      abbrev both : Tree → Tree
      both y = put_run k out (keep_rows p q y)

      both-l0 : l0_of (changed_at i both (trees_of t)) ≡ l0_of kept
      both-l0 = ap l0_of (sym (changed-twice i (keep_rows p q) (put_run k out) (trees_of t))) ∙ changed-keeps (λ (y : Tree). y.l0) (put_run k out) (λ y. refl) i kept

      twice-is : twice ≡ lay_trees t (changed_at i both (trees_of t))
      twice-is = changed-again t i (keep_rows p q) (put_run k out) (omega (arith, fewer-l0)) (omega (arith, fewer-runs))

      -- ---- and the watermark set: a finish
      module _ (w : Watermark) where
        pub finished-is : {v z : LentTrees} → v ≡ with_runs s (lay_trees s (changed_at i (put_run (at - runs_before s.trees i) out) (trees_of s)))
            → (i < v.count → v.count ≤ 32 → z ≡ with_watermarks v (lay_trees v (changed_at i (put_watermark w) (trees_of v)))) → z ≡ lay_trees t (changed_at i (λ y. put_watermark w (both y)) (trees_of t))
        finished-is {v} P M =
            let after : at - runs_before once.trees i ≡ k = omega (arith, start) in
            let second : v ≡ twice =
            P
            ∙ ap (λ (y : LentTrees). with_runs y (lay_trees y (changed_at i (put_run (at - runs_before y.trees i) out) (trees_of y)))) first
            ∙ ap (λ (n : ℕ). with_runs once (lay_trees once (changed_at i (put_run n out) (trees_of once)))) after
            ∙ whole-runs once once-within once-lent i (put_run k out) (λ y. refl) (λ y. refl) in
            let many : v.count ≡ t.count = ap (λ (y : LentTrees). y.count) second ∙ count-stays once once-within once-lent i (put_run k out) ∙ once-count in
            M (omega (arith, there)) (omega (arith, G.within.trees))
            ∙ ap (λ (y : LentTrees). with_watermarks y (lay_trees y (changed_at i (put_watermark w) (trees_of y)))) second
            ∙ whole-watermarks twice twice-within twice-lent i (put_watermark w) (λ y. refl) (λ y. refl) (λ y. refl)
            ∙ ap (λ (y : LentTrees). lay_trees y (changed_at i (put_watermark w) (trees_of y))) twice-is
            ∙ changed-again t i both (put_watermark w) (omega (arith, ap length both-l0, fewer-l0)) (omega (arith, ap length same_runs))
          where
            same_runs : runs_of (changed_at i (λ y. put_watermark w (both y)) (trees_of t)) ≡ runs_of (changed_at i both (trees_of t))
            same_runs = ap runs_of (sym (changed-twice i both (put_watermark w) (trees_of t))) ∙ changed-keeps (λ (y : Tree). y.runs) (put_watermark w) (λ y. refl) i (changed_at i both (trees_of t))

-- ---- as finish and drain meet them

module _ {x : FinishResult} {t : LentTrees} {j : LentJobs} {out : Run} {job tree at : ℕ} {w : Watermark} {l0_kept runs_kept : List ℕ} (C : Commits x t j out job tree at w l0_kept runs_kept) where
  abbrev G : TreesGood t
  G = trees-good t C.good

  pub finish-keep-asks : KeepRoom t tree l0_kept runs_kept
  finish-keep-asks = keep-asks t G tree C.there C.p C.q C.l0_long C.runs_long

  module _ {s : LentTrees} (K : s ≡ with_rows t (lay_trees t (changed_at tree (keep_rows C.p C.q) (trees_of t)))) where
    pub finish-put-asks : PutRoom s tree at
    finish-put-asks = put-asks t G tree C.there C.p C.q K C.k out C.place C.low C.fits (tree_at t 0 0 0)

    pub finish-watermark-asks : {v : LentTrees} → v ≡ with_runs s (lay_trees s (changed_at tree (put_run (at - runs_before s.trees tree) out) (trees_of s))) → (tree < 32) × (length v.watermark_marks ≡ 64) × (length v.watermarks ≡ 128)
    finish-watermark-asks P = (
      omega (arith, C.there, G.within.trees),
      ap (λ (y : LentTrees). length y.watermark_marks) P ∙ ap (λ (y : LentTrees). length y.watermark_marks) K ∙ G.lent.watermark_marks,
      ap (λ (y : LentTrees). length y.watermarks) P ∙ ap (λ (y : LentTrees). length y.watermarks) K ∙ G.lent.watermarks,
    )

    pub finish-leaves : {v z : LentTrees} → v ≡ with_runs s (lay_trees s (changed_at tree (put_run (at - runs_before s.trees tree) out) (trees_of s)))
        → (tree < v.count → v.count ≤ 32 → z ≡ with_watermarks v (lay_trees v (changed_at tree (put_watermark w) (trees_of v)))) → {k : LentJobs} → k ≡ with_marks (set j.job_marks (2 * job) 4) j → Leaves x j (Ok Committed) z k
    finish-leaves P M e = leaves-commit (finished-is t G tree C.there C.p C.q K C.k out C.place C.low C.fits (tree_at t 0 0 0) w P M) e C.is

module _ {x : FinishResult} {t : LentTrees} {j : LentJobs} {job tree : ℕ} {w : Watermark} {l0_kept runs_kept : List ℕ} (C : Drains x t j job tree w l0_kept runs_kept) where
  abbrev H : TreesGood t
  H = trees-good t C.good

  pub drain-keep-asks : KeepRoom t tree l0_kept runs_kept
  drain-keep-asks = keep-asks t H tree C.there C.p C.q C.l0_long C.runs_long

  pub drain-watermark-asks : {s : LentTrees} → s ≡ with_rows t (lay_trees t (changed_at tree (keep_rows C.p C.q) (trees_of t))) → (tree < 32) × (length s.watermark_marks ≡ 64) × (length s.watermarks ≡ 128)
  drain-watermark-asks K =
      (omega (arith, C.there, H.within.trees), ap (λ (y : LentTrees). length y.watermark_marks) K ∙ H.lent.watermark_marks, ap (λ (y : LentTrees). length y.watermarks) K ∙ H.lent.watermarks)

  pub drain-leaves : {s v : LentTrees} → s ≡ with_rows t (lay_trees t (changed_at tree (keep_rows C.p C.q) (trees_of t)))
      → (tree < s.count → s.count ≤ 32 → v ≡ with_watermarks s (lay_trees s (changed_at tree (put_watermark w) (trees_of s)))) → {k : LentJobs} → k ≡ with_marks (set j.job_marks (2 * job) 4) j → Leaves x j (Ok Committed) v k
  drain-leaves K M e = leaves-commit (drained-is t H tree C.there C.p C.q K w M) e C.is
