-- What finish and drain answer, by what is found: refused, the segment missing, or a tree that changes.
use Prim.Native.Nat.{ℕ, zero, suc, ◌+◌, ◌*◌, ◌≤◌, ◌<◌}
use mathlib.Core.Path.{◌≡◌, refl, sym, ap, ap₂, subst, ◌∙◌}
use mathlib.Core.List.{List, ◌∷◌, append-nil}
use mathlib.Core.Bool.{Bool, true, false, cond, ◌||◌, not}
use mathlib.Core.Option.{Option, some, none}
use native.Mathlib.Omega.{arith}
use lib.Dec.{leb}
use lib.ListN.{length, get_or, take, drop, set, length-append, take-append-drop}
use borrow.Author.Tests.{eq-eqb, ne_eqb, leb-false}
use Rattle.rules.specs.Answers.FinishAnswer.{Committed, SegmentMissing}
use Rattle.rules.specs.Lists.{keep, total, ◌given◌else◌}
use Rattle.rules.specs.declared.tables.Ulid.{Ulid}
use Rattle.rules.specs.declared.tables.Run.{Run}
use Rattle.rules.specs.declared.tables.Watermark.{Watermark}
use Rattle.rules.specs.declared.tables.SourceId.{SourceId}
use Rattle.rules.specs.Tables.{same_ulid, L0Row, Tree, Job, id_of, among, view_id, run_id}
use Rattle.rules.specs.Lent.{LentTrees, LentJobs, rows_from, l0_at, watermark_at, l0_count, run_count, source_count, source_at, tree_at, trees_of, jobs_of, runs_used, l0_used, sources_used, lay_trees}
use Rattle.rules.specs.Bounds.{max_runs, good_jobs, trees_outside, jobs_outside, trees_misshapen, jobs_misshapen, trees_refusal, jobs_refusal}
use Rattle.rules.specs.Validation.{tree_with, is_empty}
use Rattle.rules.specs.Jobs.{job_with}
use Rattle.rules.specs.Finish.{named, runs_left, output_place, finish_mark, drain_mark, finish_tree, drain_tree, in_tree, misplaced, too_many_runs, finish_tree_refusal, finish_job_refusal, finish_refusal, drain_job_refusal, drain_refusal}
use Rattle.rules.specs.Calls.{marks_at, finished_in, finished_for, finish_by, finish_call, drain_call}
use Rattle.rules.proofs.Records.{tree-eq}
use Rattle.rules.proofs.Rows.{map-rows_from}
use Rattle.rules.proofs.Packed.{length-trees_of, tree_is, job_is}
use Rattle.rules.proofs.Lookups.{found-has}
use Rattle.rules.proofs.Bounds.{TreesGood, JobsGood, trees-good, jobs-good}
use Rattle.rules.proofs.Finishing.{keep_append, output-put}
use Rattle.rows.specs.Movers.{marked}
use Rattle.rows.specs.Read.{Stands, Entries}
use Rattle.tree_rows.specs.Change.{changed_at, keep_rows, put_run, put_watermark}
use Rattle.tree_rows.proofs.Changes.{in-tree, changed-same}
use Rattle.std.specs.Prelude.{Result}
use Rattle.std.specs.declared.option.Option.TheVariants.{None, Some}
use Rattle.std.specs.declared.result.Result.TheVariants.{Ok, Err}
use Rattle.rules.specs.declared.answers.Refusal.{Refusal}
use Rattle.rules.specs.declared.answers.Refusal.TheVariants.{RunsOutOfOrder, TableFull}
use Rattle.rules.specs.Answers.{number_of}
use Rattle.rules.proofs.Refused.{numbered}
use Rattle.finishing.specs.declared.work.Work.{Work}
use Rattle.rows.specs.Refusals.{tables_refusal}
use Rattle.finishing.specs.Finding.{NoWork, JobFound, TreeFound, TreeOrNone, WorkFound, job_in, names_in}
use Rattle.finishing.specs.Placing.{clash_in, old_place, place_in}
use Rattle.finishing.specs.Flagging.{TreeRoom, JobRoom, row_stays, run_stays, Flags}
use Rattle.compactor_finish.specs.Finishes.{refused_with, Refuses, Finds, WorkCase, SegmentGone, Commits, Drains}
use Rattle.compactor_finish.proofs.Statuses.{status-laid}
use Rattle.compactor_finish.proofs.Staying.{prefixes-once, gone_runs, misplaced-is, too-many-is, stay-count, place-count}
use Rattle.finishing.proofs.Pasting.{names_of}

-- ---- refusals 1 and 2

module _ (t : LentTrees) (j : LentJobs) where
  -- both tables are good
  pub tables-ok : tables_refusal t j ≡ 0 → (trees_refusal t ≡ 0) × (jobs_refusal j ≡ 0)
  unfolding tables_refusal trees_refusal jobs_refusal
  tables-ok h = go (trees_outside t) (jobs_outside j) (trees_misshapen t) (jobs_misshapen j) h
    where
      go : (a b c d : Bool) → (1 given a || b else 2 given c || d else 0) ≡ 0 → ((1 given a else 2 given c else 0) ≡ 0) × ((1 given b else 2 given d else 0) ≡ 0)
      go true b c d h = absurd (omega arith)
      go false true c d h = absurd (omega arith)
      go false false true d h = absurd (omega arith)
      go false false false true h = absurd (omega arith)
      go false false false false h = (refl, refl)

  -- or the answer is their refusal
  tables-by : (later : ℕ) (f : Job → Tree → Tree) (u : Ulid) (v : ℕ) → v ≡ tables_refusal t j → (v ≡ 0 → ⊥)
      → finish_by (1 given trees_outside t || jobs_outside j else 2 given trees_misshapen t || jobs_misshapen j else later) f u t j ≡ refused_with v t j
  unfolding tables_refusal
  tables-by later f u v e n = go (trees_outside t || jobs_outside j) (trees_misshapen t || jobs_misshapen j) e
    where
      go : (a b : Bool) → v ≡ (1 given a else 2 given b else 0) → finish_by (1 given a else 2 given b else later) f u t j ≡ refused_with v t j
      go true b e = ap (λ (m : ℕ). refused_with m t j) (sym e)
      go false true e = ap (λ (m : ℕ). refused_with m t j) (sym e)
      go false false e = absurd (n e)

  pub finish-tables : (u : Ulid) (out : Run) (v : ℕ) → v ≡ tables_refusal t j → (v ≡ 0 → ⊥) → finish_call t j u out ≡ refused_with v t j
  unfolding finish_call finish_refusal
  finish-tables u out v e n = tables-by (finish_job_refusal out (trees_of t) (job_with u (jobs_of j))) (λ x. finish_tree x out) u v e n

  pub drain-tables : (u : Ulid) (v : ℕ) → v ≡ tables_refusal t j → (v ≡ 0 → ⊥) → drain_call t j u ≡ refused_with v t j
  unfolding drain_call drain_refusal
  drain-tables u v e n = tables-by (drain_job_refusal (job_with u (jobs_of j))) drain_tree u v e n

-- ---- tables that are good

not-empty : (f : ℕ → SourceId) (i n : ℕ) → (n ≡ 0 → ⊥) → is_empty (rows_from f i n) ≡ false
unfolding rows_from
not-empty f i zero h = absurd (h refl)
not-empty f i (suc n) h = refl

module _ (t : LentTrees) (j : LentJobs) (u : Ulid) (tg : trees_refusal t ≡ 0) (jg : jobs_refusal j ≡ 0) where
  T : TreesGood t
  T = trees-good t tg

  J : JobsGood j
  J = jobs-good j jg

  finish-own : (out : Run) → finish_refusal t j u out ≡ finish_job_refusal out (trees_of t) (job_with u (jobs_of j))
  unfolding finish_refusal
  finish-own out = rw (T.inside, J.inside, T.shapely, J.shapely)

  drain-own : drain_refusal t j u ≡ drain_job_refusal (job_with u (jobs_of j))
  unfolding drain_refusal
  drain-own = rw (T.inside, J.inside, T.shapely, J.shapely)

  by-refused : (f : Job → Tree → Tree) (n : ℕ) → (n ≡ 0 → ⊥) → finish_by n f u t j ≡ refused_with n t j
  by-refused f zero h = absurd (h refl)
  by-refused f (suc n) h = refl

  -- 11, 12, 7
  pub finish-no-work : (out : Run) (n : ℕ) → NoWork t j u 0 n → finish_call t j u out ≡ refused_with n t j
  unfolding finish_call
  finish-no-work out n w = ap (λ (m : ℕ). finish_by m (λ x. finish_tree x out) u t j) (finish-own out ∙ w.finish refl out) ∙ by-refused (λ x. finish_tree x out) n w.refused

  pub drain-no-work : (n : ℕ) → NoWork t j u 1 n → drain_call t j u ≡ refused_with n t j
  unfolding drain_call
  drain-no-work n w = ap (λ (m : ℕ). finish_by m drain_tree u t j) (drain-own ∙ w.drain refl) ∙ by-refused drain_tree n w.refused

  -- ---- the job is found
  module _ {kind job : ℕ} (F : JobFound j u kind job) where
    abbrev X : Job
    X = job_in j job

    marks-room : 2 * job < length j.job_marks
    marks-room = omega (arith, F.place, J.within.jobs, J.lent.job_marks)

    status : (n : ℕ) → marks_at n u j ≡ set j.job_marks (2 * job) n
    status n =
        status-laid j u n job X J.rules (omega (arith, J.within.jobs, J.lent.job_marks)) F.place
        (ap (λ (y : Job). same_ulid y.id u) (job_is j job X F.place) ∙ found-has (λ (y : Job). same_ulid y.id u) (jobs_of j) X F.job)

    gone-by : (f : Job → Tree → Tree) → tree_with X.prefix (trees_of t) ≡ none → finish_by 0 f u t j ≡ record { answer = SegmentMissing; trees = t; job_marks = set j.job_marks (2 * job) 5 }
    gone-by f m =
        ap (finished_for f u t j) F.job
        ∙ ap (finished_in (f X) u t j) m
        ∙ ap (λ (s : List ℕ). record { answer = SegmentMissing; trees = t; job_marks = s }) (status 5)

    changed-by : (f : Job → Tree → Tree) (tree : ℕ) → TreeFound t X.prefix tree → finish_by 0 f u t j ≡ record { answer = Committed; trees = lay_trees t (changed_at tree (f X) (trees_of t)); job_marks = set j.job_marks (2 * job) 4 }
    changed-by f tree G =
        let x = tree_at t tree (total (rows_from (l0_count t) 0 tree)) (total (rows_from (run_count t) 0 tree)) in
        let here : in_tree x.prefix (f X) (trees_of t) ≡ changed_at tree (f X) (trees_of t) =
        ap (λ (y : Tree). in_tree y.prefix (f X) (trees_of t)) (sym (tree_is t tree x G.place)) ∙ in-tree tree (f X) (trees_of t) x (omega (arith, G.place, length-trees_of t)) (prefixes-once (trees_of t) T.rules) in
        ap (finished_for f u t j) F.job
        ∙ ap (finished_in (f X) u t j) G.tree
        ∙ ap₂ (λ (us : List Tree) (s : List ℕ). record { answer = Committed; trees = lay_trees t us; job_marks = s }) here (status 4)

  -- ---- finish
  module _ {job : ℕ} (F : JobFound j u 0 job) (out : Run) where
    tiered : (x : Option Tree) → tree_with (job_in j job).prefix (trees_of t) ≡ x → finish_refusal t j u out ≡ finish_tree_refusal (job_in j job) out (trees_of t) x
    unfolding finish_job_refusal
    tiered x e =
        finish-own out
        ∙ ap (finish_job_refusal out (trees_of t)) F.job
        ∙ rw (ne_eqb (get_or j.job_marks (2 * job + 1) 0) 1 (λ o. omega (arith, F.kind)), sourced, e)
      where
        sourced : is_empty (named (job_in j job)) ≡ false
        sourced = ap is_empty (map-rows_from id_of (source_at j.source_marks j.source_runs j.source_views) (total (rows_from (source_count j) 0 job)) (source_count j job)) ∙ not-empty (λ k. id_of (source_at j.source_marks j.source_runs j.source_views k)) (total (rows_from (source_count j) 0 job)) (source_count j job) (F.sources refl)

    pub finish-missing : tree_with (job_in j job).prefix (trees_of t) ≡ none → SegmentGone (finish_call t j u out) t j job
    unfolding finish_call finish_tree_refusal
    finish-missing m = record {
      room = marks-room F;
      is = ap (λ (n : ℕ). finish_by n (λ x. finish_tree x out) u t j) (tiered none m) ∙ gone-by F (λ x. finish_tree x out) m;
    }

    -- the tree is found, and its flags are made
    module _ {tree : ℕ} (G : TreeFound t (job_in j job).prefix tree) {l0_kept runs_kept : List ℕ} (flags : Flags t j 0 job tree l0_kept runs_kept) {l c r m : ℕ} (at : Stands t.trees t.count tree l c r m) {used : ℕ} (all : used ≡ runs_used t) {place : Result ℕ Refusal} (is : place ≡ place_in t.run_ids used r m runs_kept out.id) where
      abbrev x : Tree
      x = tree_at t tree (total (rows_from (l0_count t) 0 tree)) (total (rows_from (run_count t) 0 tree))

      same : get_or (trees_of t) tree x ≡ x
      same = tree_is t tree x G.place

      have : runs_used t ≤ length runs_kept
      have = omega (arith, flags.runs_long, T.within.runs)

      abbrev clash : Bool
      clash = clash_in t.run_ids (runs_used t) runs_kept out.id

      abbrev full : Bool
      full = leb max_runs (length (keep marked (take (runs_used t) runs_kept)))

      number : finish_refusal t j u out ≡ (13 given clash else 14 given full else 0)
      unfolding finish_tree_refusal
      number =
          tiered (some x) G.tree
          ∙ ap (λ (y : Tree). 13 given misplaced (job_in j job) out (trees_of t) y else 14 given too_many_runs (job_in j job) out (trees_of t) y else 0) (sym same)
          ∙ ap₂ (λ (a b : Bool). 13 given a else 14 given b else 0)
          (misplaced-is t tree G.place T.rules x (job_in j job) out runs_kept flags.runs have)
          (too-many-is t tree G.place T.rules x (job_in j job) out runs_kept flags.runs have)

      abbrev spot : ℕ
      spot = length (keep marked (take (old_place t.run_ids r m out.id) (drop r runs_kept)))

      placed : place ≡ cond clash (Err RunsOutOfOrder) (cond full (Err TableFull) (Ok (r + spot)))
      unfolding place_in
      placed = is ∙ rw all

      pub finish-refused : (n : Refusal) → place ≡ Err n → finish_call t j u out ≡ refused_with (number_of n) t j
      unfolding finish_call
      finish-refused n e = ap (λ (v : ℕ). finish_by v (λ x. finish_tree x out) u t j) number ∙ go clash full (sym placed ∙ e)
        where
          go : (a b : Bool) → cond a (Err RunsOutOfOrder) (cond b (Err TableFull) (Ok (r + spot))) ≡ Err n → finish_by (13 given a else 14 given b else 0) (λ x. finish_tree x out) u t j ≡ refused_with (number_of n) t j
          go true b h = let k : RunsOutOfOrder ≡ n = cc in ap (λ (v : Refusal). refused_with (number_of v) t j) k
          go false true h = let k : TableFull ≡ n = cc in ap (λ (v : Refusal). refused_with (number_of v) t j) k
          go false false h = let z : ◌≡◌ {A = ℕ} 0 1 = cc in absurd (omega arith)

      module _ (a : ℕ) (e : place ≡ Ok a) where
        open-place : (clash ≡ false) × (full ≡ false) × (a ≡ r + spot)
        open-place = go clash full (sym placed ∙ e)
          where
            go : (b c : Bool) → cond b (Err RunsOutOfOrder) (cond c (Err TableFull) (Ok (r + spot))) ≡ Ok a → (b ≡ false) × (c ≡ false) × (a ≡ r + spot)
            go true c h = let z : ◌≡◌ {A = ℕ} 0 1 = cc in absurd (omega arith)
            go false true h = let z : ◌≡◌ {A = ℕ} 0 1 = cc in absurd (omega arith)
            go false false h = let k : a ≡ r + spot = cc in (refl, refl, k)

        kept-runs : spot ≡ length (runs_left (gone_runs (job_in j job)) (take (output_place out x.runs) x.runs))
        kept-runs =
            place-count t tree G.place T.rules x (job_in j job) out runs_kept flags.runs have at
            ∙ ap (λ (y : Tree). length (runs_left (gone_runs (job_in j job)) (take (output_place out y.runs) y.runs))) same

        few : (y : Tree) → length (runs_left (gone_runs (job_in j job)) (take (output_place out y.runs) y.runs)) ≤ length (runs_left (gone_runs (job_in j job)) y.runs)
        few y =
            let n = output_place out y.runs in
            omega (
              arith,
              ap length (ap (runs_left (gone_runs (job_in j job))) (sym (take-append-drop n y.runs)) ∙ keep_append (λ r. not (among (run_id r) (gone_runs (job_in j job)))) (take n y.runs) (drop n y.runs)),
              length-append (runs_left (gone_runs (job_in j job)) (take n y.runs)) (runs_left (gone_runs (job_in j job)) (drop n y.runs)),
            )

        accepted : finish_refusal t j u out ≡ 0
        accepted = number ∙ ap₂ (λ (b c : Bool). 13 given b else 14 given c else 0) open-place.0 open-place.1

        pub finish-commits : (w : Watermark) → w ≡ finish_mark (named (job_in j job)) x → Commits (finish_call t j u out) t j out job tree a w l0_kept runs_kept
        unfolding finish_call finish_tree
        finish-commits w mark = record {
          p = row_stays j job;
          q = run_stays j 0 job;
          k = spot;
          good = tg;
          room = marks-room F;
          there = G.place;
          rows = flags.rows;
          runs = flags.runs;
          l0_long = flags.l0_long;
          runs_long = flags.runs_long;
          fits = omega (arith, leb-false max_runs (length (keep marked (take (runs_used t) runs_kept))) open-place.1, stay-count t tree G.place T.rules x (job_in j job) out runs_kept flags.runs have (row_stays j job));
          place = open-place.2 ∙ ap (λ (n : ℕ). n + spot) at.first_run;
          low = λ d. rw (tree_is t tree d G.place) (omega (arith, kept-runs, few x));
          is =
              ap (λ (n : ℕ). finish_by n (λ y. finish_tree y out) u t j) accepted
              ∙ changed-by F (λ y. finish_tree y out) tree G
              ∙ ap (λ (us : List Tree). record { answer = Committed; trees = lay_trees t us; job_marks = set j.job_marks (2 * job) 4 })
              (changed-same tree (finish_tree (job_in j job) out) (λ y. put_watermark w (put_run spot out (keep_rows (row_stays j job) (run_stays j 0 job) y))) (trees_of t) x
              (ap (finish_tree (job_in j job) out) same ∙ tree-eq refl (sym mark) refl (output-put out (gone_runs (job_in j job)) x.runs spot kept-runs) ∙ ap (λ (y : Tree). put_watermark w (put_run spot out (keep_rows (row_stays j job) (run_stays j 0 job) y))) (sym same)));
        }

  -- ---- drain
  module _ {job : ℕ} (F : JobFound j u 1 job) where
    drain-goes : drain_refusal t j u ≡ 0
    unfolding drain_job_refusal
    drain-goes = drain-own ∙ ap drain_job_refusal F.job ∙ rw (eq-eqb (get_or j.job_marks (2 * job + 1) 0) 1 F.kind)

    pub drain-missing : tree_with (job_in j job).prefix (trees_of t) ≡ none → SegmentGone (drain_call t j u) t j job
    unfolding drain_call
    drain-missing m = record {
      room = marks-room F;
      is = ap (λ (n : ℕ). finish_by n drain_tree u t j) drain-goes ∙ gone-by F drain_tree m;
    }

    pub drain-commits : {tree : ℕ} (G : TreeFound t (job_in j job).prefix tree) {l0_kept runs_kept : List ℕ} → Flags t j 1 job tree l0_kept runs_kept → (w : Watermark)
        → w ≡ drain_mark (keep (λ v. among (view_id v) (named (job_in j job))) (tree_at t tree (total (rows_from (l0_count t) 0 tree)) (total (rows_from (run_count t) 0 tree))).l0) (tree_at t tree (total (rows_from (l0_count t) 0 tree)) (total (rows_from (run_count t) 0 tree)))
        → Drains (drain_call t j u) t j job tree w l0_kept runs_kept
    unfolding drain_call drain_tree
    drain-commits {tree} G flags w mark =
        let y = tree_at t tree (total (rows_from (l0_count t) 0 tree)) (total (rows_from (run_count t) 0 tree)) in
        let here : get_or (trees_of t) tree y ≡ y = tree_is t tree y G.place in
        record {
          p = row_stays j job;
          q = run_stays j 1 job;
          good = tg;
          room = marks-room F;
          there = G.place;
          rows = flags.rows;
          runs = flags.runs;
          l0_long = flags.l0_long;
          runs_long = flags.runs_long;
          is =
              ap (λ (n : ℕ). finish_by n drain_tree u t j) drain-goes
              ∙ changed-by F drain_tree tree G
              ∙ ap (λ (us : List Tree). record { answer = Committed; trees = lay_trees t us; job_marks = set j.job_marks (2 * job) 4 })
              (changed-same tree (drain_tree (job_in j job)) (λ z. put_watermark w (keep_rows (row_stays j job) (run_stays j 1 job) z)) (trees_of t) y
              (ap (drain_tree (job_in j job)) here ∙ tree-eq refl (sym mark) refl (ap (λ (xs : List SourceId). runs_left xs y.runs) (sym (append-nil (named (job_in j job))))) ∙ ap (λ (z : Tree). put_watermark w (keep_rows (row_stays j job) (run_stays j 1 job) z)) (sym here)));
        }

-- the watermark of a finish, by the first source entry
pub mark-of : (j : LentJobs) (job s n : ℕ) → Entries j.job_specs j.count job s n → (source_count j job ≡ 0 → ⊥) → (x : Tree) (w : Watermark) {first : SourceId} → first ≡ id_of (source_at j.source_marks j.source_runs j.source_views s)
    → ((others : List SourceId) → w ≡ finish_mark (first ∷ others) x) → w ≡ finish_mark (named (job_in j job)) x
unfolding rows_from
mark-of j job s zero e h x w f says = absurd (h (sym e.count))
mark-of j job s (suc n) e h x w f says =
    let others = names_in j.source_marks j.source_runs j.source_views (s + 1) n in
    says others ∙ ap (λ (y : SourceId). finish_mark (y ∷ others) x) f ∙ ap (λ (xs : List SourceId). finish_mark xs x) (sym (names_of j job e))

-- the L0 rows of the tree, where they were found
pub own-rows : (t : LentTrees) (tree : ℕ) {l c r m : ℕ} → Stands t.trees t.count tree l c r m → rows_from (l0_at t) (total (rows_from (l0_count t) 0 tree)) (l0_count t tree) ≡ rows_from (l0_at t) l c
own-rows t tree at = ap₂ (λ (a b : ℕ). rows_from (l0_at t) a b) (sym at.first_row) (sym at.rows)

-- ---- what place_finish asks of the place

pub output-fit : {t : LentTrees} {tree : ℕ} → TreeRoom t tree → {l c r m : ℕ} → Stands t.trees t.count tree l c r m → {used flags : ℕ} → used ≡ runs_used t → flags ≡ max_runs
    → (used ≤ 512) × (used ≤ length t.run_ids) × (used ≤ flags) × (r + m ≤ used)
unfolding runs_used
output-fit room at e h = (omega (arith, room.runs), omega (arith, room.runs, room.run_ids), omega (arith, room.runs), omega (arith, at.runs_within))

-- ---- what is found

pub work-fit : (t : LentTrees) (j : LentJobs) → tables_refusal t j ≡ 0 → (3 * t.count ≤ length t.trees) × (2 * j.count ≤ length j.job_ids) × (2 * j.count ≤ length j.job_marks) × (3 * j.count ≤ length j.job_specs)
work-fit t j ok =
    let g = tables-ok t j ok in
    let T = trees-good t g.0 in
    let J = jobs-good j g.1 in
    (omega (arith, T.within.trees, T.lent.trees), omega (arith, J.within.jobs, J.lent.job_ids), omega (arith, J.within.jobs, J.lent.job_marks), omega (arith, J.within.jobs, J.lent.job_specs))

pub tree-room : (t : LentTrees) → trees_refusal t ≡ 0 → {tree : ℕ} → tree < t.count → TreeRoom t tree
unfolding l0_used runs_used
tree-room t g h =
    let T = trees-good t g in
    record { few = T.within.trees; tree = h; trees = T.lent.trees; l0_ids = T.lent.l0_ids; run_ids = T.lent.run_ids; l0 = T.within.l0; runs = T.within.runs }

pub job-room : (j : LentJobs) → jobs_refusal j ≡ 0 → {job : ℕ} → job < j.count → JobRoom j job
unfolding sources_used
job-room j g h =
    let J = jobs-good j g in
    record { few = J.within.jobs; job = h; job_specs = J.lent.job_specs; marks = J.lent.source_marks; runs = J.lent.source_runs; views = J.lent.source_views; sources = J.within.sources }

-- 1 or 2 of the tables
pub tables-refuse : (t : LentTrees) (j : LentJobs) (u : Ulid) (kind : ℕ) (r : Refusal) → number_of r ≡ tables_refusal t j → Refuses t j u kind (number_of r)
tables-refuse t j u kind r e = record { finish = λ k out. finish-tables t j u out (number_of r) e (numbered r); drain = λ k. drain-tables t j u (number_of r) e (numbered r) }

-- what find_work answers
pub work-case : (t : LentTrees) (j : LentJobs) (u : Ulid) (kind : ℕ) → tables_refusal t j ≡ 0 → (r : Result Work Refusal) → (good_jobs (jobs_of j) ≡ true → WorkFound t j u kind r) → WorkCase t j u kind r
work-case t j u kind ok (Err r) h =
    let g = tables-ok t j ok in
    let w = h (jobs-good j g.1).rules in
    record {
      finish = λ k out. finish-no-work t j u g.0 g.1 out (number_of r) (subst (λ (d : ℕ). NoWork t j u d (number_of r)) k w);
      drain = λ k. drain-no-work t j u g.0 g.1 (number_of r) (subst (λ (d : ℕ). NoWork t j u d (number_of r)) k w);
    }
work-case t j u kind ok (Ok w) h =
    let g = tables-ok t j ok in
    let f = h (jobs-good j g.1).rules in
    record { trees = g.0; jobs = g.1; job = f.0; tree = f.1 }

-- what is said of the tables as they are handed out is said of the lent ones
pub of-lent : (P : LentTrees → LentJobs → Type 0) {s t : LentTrees} {i j : LentJobs} → s ≡ t → i ≡ j → P s i → P t j
of-lent P {s} {t} {i} e f h = subst (P t) f (subst (λ (y : LentTrees). P y i) e h)

pub found : {s t : LentTrees} {i j : LentJobs} {u : Ulid} {kind : ℕ} {w : Work} → s ≡ t → i ≡ j → Finds s i u kind w → Finds t j u kind w
found {u = u} {kind = kind} {w = w} e f h = of-lent (λ s i. Finds s i u kind w) e f h

module _ {t : LentTrees} {j : LentJobs} {u : Ulid} {kind : ℕ} {w : Work} (f : Finds t j u kind w) where
  pub no-tree : w.tree ≡ None → tree_with (job_in j w.job).prefix (trees_of t) ≡ none
  no-tree e = subst (TreeOrNone t (job_in j w.job).prefix) e f.tree

  module _ {tree : ℕ} (e : w.tree ≡ Some tree) where
    pub the-tree : TreeFound t (job_in j w.job).prefix tree
    the-tree = subst (TreeOrNone t (job_in j w.job).prefix) e f.tree

    -- what place_finish and mark_drain ask for
    pub both-fit : {s : LentTrees} {i : LentJobs} → s ≡ t → i ≡ j → (TreeRoom s tree) × (JobRoom i w.job) × (length s.watermark_marks ≡ 64) × (length s.watermarks ≡ 128)
    both-fit {s} {i} a b =
        let l = (trees-good t f.trees).lent in
        (subst (λ (y : LentTrees). TreeRoom y tree) (sym a) (tree-room t f.trees the-tree.place), subst (λ (y : LentJobs). JobRoom y w.job) (sym b) (job-room j f.jobs f.job.place), ap (λ (y : LentTrees). length y.watermark_marks) a ∙ l.watermark_marks, ap (λ (y : LentTrees). length y.watermarks) a ∙ l.watermarks)

-- a job to be finished has sources
pub sourced : {t : LentTrees} {i j : LentJobs} {u : Ulid} {w : Work} → Finds t j u 0 w → i ≡ j → source_count i w.job ≡ 0 → ⊥
sourced {w = w} f b e = f.job.sources refl (ap (λ (y : LentJobs). source_count y w.job) (sym b) ∙ e)

-- what place_finish and mark_drain find
module _ {s t : LentTrees} {i j : LentJobs} (a : s ≡ t) (b : i ≡ j) {u : Ulid} {w : Work} {l0_kept runs_kept : List ℕ} where
  pub finish-found : Finds t j u 0 w → {tree : ℕ} → w.tree ≡ Some tree → {out : Run} {at : ℕ} {mark : Watermark}
      → ((v : Ulid) → trees_refusal s ≡ 0 → jobs_refusal i ≡ 0 → JobFound i v 0 w.job → TreeFound s (job_in i w.job).prefix tree → Commits (finish_call s i v out) s i out w.job tree at mark l0_kept runs_kept) → Commits (finish_call t j u out) t j out w.job tree at mark l0_kept runs_kept
  finish-found f {tree} e {out} {at} {mark} h =
      of-lent (λ s i. (v : Ulid) → trees_refusal s ≡ 0 → jobs_refusal i ≡ 0 → JobFound i v 0 w.job → TreeFound s (job_in i w.job).prefix tree → Commits (finish_call s i v out) s i out w.job tree at mark l0_kept runs_kept) a b h u f.trees f.jobs f.job (the-tree f e)

  pub drain-found : Finds t j u 1 w → {tree : ℕ} → w.tree ≡ Some tree → {mark : Watermark}
      → ((v : Ulid) → trees_refusal s ≡ 0 → jobs_refusal i ≡ 0 → JobFound i v 1 w.job → TreeFound s (job_in i w.job).prefix tree → Drains (drain_call s i v) s i w.job tree mark l0_kept runs_kept) → Drains (drain_call t j u) t j w.job tree mark l0_kept runs_kept
  drain-found f {tree} e {mark} h =
      of-lent (λ s i. (v : Ulid) → trees_refusal s ≡ 0 → jobs_refusal i ≡ 0 → JobFound i v 1 w.job → TreeFound s (job_in i w.job).prefix tree → Drains (drain_call s i v) s i w.job tree mark l0_kept runs_kept) a b h u f.trees f.jobs f.job (the-tree f e)

-- the watermark of a drain, by the flags of the tree's L0 rows
pub drained-mark : (t : LentTrees) (j : LentJobs) (job tree : ℕ) {l0_kept runs_kept : List ℕ} → Flags t j 1 job tree l0_kept runs_kept → {l c r m : ℕ} → Stands t.trees t.count tree l c r m → (w : Watermark)
    → ((x : Tree) (p : L0Row → Bool) → x.watermark ≡ watermark_at t tree → ((k : ℕ) → k < c → marked (get_or l0_kept (l + k) 0) ≡ not (p (l0_at t (l + k)))) → w ≡ drain_mark (keep p (rows_from (l0_at t) l c)) x)
    → w ≡ drain_mark (keep (λ v. among (view_id v) (named (job_in j job))) (tree_at t tree (total (rows_from (l0_count t) 0 tree)) (total (rows_from (run_count t) 0 tree))).l0) (tree_at t tree (total (rows_from (l0_count t) 0 tree)) (total (rows_from (run_count t) 0 tree)))
drained-mark t j job tree flags at w says =
    let x = tree_at t tree (total (rows_from (l0_count t) 0 tree)) (total (rows_from (run_count t) 0 tree)) in
    says x (λ v. among (view_id v) (named (job_in j job))) refl (λ k h. rw at.first_row (flags.own k (omega (arith, at.rows))))
    ∙ ap (λ (vs : List L0Row). drain_mark (keep (λ v. among (view_id v) (named (job_in j job))) vs) x) (sym (own-rows t tree at))
