-- The flags that flag_tree leaves, row by row.
use Prim.Native.Nat.{ℕ, ◌+◌, ◌-◌, ◌*◌, ◌≤◌, ◌<◌}
use mathlib.Core.Path.{◌≡◌, refl, sym, ap, ap₂, ◌∙◌}
use mathlib.Core.List.{List, ◌++◌}
use mathlib.Core.Bool.{Bool, true, false, not}
use native.Mathlib.Omega.{arith}
use lib.ListN.{length, get_or, take, drop, replicate, length-replicate, get_or-replicate, get_or-append}
use lib.Seq.{paste, length-paste, length_paste_head, length-take-le, get_or-append-add, get_or-take, get_or-drop}
use Rattle.rules.specs.Lists.{total}
use Rattle.rules.specs.declared.tables.SourceId.{SourceId}
use Rattle.rules.specs.declared.tables.SourceId.TheVariants.{SortedRun, SstView}
use Rattle.rules.specs.Tables.{id_of, among, view_id, run_id}
use Rattle.rules.specs.Lent.{LentTrees, LentJobs, rows_from, ulid_at, l0_at, run_at, source_at, source_count, l0_used, runs_used}
use Rattle.rules.specs.Bounds.{max_l0, max_runs}
use Rattle.rules.specs.Finish.{named}
use Rattle.rules.proofs.Rows.{length-rows_from, get_or-rows_from, map-rows_from}
use Rattle.rows.specs.Movers.{marked}
use Rattle.rows.specs.Read.{Stands, Entries}
use Rattle.rows.specs.InSlices.{jobs_in}
use Rattle.rows.specs.declared.jobs.Jobs.{Jobs}
use Rattle.rows.specs.declared.read.JobRows.{JobRows}
use Rattle.tree_rows.proofs.Flagged.{l0-flags, run-flags}
use Rattle.finishing.specs.Finding.{job_in, names_in, gone_with, flag_of, SourceRoom}
use Rattle.finishing.specs.Flagging.{TreeRoom, JobRoom, Unflagged, row_stays, run_stays, Flags}

-- ---- numbers written over a part of a list

module _ (l s : List ℕ) (a n : ℕ) (room : a + n ≤ length l) (have : n ≤ length s) where
  head : length (take a l ++ take n s) ≡ a + n
  head = length_paste_head l a s n (omega arith) have

  front : length (take a l) ≡ a
  front = length-take-le a l (omega arith)

  before : (k : ℕ) → k < a → get_or (paste l a s n) k 0 ≡ get_or l k 0
  before k h =
      get_or-append (take a l ++ take n s) (drop (a + n) l) 0 k (omega (arith, head))
      ∙ get_or-append (take a l) (take n s) 0 k (omega (arith, front))
      ∙ get_or-take a l k 0 h

  inside : (k : ℕ) → k < n → get_or (paste l a s n) (a + k) 0 ≡ get_or s k 0
  inside k h =
      get_or-append (take a l ++ take n s) (drop (a + n) l) 0 (a + k) (omega (arith, head))
      ∙ ap (λ (m : ℕ). get_or (take a l ++ take n s) (m + k) 0) (sym front)
      ∙ get_or-append-add (take a l) (take n s) k 0
      ∙ get_or-take n s k 0 h

  behind : (k : ℕ) → a + n ≤ k → get_or (paste l a s n) k 0 ≡ get_or l k 0
  behind k h =
      ap (λ (m : ℕ). get_or (paste l a s n) m 0) (omega (arith, head))
      ∙ get_or-append-add (take a l ++ take n s) (drop (a + n) l) (k - (a + n)) 0
      ∙ get_or-drop (a + n) l (k - (a + n)) 0
      ∙ ap (λ (m : ℕ). get_or l m 0) (omega arith)

-- ---- flags

says-not : (b : Bool) → marked (flag_of b) ≡ not b
says-not true = refl
says-not false = refl

-- flags of 1, over which those of n rows from row a on are written
module _ (m : ℕ) (goes : ℕ → Bool) (a n : ℕ) (room : a + n ≤ m) {flags kept : List ℕ} (ones : flags ≡ replicate m 1) (made : kept ≡ paste flags a (rows_from (λ k. flag_of (goes k)) a n) n) where
  abbrev S : List ℕ
  S = rows_from (λ k. flag_of (goes k)) a n

  within : a + n ≤ length flags
  within = omega (arith, ap length ones, length-replicate {A = ℕ} m 1)

  written : n ≤ length S
  written = omega (arith, length-rows_from (λ k. flag_of (goes k)) a n)

  one : (k : ℕ) → k < m → marked (get_or flags k 0) ≡ true
  one k h = ap (λ (r : List ℕ). marked (get_or r k 0)) ones ∙ ap marked (get_or-replicate m k 1 0 h)

  flags_long : length kept ≡ m
  flags_long = ap length made ∙ length-paste flags a S n within written ∙ ap length ones ∙ length-replicate {A = ℕ} m 1

  stay-before : (k : ℕ) → k < a → marked (get_or kept k 0) ≡ true
  stay-before k h = ap (λ (r : List ℕ). marked (get_or r k 0)) made ∙ ap marked (before flags S a n within written k h) ∙ one k (omega arith)

  stay-own : (k : ℕ) → k < n → marked (get_or kept (a + k) 0) ≡ not (goes (a + k))
  stay-own k h =
      ap (λ (r : List ℕ). marked (get_or r (a + k) 0)) made
      ∙ ap marked (inside flags S a n within written k h ∙ get_or-rows_from (λ k. flag_of (goes k)) a n k 0 h)
      ∙ says-not (goes (a + k))

  stay-behind : (k : ℕ) → a + n ≤ k → k < m → marked (get_or kept k 0) ≡ true
  stay-behind k h l = ap (λ (r : List ℕ). marked (get_or r k 0)) made ∙ ap marked (behind flags S a n within written k h) ∙ one k l

-- what the sources of job i name
pub names_of : (j : LentJobs) (i : ℕ) {s n : ℕ} → Entries j.job_specs j.count i s n → named (job_in j i) ≡ names_in j.source_marks j.source_runs j.source_views s n
names_of j i e =
    map-rows_from id_of (source_at j.source_marks j.source_runs j.source_views) (total (rows_from (source_count j) 0 i)) (source_count j i)
    ∙ ap₂ (λ (a b : ℕ). names_in j.source_marks j.source_runs j.source_views a b) (sym e.first) (sym e.count)

-- what flag_rows and flag_runs leave
module _ (t : LentTrees) (j : LentJobs) (drain job tree : ℕ) (room : TreeRoom t tree) {l0 runs : List ℕ} (ones : Unflagged l0 runs) {l c r d : ℕ} (at : Stands t.trees t.count tree l c r d) {s n : ℕ} (e : Entries j.job_specs j.count job s n) where
  abbrev names : List SourceId
  names = names_in j.source_marks j.source_runs j.source_views s n

  abbrev row_goes : ℕ → Bool
  row_goes k = among (SstView (ulid_at t.l0_ids (4 * k))) names

  -- the sources, and the destination of a tiered job
  module _ (gone : List SourceId) (which : gone ≡ gone_with drain (get_or j.job_specs (3 * job + 1) 0) names) where
    abbrev run_goes : ℕ → Bool
    run_goes k = among (SortedRun (get_or t.run_ids k 0)) gone

    pub flags-made : {l0_kept runs_kept : List ℕ} → l0_kept ≡ paste l0 l (rows_from (λ k. flag_of (row_goes k)) l c) c → runs_kept ≡ paste runs r (rows_from (λ k. flag_of (run_goes k)) r d) d → Flags t j drain job tree l0_kept runs_kept
    unfolding l0_used runs_used
    flags-made {l0_kept} {runs_kept} rows_made runs_made =
        let fit_rows : l + c ≤ max_l0 = omega (arith, at.rows_within, room.l0) in
        let fit_runs : r + d ≤ max_runs = omega (arith, at.runs_within, room.runs) in
        let long : length l0_kept ≡ max_l0 = flags_long max_l0 row_goes l c fit_rows ones.l0 rows_made in
        let runs_all : length runs_kept ≡ max_runs = flags_long max_runs run_goes r d fit_runs ones.runs runs_made in
        let mine : (k : ℕ) → k < c → marked (get_or l0_kept (l + k) 0) ≡ row_stays j job (l0_at t (l + k)) = λ k h. stay-own max_l0 row_goes l c fit_rows ones.l0 rows_made k h ∙ ap (λ (xs : List SourceId). not (among (view_id (l0_at t (l + k))) xs)) (sym (names_of j job e)) in
        record {
          rows = l0-flags t tree room.tree at l0_kept (row_stays j job) (omega (arith, long, room.l0))
              (stay-before max_l0 row_goes l c fit_rows ones.l0 rows_made) mine
              (λ k h g. stay-behind max_l0 row_goes l c fit_rows ones.l0 rows_made k h (omega (arith, room.l0)));
          runs = run-flags t tree room.tree at runs_kept (run_stays j drain job) (omega (arith, runs_all, room.runs))
              (stay-before max_runs run_goes r d fit_runs ones.runs runs_made)
              (λ k h. stay-own max_runs run_goes r d fit_runs ones.runs runs_made k h ∙ ap (λ (xs : List SourceId). not (among (run_id (run_at t (r + k))) xs)) (which ∙ ap (gone_with drain (job_in j job).destination) (sym (names_of j job e))))
              (λ k h g. stay-behind max_runs run_goes r d fit_runs ones.runs runs_made k h (omega (arith, room.runs)));
          own = λ k h. rw (← at.first_row) (mine k (omega (arith, at.rows)));
          l0_long = long;
          runs_long = runs_all;
        }

-- ---- what the calls of flag_tree ask for

pub sources-fit : (jobs : Jobs) {job : ℕ} → JobRoom (jobs_in jobs) job → {e : JobRows} → Entries jobs.specs.now jobs.count job e.first e.count → SourceRoom jobs.sources e
sources-fit jobs room e = record { marks = omega (arith, e.within, room.sources, room.marks); runs = omega (arith, e.within, room.sources, room.runs); views = omega (arith, e.within, room.sources, room.views) }

module _ {t : LentTrees} {tree : ℕ} (room : TreeRoom t tree) {l c r d : ℕ} (at : Stands t.trees t.count tree l c r d) {l0 runs : List ℕ} (ones : Unflagged l0 runs) where
  pub rows_fit : (4 * (l + c) ≤ length t.l0_ids) × (l + c ≤ length l0)
  rows_fit = (omega (arith, at.rows_within, room.l0, room.l0_ids), omega (arith, at.rows_within, room.l0, ap length ones.l0, length-replicate {A = ℕ} max_l0 1))

  pub runs_fit : (r + d ≤ length t.run_ids) × (r + d ≤ length runs)
  runs_fit = (omega (arith, at.runs_within, room.runs, room.run_ids), omega (arith, at.runs_within, room.runs, ap length ones.runs, length-replicate {A = ℕ} max_runs 1))
