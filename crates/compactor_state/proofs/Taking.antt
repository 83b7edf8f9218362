-- Taking the remote jobs that have a flag, one by one: what is there and what is left to take make the merged jobs.
use Prim.Native.Nat.{ℕ, zero, suc, ◌+◌, ◌-◌, ◌*◌, ◌≤◌, ◌<◌}
use mathlib.Core.Path.{◌≡◌, refl, sym, ap, ◌∙◌}
use mathlib.Core.List.{List, [], ◌∷◌, map}
use mathlib.Core.Bool.{Bool, true, false, cond, ◌&&◌, not, true≢false}
use native.Mathlib.Nat.{zero-add, sub-zero}
use native.Mathlib.Omega.{arith}
use lib.Dec.{ltb}
use lib.ListN.{length, get_or, take, drop, length-drop}
use lib.Seq.{get_or-take, get_or-drop, length-take-le}
use borrow.Author.Tests.{not-true, ltb-false}
use Rattle.rules.specs.Lists.{any, keep}
use Rattle.rules.specs.declared.tables.Ulid.{Ulid}
use Rattle.rules.specs.Tables.{same_ulid, Job}
use Rattle.rules.specs.Lent.{LentJobs, rows_from, ulid_at, source_at, source_count, sources_used, job_at, jobs_from, jobs_of, sources_of, lay_jobs}
use Rattle.rules.specs.Bounds.{max_jobs, max_sources}
use Rattle.rules.specs.Validation.{lent_sources}
use Rattle.rules.specs.Jobs.{LentJob, job_of, inserted, merged, too_many}
use Rattle.rules.proofs.Lookups.{and_left, and_right, or_left, or_right}
use Rattle.rules.proofs.Records.{job-eq, source-eq, ulid-eq}
use Rattle.rules.proofs.Rows.{rows_from-same, length-rows_from}
use Rattle.rules.proofs.Packed.{length-jobs_of, length-sources}
use Rattle.rules.proofs.ReadBack.{jobs-back}
use Rattle.rules.proofs.Inserting.{has_id, length_inserted, entries-inserted}
use Rattle.rows.specs.Movers.{marked}
use Rattle.rows.proofs.Sums.{Summed, sum-starts, sum-next}
use Rattle.rows.proofs.Lift.{marks-say}
use Rattle.merging.specs.Merge.{adopted, stays, inserted_all, all_new, Flags}
use Rattle.merging.proofs.Merged.{Takes, merged-takes, length-all, entries-all}
use Rattle.job_rows.specs.Slices.{AtCapacity, HasRoom, Inserts, Keeps}
use Rattle.job_rows.proofs.Again.{lay-again, lay-fits}
use Rattle.compactor_state.specs.Taking.{with_flag, CanTake, Took, CanTakeAll, TookAll, Ready}

-- ---- one remote job, its source entries lent as parts of the slices

pub part_length : (l : List ℕ) (s c : ℕ) → s + c ≤ length l → (e : ℕ) → e ≡ s + c → length (take (e - s) (drop s l)) ≡ c
part_length l s c m e h = length-take-le (e - s) (drop s l) (omega (arith, length-drop s l)) ∙ omega arith

module _ (marks runs views : List ℕ) (s c : ℕ) (m : s + c ≤ length marks) (r : s + c ≤ length runs) (v : 2 * (s + c) ≤ length views) where
  part-sources : (e f g : ℕ) → e ≡ s + c → f ≡ 2 * s → g ≡ 2 * e → lent_sources (take (e - s) (drop s marks)) (take (e - s) (drop s runs)) (take (g - f) (drop f views)) ≡ rows_from (source_at marks runs views) s c
  part-sources e f g h k l =
      ap (rows_from (source_at (take (e - s) (drop s marks)) (take (e - s) (drop s runs)) (take (g - f) (drop f views))) 0) (part_length marks s c m e h)
      ∙ rows_from-same (source_at (take (e - s) (drop s marks)) (take (e - s) (drop s runs)) (take (g - f) (drop f views))) (source_at marks runs views) 0 s c
      (λ i lt.
      rw (zero-add i)
      (source-eq
      (get_or-take (e - s) (drop s marks) i 0 (omega arith) ∙ get_or-drop s marks i 0)
      (get_or-take (e - s) (drop s runs) i 0 (omega arith) ∙ get_or-drop s runs i 0)
      (ulid-eq
      (get_or-take (g - f) (drop f views) (2 * i) 0 (omega arith) ∙ get_or-drop f views (2 * i) 0 ∙ ap (λ (n : ℕ). get_or views n 0) (omega arith))
      (get_or-take (g - f) (drop f views) (2 * i + 1) 0 (omega arith) ∙ get_or-drop f views (2 * i + 1) 0 ∙ ap (λ (n : ℕ). get_or views n 0) (omega arith)))))

-- a job without a flag is left
pub took_none : {l r : LentJobs} {flags : List ℕ} {i at : ℕ} → get_or flags i 0 ≡ 0 → Took l r flags i at l
took_none {l} {r} {flags} {i} {at} e = record { left = λ no. refl; put = λ has. absurd (true≢false (sym has ∙ ap marked e)) }

has-flag : (n : ℕ) → (n ≡ 0 → ⊥) → marked n ≡ true
has-flag zero h = absurd (h refl)
has-flag (suc n) h = refl

module _ (l r : LentJobs) {flags : List ℕ} {i at e f g : ℕ} (can : CanTake l r flags i at) (flag : get_or flags i 0 ≡ 0 → ⊥) (he : e ≡ at + source_count r i) (hf : f ≡ 2 * at) (hg : g ≡ 2 * e) where
  abbrev marks : List ℕ
  marks = take (e - at) (drop at r.source_marks)

  abbrev runs : List ℕ
  runs = take (e - at) (drop at r.source_runs)

  abbrev views : List ℕ
  views = take (g - f) (drop f r.source_views)

  marks-in : at + source_count r i ≤ length r.source_marks
  marks-in = omega (arith, can.entries, can.there.source_marks)

  runs-in : at + source_count r i ≤ length r.source_runs
  runs-in = omega (arith, can.entries, can.there.source_runs)

  views-in : 2 * (at + source_count r i) ≤ length r.source_views
  views-in = omega (arith, can.entries, can.there.source_views)

  -- the job that is put in: remote job i, lent by itself
  module _ {id : Ulid} (v : id ≡ ulid_at r.job_ids (2 * i)) where
    abbrev part : LentJob
    part = record {
      id = id;
      status = get_or r.job_marks (2 * i) 0;
      drain = get_or r.job_marks (2 * i + 1) 0;
      prefix = get_or r.job_specs (3 * i) 0;
      destination = get_or r.job_specs (3 * i + 1) 0;
      marks = marks;
      runs = runs;
      views = views;
    }

    -- there is room for it
    pub part_room : HasRoom l part
    part_room =
        let m : length marks ≡ source_count r i = part_length r.source_marks at (source_count r i) marks-in e he in
        record {
          capacity = can.here;
          job_fits = can.job_fits (has-flag (get_or flags i 0) flag);
          entries_fit = omega (arith, can.entries_fit (has-flag (get_or flags i 0) flag));
          runs_agree = part_length r.source_runs at (source_count r i) runs-in e he ∙ sym m;
          views_agree = length-take-le (g - f) (drop f r.source_views) (omega (arith, views-in, length-drop f r.source_views)) ∙ omega arith;
        }

    -- it is put at its place
    pub part-put : {k : LentJobs} → Inserts l part k → Took l r flags i at k
    unfolding job_of
    part-put p = record {
      left = λ no. absurd (true≢false (sym (has-flag (get_or flags i 0) flag) ∙ no));
      put = λ has new.
          let same : job_of part ≡ job_at r i at = job-eq v refl refl refl refl (part-sources r.source_marks r.source_runs r.source_views at (source_count r i) marks-in runs-in views-in e f g he hf hg) in
          p.placed (ap (λ (u : Ulid). any (λ y. same_ulid y.id u) (jobs_of l)) v ∙ new)
          ∙ ap (λ (j : Job). lay_jobs l (inserted j (jobs_of l))) same;
    }

-- ---- all of them

-- the flags' p keeps what the flags keep
flags-from : (p : Job → Bool) (flags : List ℕ) (d : Job) (i : ℕ) (js : List Job) → ((k : ℕ) → k < length js → marked (get_or flags (i + k) 0) ≡ p (get_or js k d)) → with_flag flags i js ≡ keep p js
unfolding with_flag keep
flags-from p flags d i [] h = refl
flags-from p flags d i (j ∷ js) h =
    let here : marked (get_or flags i 0) ≡ p j = ap (λ (n : ℕ). marked (get_or flags n 0)) (omega arith) ∙ h 0 (omega arith) in
    rw (here, flags-from p flags d (i + 1) js (λ k l. ap (λ (n : ℕ). marked (get_or flags n 0)) (omega arith) ∙ h (suc k) (omega arith)))

pub flags-keep : {p : Job → Bool} {flags : List ℕ} (js : List Job) (d : Job) → Flags p js flags → with_flag flags 0 js ≡ keep p js
flags-keep {p} {flags} js d f = flags-from p flags d 0 js (λ k h. ap (λ (n : ℕ). marked (get_or flags n 0)) (zero-add k) ∙ f.says d k h)

-- table `now` after the first i remote jobs, of table l
pub record TakingFrom (l r : LentJobs) (flags : List ℕ) (i at : ℕ) (now : LentJobs) : Type 0 where
  pub up_to : i ≤ r.count
  pub sum : Summed (source_count r) r.count at i
  pub room : AtCapacity now
  pub rest : inserted_all (jobs_of now) (with_flag flags i (jobs_from r i at (r.count - i))) ≡ inserted_all (jobs_of l) (with_flag flags 0 (jobs_of r))
  pub new : all_new (jobs_of now) (with_flag flags i (jobs_from r i at (r.count - i))) ≡ true
  pub laid : (base : LentJobs) → l ≡ lay_jobs base (jobs_of l) → now ≡ lay_jobs base (jobs_of now)

module _ {l r : LentJobs} {flags : List ℕ} (can : CanTakeAll l r flags) where
  pub taking-starts : TakingFrom l r flags 0 0 l
  unfolding jobs_of
  taking-starts = record {
    up_to = omega arith;
    sum = sum-starts (source_count r) r.count;
    room = can.here;
    rest = rw sub-zero;
    new = rw sub-zero can.new;
    laid = λ base e. e;
  }

  module _ {i at : ℕ} {now : LentJobs} (t : TakingFrom l r flags i at now) (h : i < r.count) where
    abbrev later : List Job
    later = with_flag flags (i + 1) (jobs_from r (i + 1) (at + source_count r i) (r.count - (i + 1)))

    -- what is left to take, from job i on
    next : with_flag flags i (jobs_from r i at (r.count - i)) ≡ cond (marked (get_or flags i 0)) (job_at r i at ∷ later) later
    unfolding with_flag jobs_from
    next =
        let more : r.count - i ≡ suc (r.count - (i + 1)) = omega arith in
        rw more

    -- job i is taken
    module _ (has : marked (get_or flags i 0) ≡ true) where
      all_left : with_flag flags i (jobs_from r i at (r.count - i)) ≡ job_at r i at ∷ later
      all_left = next ∙ rw has

      new-left : not (has_id (job_at r i at).id (jobs_of now)) && all_new (inserted (job_at r i at) (jobs_of now)) later ≡ true
      unfolding all_new
      new-left = rw all_left at t.new

      pub is-new : has_id (job_at r i at).id (jobs_of now) ≡ false
      is-new = not-true (has_id (job_at r i at).id (jobs_of now)) (and_left (not (has_id (job_at r i at).id (jobs_of now))) (all_new (inserted (job_at r i at) (jobs_of now)) later) new-left)

      new-later : all_new (inserted (job_at r i at) (jobs_of now)) later ≡ true
      new-later = and_right (not (has_id (job_at r i at).id (jobs_of now))) (all_new (inserted (job_at r i at) (jobs_of now)) later) new-left

      rest-later : inserted_all (inserted (job_at r i at) (jobs_of now)) later ≡ inserted_all (jobs_of l) (with_flag flags 0 (jobs_of r))
      unfolding inserted_all
      rest-later = rw all_left at t.rest

      -- there is room for it
      jobs-fit : length (inserted (job_at r i at) (jobs_of now)) ≤ max_jobs
      jobs-fit = omega (arith, can.jobs_fit, ap length rest-later, length-all (inserted (job_at r i at) (jobs_of now)) later new-later)

      entries_fit_lem : length (sources_of (inserted (job_at r i at) (jobs_of now))) ≤ max_sources
      entries_fit_lem = omega (arith, can.entries_fit, ap (λ (js : List Job). length (sources_of js)) rest-later, entries-all (inserted (job_at r i at) (jobs_of now)) later new-later)

    -- what taking job i asks
    pub can-take : CanTake now r flags i at
    unfolding sources_used
    can-take = record {
      here = t.room;
      there = can.there;
      job = h;
      entries = omega (arith, can.there.sources, sum-next (source_count r) r.count at i (source_count r i) h refl t.sum);
      job_fits = λ has. omega (arith, jobs-fit has, length_inserted (job_at r i at) (jobs_of now) (is-new has), length-jobs_of now);
      entries_fit = λ has. omega (arith, entries_fit_lem has, entries-inserted (job_at r i at) (jobs_of now) (is-new has), length-sources now, length-rows_from (source_at r.source_marks r.source_runs r.source_views) at (source_count r i));
    }

    pub taking-next : {c : ℕ} {k : LentJobs} → Took now r flags i at k → c ≡ source_count r i → TakingFrom l r flags (i + 1) (at + c) k
    taking-next {c} {k} took e = rw e (go (marked (get_or flags i 0)) refl)
      where
        up_to : i + 1 ≤ r.count
        up_to = omega arith

        sum : Summed (source_count r) r.count (at + source_count r i) (i + 1)
        sum = sum-next (source_count r) r.count at i (source_count r i) h refl t.sum

        go : (b : Bool) → marked (get_or flags i 0) ≡ b → TakingFrom l r flags (i + 1) (at + source_count r i) k
        go false left_out =
            let same : k ≡ now = took.left left_out in
            let left : with_flag flags i (jobs_from r i at (r.count - i)) ≡ later = next ∙ rw left_out in
            record {
              up_to = up_to;
              sum = sum;
              room = rw same t.room;
              rest = rw (same, ← left) t.rest;
              new = rw (same, ← left) t.new;
              laid = λ base b. rw same (t.laid base b);
            }
        go true has =
            let put : k ≡ lay_jobs now (inserted (job_at r i at) (jobs_of now)) = took.put has (is-new has) in
            let jobs : jobs_of k ≡ inserted (job_at r i at) (jobs_of now) = ap jobs_of put ∙ jobs-back now (inserted (job_at r i at) (jobs_of now)) in
            record {
              up_to = up_to;
              sum = sum;
              room = rw put (lay-fits now (inserted (job_at r i at) (jobs_of now)) t.room (jobs-fit has) (entries_fit_lem has));
              rest = rw jobs (rest-later has);
              new = rw jobs (new-later has);
              laid = λ base b.
                  put
                  ∙ ap (λ (j : LentJobs). lay_jobs j (inserted (job_at r i at) (jobs_of now))) (t.laid base b)
                  ∙ lay-again base (jobs_of now) (inserted (job_at r i at) (jobs_of now))
                  (omega (arith, length_inserted (job_at r i at) (jobs_of now) (is-new has)))
                  (omega (arith, entries-inserted (job_at r i at) (jobs_of now) (is-new has)))
                  ∙ ap (lay_jobs base) (sym jobs);
            }

  pub taking-ends : {i at : ℕ} {now : LentJobs} → TakingFrom l r flags i at now → r.count ≤ i → TookAll l r flags now
  unfolding with_flag jobs_from inserted_all
  taking-ends {i} {at} t h = record {
    laid = λ base b.
        let none : r.count - i ≡ 0 = omega arith in
        t.laid base b ∙ ap (lay_jobs base) (rw none at t.rest);
  }

-- ---- the whole change

module _ {l r : LentJobs} {taken staying : List ℕ} (ready : Ready l r taken staying) where
  abbrev stayers : List Job
  stayers = keep (stays (adopted (jobs_of l)) (jobs_of r)) (jobs_of l)

  -- what the flags of the staying jobs say, as keep_jobs asks it
  pub staying-says : map marked (take l.count staying) ≡ map (stays (adopted (jobs_of l)) (jobs_of r)) (jobs_of l)
  staying-says =
      marks-say (stays (adopted (jobs_of l)) (jobs_of r)) (job_at l 0 0) l.count (jobs_of l) staying (sym (length-jobs_of l)) (omega (arith, ready.here.jobs, ready.keeps.room))
      (λ i h. ready.keeps.says (job_at l 0 0) i (omega (arith, length-jobs_of l)))

  takes : Takes (merged (jobs_of l) (jobs_of r)) stayers (with_flag taken 0 (jobs_of r))
  takes = rw (flags-keep (jobs_of r) (job_at r 0 0) ready.takes) (merged-takes (jobs_of l) (jobs_of r) ready.rises ready.rises_there)

  jobs-within : length (merged (jobs_of l) (jobs_of r)) ≤ max_jobs
  unfolding too_many
  jobs-within = ltb-false max_jobs (length (merged (jobs_of l) (jobs_of r))) (or_left (ltb max_jobs (length (merged (jobs_of l) (jobs_of r)))) (ltb max_sources (length (sources_of (merged (jobs_of l) (jobs_of r))))) ready.fits)

  entries-within : length (sources_of (merged (jobs_of l) (jobs_of r))) ≤ max_sources
  unfolding too_many
  entries-within = ltb-false max_sources (length (sources_of (merged (jobs_of l) (jobs_of r)))) (or_right (ltb max_jobs (length (merged (jobs_of l) (jobs_of r)))) (ltb max_sources (length (sources_of (merged (jobs_of l) (jobs_of r))))) ready.fits)

  module _ {k : LentJobs} (kept : Keeps l staying k) where
    kept-is : k ≡ lay_jobs l stayers
    kept-is = kept.kept (stays (adopted (jobs_of l)) (jobs_of r)) staying-says

    kept-jobs : jobs_of k ≡ stayers
    kept-jobs = ap jobs_of kept-is ∙ jobs-back l stayers

    pub can-take-all : CanTakeAll k r taken
    can-take-all = record {
      here = rw kept-is (lay-fits l stayers ready.here (omega (arith, jobs-within, ap length takes.result, length-all stayers (with_flag taken 0 (jobs_of r)) takes.new)) (omega (arith, entries-within, ap (λ (js : List Job). length (sources_of js)) takes.result, entries-all stayers (with_flag taken 0 (jobs_of r)) takes.new)));
      there = ready.there;
      new = rw kept-jobs takes.new;
      jobs_fit = rw (kept-jobs, takes.result) jobs-within;
      entries_fit = rw (kept-jobs, takes.result) entries-within;
    }

    pub merge-laid : {n : LentJobs} → TookAll k r taken n → n ≡ lay_jobs l (merged (jobs_of l) (jobs_of r))
    merge-laid t = t.laid l (kept-is ∙ ap (lay_jobs l) (sym kept-jobs)) ∙ ap (lay_jobs l) (ap (λ (js : List Job). inserted_all js (with_flag taken 0 (jobs_of r))) kept-jobs ∙ takes.result)
