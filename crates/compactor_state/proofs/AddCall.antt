-- Adding: its refusals in their order, and the table with the job at its place.
use Prim.Native.Nat.{ℕ, suc, ◌+◌, ◌*◌, ◌≤◌, ◌<◌}
use mathlib.Core.Path.{◌≡◌, refl, sym, ap, ap₂, ◌∙◌, fun_ext}
use mathlib.Core.List.{List}
use mathlib.Core.Bool.{Bool, true, false, cond, ◌&&◌, ◌||◌, not, true≢false, not-not}
use native.Mathlib.Omega.{arith}
use borrow.Author.Tests.{not-true, not-false, ltb-false, lt-ltb, eqb-true, le-leb, lt-leb}
use lib.Dec.{ltb, eqb}
use lib.ListN.{length, get_or}
use Rattle.std.specs.declared.result.Result.TheVariants.{Ok, Err}
use Rattle.rules.specs.declared.answers.Refusal.{Refusal}
use Rattle.rules.specs.Answers.{number_of}
use Rattle.rules.specs.Lists.{any, all, keep, total, ◌given◌else◌}
use Rattle.rules.specs.declared.tables.Ulid.{Ulid}
use Rattle.rules.specs.Tables.{same_ulid, Job}
use Rattle.rules.specs.Lent.{LentJobs, rows_from, ulid_at, source_at, jobs_of, sources_of, lay_jobs}
use Rattle.rules.specs.Bounds.{max_jobs, max_sources, jobs_outside, jobs_misshapen, jobs_refusal, lengths_agree, good_sources, good_job, good_jobs}
use Rattle.rules.specs.Validation.{lent_sources}
use Rattle.rules.specs.Jobs.{LentJob, job_of, job_misshapen, clashes, inserted, too_many, add_refusal}
use Rattle.rules.specs.Calls.{add_call}
use Rattle.rules.proofs.Rows.{length-rows_from}
use Rattle.rules.proofs.Packed.{length-jobs_of, job_is}
use Rattle.rules.proofs.ReadBack.{jobs-back}
use Rattle.rules.proofs.Lookups.{and_left, and_right}
use Rattle.rules.proofs.Bounds.{JobsGood, jobs-good}
use Rattle.rules.proofs.Inserting.{rising, has_id, keep_all, none_kept, keep-inserted, length_inserted, entries-inserted}
use Rattle.rows.specs.Movers.{marked}
use Rattle.rows.proofs.Lift.{marks-say}
use Rattle.merging.specs.Merge.{Flags}
use Rattle.merging.proofs.Flagged.{jobs-flagged, entries-flagged}
use Rattle.job_rows.specs.Slices.{AtCapacity, HasRoom, Keeps, Inserts}
use Rattle.job_rows.proofs.Fitting.{good-capacity}
use Rattle.job_rows.proofs.Again.{lay-again, lay-fits, sources-laid}
use Rattle.compactor_state.specs.AddCall.{refused_first, refused_full}
use Rattle.compactor_state.specs.Answers.{Answers}
use Rattle.compactor_state.proofs.Answered.{call-refused, call-done}

-- ---- refusals 1, 2 and 10

and_none : (a b : Bool) → b ≡ false → false ≡ a && b
and_none true b h = sym h
and_none false b h = refl

-- more entries than there are places, whatever else is in use
pub full_beyond : (flags specs : List ℕ) (count n : ℕ) → max_sources < n → 14 ≡ refused_full flags specs count n
full_beyond flags specs count n h =
    let entries = total (rows_from (λ k. cond (marked (get_or flags k 0)) (get_or specs (3 * k + 2) 0) 0) 0 count) in
    go (ltb max_jobs (total (rows_from (λ k. cond (marked (get_or flags k 0)) 1 0) 0 count) + 1)) (ltb max_sources (entries + n)) (lt-ltb max_sources (entries + n) (omega arith))
  where
    go : (a b : Bool) → b ≡ true → 14 ≡ (14 given a || b else 0)
    go true b e = refl
    go false true e = refl
    go false false e = absurd (true≢false (sym e))

-- "status above 5 or a mark above 1, a job to be added .. included"
module _ (x : LentJob) where
  pub status-bad : 5 < x.status → false ≡ not (job_misshapen x)
  unfolding job_misshapen good_job job_of
  status-bad h =
      let own : good_job (job_of x) ≡ false = rw (lt-leb x.status 5 h) in
      and_none (lengths_agree x.marks x.runs x.views) (good_job (job_of x)) own ∙ sym (not-not (lengths_agree x.marks x.runs x.views && good_job (job_of x)))

  pub drain-bad : x.status ≤ 5 → 1 < x.drain → false ≡ not (job_misshapen x)
  unfolding job_misshapen good_job job_of
  drain-bad h l =
      let own : good_job (job_of x) ≡ false = rw (le-leb x.status 5 h, lt-leb x.drain 1 l) in
      and_none (lengths_agree x.marks x.runs x.views) (good_job (job_of x)) own ∙ sym (not-not (lengths_agree x.marks x.runs x.views && good_job (job_of x)))

  pub sources-tell : {b : Bool} → x.status ≤ 5 → x.drain ≤ 1 → b ≡ lengths_agree x.marks x.runs x.views && good_sources (lent_sources x.marks x.runs x.views) → b ≡ not (job_misshapen x)
  unfolding job_misshapen good_job job_of
  sources-tell h l e =
      let own : good_job (job_of x) ≡ good_sources (lent_sources x.marks x.runs x.views) = rw (le-leb x.status 5 h, le-leb x.drain 1 l) in
      e ∙ ap (λ (b : Bool). lengths_agree x.marks x.runs x.views && b) (sym own) ∙ sym (not-not (lengths_agree x.marks x.runs x.views && good_job (job_of x)))

-- what the code's test of a job says
pub told-bad : {b c : Bool} → b ≡ not c → not b ≡ true → c ≡ true
told-bad {b} {c} e h = sym (not-not c) ∙ ap not (sym e) ∙ h

pub told-good : {b c : Bool} → b ≡ not c → not b ≡ false → c ≡ false
told-good {b} {c} e h = sym (not-not c) ∙ ap not (sym e) ∙ h

module _ (t : LentJobs) (x : LentJob) where
  -- the table is refused by itself
  pub table-refused : {r : ℕ} → r ≡ jobs_refusal t → (r ≡ 0 → ⊥) → r ≡ refused_first t x
  unfolding jobs_refusal refused_first
  table-refused {r} e h = go (jobs_outside t) (jobs_misshapen t) e
    where
      go : (a b : Bool) → r ≡ (1 given a else 2 given b else 0) → r ≡ (1 given a else 2 given b || job_misshapen x else 10 given clashes (job_of x) (jobs_of t) else 0)
      go true b f = f
      go false true f = f
      go false false f = absurd (h f)

  -- it is not
  module _ {r : ℕ} (e : r ≡ jobs_refusal t) (z : r ≡ 0) where
    good : JobsGood t
    good = jobs-good t (sym e ∙ z)

    pub job-refused : job_misshapen x ≡ true → 2 ≡ refused_first t x
    unfolding refused_first
    job-refused h = rw (good.inside, good.shapely, h)

    pub clash-refused : job_misshapen x ≡ false → clashes (job_of x) (jobs_of t) ≡ true → 10 ≡ refused_first t x
    unfolding refused_first
    clash-refused h c = rw (good.inside, good.shapely, h, c)

    pub none-refused : job_misshapen x ≡ false → clashes (job_of x) (jobs_of t) ≡ false → 0 ≡ refused_first t x
    unfolding refused_first
    none-refused h c = rw (good.inside, good.shapely, h, c)

    pub clash-rows : (2 * t.count ≤ length t.job_marks) × (3 * t.count ≤ length t.job_specs)
    clash-rows = omega (arith, good.within.jobs, good.lent.job_marks, good.lent.job_specs)

  -- what is refused first is the refusal
  pub first-refusal : {r : ℕ} → r ≡ refused_first t x → (r ≡ 0 → ⊥) → add_refusal t x ≡ r
  unfolding refused_first add_refusal
  first-refusal {r} e h = go (jobs_outside t) (jobs_misshapen t || job_misshapen x) (clashes (job_of x) (jobs_of t)) e
    where
      go : (a b c : Bool) → r ≡ (1 given a else 2 given b else 10 given c else 0) → (1 given a else 2 given b else 10 given c else 14 given too_many (inserted (job_of x) (jobs_of t)) else 0) ≡ r
      go true b c f = sym f
      go false true c f = sym f
      go false false true f = sym f
      go false false false f = absurd (h f)

  -- what is known where nothing of that is refused
  record First : Type 0 where
    table : JobsGood t
    own : job_misshapen x ≡ false
    left : add_refusal t x ≡ (14 given too_many (inserted (job_of x) (jobs_of t)) else 0)

  first-passed : 0 ≡ refused_first t x → First
  unfolding refused_first add_refusal jobs_refusal
  first-passed e = go (jobs_outside t) (jobs_misshapen t) (job_misshapen x) (clashes (job_of x) (jobs_of t)) refl refl refl refl (sym e)
    where
      go : (a b c d : Bool) → jobs_outside t ≡ a → jobs_misshapen t ≡ b → job_misshapen x ≡ c → clashes (job_of x) (jobs_of t) ≡ d → (1 given a else 2 given b || c else 10 given d else 0) ≡ 0 → First
      go true b c d ea eb ec ed f = absurd (omega arith)
      go false true c d ea eb ec ed f = absurd (omega arith)
      go false false true d ea eb ec ed f = absurd (omega arith)
      go false false false true ea eb ec ed f = absurd (omega arith)
      go false false false false ea eb ec ed f = record { table = jobs-good t (rw (ea, eb)); own = ec; left = rw (ea, eb, ec, ed) }

-- ---- the jobs of other ids

abbrev pub others : Ulid → Job → Bool
others u k = not (same_ulid k.id u)

-- what is read of job i's id
pub other-row : (j : LentJobs) (i : ℕ) (u : Ulid) {v : Ulid} {b : Bool} → i < j.count → v ≡ ulid_at j.job_ids (2 * i) → b ≡ not (same_ulid v u) → (d : Job) → b ≡ others u (get_or (jobs_of j) i d)
other-row j i u h e b d = b ∙ ap (λ (w : Ulid). not (same_ulid w u)) (e ∙ sym (ap (λ (x : Job). x.id) (job_is j i d h)))

module _ (t : LentJobs) (x : LentJob) (passed : 0 ≡ refused_first t x) where
  first : First t x
  first = first-passed t x passed

  pub first-capacity : AtCapacity t
  first-capacity = good-capacity first.table

  rises : rising (jobs_of t) ≡ true
  unfolding good_jobs
  rises = and_left (rising (jobs_of t)) (all good_job (jobs_of t)) first.table.rules

  abbrev rest : List Job
  rest = keep (others x.id) (jobs_of t)

  -- the job goes in where the one of its id goes out
  absent : has_id x.id rest ≡ false
  absent = none_kept (λ k. same_ulid k.id x.id) (others x.id) (jobs_of t) (λ k h. not-true (same_ulid k.id x.id) h)

  replaced : inserted (job_of x) (jobs_of t) ≡ inserted (job_of x) rest
  unfolding job_of
  replaced =
      sym (keep_all (λ k. true) (inserted (job_of x) (jobs_of t)) (λ k. refl))
      ∙ keep-inserted (job_of x) (λ k. true) refl (jobs_of t) rises
      ∙ ap (λ (p : Job → Bool). inserted (job_of x) (keep p (jobs_of t))) (fun_ext (λ k. and-true (not (same_ulid k.id x.id))))
    where
      and-true : (b : Bool) → b && true ≡ b
      and-true true = refl
      and-true false = refl

  entries : length (job_of x).sources ≡ length x.marks
  unfolding job_of
  entries = length-rows_from (source_at x.marks x.runs x.views) 0 (length x.marks)

  length-after : length (inserted (job_of x) rest) ≡ suc (length rest)
  unfolding job_of
  length-after = length_inserted (job_of x) rest absent

  entries-after : length (sources_of (inserted (job_of x) rest)) ≡ length x.marks + length (sources_of rest)
  unfolding job_of
  entries-after = entries-inserted (job_of x) rest absent ∙ ap (λ (n : ℕ). n + length (sources_of rest)) entries

  jobs-after : length (inserted (job_of x) (jobs_of t)) ≡ length rest + 1
  jobs-after = ap length replaced ∙ omega (arith, length-after)

  more_after : length (sources_of (inserted (job_of x) (jobs_of t))) ≡ length (sources_of rest) + length x.marks
  more_after = ap (λ (js : List Job). length (sources_of js)) replaced ∙ omega (arith, entries-after)

  -- where the flags of the jobs of other ids are set: refusal 14 by the sums over them
  pub add-full : {staying : List ℕ} {full : ℕ} → Flags (others x.id) (jobs_of t) staying → full ≡ refused_full staying t.job_specs t.count (length x.marks) → full ≡ add_refusal t x
  unfolding too_many
  add-full flags f = f ∙ rw (jobs-flagged t flags, entries-flagged t flags) (sym (first.left ∙ rw (jobs-after, more_after)))

-- the call is not refused, and the flags of the jobs of other ids are set
module _ (t : LentJobs) (x : LentJob) (none : 0 ≡ add_refusal t x) where
  passed : 0 ≡ refused_first t x
  unfolding refused_first add_refusal
  passed = go (jobs_outside t) (jobs_misshapen t || job_misshapen x) (clashes (job_of x) (jobs_of t)) none
    where
      go : (a b c : Bool) → 0 ≡ (1 given a else 2 given b else 10 given c else 14 given too_many (inserted (job_of x) (jobs_of t)) else 0) → 0 ≡ (1 given a else 2 given b else 10 given c else 0)
      go true b c f = f
      go false true c f = f
      go false false true f = f
      go false false false f = refl

  pub add-capacity : AtCapacity t
  add-capacity = first-capacity t x passed

  module _ {staying : List ℕ} (flags : Flags (others x.id) (jobs_of t) staying) where
    pub add-flags : t.count ≤ length staying
    add-flags = omega (arith, flags.room, add-capacity.jobs)

    fits : (length (rest t x passed) + 1 ≤ max_jobs) × (length (sources_of (rest t x passed)) + length x.marks ≤ max_sources)
    unfolding too_many
    fits = go (ltb max_jobs (length (rest t x passed) + 1)) (ltb max_sources (length (sources_of (rest t x passed)) + length x.marks)) refl refl (none ∙ (first t x passed).left ∙ rw (jobs-after t x passed, more_after t x passed))
      where
        go : (a b : Bool) → ltb max_jobs (length (rest t x passed) + 1) ≡ a → ltb max_sources (length (sources_of (rest t x passed)) + length x.marks) ≡ b → 0 ≡ (14 given a || b else 0) → (length (rest t x passed) + 1 ≤ max_jobs) × (length (sources_of (rest t x passed)) + length x.marks ≤ max_sources)
        go true b p q h = absurd (omega arith)
        go false true p q h = absurd (omega arith)
        go false false p q h = (ltb-false max_jobs (length (rest t x passed) + 1) p, ltb-false max_sources (length (sources_of (rest t x passed)) + length x.marks) q)

    module _ {k : LentJobs} (kept : Keeps t staying k) where
      dropped : k ≡ lay_jobs t (rest t x passed)
      dropped = kept.kept (others x.id) (marks-say (others x.id) (job_of x) t.count (jobs_of t) staying (sym (length-jobs_of t)) add-flags (λ i h. flags.says (job_of x) i (omega (arith, length-jobs_of t))))

      lengths : (length x.runs ≡ length x.marks) × (length x.views ≡ 2 * length x.marks)
      unfolding job_misshapen
      lengths =
          let whole : lengths_agree x.marks x.runs x.views && good_job (job_of x) ≡ true = not-false _ (first t x passed).own in
          let agree : lengths_agree x.marks x.runs x.views ≡ true = and_left (lengths_agree x.marks x.runs x.views) (good_job (job_of x)) whole in
          (eqb-true _ _ (and_left (eqb (length x.runs) (length x.marks)) (eqb (length x.views) (2 * length x.marks)) agree), eqb-true _ _ (and_right (eqb (length x.runs) (length x.marks)) (eqb (length x.views) (2 * length x.marks)) agree))

      pub add-room : HasRoom k x
      unfolding lay_jobs
      add-room = rw dropped
          record {
            capacity = lay-fits t (rest t x passed) add-capacity (omega (arith, fits)) (omega (arith, fits));
            job_fits = fits.0;
            entries_fit = omega (arith, fits, sources-laid t (rest t x passed));
            runs_agree = lengths.0;
            views_agree = lengths.1;
          }

      pub add_done : {A : Type 0} {a : A} {k' : LentJobs} → Inserts k x k' → Answers {A = A} (add_call t x) (Ok a) k'
      unfolding add_call
      add_done {k' = k'} put =
          let back : jobs_of k ≡ rest t x passed = ap jobs_of dropped ∙ jobs-back t (rest t x passed) in
          let there : any (λ y. same_ulid y.id x.id) (jobs_of k) ≡ false = ap (has_id x.id) back ∙ absent t x passed in
          let placed : k' ≡ lay_jobs k (inserted (job_of x) (jobs_of k)) = put.placed there in
          let laid : k' ≡ lay_jobs t (inserted (job_of x) (jobs_of t)) =
          placed
          ∙ ap₂ (λ (j : LentJobs) (js : List Job). lay_jobs j (inserted (job_of x) js)) dropped back
          ∙ lay-again t (rest t x passed) (inserted (job_of x) (rest t x passed)) (omega (arith, length-after t x passed)) (omega (arith, entries-after t x passed))
          ∙ ap (lay_jobs t) (sym (replaced t x passed)) in
          call-done (inserted (job_of x) (jobs_of t)) t k' (sym none) laid

pub add-refused : {A : Type 0} (t : LentJobs) (x : LentJob) (r : Refusal) → number_of r ≡ add_refusal t x → Answers {A = A} (add_call t x) (Err r) t
unfolding add_call
add-refused t x r e = call-refused r (inserted (job_of x) (jobs_of t)) t e
