-- The call `merge`: each of its answers is one case of `merge_call`.
use Prim.Native.Nat.{ℕ, ◌+◌, ◌*◌}
use mathlib.Core.Path.{◌≡◌, refl, sym, ap, ◌∙◌}
use mathlib.Core.List.{List}
use mathlib.Core.Bool.{Bool, true, false, cond, ◌&&◌, ◌||◌}
use native.Mathlib.Nat.{zero-add}
use native.Mathlib.Omega.{arith}
use lib.Dec.{leb}
use lib.ListN.{get_or}
use borrow.Author.Tests.{leb-true}
use Rattle.std.specs.declared.result.Result.TheVariants.{Ok, Err}
use Rattle.rules.specs.declared.answers.Refusal.{Refusal}
use Rattle.rules.specs.Answers.{number_of}
use Rattle.rules.specs.Lists.{all, linked, total, ◌given◌else◌}
use Rattle.rules.specs.Tables.{ulid_below}
use Rattle.rules.specs.Lent.{LentJobs, rows_from, ulid_at, source_count, jobs_of, lay_jobs}
use Rattle.rules.specs.Bounds.{is_mark, good_job, good_jobs, jobs_outside, jobs_misshapen, jobs_refusal}
use Rattle.rules.specs.Jobs.{merged, too_many, merge_refusal}
use Rattle.rules.specs.Calls.{merge_call}
use Rattle.rules.proofs.Bounds.{JobsGood, jobs-good}
use Rattle.rules.proofs.Lookups.{and_left, and_right, all-at}
use Rattle.rules.proofs.Rows.{length-rows_from, get_or-rows_from}
use Rattle.rules.proofs.Inserting.{rising}
use Rattle.rows.specs.Shape.{good_marks_at, flat_jobs}
use Rattle.rows.proofs.Shapes.{flat-jobs}
use Rattle.merging.specs.Merge.{GoodRows, Planned}
use Rattle.job_rows.proofs.Fitting.{good-capacity}
use Rattle.compactor_state.specs.Answers.{Answers}
use Rattle.compactor_state.specs.MergeCall.{tables_refusal}
use Rattle.compactor_state.specs.Taking.{Ready}
use Rattle.compactor_state.proofs.Answered.{call-refused, call-done}

-- ---- refusals 1 and 2, of both tables

module _ (l r : LentJobs) where
  pub outside-here : jobs_outside l ≡ true → 1 ≡ tables_refusal l r
  unfolding tables_refusal
  outside-here o = rw o

  module _ (o : jobs_outside l ≡ false) where
    pub outside-there : jobs_outside r ≡ true → 1 ≡ tables_refusal l r
    unfolding tables_refusal
    outside-there p = rw (o, p)

    module _ (p : jobs_outside r ≡ false) where
      pub bad-here : {a : ℕ} → a ≡ jobs_refusal l → (a ≡ 0 → ⊥) → a ≡ tables_refusal l r
      unfolding jobs_refusal tables_refusal
      bad-here {a} e h = go (jobs_misshapen l) (e ∙ rw o)
        where
          go : (m : Bool) → a ≡ (2 given m else 0) → a ≡ (1 given jobs_outside l || jobs_outside r else 2 given m || jobs_misshapen r else 0)
          go true f = f ∙ rw (o, p)
          go false f = absurd (h f)

      pub left-there : {a : ℕ} → 0 ≡ jobs_refusal l → a ≡ jobs_refusal r → a ≡ tables_refusal l r
      unfolding jobs_refusal tables_refusal
      left-there {a} z e = go (jobs_misshapen l) (z ∙ rw o)
        where
          go : (m : Bool) → 0 ≡ (2 given m else 0) → a ≡ (1 given jobs_outside l || jobs_outside r else 2 given m || jobs_misshapen r else 0)
          go true f = absurd (omega arith)
          go false f = e ∙ rw (o, p)

  -- a refusal of the tables is the call's
  pub refused-early : {n : ℕ} → n ≡ tables_refusal l r → (n ≡ 0 → ⊥) → n ≡ merge_refusal l r
  unfolding merge_refusal tables_refusal
  refused-early {n} e h = go (jobs_outside l || jobs_outside r) (jobs_misshapen l || jobs_misshapen r) e
    where
      go : (o m : Bool) → n ≡ (1 given o else 2 given m else 0) → n ≡ (1 given o else 2 given m else 14 given too_many (merged (jobs_of l) (jobs_of r)) else 0)
      go true m e = e
      go false true e = e
      go false false e = absurd (h e)

  module _ (none : 0 ≡ tables_refusal l r) where
    -- then each is good by itself
    both-good : JobsGood l × JobsGood r
    unfolding jobs_refusal tables_refusal
    both-good = go (jobs_outside l) (jobs_outside r) (jobs_misshapen l) (jobs_misshapen r) refl refl refl refl (sym none)
      where
        go : (o p m n : Bool) → jobs_outside l ≡ o → jobs_outside r ≡ p → jobs_misshapen l ≡ m → jobs_misshapen r ≡ n → (1 given o || p else 2 given m || n else 0) ≡ 0 → JobsGood l × JobsGood r
        go true p m n e f g h z = absurd (omega arith)
        go false true m n e f g h z = absurd (omega arith)
        go false false true n e f g h z = absurd (omega arith)
        go false false false true e f g h z = absurd (omega arith)
        go false false false false e f g h z = (jobs-good l (rw (e, g)), jobs-good r (rw (f, h)))

    -- and the call's refusal is 14 or none
    refusal_is : merge_refusal l r ≡ cond (too_many (merged (jobs_of l) (jobs_of r))) 14 0
    unfolding merge_refusal
    refusal_is = rw (both-good.0.inside, both-good.1.inside, both-good.0.shapely, both-good.1.shapely)

    pub refused-late : {n : ℕ} → n ≡ cond (too_many (merged (jobs_of l) (jobs_of r))) 14 0 → n ≡ merge_refusal l r
    refused-late e = e ∙ sym refusal_is

    -- nor is that
    pub merge-ready : {taken staying : List ℕ} → 0 ≡ merge_refusal l r → Planned l r taken staying → Ready l r taken staying
    unfolding good_jobs
    merge-ready h plan = record {
      here = good-capacity both-good.0;
      there = good-capacity both-good.1;
      rises = and_left (rising (jobs_of l)) (all good_job (jobs_of l)) both-good.0.rules;
      rises_there = and_left (rising (jobs_of r)) (all good_job (jobs_of r)) both-good.1.rules;
      takes = plan.takes;
      keeps = plan.keeps;
      fits = go (too_many (merged (jobs_of l) (jobs_of r))) (h ∙ refusal_is);
    }
      where
        go : (b : Bool) → ◌≡◌ {A = ℕ} 0 (cond b 14 0) → b ≡ false
        go true z = absurd (omega arith)
        go false z = refl

-- ---- the call

pub merge-refused : {A : Type 0} (l r : LentJobs) (refusal : Refusal) → number_of refusal ≡ merge_refusal l r → Answers {A = A} (merge_call l r) (Err refusal) l
unfolding merge_call
merge-refused l r refusal e = call-refused refusal (merged (jobs_of l) (jobs_of r)) l e

pub merge-done : {A : Type 0} {x : A} (l r k : LentJobs) → 0 ≡ merge_refusal l r → k ≡ lay_jobs l (merged (jobs_of l) (jobs_of r)) → Answers {A = A} (merge_call l r) (Ok x) k
unfolding merge_call
merge-done l r k h e = call-done (merged (jobs_of l) (jobs_of r)) l k (sym h) e

-- ---- what plan_merge asks of a table

good-rows : (j : LentJobs) → JobsGood j → GoodRows j
unfolding flat_jobs good_jobs
good-rows j g =
    let flat : flat_jobs j.count j.job_ids j.job_marks j.job_specs j.source_marks ≡ true = sym (flat-jobs j) ∙ g.rules in
    let ids = linked ulid_below (rows_from (λ k. ulid_at j.job_ids (2 * k)) 0 j.count) in
    let states = all (good_marks_at j.job_marks) (rows_from (λ k. k) 0 j.count) in
    let entries = all is_mark (rows_from (λ k. get_or j.source_marks k 0) 0 (total (rows_from (source_count j) 0 j.count))) in
    record {
      jobs = g.within.jobs;
      id_rows = g.lent.job_ids;
      mark_rows = g.lent.job_marks;
      spec_rows = g.lent.job_specs;
      entries = g.within.sources;
      rises = and_left (rising (jobs_of j)) (all good_job (jobs_of j)) g.rules;
      status = λ k h.
          let row : get_or (rows_from (λ m. m) 0 j.count) k 0 ≡ k = get_or-rows_from (λ m. m) 0 j.count k 0 h ∙ zero-add k in
          let good : good_marks_at j.job_marks k ≡ true =
          ap (good_marks_at j.job_marks) (sym row) ∙ all-at (good_marks_at j.job_marks) 0 (rows_from (λ m. m) 0 j.count) (and_left states entries (and_right ids (states && entries) flat)) k (rw length-rows_from h) in
          leb-true (get_or j.job_marks (2 * k) 0) 5 (and_left (leb (get_or j.job_marks (2 * k) 0) 5) (is_mark (get_or j.job_marks (2 * k + 1) 0)) good);
    }

pub plan-asks : (l r : LentJobs) → 0 ≡ tables_refusal l r → GoodRows l × GoodRows r
plan-asks l r none = (good-rows l (both-good l r none).0, good-rows r (both-good l r none).1)
