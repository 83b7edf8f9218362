-- What finish and drain find: the job and its tree, and which rows go.
use Prim.Native.Nat.{ℕ, ◌+◌, ◌-◌, ◌*◌, ◌≤◌, ◌<◌}
use mathlib.Core.Path.{◌≡◌, refl, sym, ap, ◌∙◌}
use mathlib.Core.List.{List, [], ◌∷◌, ◌++◌, append-nil}
use mathlib.Core.Bool.{Bool, true, false, ◌&&◌, ◌||◌, not}
use native.Mathlib.Omega.{arith}
use lib.Dec.{eqb, leb}
use lib.ListN.{length, get_or, set}
use lib.Seq.{paste}
use borrow.Author.Tests.{eqb-true, eqb-false, eq-eqb, ne_eqb, leb-true}
use Rattle.rules.specs.Lists.{any, all, leading, linked}
use Rattle.rules.specs.declared.tables.Ulid.{Ulid}
use Rattle.rules.specs.declared.tables.SourceId.{SourceId}
use Rattle.rules.specs.declared.tables.SourceId.TheVariants.{SortedRun, SstView}
use Rattle.rules.specs.contracts.tables.SourceIdPartialEq.TheImpl.{ghosts}
use Rattle.rules.specs.declared.tables.Source.{Source}
use Rattle.rules.specs.declared.tables.Kind.{Kind}
use Rattle.rules.specs.declared.tables.Kind.TheVariants.{Tiered, Drain}
use Rattle.rules.specs.contracts.tables.KindPartialEq.TheImpl.{ghosts as kinds}
use Rattle.rules.specs.Tables.{same_ulid, ulid_below, same_id, id_of, among, mark_of}
use Rattle.rules.specs.Lent.{LentTrees, LentJobs, rows_from, ulid_at, jobs_of, job_at}
use Rattle.rules.specs.Bounds.{is_mark, good_sources, good_job, good_jobs}
use Rattle.rules.specs.Finish.{finish_job_refusal, drain_job_refusal}
use Rattle.rules.proofs.Appended.{any_append}
use Rattle.rules.proofs.Rows.{length-rows_from, get_or-rows_from}
use Rattle.rules.proofs.Lookups.{and_left, and_right, all-at}
use Rattle.rules.proofs.Packed.{length-jobs_of, job_is}
use Rattle.rows.proofs.Finds.{Sought, seek-starts-at}
use Rattle.rows.proofs.Scans.{Left}
use Rattle.rows.proofs.Paste.{Pasted, pasted-none, pasted-more, pasted-all}
use Rattle.rows.specs.Found.{place_of}
use Rattle.rows.proofs.Found.{job-found, job-missing, tree-found, tree-missing}
use Rattle.std.specs.Prelude.{IfSome}
use Rattle.std.specs.declared.option.Option.{Option}
use Rattle.std.specs.declared.option.Option.TheVariants.{None, Some}
use Rattle.finishing.specs.Finding.{NoWork, JobFound, TreeOrNone, job_in, gone_with, gone_beside}

-- ---- kinds

-- the derived equality of kinds is that of their marks
same-kind : (a b : Kind) → kinds.eq a b ≡ eqb (mark_of a) (mark_of b)
same-kind Tiered Tiered = refl
same-kind Tiered Drain = refl
same-kind Drain Tiered = refl
same-kind Drain Drain = refl

module _ (a b : Kind) {same : Bool} (e : same ≡ kinds.eq a b) where
  pub of-kind : same ≡ true → mark_of a ≡ mark_of b
  of-kind h = eqb-true (mark_of a) (mark_of b) (sym (same-kind a b) ∙ sym e ∙ h)

  pub not-of-kind : same ≡ false → mark_of a ≡ mark_of b → ⊥
  not-of-kind h = eqb-false (mark_of a) (mark_of b) (sym (same-kind a b) ∙ sym e ∙ h)

-- ---- the job

-- the kind of a job is 0 or 1
mark-small : (j : LentJobs) → good_jobs (jobs_of j) ≡ true → (i : ℕ) → i < j.count → get_or j.job_marks (2 * i + 1) 0 ≤ 1
unfolding good_jobs good_job
mark-small j h i l =
    let d = job_at j 0 0 in
    let all-good : all good_job (jobs_of j) ≡ true = and_right (linked (λ a b. ulid_below a.id b.id) (jobs_of j)) (all good_job (jobs_of j)) h in
    let good : good_job (job_in j i) ≡ true = ap good_job (sym (job_is j i d l)) ∙ all-at good_job d (jobs_of j) all-good i (rw length-jobs_of l) in
    leb-true (get_or j.job_marks (2 * i + 1) 0) 1
    (and_right (leb (get_or j.job_marks (2 * i) 0) 5) (is_mark (get_or j.job_marks (2 * i + 1) 0))
    (and_left (leb (get_or j.job_marks (2 * i) 0) 5 && is_mark (get_or j.job_marks (2 * i + 1) 0)) (good_sources (job_in j i).sources) good))

module _ (t : LentTrees) (j : LentJobs) (u : Ulid) (kind : ℕ) {i : ℕ} (place : i ≡ leading (λ v. not (same_ulid v u)) (rows_from (λ k. ulid_at j.job_ids (2 * k)) 0 j.count)) where
  -- 11: "no job with that id"
  pub no-job : j.count ≤ i → NoWork t j u kind 11
  unfolding finish_job_refusal drain_job_refusal
  no-job h = record {
    refused = λ z. omega arith;
    finish = λ k out. rw (job-missing j u i place h);
    drain = λ k. rw (job-missing j u i place h);
  }

  module _ (h : i < j.count) where
    -- 12: "finish on a drain, or drain on a tiered job"
    pub wrong-kind : good_jobs (jobs_of j) ≡ true → (get_or j.job_marks (2 * i + 1) 0 ≡ kind → ⊥) → NoWork t j u kind 12
    unfolding finish_job_refusal drain_job_refusal
    wrong-kind g n =
        let m = get_or j.job_marks (2 * i + 1) 0 in
        let small = mark-small j g i h in
        record {
          refused = λ z. omega arith;
          finish = λ k out. rw (job-found j u i place h, eq-eqb m 1 (omega arith));
          drain = λ k. rw (job-found j u i place h, ne_eqb m 1 (λ e. n (e ∙ sym k)));
        }

    -- 7: "tiered spec has no sources"
    pub no-sources : get_or j.job_marks (2 * i + 1) 0 ≡ kind → kind ≡ 0 → get_or j.job_specs (3 * i + 2) 0 ≡ 0 → NoWork t j u kind 7
    unfolding finish_job_refusal rows_from
    no-sources m z e = record {
      refused = λ y. omega arith;
      finish = λ k out. rw (job-found j u i place h, ne_eqb (get_or j.job_marks (2 * i + 1) 0) 1 (λ o. omega arith), e);
      drain = λ k. absurd (omega arith);
    }

    pub the-job : get_or j.job_marks (2 * i + 1) 0 ≡ kind → (kind ≡ 0 → get_or j.job_specs (3 * i + 2) 0 ≡ 0 → ⊥) → JobFound j u kind i
    the-job m s = record { place = h; job = job-found j u i place h; kind = m; sources = s }

-- the tree of its prefix, if there is one
pub the-tree : (t : LentTrees) (prefix : ℕ) (i : Option ℕ) → place_of t.count i ≡ leading (λ p. not (eqb p prefix)) (rows_from (λ k. get_or t.trees (3 * k) 0) 0 t.count) → IfSome i (λ k. k < t.count) → TreeOrNone t prefix i
the-tree t prefix None e h = tree-missing t prefix t.count e (omega arith)
the-tree t prefix (Some i) e h = record { place = h; tree = tree-found t prefix i e h }

-- ---- loops over n rows from row a on

over : (a n : ℕ) → a + n - a ≡ n
over a n = omega arith

module _ {A : Type 0} {f : ℕ → A} (a n : ℕ) where
  pub seek-within : {p : A → Bool} → Sought p f (a + n) a a (leading (λ x. not (p x)) (rows_from f a n))
  seek-within {p} = rw (over a n) at (seek-starts-at {p = p} {f = f} {n = a + n} a (omega arith))

  pub scan-within : {B : Type 0} {q : List A → B} → Left q f (a + n) a (q (rows_from f a n))
  scan-within {q = q} = record { test = ap (λ (m : ℕ). q (rows_from f a m)) (over a n) }

-- ---- the rows that go

-- the derived equality of what sources name
eq-same : (x y : SourceId) → ghosts.eq x y ≡ same_id x y
eq-same (SortedRun a) (SortedRun b) = refl
eq-same (SortedRun a) (SstView v) = refl
eq-same (SstView u) (SortedRun b) = refl
eq-same (SstView u) (SstView v) = refl

-- what the code compares of an entry is what the entry names
pub entry-same : (u : SourceId) {x y : Source} {z : SourceId} {b : Bool} → x ≡ y → z ≡ id_of x → b ≡ ghosts.eq z u → same_id (id_of y) u ≡ b
entry-same u {z = z} e f h = ap (λ (w : Source). same_id (id_of w) u) (sym e) ∙ ap (λ (w : SourceId). same_id w u) (sym f) ∙ sym (h ∙ eq-same z u)

module _ (run : ℕ) (names : List SourceId) where
  both : (destination : ℕ) → among (SortedRun run) (names ++ (SortedRun destination ∷ [])) ≡ among (SortedRun run) names || (eqb destination run || false)
  unfolding any
  both destination = any_append (λ y. same_id y (SortedRun run)) names (SortedRun destination ∷ [])

  pub goes-source : (destination : Option ℕ) → among (SortedRun run) names ≡ true → true ≡ among (SortedRun run) (gone_beside destination names)
  goes-source None e = sym e
  goes-source (Some d) e = sym (both d ∙ rw e)

  pub goes-tiered : (destination : ℕ) → among (SortedRun run) names ≡ false → eqb destination run ≡ among (SortedRun run) (names ++ (SortedRun destination ∷ []))
  goes-tiered destination e = sym (both destination ∙ rw e (last (eqb destination run)))
    where
      last : (b : Bool) → b || false ≡ b
      last true = refl
      last false = refl

-- of a drain and of a tiered job
pub beside-drain : (drain destination : ℕ) → drain ≡ 1 → (names : List SourceId) → gone_beside None names ≡ gone_with drain destination names
beside-drain drain destination e names = sym (rw (eq-eqb drain 1 e) (append-nil names))

pub beside-tiered : (drain destination : ℕ) → (drain ≡ 1 → ⊥) → (names : List SourceId) → gone_beside (Some destination) names ≡ gone_with drain destination names
beside-tiered drain destination n names = rw (ne_eqb drain 1 n)

-- the loop that writes the flags of n rows from row a on: k of them are written
pub record Flagging (l : List ℕ) (g : ℕ → ℕ) (a n : ℕ) (now : List ℕ) (k : ℕ) : Type 0 where
  pub pasted : Pasted l a (rows_from g a n) n now k

module _ {l : List ℕ} {g : ℕ → ℕ} {a n : ℕ} where
  pub flags-start : a + n ≤ length l → Flagging l g a n l 0
  flags-start h = record { pasted = pasted-none (omega (arith, length-rows_from g a n)) h }

  pub flags-next : {now : List ℕ} {k v : ℕ} → Flagging l g a n now k → k < n → v ≡ g (a + k) → Flagging l g a n (set now (a + k) v) (k + 1)
  flags-next f h e = record { pasted = pasted-more 0 f.pasted h (e ∙ sym (get_or-rows_from g a n _ 0 h)) }

  pub flags-end : {now : List ℕ} {k : ℕ} → Flagging l g a n now k → n ≤ k → now ≡ paste l a (rows_from g a n) n
  flags-end f h = pasted-all f.pasted h
