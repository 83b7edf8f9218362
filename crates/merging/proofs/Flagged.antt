-- Flags of jobs: how a loop sets them one by one, what each of them says, and what they count.
use Prim.Native.Nat.{ℕ, zero, suc, ◌+◌, ◌*◌, ◌≤◌, ◌<◌, suc-le-suc}
use mathlib.Core.Path.{◌≡◌, refl, sym, ap, ◌∙◌}
use mathlib.Core.List.{List, [], ◌∷◌}
use mathlib.Core.Bool.{Bool, true, false, cond, not}
use mathlib.Core.Option.{Option, some, none}
use native.Mathlib.Nat.{zero-add, add-zero}
use native.Mathlib.Numerals.{add-one}
use native.Mathlib.Omega.{arith}
use native.Mathlib.Decide.{dec_lt}
use mir.Val.{bool_byte}
use borrow.Author.Tests.{ne_eqb}
use lib.Dec.{eqb}
use lib.ListN.{length, get_or, set, length-set, length-append}
use lib.Seq.{get_or-set_same, get_or-set_other}
use Rattle.rules.specs.Lists.{keep, leading, total, concat_map}
use Rattle.rules.specs.declared.tables.Ulid.{Ulid}
use Rattle.rules.specs.Tables.{same_ulid, Job}
use Rattle.rules.specs.Lent.{LentJobs, rows_from, ulid_at, source_at, source_count, job_at, jobs_from, jobs_of, sources_of}
use Rattle.rules.specs.Jobs.{job_with, adoption, adopts}
use Rattle.rules.proofs.Rows.{length-rows_from}
use Rattle.rules.proofs.Packed.{length-jobs_of, job_is}
use Rattle.rows.specs.Movers.{marked}
use Rattle.rows.proofs.Found.{job-found, job-missing}
use Rattle.merging.specs.Merge.{adopted, not_taken, stays, Flags, HasRows}

-- ---- flags that are set one by one: the first i of n say what P asks

pub record Flagged (P : ℕ → Bool → Type 0) (n i : ℕ) (flags : List ℕ) : Type 0 where
  pub up_to : i ≤ n
  pub room : length flags ≡ 64
  pub says : (k : ℕ) → k < i → P k (marked (get_or flags k 0))

-- a bool as a flag
pub marked-bool : (b : Bool) → marked (bool_byte b) ≡ b
marked-bool true = refl
marked-bool false = refl

module _ {P : ℕ → Bool → Type 0} {n : ℕ} {flags : List ℕ} where
  pub flags-start : length flags ≡ 64 → Flagged P n 0 flags
  flags-start r = record { up_to = omega arith; room = r; says = λ k h. absurd (omega arith) }

  pub flags-next : {i : ℕ} {b : Bool} → Flagged P n i flags → i < n → n ≤ 64 → P i b → Flagged P n (i + 1) (set flags i (bool_byte b))
  flags-next {i} {b} f h r p = record {
    up_to = omega arith;
    room = length-set flags i (bool_byte b) ∙ f.room;
    says = λ k l. go k l (dec_lt k i);
  }
    where
      go : (k : ℕ) → k < i + 1 → Dec (k < i) → P k (marked (get_or (set flags i (bool_byte b)) k 0))
      go k l (yes m) = rw (get_or-set_other flags i k (bool_byte b) 0 (λ e. omega arith)) (f.says k m)
      go k l (no m) =
          let e : k ≡ i = omega arith in
          rw (e, get_or-set_same flags i (bool_byte b) 0 (omega (arith, f.room)), marked-bool b) p

-- the flags of all jobs of a table of n, where P says of each what p does
pub flags-by : (j : LentJobs) (p : Job → Bool) {P : ℕ → Bool → Type 0} {n i : ℕ} {flags : List ℕ} → j.count ≡ n → ((k : ℕ) (b : Bool) → P k b → (d : Job) → b ≡ p (get_or (jobs_of j) k d)) → Flagged P n i flags → n ≤ i → Flags p (jobs_of j) flags
flags-by j p e says f h = record { room = f.room; says = λ d k m. says k _ (f.says k (omega (arith, e, length-jobs_of j))) d }

-- the flags of all jobs
pub flags-all : (j : LentJobs) (p : Job → Bool) {i : ℕ} {flags : List ℕ} → Flagged (λ k b. (d : Job) → b ≡ p (get_or (jobs_of j) k d)) j.count i flags → j.count ≤ i → Flags p (jobs_of j) flags
flags-all j p f h = flags-by j p refl (λ k b is. is) f h

-- ---- what the look-up of a job's id in the other table says: whether the remote job is adopted, and whether the local one stays

unmarked : (n : ℕ) → eqb n 0 ≡ not (marked n)
unmarked zero = refl
unmarked (suc n) = ne_eqb (suc n) 0 (λ e. omega arith)

-- job i of table b, looked up in table a; t and u are those that are read
module _ (a b : LentJobs) {t u : LentJobs} (here : HasRows a t) (there : HasRows b u) (i : ℕ) (h : i < u.count) {k : ℕ} {id : Ulid} (v : id ≡ ulid_at u.job_ids (2 * i)) (e : k ≡ leading (λ x. not (same_ulid x id)) (rows_from (λ m. ulid_at t.job_ids (2 * m)) 0 t.count)) where
  module _ (d : Job) where
    abbrev it : Job
    it = get_or (jobs_of b) i d

    id_is : it.id ≡ id
    id_is = ap (λ (x : Job). x.id) (job_is b i d (rw there.jobs h)) ∙ rw there.id_rows (sym v)

    status_is : it.status ≡ get_or u.job_marks (2 * i) 0
    status_is = ap (λ (x : Job). x.status) (job_is b i d (rw there.jobs h)) ∙ rw there.mark_rows

    known : k < t.count → job_with it.id (jobs_of a) ≡ some (job_at a k (total (rows_from (source_count a) 0 k)))
    known l = job-found a it.id k (rw (id_is, here.jobs, here.id_rows) e) (rw here.jobs l)

    missing : t.count ≤ k → job_with it.id (jobs_of a) ≡ none
    missing l = job-missing a it.id k (rw (id_is, here.jobs, here.id_rows) e) (rw here.jobs l)

  -- a remote job in the local table
  pub adopted-known : {r : Bool} → k < t.count → r ≡ eqb (get_or (get_or adoption (get_or t.job_marks (2 * k) 0 + 1) []) (get_or u.job_marks (2 * i) 0) 0) 1 → (d : Job) → r ≡ adopted (jobs_of a) (it d)
  adopted-known l r d = r ∙ rw (← status_is d, ← here.mark_rows, add-one) (sym (ap (λ (o : Option Job). adopts o (it d)) (known d l)))

  pub adopted-absent : {r : Bool} → t.count ≤ k → r ≡ eqb (get_or (get_or adoption 0 []) (get_or u.job_marks (2 * i) 0) 0) 1 → (d : Job) → r ≡ adopted (jobs_of a) (it d)
  adopted-absent l r d = r ∙ rw (← status_is d) (sym (ap (λ (o : Option Job). adopts o (it d)) (missing d l)))

  -- a local job in the remote table
  pub stays-found : {p : Job → Bool} {flags : List ℕ} {r : Bool} → Flags p (jobs_of a) flags → k < t.count → r ≡ eqb (get_or flags k 0) 0 → (d : Job) → r ≡ stays p (jobs_of a) (it d)
  stays-found {p} {flags} f l r d =
      r
      ∙ unmarked (get_or flags k 0)
      ∙ ap not (f.says d k (omega (arith, length-jobs_of a, here.jobs)) ∙ ap p (job_is a k d (rw here.jobs l)))
      ∙ sym (ap (not_taken p) (known d l))

  pub stays-missing : (p : Job → Bool) → t.count ≤ k → (d : Job) → true ≡ stays p (jobs_of a) (it d)
  stays-missing p l d = sym (ap (not_taken p) (missing d l))

-- ---- the sums over the jobs with a flag

module _ (j : LentJobs) (p : Job → Bool) (flags : List ℕ) (d : Job) where
  jobs-from : (i s n : ℕ) → ((k : ℕ) → k < n → marked (get_or flags (i + k) 0) ≡ p (get_or (jobs_from j i s n) k d)) → total (rows_from (λ k. cond (marked (get_or flags k 0)) 1 0) i n) ≡ length (keep p (jobs_from j i s n))
  unfolding total rows_from keep jobs_from
  jobs-from i s zero h = refl
  jobs-from i s (suc n) h =
      rw (rw add-zero at (h 0 (omega arith)))
      (go (p (job_at j i s)) (jobs-from (i + 1) (s + source_count j i) n (λ k l. ap (λ (m : ℕ). marked (get_or flags m 0)) (omega arith) ∙ h (suc k) (suc-le-suc l))))
    where
      go : (b : Bool) → total (rows_from (λ k. cond (marked (get_or flags k 0)) 1 0) (i + 1) n) ≡ length (keep p (jobs_from j (i + 1) (s + source_count j i) n))
          → cond b 1 0 + total (rows_from (λ k. cond (marked (get_or flags k 0)) 1 0) (i + 1) n) ≡ length (cond b (job_at j i s ∷ keep p (jobs_from j (i + 1) (s + source_count j i) n)) (keep p (jobs_from j (i + 1) (s + source_count j i) n)))
      go true e = omega arith
      go false e = omega arith

  entries_from : (i s n : ℕ) → ((k : ℕ) → k < n → marked (get_or flags (i + k) 0) ≡ p (get_or (jobs_from j i s n) k d)) → total (rows_from (λ k. cond (marked (get_or flags k 0)) (source_count j k) 0) i n) ≡ length (sources_of (keep p (jobs_from j i s n)))
  unfolding total rows_from keep jobs_from concat_map
  entries_from i s zero h = refl
  entries_from i s (suc n) h =
      rw (rw add-zero at (h 0 (omega arith)))
      (go (p (job_at j i s)) (entries_from (i + 1) (s + source_count j i) n (λ k l. ap (λ (m : ℕ). marked (get_or flags m 0)) (omega arith) ∙ h (suc k) (suc-le-suc l))))
    where
      go : (b : Bool) → total (rows_from (λ k. cond (marked (get_or flags k 0)) (source_count j k) 0) (i + 1) n) ≡ length (sources_of (keep p (jobs_from j (i + 1) (s + source_count j i) n)))
          → cond b (source_count j i) 0 + total (rows_from (λ k. cond (marked (get_or flags k 0)) (source_count j k) 0) (i + 1) n) ≡ length (sources_of (cond b (job_at j i s ∷ keep p (jobs_from j (i + 1) (s + source_count j i) n)) (keep p (jobs_from j (i + 1) (s + source_count j i) n))))
      go true e =
          omega (arith, e, length-append (job_at j i s).sources (sources_of (keep p (jobs_from j (i + 1) (s + source_count j i) n))), length-rows_from (source_at j.source_marks j.source_runs j.source_views) s (source_count j i))
      go false e = omega (arith, e)

module _ (j : LentJobs) {p : Job → Bool} {flags : List ℕ} (f : Flags p (jobs_of j) flags) where
  -- how many jobs have a flag
  pub jobs-flagged : total (rows_from (λ k. cond (marked (get_or flags k 0)) 1 0) 0 j.count) ≡ length (keep p (jobs_of j))
  unfolding jobs_of
  jobs-flagged = jobs-from j p flags (job_at j 0 0) 0 0 j.count (λ k h. ap (λ (m : ℕ). marked (get_or flags m 0)) (zero-add k) ∙ f.says (job_at j 0 0) k (omega (arith, length-jobs_of j)))

  -- how many entries these have
  pub entries-flagged : total (rows_from (λ k. cond (marked (get_or flags k 0)) (source_count j k) 0) 0 j.count) ≡ length (sources_of (keep p (jobs_of j)))
  unfolding jobs_of
  entries-flagged = entries_from j p flags (job_at j 0 0) 0 0 j.count (λ k h. ap (λ (m : ℕ). marked (get_or flags m 0)) (zero-add k) ∙ f.says (job_at j 0 0) k (omega (arith, length-jobs_of j)))
