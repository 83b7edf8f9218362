-- Retention: the flags that the loop sets from the last job to the first, and the jobs that they keep.
use Prim.Native.Nat.{ℕ, zero, suc, ◌+◌, ◌-◌, ◌*◌, ◌≤◌, ◌<◌}
use mathlib.Core.Path.{◌≡◌, refl, sym, ap, ap₂, ◌∙◌}
use mathlib.Core.List.{List, [], ◌∷◌, ◌++◌, map, append_assoc}
use mathlib.Core.Bool.{Bool, true, false, ◌&&◌, ◌||◌, not, true≢false}
use native.Mathlib.Nat.{sub-zero}
use native.Mathlib.Omega.{arith}
use mir.Val.{bool_byte}
use lib.Dec.{leb}
use lib.ListN.{length, get_or, take, drop, set, length-set}
use lib.Seq.{drop-cons, drop-set-lt, get_or-set_same}
use Rattle.rules.specs.Lists.{any, all, keep}
use Rattle.rules.specs.declared.tables.Ulid.{Ulid}
use Rattle.rules.specs.Tables.{ulid_below, Job, active, finished}
use Rattle.rules.specs.Lent.{LentJobs, rows_from, source_count, jobs_from, jobs_of, lay_jobs}
use Rattle.std.specs.declared.result.Result.TheVariants.{Ok, Err}
use Rattle.rules.specs.declared.answers.Refusal.{Refusal}
use Rattle.rules.specs.Answers.{number_of}
use Rattle.rules.specs.Bounds.{good_job, good_jobs, jobs_refusal}
use Rattle.rules.specs.Jobs.{retained}
use Rattle.rules.specs.Calls.{retain_call}
use Rattle.rules.proofs.Appended.{all_append}
use Rattle.rules.proofs.Rows.{rows_next, rows_end}
use Rattle.rules.proofs.Lookups.{and_left, and_right, ulid-same}
use Rattle.rules.proofs.Bounds.{JobsGood, jobs-good}
use Rattle.rules.proofs.Ulids.{below-trans, below_other}
use Rattle.rules.proofs.Inserting.{rising, all_above, rising-rest, rising-first}
use Rattle.rows.specs.Movers.{marked}
use Rattle.merging.proofs.Flagged.{marked-bool}
use Rattle.job_rows.specs.Slices.{Keeps}
use Rattle.compactor_state.specs.Retention.{finished_status, kept_statuses, Retains}
use Rattle.compactor_state.specs.Answers.{Answers}
use Rattle.compactor_state.proofs.Answered.{call-refused, call-done}

-- ---- the loop: the flags from job i on are set, and `seen` says whether one of these jobs is finished

abbrev status_in : List ℕ → ℕ → ℕ
status_in marks k = get_or marks (2 * k) 0

pub record Retaining (marks : List ℕ) (n : ℕ) (flags : List ℕ) (seen : Bool) (i : ℕ) : Type 0 where
  pub up_to : i ≤ n
  pub small : n ≤ 64
  pub room : length flags ≡ 64
  pub later : seen ≡ any finished_status (rows_from (status_in marks) i (n - i))
  pub says : map marked (take (n - i) (drop i flags)) ≡ kept_statuses (rows_from (status_in marks) i (n - i))

pub retaining-starts : {marks : List ℕ} {n : ℕ} {flags : List ℕ} → n ≤ 64 → length flags ≡ 64 → Retaining marks n flags false n
unfolding any kept_statuses
retaining-starts {marks} {n} {flags} h r =
    let none : n - n ≡ 0 = omega arith in
    record { up_to = omega arith; small = h; room = r; later = rw (rows_end (status_in marks) n n (omega arith)); says = rw (rows_end (status_in marks) n n (omega arith), none) }

module _ {marks : List ℕ} {n : ℕ} {flags : List ℕ} {seen : Bool} {i : ℕ} (m : Retaining marks n flags seen i) where
  pub retaining-next : {b seen' : Bool} → 0 < i → b ≡ leb (status_in marks (i - 1)) 3 || not seen → seen' ≡ finished_status (status_in marks (i - 1)) || seen
      → Retaining marks n (set flags (i - 1) (bool_byte b)) seen' (i - 1)
  unfolding any kept_statuses
  retaining-next {b} {seen'} h e f =
      let k = i - 1 in
      let next : k + 1 ≡ i = omega arith in
      let more : n - k ≡ suc (n - i) = omega (arith, m.up_to) in
      let rows : rows_from (status_in marks) k (n - k) ≡ status_in marks k ∷ rows_from (status_in marks) i (n - i) = rw next at (rows_next (status_in marks) k n (omega (arith, m.up_to))) in
      let within : k < length flags = omega (arith, m.up_to, m.small, m.room) in
      let after : suc k ≡ i = omega arith in
      let flag : drop k (set flags k (bool_byte b)) ≡ bool_byte b ∷ drop i flags =
      drop-cons (set flags k (bool_byte b)) k 0 (rw length-set within)
      ∙ ap₂ (λ (x : ℕ) (l : List ℕ). x ∷ l) (get_or-set_same flags k (bool_byte b) 0 within) (drop-set-lt (suc k) flags k (bool_byte b) (omega arith) ∙ ap (λ (a : ℕ). drop a flags) after) in
      record {
        up_to = omega (arith, m.up_to);
        small = m.small;
        room = length-set flags k (bool_byte b) ∙ m.room;
        later = rw (rows, ← m.later) f;
        says = rw (rows, flag, more, marked-bool b, m.says, ← m.later, e);
      }

  pub retaining-ends : (j : LentJobs) → j.count ≡ n → j.job_marks ≡ marks → i ≤ 0 → Retains j flags
  retaining-ends j c s h =
      let e : i ≡ 0 = omega arith in
      record { room = m.room; says = rw (c, s) (rw (e, sub-zero) at m.says) }

-- ---- the jobs

statuses-are : (j : LentJobs) (i s n : ℕ) → map (λ (x : Job). x.status) (jobs_from j i s n) ≡ rows_from (status_in j.job_marks) i n
unfolding jobs_from rows_from
statuses-are j i s zero = refl
statuses-are j i s (suc n) = ap (λ (l : List ℕ). status_in j.job_marks i ∷ l) (statuses-are j (i + 1) (s + source_count j i) n)

any-status : (ks : List Job) → any finished ks ≡ any finished_status (map (λ (x : Job). x.status) ks)
unfolding any
any-status [] = refl
any-status (k ∷ ks) = ap (λ (b : Bool). finished k || b) (any-status ks)

-- "the finished job of largest id": a finished job above it is among them
abbrev above : Job → Job → Bool
above k l = finished l && ulid_below k.id l.id

-- "Retention keeps active jobs and the finished job of largest id."
abbrev pub kept_of : List Job → Job → Bool
kept_of js k = active k || not (any (above k) js)

-- an id is not above one that is above it, nor above itself
not-above : (a b : Ulid) → ulid_below a b ≡ true → ulid_below b a ≡ false
not-above a b h = go (ulid_below b a) refl
  where
    go : (t : Bool) → ulid_below b a ≡ t → t ≡ false
    go false e = refl
    go true e = absurd (true≢false (sym (ulid-same a a refl) ∙ below_other a a (below-trans a b a h e)))

not_itself : (a : Ulid) → ulid_below a a ≡ false
not_itself a = go (ulid_below a a) refl
  where
    go : (t : Bool) → ulid_below a a ≡ t → t ≡ false
    go false e = refl
    go true e = absurd (true≢false (sym (ulid-same a a refl) ∙ below_other a a e))

and-false : (a b : Bool) → b ≡ false → a && b ≡ false
and-false true b h = h
and-false false b h = refl

-- in rising id order those above a job are those after it
after-it : (k : Job) (ks : List Job) → all_above k.id ks ≡ true → any (above k) ks ≡ any finished ks
unfolding any all
after-it k [] h = refl
after-it k (l ∷ ls) h =
    let up : ulid_below k.id l.id ≡ true = and_left (ulid_below k.id l.id) (all_above k.id ls) h in
    let here : above k l ≡ finished l = rw up (and-true (finished l)) in
    ap₂ ◌||◌ here (after-it k ls (and_right (ulid_below k.id l.id) (all_above k.id ls) h))
  where
    and-true : (b : Bool) → b && true ≡ b
    and-true true = refl
    and-true false = refl

only-after : (pre : List Job) (k : Job) (ks : List Job) → rising (pre ++ (k ∷ ks)) ≡ true → any (above k) (pre ++ (k ∷ ks)) ≡ any finished ks
unfolding any all
only-after [] k ks h = rw (and-false (finished k) (ulid_below k.id k.id) (not_itself k.id)) (after-it k ks (rising-first k ks h))
only-after (p ∷ pre) k ks h =
    let over : all_above p.id (k ∷ ks) ≡ true =
    and_right (all_above p.id pre) (all_above p.id (k ∷ ks)) (sym (all_append (λ l. ulid_below p.id l.id) pre (k ∷ ks)) ∙ rising-first p (pre ++ (k ∷ ks)) h) in
    let up : ulid_below p.id k.id ≡ true = and_left (ulid_below p.id k.id) (all_above p.id ks) over in
    rw (and-false (finished p) (ulid_below k.id p.id) (not-above p.id k.id up)) (only-after pre k ks (rising-rest p (pre ++ (k ∷ ks)) h))

kept-are : (pre ks : List Job) → rising (pre ++ ks) ≡ true → map (kept_of (pre ++ ks)) ks ≡ kept_statuses (map (λ (x : Job). x.status) ks)
unfolding kept_statuses
kept-are pre [] h = refl
kept-are pre (k ∷ ks) h =
    let same : pre ++ (k ∷ []) ++ ks ≡ pre ++ (k ∷ ks) = append_assoc pre (k ∷ []) ks in
    let rest : map (kept_of (pre ++ (k ∷ ks))) ks ≡ kept_statuses (map (λ (x : Job). x.status) ks) = rw same at (kept-are (pre ++ (k ∷ [])) ks (rw same h)) in
    ap₂ (λ (b : Bool) (l : List Bool). b ∷ l) (ap (λ (b : Bool). active k || not b) (only-after pre k ks h ∙ any-status ks)) rest

-- jobs kept so are those that retention keeps
keep-retained : (q : Job → Bool) (ks : List Job) → map q ks ≡ kept_statuses (map (λ (x : Job). x.status) ks) → keep q ks ≡ retained ks
unfolding kept_statuses keep retained
keep-retained q [] h = refl
keep-retained q (k ∷ ks) h =
    let here : q k ≡ leb k.status 3 || not (any finished_status (map (λ (x : Job). x.status) ks)) = cc in
    let later : map q ks ≡ kept_statuses (map (λ (x : Job). x.status) ks) = cc in
    rw (here, any-status ks, keep-retained q ks later)

module _ (t : LentJobs) where
  pub retain-refused : {A : Type 0} (r : Refusal) → number_of r ≡ jobs_refusal t → Answers {A = A} (retain_call t) (Err r) t
  unfolding retain_call
  retain-refused r e = call-refused r (retained (jobs_of t)) t e

  -- the table is not refused
  module _ (none : 0 ≡ jobs_refusal t) where
    pub retain-good : JobsGood t
    retain-good = jobs-good t (sym none)

    -- a flag for each of its jobs
    pub retain-flags : {staying : List ℕ} → Retains t staying → t.count ≤ length staying
    retain-flags flags = omega (arith, retain-good.within.jobs, flags.room)

    -- the flags keep what retention keeps
    pub retain-done : {A : Type 0} {x : A} {staying : List ℕ} {k : LentJobs} → Retains t staying → Keeps t staying k → Answers {A = A} (retain_call t) (Ok x) k
    unfolding retain_call jobs_of good_jobs
    retain-done {staying = staying} {k = k} flags kept =
        let js = jobs_of t in
        let rises : rising js ≡ true = and_left (rising js) (all good_job js) retain-good.rules in
        let are : map (kept_of js) js ≡ kept_statuses (map (λ (x : Job). x.status) js) = kept-are [] js rises in
        let says : map marked (take t.count staying) ≡ map (kept_of js) js = flags.says ∙ ap kept_statuses (sym (statuses-are t 0 0 t.count)) ∙ sym are in
        call-done (retained js) t k (sym none) (kept.kept (kept_of js) says ∙ ap (lay_jobs t) (keep-retained (kept_of js) js are))
