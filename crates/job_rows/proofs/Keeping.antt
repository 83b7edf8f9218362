-- Jobs kept by their flags: what keep_rows leaves of the six slices are the rows of the jobs kept.
use Prim.Native.Nat.{ℕ, zero, suc, ◌+◌, ◌*◌, ◌≤◌}
use mathlib.Core.Path.{◌≡◌, refl, sym, ap, ap₂, ◌∙◌}
use mathlib.Core.List.{List, [], ◌∷◌, ◌++◌, map, map-append}
use mathlib.Core.Bool.{Bool, true, false, cond}
use native.Mathlib.Numerals.{add-one}
use native.Mathlib.Omega.{arith}
use lib.ListN.{length, get_or, take, drop, replicate, length-map}
use lib.Seq.{drop-cons}
use Rattle.rules.specs.Lists.{keep, concat_map, total}
use Rattle.rules.specs.declared.tables.Source.{Source}
use Rattle.rules.specs.Tables.{Job}
use Rattle.rules.specs.Lent.{LentJobs, lent_jobs, rows_from, source_at, source_count, job_at, jobs_from, jobs_of, sources_of, sources_used, laid, lay_jobs, ulid_words, job_mark_words, job_spec_words}
use Rattle.rules.proofs.Rows.{length-rows_from}
use Rattle.rules.proofs.Packed.{length-jobs_of, length-sources}
use Rattle.rows.specs.Movers.{marked, kept}
use Rattle.rows.proofs.Lift.{kept-laid, laid-singles}
use Rattle.job_rows.specs.Slices.{AtCapacity, entry_flags, Keeps}
use Rattle.job_rows.proofs.Standing.{ids-stand, marks-stand, specs-stand, source-marks-stand, source-runs-stand, source-views-stand}
use Rattle.job_rows.proofs.Again.{lent-eq}
use Rattle.job_rows.proofs.Flags.{keep_append}

-- ---- lists

map-replicated : {A B : Type 0} (f : A → B) (n : ℕ) (a : A) → map f (replicate n a) ≡ replicate n (f a)
map-replicated f zero a = refl
map-replicated f (suc n) a = ap (λ l. f a ∷ l) (map-replicated f n a)

words-map : {A B : Type 0} (words : B → List ℕ) (f : A → B) (xs : List A) → concat_map words (map f xs) ≡ concat_map (λ x. words (f x)) xs
unfolding concat_map
words-map words f [] = refl
words-map words f (x ∷ xs) = ap (λ (l : List ℕ). words (f x) ++ l) (words-map words f xs)

-- as many are kept as the flags say
pub kept-count : {A : Type 0} (p : A → Bool) (ks : List ℕ) (xs : List A) → map marked ks ≡ map p xs → length (keep marked ks) ≡ length (keep p xs)
unfolding keep
kept-count p [] [] h = refl
kept-count p [] (x ∷ xs) h = let z : ◌≡◌ {A = ℕ} 0 1 = cc in absurd (omega arith)
kept-count p (k ∷ ks) [] h = let z : ◌≡◌ {A = ℕ} 0 1 = cc in absurd (omega arith)
kept-count p (zero ∷ ks) (x ∷ xs) h =
    let out : p x ≡ false = cc in
    let more : map marked ks ≡ map p xs = cc in
    rw out (kept-count p ks xs more)
kept-count p (suc k ∷ ks) (x ∷ xs) h =
    let here : p x ≡ true = cc in
    let more : map marked ks ≡ map p xs = cc in
    rw here (ap suc (kept-count p ks xs more))

-- ---- source entries, each with what p says of its job

record Told : Type 0 where
  pub stays : Bool
  pub source : Source

abbrev tell : Bool → Source → Told
tell b s = record { stays = b; source = s }

module _ (p : Job → Bool) where
  unfoldable told : List Job → List Told
  told js = concat_map (λ x. map (tell (p x)) x.sources) js

  sources-told : (b : Bool) (ss : List Source) → map (λ t. t.source) (map (tell b) ss) ≡ ss
  sources-told b [] = refl
  sources-told b (s ∷ ss) = ap (λ l. s ∷ l) (sources-told b ss)

  -- the entries are those of all jobs
  told-all : (js : List Job) → map (λ t. t.source) (told js) ≡ sources_of js
  unfolding told concat_map
  told-all [] = refl
  told-all (x ∷ js) = map-append (λ (t : Told). t.source) (map (tell (p x)) x.sources) (told js) ∙ ap₂ ◌++◌ (sources-told (p x) x.sources) (told-all js)

  keep-none : (ss : List Source) → keep (λ t. t.stays) (map (tell false) ss) ≡ []
  unfolding keep
  keep-none [] = refl
  keep-none (s ∷ ss) = keep-none ss

  keep-every : (ss : List Source) → keep (λ t. t.stays) (map (tell true) ss) ≡ map (tell true) ss
  unfolding keep
  keep-every [] = refl
  keep-every (s ∷ ss) = ap (λ l. tell true s ∷ l) (keep-every ss)

  -- those that stay are those of the jobs that stay
  told-kept : (js : List Job) → map (λ t. t.source) (keep (λ t. t.stays) (told js)) ≡ sources_of (keep p js)
  unfolding told concat_map keep
  told-kept [] = refl
  told-kept (x ∷ js) =
      ap (map (λ (t : Told). t.source)) (keep_append (λ (t : Told). t.stays) (map (tell (p x)) x.sources) (told js))
      ∙ map-append (λ (t : Told). t.source) (keep (λ t. t.stays) (map (tell (p x)) x.sources)) (keep (λ t. t.stays) (told js))
      ∙ go (p x) (told-kept js)
    where
      go : (b : Bool) → map (λ t. t.source) (keep (λ t. t.stays) (told js)) ≡ sources_of (keep p js)
          → map (λ t. t.source) (keep (λ t. t.stays) (map (tell b) x.sources)) ++ map (λ t. t.source) (keep (λ t. t.stays) (told js)) ≡ sources_of (cond b (x ∷ keep p js) (keep p js))
      go true e = ap₂ ◌++◌ (ap (map (λ (t : Told). t.source)) (keep-every x.sources) ∙ sources-told true x.sources) e
      go false e = ap₂ ◌++◌ (ap (map (λ (t : Told). t.source)) (keep-none x.sources)) e

-- ---- one table

module _ (j : LentJobs) (staying : List ℕ) (p : Job → Bool) where
  stays-told : (b : Bool) (ss : List Source) → map (λ t. t.stays) (map (tell b) ss) ≡ replicate (length ss) b
  stays-told b [] = refl
  stays-told b (s ∷ ss) = ap (λ l. b ∷ l) (stays-told b ss)

  -- the entries' flags say p of their jobs, where the jobs' flags do
  flags-say : (i s n : ℕ) → i + n ≤ length staying → map marked (take n (drop i staying)) ≡ map p (jobs_from j i s n)
      → map marked (concat_map (λ k. replicate (source_count j k) (get_or staying k 0)) (rows_from (λ k. k) i n)) ≡ map (λ t. t.stays) (told p (jobs_from j i s n))
  unfolding jobs_from rows_from concat_map told
  flags-say i s zero h e = refl
  flags-say i s (suc n) h e =
      let x = get_or staying i 0 in
      let mine = rows_from (source_at j.source_marks j.source_runs j.source_views) s (source_count j i) in
      let here : drop i staying ≡ x ∷ drop (i + 1) staying = rw add-one (drop-cons staying i 0 (omega arith)) in
      let both : marked x ∷ map marked (take n (drop (i + 1) staying)) ≡ p (job_at j i s) ∷ map p (jobs_from j (i + 1) (s + source_count j i) n) = rw here at e in
      let first : marked x ≡ p (job_at j i s) = cc in
      let later : map marked (take n (drop (i + 1) staying)) ≡ map p (jobs_from j (i + 1) (s + source_count j i) n) = cc in
      let long : length mine ≡ source_count j i = length-rows_from (source_at j.source_marks j.source_runs j.source_views) s (source_count j i) in
      let front : map marked (replicate (source_count j i) x) ≡ map (λ (t : Told). t.stays) (map (tell (p (job_at j i s))) mine) =
      map-replicated marked (source_count j i) x ∙ ap₂ (λ (m : ℕ) (b : Bool). replicate m b) (sym long) first ∙ sym (stays-told (p (job_at j i s)) mine) in
      map-append marked (replicate (source_count j i) x) (concat_map (λ k. replicate (source_count j k) (get_or staying k 0)) (rows_from (λ k. k) (i + 1) n))
      ∙ ap₂ ◌++◌ front (flags-say (i + 1) (s + source_count j i) n (omega arith) later)
      ∙ sym (map-append (λ (t : Told). t.stays) (map (tell (p (job_at j i s))) mine) (told p (jobs_from j (i + 1) (s + source_count j i) n)))

  module _ (room : AtCapacity j) (flags : List ℕ) (front : take (sources_used j) flags ≡ entry_flags j.job_specs staying j.count) (have : j.count ≤ length staying) (says : map marked (take j.count staying) ≡ map p (jobs_of j)) where
    entries-say : map marked (take (sources_used j) flags) ≡ map (λ t. t.stays) (told p (jobs_of j))
    unfolding entry_flags jobs_of
    entries-say = ap (map marked) front ∙ flags-say 0 0 j.count (omega arith) says

    length-told : sources_used j ≡ length (told p (jobs_of j))
    length-told = sym (length-sources j) ∙ ap length (sym (told-all p (jobs_of j))) ∙ length-map (told p (jobs_of j)) (λ t. t.source)

    -- a slice of the source entries, and one of the jobs
    entries-kept : (words : Source → List ℕ) (w : ℕ) → ((s : Source) → length (words s) ≡ w) → (s : List ℕ) → take (w * sources_used j) s ≡ concat_map words (sources_of (jobs_of j))
        → laid (w * sources_used j) (kept w (take (sources_used j) flags) s) s ≡ laid (w * sources_used j) (concat_map words (sources_of (keep p (jobs_of j)))) s
    entries-kept words w width s stand =
        let all = told p (jobs_of j) in
        kept-laid (λ (t : Told). words t.source) w (λ t. width t.source) all (sources_used j) s length-told
        (stand ∙ ap (concat_map words) (sym (told-all p (jobs_of j))) ∙ words-map words (λ (t : Told). t.source) all)
        (λ t. t.stays) flags entries-say
        ∙ ap (λ (l : List ℕ). laid (w * sources_used j) l s)
        (sym (words-map words (λ (t : Told). t.source) (keep (λ t. t.stays) all)) ∙ ap (concat_map words) (told-kept p (jobs_of j)))

    jobs-kept : (words : Job → List ℕ) (w : ℕ) → ((x : Job) → length (words x) ≡ w) → (s : List ℕ) → take (w * j.count) s ≡ concat_map words (jobs_of j)
        → laid (w * j.count) (kept w (take j.count staying) s) s ≡ laid (w * j.count) (concat_map words (keep p (jobs_of j))) s
    jobs-kept words w width s stand = kept-laid words w width (jobs_of j) j.count s (sym (length-jobs_of j)) stand p staying says

    -- the six slices as the movers leave them, with the count of the flags
    keeps : {r : ℕ} {ids marks specs source_marks source_runs source_views : List ℕ}
        → source_marks ≡ laid (1 * sources_used j) (kept 1 (take (sources_used j) flags) j.source_marks) j.source_marks
        → source_runs ≡ laid (1 * sources_used j) (kept 1 (take (sources_used j) flags) j.source_runs) j.source_runs
        → source_views ≡ laid (2 * sources_used j) (kept 2 (take (sources_used j) flags) j.source_views) j.source_views
        → ids ≡ laid (2 * j.count) (kept 2 (take j.count staying) j.job_ids) j.job_ids
        → marks ≡ laid (2 * j.count) (kept 2 (take j.count staying) j.job_marks) j.job_marks
        → specs ≡ laid (3 * j.count) (kept 3 (take j.count staying) j.job_specs) j.job_specs
        → r ≡ length (keep marked (take j.count staying))
        → lent_jobs r ids marks specs source_marks source_runs source_views ≡ lay_jobs j (keep p (jobs_of j))
    unfolding lay_jobs
    keeps a b c d e f n =
        lent-eq
        (n ∙ kept-count p (take j.count staying) (jobs_of j) says)
        (d ∙ jobs-kept (λ x. ulid_words x.id) 2 (λ x. refl) j.job_ids (ids-stand j room))
        (e ∙ jobs-kept job_mark_words 2 (λ x. refl) j.job_marks (marks-stand j room))
        (f ∙ jobs-kept job_spec_words 3 (λ x. refl) j.job_specs (specs-stand j room))
        (a ∙ entries-kept (λ s. s.mark ∷ []) 1 (λ s. refl) j.source_marks (source-marks-stand j room) ∙ laid-singles (λ (s : Source). s.mark) (sources_used j) (sources_of (keep p (jobs_of j))) j.source_marks)
        (b ∙ entries-kept (λ s. s.run ∷ []) 1 (λ s. refl) j.source_runs (source-runs-stand j room) ∙ laid-singles (λ (s : Source). s.run) (sources_used j) (sources_of (keep p (jobs_of j))) j.source_runs)
        (c ∙ entries-kept (λ s. ulid_words s.view) 2 (λ s. refl) j.source_views (source-views-stand j room))

-- as keep_jobs counts the entries in use
pub keeps-jobs : (j : LentJobs) (staying : List ℕ) → AtCapacity j × (j.count ≤ length staying) → (used : ℕ) (flags : List ℕ) → (used ≡ total (rows_from (source_count j) 0 j.count)) × (take used flags ≡ entry_flags j.job_specs staying j.count)
    → {r : ℕ} {ids marks specs source_marks source_runs source_views : List ℕ}
    → source_marks ≡ laid (1 * used) (kept 1 (take used flags) j.source_marks) j.source_marks
    → source_runs ≡ laid (1 * used) (kept 1 (take used flags) j.source_runs) j.source_runs
    → source_views ≡ laid (2 * used) (kept 2 (take used flags) j.source_views) j.source_views
    → ids ≡ laid (2 * j.count) (kept 2 (take j.count staying) j.job_ids) j.job_ids
    → marks ≡ laid (2 * j.count) (kept 2 (take j.count staying) j.job_marks) j.job_marks
    → specs ≡ laid (3 * j.count) (kept 3 (take j.count staying) j.job_specs) j.job_specs
    → r ≡ length (keep marked (take j.count staying))
    → Keeps j staying (lent_jobs r ids marks specs source_marks source_runs source_views)
unfolding sources_used
keeps-jobs j staying pre used flags m a b c d e f n = record {
  kept = λ p says. keeps j staying p pre.0 flags (rw m.0 at m.1) pre.1 says (rw m.0 at a) (rw m.0 at b) (rw m.0 at c) d e f n;
}
