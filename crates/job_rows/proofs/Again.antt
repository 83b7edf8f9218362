-- Jobs laid over jobs that were laid: as laid once.
use Prim.Native.Nat.{ℕ, ◌*◌, ◌≤◌, max}
use mathlib.Core.Path.{◌≡◌, refl, sym, ap, ◌∙◌}
use mathlib.Core.List.{List, map}
use native.Mathlib.Omega.{arith}
use lib.ListN.{length, length-map}
use Rattle.rules.specs.Lists.{concat_map}
use Rattle.rules.specs.declared.tables.Source.{Source}
use Rattle.rules.specs.Tables.{Job}
use Rattle.rules.specs.Lent.{LentJobs, lent_jobs, laid, lay_jobs, sources_used, sources_of, ulid_words, job_mark_words, job_spec_words}
use Rattle.rules.specs.Bounds.{max_jobs, max_sources}
use Rattle.rules.proofs.Laid.{length-laid}
use Rattle.rules.proofs.Rows.{length-words}
use Rattle.rules.proofs.Packed.{length-sources}
use Rattle.rules.proofs.ReadBack.{jobs-back}
use Rattle.rows.proofs.Laying.{laid-again}
use Rattle.job_rows.specs.Slices.{AtCapacity}

-- two tables with the same count and slices are the same
pub lent-eq : {a b : ℕ} {c d e f g h i k l m n o : List ℕ} → a ≡ b → c ≡ d → e ≡ f → g ≡ h → i ≡ k → l ≡ m → n ≡ o → lent_jobs a c e g i l n ≡ lent_jobs b d f h k m o
lent-eq p q r s t u v = λ x. lent_jobs (p x) (q x) (r x) (s x) (t x) (u x) (v x)

-- as many entries are in use as the laid jobs have
pub sources-laid : (j : LentJobs) (js : List Job) → sources_used (lay_jobs j js) ≡ length (sources_of js)
sources-laid j js = sym (length-sources (lay_jobs j js)) ∙ ap (λ (l : List Job). length (sources_of l)) (jobs-back j js)

-- one slice: where u numbers were in use, which is what was laid
over : (u used : ℕ) (new new' s : List ℕ) → u ≡ length new → length new ≤ max used (length new') → laid u new' (laid used new s) ≡ laid used new' s
over u used new new' s e h = ap (λ (n : ℕ). laid n new' (laid used new s)) e ∙ laid-again 0 used new new' s h

module _ {A : Type 0} (words : A → List ℕ) (w : ℕ) (width : (a : A) → length (words a) ≡ w) where
  rows-over : (n : ℕ) (xs ys : List A) (s : List ℕ) → w * length xs ≤ max (w * n) (w * length ys) → laid (w * length xs) (concat_map words ys) (laid (w * n) (concat_map words xs) s) ≡ laid (w * n) (concat_map words ys) s
  rows-over n xs ys s h =
      over (w * length xs) (w * n) (concat_map words xs) (concat_map words ys) s (sym (length-words words w width xs))
      (rw (length-words words w width xs, length-words words w width ys) h)

-- the first jobs were no more than what was in use or is now, and their entries likewise
pub lay-again : (j : LentJobs) (js ks : List Job) → length js ≤ max j.count (length ks) → length (sources_of js) ≤ max (sources_used j) (length (sources_of ks)) → lay_jobs (lay_jobs j js) ks ≡ lay_jobs j ks
unfolding lay_jobs
lay-again j js ks h l =
    let used : sources_used (lay_jobs j js) ≡ length (sources_of js) = sources-laid j js in
    let column : (f : Source → ℕ) (s : List ℕ) → laid (length (sources_of js)) (map f (sources_of ks)) (laid (sources_used j) (map f (sources_of js)) s) ≡ laid (sources_used j) (map f (sources_of ks)) s =
    λ f s. over (length (sources_of js)) (sources_used j) (map f (sources_of js)) (map f (sources_of ks)) s (sym (length-map (sources_of js) f)) (rw (length-map, length-map) l) in
    lent-eq refl
    (rows-over (λ (x : Job). ulid_words x.id) 2 (λ x. refl) j.count js ks j.job_ids (omega arith))
    (rows-over job_mark_words 2 (λ x. refl) j.count js ks j.job_marks (omega arith))
    (rows-over job_spec_words 3 (λ x. refl) j.count js ks j.job_specs (omega arith))
    (rw used (column (λ s. s.mark) j.source_marks))
    (rw used (column (λ s. s.run) j.source_runs))
    (rw used (rows-over (λ (s : Source). ulid_words s.view) 2 (λ s. refl) (sources_used j) (sources_of js) (sources_of ks) j.source_views (omega arith)))

-- a table with other jobs laid in it is at capacity where they fit
pub lay-fits : (j : LentJobs) (js : List Job) → AtCapacity j → length js ≤ max_jobs → length (sources_of js) ≤ max_sources → AtCapacity (lay_jobs j js)
unfolding lay_jobs
lay-fits j js a h l = record {
  jobs = h;
  sources = omega (arith, sources-laid j js);
  job_ids = length-laid (2 * j.count) (concat_map (λ x. ulid_words x.id) js) j.job_ids (omega (arith, a)) (omega (arith, a, length-words (λ (x : Job). ulid_words x.id) 2 (λ x. refl) js)) ∙ a.job_ids;
  job_marks = length-laid (2 * j.count) (concat_map job_mark_words js) j.job_marks (omega (arith, a)) (omega (arith, a, length-words job_mark_words 2 (λ x. refl) js)) ∙ a.job_marks;
  job_specs = length-laid (3 * j.count) (concat_map job_spec_words js) j.job_specs (omega (arith, a)) (omega (arith, a, length-words job_spec_words 3 (λ x. refl) js)) ∙ a.job_specs;
  source_marks = length-laid (sources_used j) (map (λ s. s.mark) (sources_of js)) j.source_marks (omega (arith, a)) (omega (arith, a, length-map (sources_of js) (λ (s : Source). s.mark))) ∙ a.source_marks;
  source_runs = length-laid (sources_used j) (map (λ s. s.run) (sources_of js)) j.source_runs (omega (arith, a)) (omega (arith, a, length-map (sources_of js) (λ (s : Source). s.run))) ∙ a.source_runs;
  source_views = length-laid (2 * sources_used j) (concat_map (λ s. ulid_words s.view) (sources_of js)) j.source_views (omega (arith, a)) (omega (arith, a, length-words (λ (s : Source). ulid_words s.view) 2 (λ s. refl) (sources_of js))) ∙ a.source_views;
}
