-- A job's status set in the slice of marks is the jobs laid with that job at the status: ids rise, so that one job has the id.
use Prim.Native.Nat.{ℕ, zero, suc, ◌+◌, ◌*◌, ◌≤◌, ◌<◌}
use mathlib.Core.Path.{◌≡◌, refl, sym, ap, ◌∙◌}
use mathlib.Core.List.{List, [], ◌∷◌, ◌++◌}
use mathlib.Core.Bool.{Bool, true, false}
use native.Mathlib.Nat.{le_of_suc-le-suc, not-suc-le-zero}
use native.Mathlib.Omega.{arith}
use lib.ListN.{length, get_or, take, drop, set, length-set, take-append-drop}
use lib.Seq.{set-append_left, drop-cons}
use Rattle.rules.specs.Lists.{all, linked, concat_map}
use Rattle.rules.specs.declared.tables.Ulid.{Ulid}
use Rattle.rules.specs.Tables.{same_ulid, ulid_below, Job, with_status}
use Rattle.rules.specs.Lent.{LentJobs, rows_from, jobs_from, jobs_of, source_count, job_mark_words, laid, lay_jobs, laid_with}
use Rattle.rules.specs.Bounds.{good_job, good_jobs}
use Rattle.rules.specs.Finish.{set_status}
use Rattle.rules.specs.Calls.{marks_at}
use Rattle.rules.proofs.Rows.{length-words, words-of-rows}
use Rattle.rules.proofs.Packed.{length-jobs_of}
use Rattle.rules.proofs.Lookups.{and_left, and_right, all-at, same-ulid, ulid-same}
use Rattle.rules.proofs.Ulids.{below-trans, below_other}
use Rattle.rules.proofs.Finishing.{linked-all, linked-rest}
use Rattle.rows.proofs.Laying.{grown}

-- ---- one job has the id

abbrev rises : Job → Job → Bool
rises a b = ulid_below a.id b.id

rises-trans : (a b c : Job) → rises a b ≡ true → rises b c ≡ true → rises a c ≡ true
rises-trans a b c h k = below-trans a.id b.id c.id h k

module _ (u : Ulid) (n : ℕ) where
  -- jobs of larger ids stay as they are
  above-stay : (x : Job) → x.id ≡ u → (js : List Job) → all (rises x) js ≡ true → set_status u n js ≡ js
  unfolding all
  above-stay x e [] h = refl
  above-stay x e (j ∷ js) h =
      let other : same_ulid j.id u ≡ false = ap (same_ulid j.id) (sym e) ∙ below_other x.id j.id (and_left (rises x j) (all (rises x) js) h) in
      rw other (ap (λ (r : List Job). j ∷ r) (above-stay x e js (and_right (rises x j) (all (rises x) js) h)))

  -- job i has the id
  status-set : (js : List Job) (d : Job) (i : ℕ) → i < length js → linked rises js ≡ true → same_ulid (get_or js i d).id u ≡ true → set_status u n js ≡ set js i (with_status n (get_or js i d))
  status-set [] d i l h e = absurd (not-suc-le-zero l)
  status-set (j ∷ js) d zero l h e =
      rw e (ap (λ (r : List Job). with_status n j ∷ r) (above-stay j (same-ulid j.id u e) js (linked-all rises rises-trans j js h)))
  status-set (j ∷ js) d (suc i) l h e =
      let later : all (rises j) js ≡ true = linked-all rises rises-trans j js h in
      let below : rises j (get_or js i d) ≡ true = all-at (rises j) d js later i (le_of_suc-le-suc l) in
      let other : same_ulid j.id u ≡ false = apart j.id (get_or js i d).id below e in
      rw other (ap (λ (r : List Job). j ∷ r) (status-set js d i (le_of_suc-le-suc l) (linked-rest rises rises-trans j js h) e))
    where
      apart : (a b : Ulid) → ulid_below a b ≡ true → same_ulid b u ≡ true → same_ulid a u ≡ false
      apart a b k s = go (same_ulid a u) refl
        where
          go : (c : Bool) → same_ulid a u ≡ c → c ≡ false
          go false f = refl
          go true f = sym (ulid-same b a (same-ulid b u s ∙ sym (same-ulid a u f))) ∙ below_other a b k

-- ---- its status is one number of the slice

words-set : (n : ℕ) (js : List Job) (d : Job) (i : ℕ) → i < length js → concat_map job_mark_words (set js i (with_status n (get_or js i d))) ≡ set (concat_map job_mark_words js) (2 * i) n
unfolding concat_map
words-set n [] d i h = absurd (not-suc-le-zero h)
words-set n (j ∷ js) d zero h = refl
words-set n (j ∷ js) d (suc i) h =
    let two : 2 * suc i ≡ suc (suc (2 * i)) = omega arith in
    rw two (ap (λ (r : List ℕ). j.status ∷ j.drain ∷ r) (words-set n js d i (le_of_suc-le-suc h)))

module _ (j : LentJobs) where
  pair : ℕ → List ℕ
  pair k = get_or j.job_marks (2 * k) 0 ∷ get_or j.job_marks (2 * k + 1) 0 ∷ []

  by-pairs : (i s n : ℕ) → concat_map job_mark_words (jobs_from j i s n) ≡ concat_map pair (rows_from (λ k. k) i n)
  unfolding concat_map jobs_from rows_from pair
  by-pairs i s zero = refl
  by-pairs i s (suc n) = ap (λ (r : List ℕ). pair i ++ r) (by-pairs (i + 1) (s + source_count j i) n)

  two_at : (s : List ℕ) (a : ℕ) → a + 2 ≤ length s → get_or s a 0 ∷ get_or s (a + 1) 0 ∷ [] ≡ take 2 (drop a s)
  two_at s a h =
      let next : a + 1 ≡ suc a = omega arith in
      rw (next, drop-cons s a 0 (omega arith), drop-cons s (suc a) 0 (omega arith))

  stands : 2 * j.count ≤ length j.job_marks → concat_map job_mark_words (jobs_of j) ≡ take (2 * j.count) j.job_marks
  unfolding jobs_of pair
  stands h = by-pairs 0 0 j.count ∙ words-of-rows pair 2 (λ k. refl) j.job_marks (λ k. k) (λ i k. two_at j.job_marks (2 * i) k) 0 j.count (omega arith)

  -- "Status becomes 4." or 5: of job i, which has the id
  pub status-laid : (u : Ulid) (n i : ℕ) (d : Job) → good_jobs (jobs_of j) ≡ true → 2 * j.count ≤ length j.job_marks → i < j.count → same_ulid (get_or (jobs_of j) i d).id u ≡ true → marks_at n u j ≡ set j.job_marks (2 * i) n
  unfolding good_jobs lay_jobs laid_with
  status-laid u n i d g room h e =
      let listed : i < length (jobs_of j) = omega (arith, length-jobs_of j) in
      let w = concat_map job_mark_words (jobs_of j) in
      let changed : concat_map job_mark_words (set_status u n (jobs_of j)) ≡ set w (2 * i) n =
      ap (concat_map job_mark_words) (status-set u n (jobs_of j) d i listed (and_left (linked rises (jobs_of j)) (all good_job (jobs_of j)) g) e) ∙ words-set n (jobs_of j) d i listed in
      let long : length w ≡ 2 * j.count = length-words job_mark_words 2 (λ x. refl) (jobs_of j) ∙ ap (λ (m : ℕ). 2 * m) (length-jobs_of j) in
      let size : length (set w (2 * i) n) ≡ 2 * j.count = length-set w (2 * i) n ∙ long in
      ap (λ (r : List ℕ). laid (2 * j.count) r j.job_marks) changed
      ∙ grown 0 (2 * j.count) (set w (2 * i) n) j.job_marks (omega arith)
      ∙ ap (λ (m : ℕ). set w (2 * i) n ++ drop m j.job_marks) size
      ∙ sym (set-append_left w (drop (2 * j.count) j.job_marks) (2 * i) n (omega arith))
      ∙ ap (λ (r : List ℕ). set r (2 * i) n) (ap (λ (r : List ℕ). r ++ drop (2 * j.count) j.job_marks) (stands room) ∙ take-append-drop (2 * j.count) j.job_marks)
