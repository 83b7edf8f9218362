-- Refusal 2's rules on trees and jobs (`good_trees`, `good_jobs`), as they are read off the slices.
use Prim.Native.Nat.{ℕ, zero, suc, ◌+◌, ◌*◌, ◌<◌}
use mathlib.Core.Path.{◌≡◌, refl, sym, ap, ◌∙◌}
use mathlib.Core.List.{List, [], ◌∷◌, map}
use mathlib.Core.Bool.{Bool, true, false, ◌&&◌}
use native.Mathlib.Nat.{one-mul, lt_irrefl}
use lib.Dec.{eqb, ltb}
use lib.ListN.{get_or}
use Rattle.rules.specs.Lists.{all, linked, distinct, total}
use Rattle.rules.specs.declared.tables.Ulid.{Ulid}
use Rattle.rules.specs.declared.tables.Run.{Run}
use Rattle.rules.specs.declared.tables.Source.{Source}
use Rattle.rules.specs.Tables.{same_ulid, ulid_below, L0Row, Job}
use Rattle.rules.specs.Lent.{LentTrees, LentJobs, rows_from, ulid_at, l0_at, run_at, source_at, l0_count, run_count, source_count, trees_from, trees_of, jobs_from, jobs_of, l0_used, runs_used, l0_of, runs_of}
use Rattle.rules.specs.Bounds.{is_mark, first_is_root, falling_ids, good_trees, good_sources, good_job, good_jobs}
use Rattle.rules.proofs.Appended.{all_append}
use Rattle.rules.proofs.Rows.{rows_from-same, rows_from-append, map-rows_from}
use Rattle.rules.proofs.Packed.{l0-first, runs-first, prefixes, marks}
use Rattle.rows.specs.Shape.{falling_from, good_marks_at, flat_trees, flat_jobs}

-- ---- tests of a part of each row

module _ {A B : Type 0} (g : A → B) where
  pub all_map : (p : B → Bool) (xs : List A) → all p (map g xs) ≡ all (λ x. p (g x)) xs
  unfolding all
  all_map p [] = refl
  all_map p (x ∷ xs) = ap (λ (b : Bool). p (g x) && b) (all_map p xs)

  pub linked-map : (r : B → B → Bool) (xs : List A) → linked r (map g xs) ≡ linked (λ x y. r (g x) (g y)) xs
  unfolding linked
  linked-map r [] = refl
  linked-map r (x ∷ []) = refl
  linked-map r (x ∷ (y ∷ ys)) = ap (λ (b : Bool). r (g x) (g y) && b) (linked-map r (y ∷ ys))

-- rows of one number
pub width_one : (s : List ℕ) (n : ℕ) → rows_from (λ k. get_or s (1 * k) 0) 0 n ≡ rows_from (λ k. get_or s k 0) 0 n
width_one s n = rows_from-same (λ k. get_or s (1 * k) 0) (λ k. get_or s k 0) 0 0 n (λ k h. ap (λ (i : ℕ). get_or s i 0) (one-mul (0 + k)))

-- six tests, each read in another way
and-six : {a b c d e f u v w x y z : Bool} → a ≡ u → b ≡ v → c ≡ w → d ≡ x → e ≡ y → f ≡ z → a && b && c && d && e && f ≡ u && v && w && x && y && z
and-six p q r s t o = λ i. p i && q i && r i && s i && t i && o i

-- ---- trees

module _ (t : LentTrees) where
  falling-is : (i l r n : ℕ) → all (λ x. falling_ids x.runs) (trees_from t i l r n) ≡ falling_from t.trees t.run_ids i r n
  unfolding trees_from all falling_ids falling_from
  falling-is i l r zero = refl
  falling-is i l r (suc n) =
      rw (falling-is (i + 1) (l + l0_count t i) (r + run_count t i) n, ← linked-map (λ (x : Run). x.id) (λ a b. ltb b a) (rows_from (run_at t) r (run_count t i)), map-rows_from (λ (x : Run). x.id) (run_at t) r (run_count t i))

  root_is : 0 < t.count → first_is_root (trees_of t) ≡ eqb (get_or t.trees 0 0) 0
  unfolding trees_of trees_from
  root_is h = go t.count h
    where
      go : (n : ℕ) → 0 < n → first_is_root (trees_from t 0 0 0 n) ≡ eqb (get_or t.trees 0 0) 0
      go zero h = absurd (lt_irrefl 0 h)
      go (suc n) h = refl

  -- the rules on trees, slice by slice
  pub flat-trees : 0 < t.count → good_trees (trees_of t) ≡ flat_trees t.count t.trees t.watermark_marks t.l0_ids t.run_ids
  unfolding good_trees trees_of flat_trees l0_used runs_used
  flat-trees h =
      let runs : map (λ (x : Run). x.id) (runs_of (trees_of t)) ≡ rows_from (λ k. get_or t.run_ids (1 * k) 0) 0 (runs_used t) =
      ap (map (λ (x : Run). x.id)) (runs-first t) ∙ map-rows_from (λ (x : Run). x.id) (run_at t) 0 (runs_used t) ∙ sym (width_one t.run_ids (runs_used t)) in
      let views : map (λ (x : L0Row). x.view) (l0_of (trees_of t)) ≡ rows_from (λ k. ulid_at t.l0_ids (4 * k)) 0 (l0_used t) =
      ap (map (λ (x : L0Row). x.view)) (l0-first t) ∙ map-rows_from (λ (x : L0Row). x.view) (l0_at t) 0 (l0_used t) in
      and-six (root_is h)
      (ap (distinct eqb) (prefixes t 0 0 0 t.count))
      (falling-is 0 0 0 t.count)
      (ap (distinct eqb) runs)
      (ap (distinct same_ulid) views)
      (marks t 0 0 0 t.count)

-- ---- jobs

-- the marks of one job's sources
pub source-marks : (marks runs views : List ℕ) (s n : ℕ) → good_sources (rows_from (source_at marks runs views) s n) ≡ all is_mark (rows_from (λ k. get_or marks k 0) s n)
unfolding good_sources
source-marks marks runs views s n = sym (all_map (λ (x : Source). x.mark) is_mark (rows_from (source_at marks runs views) s n)) ∙ ap (all is_mark) (map-rows_from (λ (x : Source). x.mark) (source_at marks runs views) s n)

-- two tests of one job, two of the later ones
shuffled : (a b c d : Bool) → a && b && (c && d) ≡ a && c && (b && d)
shuffled false b c d = refl
shuffled true false false d = refl
shuffled true false true d = refl
shuffled true true c d = refl

module _ (j : LentJobs) where
  pub ids-are : (i s n : ℕ) → map (λ (x : Job). x.id) (jobs_from j i s n) ≡ rows_from (λ k. ulid_at j.job_ids (2 * k)) i n
  unfolding jobs_from rows_from
  ids-are i s zero = refl
  ids-are i s (suc n) = ap (λ (l : List Ulid). ulid_at j.job_ids (2 * i) ∷ l) (ids-are (i + 1) (s + source_count j i) n)

  jobs-good : (i s n : ℕ) → all good_job (jobs_from j i s n) ≡ all (good_marks_at j.job_marks) (rows_from (λ k. k) i n) && all is_mark (rows_from (λ k. get_or j.source_marks k 0) s (total (rows_from (source_count j) i n)))
  unfolding jobs_from rows_from all good_job total
  jobs-good i s zero = refl
  jobs-good i s (suc n) =
      let mine = rows_from (λ k. get_or j.source_marks k 0) s (source_count j i) in
      let later = rows_from (λ k. get_or j.source_marks k 0) (s + source_count j i) (total (rows_from (source_count j) (i + 1) n)) in
      let others = all (good_marks_at j.job_marks) (rows_from (λ k. k) (i + 1) n) in
      rw (jobs-good (i + 1) (s + source_count j i) n, source-marks j.source_marks j.source_runs j.source_views s (source_count j i), rows_from-append (λ k. get_or j.source_marks k 0) s (source_count j i) (total (rows_from (source_count j) (i + 1) n)))
      (shuffled (good_marks_at j.job_marks i) (all is_mark mine) others (all is_mark later) ∙ ap (λ (b : Bool). good_marks_at j.job_marks i && others && b) (sym (all_append is_mark mine later)))

  -- the rules on jobs, slice by slice
  pub flat-jobs : good_jobs (jobs_of j) ≡ flat_jobs j.count j.job_ids j.job_marks j.job_specs j.source_marks
  unfolding good_jobs jobs_of flat_jobs
  flat-jobs =
      let rising : linked (λ (a b : Job). ulid_below a.id b.id) (jobs_of j) ≡ linked ulid_below (rows_from (λ k. ulid_at j.job_ids (2 * k)) 0 j.count) =
      sym (linked-map (λ (x : Job). x.id) ulid_below (jobs_of j)) ∙ ap (linked ulid_below) (ids-are 0 0 j.count) in
      λ i. rising i && jobs-good 0 0 j.count i
