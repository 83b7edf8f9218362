-- The place of an id among jobs, and a job put there: as many jobs stand before it as have lower ids.
use Prim.Native.Nat.{ℕ, zero, suc, ◌+◌, ◌*◌, ◌≤◌, suc-le-suc}
use mathlib.Core.Path.{◌≡◌, refl, sym, ap, ◌∙◌, fun_ext}
use mathlib.Core.List.{List, [], ◌∷◌, ◌++◌}
use mathlib.Core.Bool.{Bool, true, false, cond, not, true≢false, not-not}
use native.Mathlib.Omega.{arith}
use lib.ListN.{length, take, drop, length-append, take-append-drop}
use lib.Seq.{take_at, drop_at}
use Rattle.rules.specs.Lists.{any, leading, concat_map, total}
use Rattle.rules.specs.declared.tables.Ulid.{Ulid}
use Rattle.rules.specs.Tables.{same_ulid, ulid_below, Job}
use Rattle.rules.specs.Lent.{LentJobs, rows_from, ulid_at, source_at, source_count, job_at, jobs_from, jobs_of, sources_of}
use Rattle.rules.specs.Jobs.{inserted}
use Rattle.rules.proofs.Lookups.{or_left, or_right, same-ulid, ulid-same}
use Rattle.rules.proofs.Ulids.{below-trans, below_other, below_total}
use Rattle.rules.proofs.Rows.{length-rows_from, concat_map-append}
use Rattle.rules.proofs.Packed.{length-jobs_of}
use Rattle.rows.proofs.Shapes.{ids-are}
use Rattle.rows.proofs.Found.{leading-map}

module _ {A : Type 0} where
  -- a test turned twice
  pub leading-twice : (q : A → Bool) (xs : List A) → leading (λ x. not (not (q x))) xs ≡ leading q xs
  leading-twice q xs = ap (λ (r : A → Bool). leading r xs) (fun_ext (λ x. not-not (q x)))

  leading-within : (q : A → Bool) (xs : List A) → leading q xs ≤ length xs
  unfolding leading
  leading-within q [] = omega arith
  leading-within q (x ∷ xs) = go (q x) (leading-within q xs)
    where
      go : (b : Bool) → leading q xs ≤ length xs → cond b (suc (leading q xs)) 0 ≤ suc (length xs)
      go true h = suc-le-suc h
      go false h = omega arith

-- of two ids that are not the same exactly one is below the other
below-turned : (a b : Ulid) → same_ulid a b ≡ false → ulid_below b a ≡ not (ulid_below a b)
below-turned a b s = go (ulid_below a b) (ulid_below b a) (same_ulid b a) refl refl refl
  where
    go : (x y z : Bool) → ulid_below a b ≡ x → ulid_below b a ≡ y → same_ulid b a ≡ z → y ≡ not x
    go true false z e f g = refl
    go true true z e f g = absurd (true≢false (sym (ulid-same a a refl) ∙ below_other a a (below-trans a b a e f)))
    go false true z e f g = refl
    go false false true e f g = absurd (true≢false (sym (ulid-same a b (sym (same-ulid b a g))) ∙ s))
    go false false false e f g = absurd (true≢false (sym (below_total b a g e) ∙ f))

-- ---- a job whose id is not there

module _ (x : Job) where
  abbrev pub lower : Job → Bool
  lower y = ulid_below y.id x.id

  abbrev pub same : Job → Bool
  same y = same_ulid y.id x.id

  pub inserted-at : (js : List Job) → any same js ≡ false → inserted x js ≡ take (leading lower js) js ++ (x ∷ drop (leading lower js) js)
  unfolding inserted leading any
  inserted-at [] h = refl
  inserted-at (y ∷ ys) h =
      let other : same y ≡ false = or_left (same y) (any same ys) h in
      rw (other, below-turned y.id x.id other) (go (lower y) (inserted-at ys (or_right (same y) (any same ys) h)))
    where
      go : (b : Bool) → inserted x ys ≡ take (leading lower ys) ys ++ (x ∷ drop (leading lower ys) ys)
          → cond (not b) (x ∷ y ∷ ys) (y ∷ inserted x ys) ≡ take (cond b (suc (leading lower ys)) 0) (y ∷ ys) ++ (x ∷ drop (cond b (suc (leading lower ys)) 0) (y ∷ ys))
      go true e = ap (λ l. y ∷ l) e
      go false e = refl

-- ---- the place in a table

module _ (j : LentJobs) where
  -- the ids of the slice are those of the jobs
  pub place_is : (u : Ulid) → leading (λ v. ulid_below v u) (rows_from (λ k. ulid_at j.job_ids (2 * k)) 0 j.count) ≡ leading (λ y. ulid_below y.id u) (jobs_of j)
  unfolding jobs_of
  place_is u = ap (leading (λ v. ulid_below v u)) (sym (ids-are j 0 0 j.count)) ∙ leading-map (λ (y : Job). y.id) (λ v. ulid_below v u) (jobs_of j)

  pub place-within : (u : Ulid) → leading (λ y. ulid_below y.id u) (jobs_of j) ≤ j.count
  place-within u = rw (length-jobs_of j) at (leading-within (λ y. ulid_below y.id u) (jobs_of j))

  entries-of : (i s n : ℕ) → length (sources_of (jobs_from j i s n)) ≡ total (rows_from (source_count j) i n)
  unfolding jobs_from rows_from concat_map total
  entries-of i s zero = refl
  entries-of i s (suc n) =
      let mine = rows_from (source_at j.source_marks j.source_runs j.source_views) s (source_count j i) in
      let long : length mine ≡ source_count j i = length-rows_from (source_at j.source_marks j.source_runs j.source_views) s (source_count j i) in
      omega (arith, length-append mine (sources_of (jobs_from j (i + 1) (s + source_count j i) n)), entries-of (i + 1) (s + source_count j i) n)

  take-jobs : (i s n m : ℕ) → m ≤ n → take m (jobs_from j i s n) ≡ jobs_from j i s m
  unfolding jobs_from
  take-jobs i s n zero h = refl
  take-jobs i s zero (suc m) h = absurd (omega arith)
  take-jobs i s (suc n) (suc m) h = ap (λ l. job_at j i s ∷ l) (take-jobs (i + 1) (s + source_count j i) n m (omega arith))

  -- the entries of the first jobs
  pub entries-before : (at : ℕ) → at ≤ j.count → length (sources_of (take at (jobs_of j))) ≡ total (rows_from (source_count j) 0 at)
  unfolding jobs_of
  entries-before at h = ap (λ (js : List Job). length (sources_of js)) (take-jobs 0 0 j.count at h) ∙ entries-of 0 0 at

-- the entries of jobs of which one is new
pub sources-at : (x : Job) (js : List Job) (at from : ℕ) → from ≡ length (sources_of (take at js)) → take from (sources_of js) ++ (x.sources ++ drop from (sources_of js)) ≡ sources_of (take at js ++ (x ∷ drop at js))
unfolding concat_map
sources-at x js at from e =
    let split : sources_of js ≡ sources_of (take at js) ++ sources_of (drop at js) = ap sources_of (sym (take-append-drop at js)) ∙ concat_map-append (λ (y : Job). y.sources) (take at js) (drop at js) in
    let front : take from (sources_of js) ≡ sources_of (take at js) = ap (take from) split ∙ take_at (sources_of (take at js)) (sources_of (drop at js)) from (sym e) in
    let back : drop from (sources_of js) ≡ sources_of (drop at js) = ap (drop from) split ∙ drop_at (sources_of (take at js)) (sources_of (drop at js)) from (sym e) in
    rw (front, back) (sym (concat_map-append (λ (y : Job). y.sources) (take at js) (x ∷ drop at js)))
