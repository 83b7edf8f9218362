-- Adding: a job goes to its place by id, and the others stay in theirs.
use Prim.Native.Nat.{◌+◌}
use mathlib.Core.Path.{◌≡◌, refl, sym, ap, ap₂, ◌∙◌, subst}
use mathlib.Core.List.{List, [], ◌∷◌, ◌++◌, append-nil}
use mathlib.Core.Bool.{Bool, true, false, cond, ◌&&◌, not, true≢false}
use mathlib.Core.Option.{some}
use native.Mathlib.Omega.{arith}
use lib.ListN.{length, length-append}
use Rattle.rules.specs.Lists.{all, keep, first_with, linked, concat_map}
use Rattle.rules.specs.declared.tables.Ulid.{Ulid}
use Rattle.rules.specs.declared.tables.Source.{Source}
use Rattle.rules.specs.Tables.{same_ulid, ulid_below, Job}
use Rattle.rules.specs.Lent.{sources_of}
use Rattle.rules.specs.Bounds.{good_job, good_jobs}
use Rattle.rules.specs.Jobs.{job_with, inserted}
use Rattle.rules.proofs.Lookups.{and_left, and_right, same-ulid, ulid-same, ulid-ids}
use Rattle.rules.proofs.Ulids.{below_total}
use Rattle.rules.proofs.Sorted.{all_weaker}
use Rattle.laws.specs.NothingLost.{others_than, count, Added}
use Rattle.laws.proofs.Used.{keep_append}
use Rattle.laws.proofs.JobIds.{below, job-trans, Good, good-parts, parts-good, first_below, rest-good, cons-good, first_good, same_left, above-others, keep-none}

module _ (j : Job) where
  -- of each id
  pub inserted-with : (js : List Job) (u : Ulid) → job_with u (inserted j js) ≡ cond (same_ulid j.id u) (some j) (job_with u js)
  unfolding inserted first_with
  inserted-with [] u = refl
  inserted-with (k ∷ ks) u = go (same_ulid k.id j.id) refl (ulid_below j.id k.id) (same_ulid j.id u) refl (same_ulid k.id u) refl (inserted-with ks u)
    where
      go : (c : Bool) → same_ulid k.id j.id ≡ c → (d : Bool) (a : Bool) → same_ulid j.id u ≡ a → (b : Bool) → same_ulid k.id u ≡ b
          → job_with u (inserted j ks) ≡ cond (same_ulid j.id u) (some j) (job_with u ks)
          → job_with u (cond c (j ∷ ks) (cond d (j ∷ k ∷ ks) (k ∷ inserted j ks))) ≡ cond a (some j) (cond b (some k) (job_with u ks))
      go true e d true f b g ih = rw f
      go true e d false f true g ih = absurd (true≢false (sym g ∙ same_left k.id j.id u e ∙ f))
      go true e d false f false g ih = rw f
      go false e true a f b g ih = rw (f, g)
      go false e false true f true g ih =
          absurd (true≢false (sym (ulid-ids.chains k.id u j.id g (ulid-ids.turns j.id u f)) ∙ e))
      go false e false true f false g ih = rw (g, ih, f)
      go false e false false f true g ih = rw g
      go false e false false f false g ih = rw (g, ih, f)

  -- what holds of the job and of the others holds of all
  inserted-all : (p : Job → Bool) (js : List Job) → p j ≡ true → all p js ≡ true → all p (inserted j js) ≡ true
  unfolding inserted all
  inserted-all p [] h g = rw h
  inserted-all p (k ∷ ks) h g = go (same_ulid k.id j.id) (ulid_below j.id k.id) (inserted-all p ks h (and_right (p k) (all p ks) g))
    where
      go : (c d : Bool) → all p (inserted j ks) ≡ true → all p (cond c (j ∷ ks) (cond d (j ∷ k ∷ ks) (k ∷ inserted j ks))) ≡ true
      go true d ih = ap₂ ◌&&◌ h (and_right (p k) (all p ks) g)
      go false true ih = ap₂ ◌&&◌ h g
      go false false ih = ap₂ ◌&&◌ (and_left (p k) (all p ks) g) ih

  -- ids still rise
  pub inserted-good : good_job j ≡ true → (js : List Job) → Good js → Good (inserted j js)
  unfolding inserted all linked
  inserted-good h [] g = record { rising = refl; each = rw h }
  inserted-good h (k ∷ ks) g = go (same_ulid k.id j.id) refl (ulid_below j.id k.id) refl (inserted-good h ks (rest-good k ks g))
    where
      go : (c : Bool) → same_ulid k.id j.id ≡ c → (d : Bool) → ulid_below j.id k.id ≡ d → Good (inserted j ks)
          → Good (cond c (j ∷ ks) (cond d (j ∷ k ∷ ks) (k ∷ inserted j ks)))
      go true e d f ih =
          cons-good j ks (subst (λ (u : Ulid). all (λ x. ulid_below u x.id) ks ≡ true) (same-ulid k.id j.id e) (first_below k ks g)) h (rest-good k ks g)
      go false e true f ih =
          cons-good j (k ∷ ks) (ap₂ ◌&&◌ f (all_weaker (below k) (below j) (λ x. job-trans j k x f) ks (first_below k ks g))) h g
      go false e false f ih =
          cons-good k (inserted j ks) (inserted-all (below k) ks (below_total k.id j.id e f) (first_below k ks g)) (first_good k ks g) ih

  -- the others stand as they stood
  inserted-others : (js : List Job) → others_than j.id (inserted j js) ≡ others_than j.id js
  unfolding inserted keep
  inserted-others [] = rw (ulid-same j.id j.id refl)
  inserted-others (k ∷ ks) = go (same_ulid k.id j.id) refl (ulid_below j.id k.id) (inserted-others ks)
    where
      self : same_ulid j.id j.id ≡ true
      self = ulid-same j.id j.id refl

      go : (c : Bool) → same_ulid k.id j.id ≡ c → (d : Bool) → others_than j.id (inserted j ks) ≡ others_than j.id ks
          → others_than j.id (cond c (j ∷ ks) (cond d (j ∷ k ∷ ks) (k ∷ inserted j ks))) ≡ cond (not c) (k ∷ others_than j.id ks) (others_than j.id ks)
      go true e d ih = rw self
      go false e true ih = rw (self, e)
      go false e false ih = rw (e, ih)

  -- and of its id there is just this job
  inserted-once : (js : List Job) → Good js → keep (λ k. same_ulid k.id j.id) (inserted j js) ≡ j ∷ []
  unfolding inserted keep all
  inserted-once [] g = rw (ulid-same j.id j.id refl)
  inserted-once (k ∷ ks) g = go (same_ulid k.id j.id) refl (ulid_below j.id k.id) refl (inserted-once ks (rest-good k ks g))
    where
      mine : Job → Bool
      mine x = same_ulid x.id j.id

      self : same_ulid j.id j.id ≡ true
      self = ulid-same j.id j.id refl

      go : (c : Bool) → same_ulid k.id j.id ≡ c → (d : Bool) → ulid_below j.id k.id ≡ d → keep mine (inserted j ks) ≡ j ∷ []
          → keep mine (cond c (j ∷ ks) (cond d (j ∷ k ∷ ks) (k ∷ inserted j ks))) ≡ j ∷ []
      go true e d f ih =
          rw (self, keep-none mine ks (above-others j.id ks (subst (λ (u : Ulid). all (λ x. ulid_below u x.id) ks ≡ true) (same-ulid k.id j.id e) (first_below k ks g))))
      go false e true f ih =
          rw (self, e, keep-none mine ks (above-others j.id ks (all_weaker (below k) (below j) (λ x. job-trans j k x f) ks (first_below k ks g))))
      go false e false f ih = rw (e, ih)

-- ---- entries, counted
module _ (p : Source → Bool) where
  count-append : (xs ys : List Source) → count p (xs ++ ys) ≡ count p xs + count p ys
  count-append xs ys = ap length (keep_append p xs ys) ∙ length-append (keep p xs) (keep p ys)

  -- those of some jobs and of the others
  count-split : (q : Job → Bool) (js : List Job)
      → count p (sources_of js) ≡ count p (sources_of (keep (λ j. not (q j)) js)) + count p (sources_of (keep q js))
  unfolding keep concat_map
  count-split q [] = refl
  count-split q (j ∷ js) = go (q j) (count-split q js)
    where
      go : (c : Bool) → count p (sources_of js) ≡ count p (sources_of (keep (λ j. not (q j)) js)) + count p (sources_of (keep q js))
          → count p (j.sources ++ sources_of js)
          ≡ count p (sources_of (cond (not c) (j ∷ keep (λ j. not (q j)) js) (keep (λ j. not (q j)) js))) + count p (sources_of (cond c (j ∷ keep q js) (keep q js)))
      go true ih = rw (count-append j.sources (sources_of js), count-append j.sources (sources_of (keep q js))) (omega arith)
      go false ih = rw (count-append j.sources (sources_of js), count-append j.sources (sources_of (keep (λ j. not (q j)) js))) (omega arith)

pub added : (j : Job) (js : List Job) → good_job j ≡ true → good_jobs js ≡ true → Added j js (inserted j js)
unfolding concat_map
added j js h g =
    let parts = good-parts js g in
    record {
      new = inserted-with j js j.id ∙ rw (ulid-same j.id j.id refl);
      others = inserted-others j js;
      entries = λ p.
          count-split p (λ k. same_ulid k.id j.id) (inserted j js)
          ∙ rw (inserted-others j js, inserted-once j js parts, append-nil j.sources);
      good = parts-good (inserted j js) (inserted-good j h js parts);
    }
