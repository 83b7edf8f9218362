-- What the look-ups find: the tree of a prefix and the job of an id, with where their rows start.
use Prim.Native.Nat.{ℕ, ◌*◌, ◌≤◌, ◌<◌}
use mathlib.Core.Path.{◌≡◌, refl, sym, ap, ◌∙◌}
use mathlib.Core.List.{List, [], ◌∷◌, map}
use mathlib.Core.Bool.{Bool, not}
use mathlib.Core.Option.{some, none}
use lib.Dec.{eqb}
use lib.ListN.{get_or}
use Rattle.rules.specs.Lists.{leading, total}
use Rattle.rules.specs.declared.tables.Ulid.{Ulid}
use Rattle.rules.specs.Tables.{same_ulid, Tree, Job}
use Rattle.rules.specs.Lent.{LentTrees, LentJobs, rows_from, ulid_at, l0_count, run_count, source_count, tree_at, trees_of, job_at, jobs_of}
use Rattle.rules.specs.Validation.{tree_with}
use Rattle.rules.specs.Jobs.{job_with}
use Rattle.rules.proofs.Packed.{length-trees_of, length-jobs_of, tree_is, job_is, prefixes}
use Rattle.rules.proofs.Lookups.{leading-found, leading-none}
use Rattle.rows.proofs.Shapes.{ids-are}

-- a look-up by a part of each row
pub leading-map : {A B : Type 0} (g : A → B) (q : B → Bool) (xs : List A) → leading q (map g xs) ≡ leading (λ x. q (g x)) xs
unfolding leading
leading-map g q [] = refl
leading-map g q (x ∷ xs) = rw (leading-map g q xs)

module _ (t : LentTrees) (prefix i : ℕ) (e : i ≡ leading (λ p. not (eqb p prefix)) (rows_from (λ k. get_or t.trees (3 * k) 0) 0 t.count)) where
  tree-place : i ≡ leading (λ x. not (eqb x.prefix prefix)) (trees_of t)
  unfolding trees_of
  tree-place = e ∙ ap (leading (λ p. not (eqb p prefix))) (sym (prefixes t 0 0 0 t.count)) ∙ leading-map (λ (x : Tree). x.prefix) (λ p. not (eqb p prefix)) (trees_of t)

  pub tree-found : i < t.count → tree_with prefix (trees_of t) ≡ some (tree_at t i (total (rows_from (l0_count t) 0 i)) (total (rows_from (run_count t) 0 i)))
  tree-found h =
      let d = tree_at t 0 0 0 in
      leading-found (λ (x : Tree). eqb x.prefix prefix) d (trees_of t) (rw (← tree-place, length-trees_of) h)
      ∙ ap (λ (k : ℕ). some (get_or (trees_of t) k d)) (sym tree-place)
      ∙ ap some (tree_is t i d h)

  pub tree-missing : t.count ≤ i → tree_with prefix (trees_of t) ≡ none
  tree-missing h = leading-none (λ (x : Tree). eqb x.prefix prefix) (trees_of t) (rw (← tree-place, length-trees_of) h)

module _ (j : LentJobs) (u : Ulid) (i : ℕ) (e : i ≡ leading (λ v. not (same_ulid v u)) (rows_from (λ k. ulid_at j.job_ids (2 * k)) 0 j.count)) where
  job-place : i ≡ leading (λ x. not (same_ulid x.id u)) (jobs_of j)
  unfolding jobs_of
  job-place = e ∙ ap (leading (λ v. not (same_ulid v u))) (sym (ids-are j 0 0 j.count)) ∙ leading-map (λ (x : Job). x.id) (λ v. not (same_ulid v u)) (jobs_of j)

  pub job-found : i < j.count → job_with u (jobs_of j) ≡ some (job_at j i (total (rows_from (source_count j) 0 i)))
  job-found h =
      let d = job_at j 0 0 in
      leading-found (λ (x : Job). same_ulid x.id u) d (jobs_of j) (rw (← job-place, length-jobs_of) h)
      ∙ ap (λ (k : ℕ). some (get_or (jobs_of j) k d)) (sym job-place)
      ∙ ap some (job_is j i d h)

  pub job-missing : j.count ≤ i → job_with u (jobs_of j) ≡ none
  job-missing h = leading-none (λ (x : Job). same_ulid x.id u) (jobs_of j) (rw (← job-place, length-jobs_of) h)
