-- Merging, id by id: no remote id comes twice, so that each is settled by its own record.
use mathlib.Core.Path.{◌≡◌, refl, sym, ap, ◌∙◌, subst}
use mathlib.Core.Logic.{◌⊎◌, inl, inr}
use mathlib.Core.List.{List, [], ◌∷◌}
use mathlib.Core.Bool.{Bool, true, false, cond}
use mathlib.Core.Option.{Option, some, none}
use Rattle.rules.specs.Lists.{all, first_with}
use Rattle.rules.specs.declared.tables.Ulid.{Ulid}
use Rattle.rules.specs.Tables.{same_ulid, ulid_below, Job}
use Rattle.rules.specs.Bounds.{good_job, good_jobs}
use Rattle.rules.specs.Jobs.{job_with, inserted, adopts, adopt, merged}
use Rattle.rules.proofs.Lookups.{same-ulid, first-none}
use Rattle.laws.specs.NothingLost.{Merged}
use Rattle.laws.proofs.JobIds.{Good, good-parts, parts-good, first_below, rest-good, first_good, above-others}
use Rattle.laws.proofs.Adding.{inserted-with, inserted-good}

-- what becomes of a job that is known, or not, and its remote record
abbrev settled : Option Job → Option Job → Option Job
settled known none = known
settled known (some r) = cond (adopts known r) (some r) known

-- one remote record
adopt-with : (known : List Job) (r : Job) (u : Ulid)
    → job_with u (adopt known r) ≡ cond (same_ulid r.id u) (settled (job_with u known) (some r)) (job_with u known)
adopt-with known r u = go (same_ulid r.id u) refl (adopts (job_with r.id known) r) refl
  where
    go : (c : Bool) → same_ulid r.id u ≡ c → (d : Bool) → adopts (job_with r.id known) r ≡ d
        → job_with u (cond d (inserted r known) known) ≡ cond c (settled (job_with u known) (some r)) (job_with u known)
    go true e true f = inserted-with r known u ∙ rw (e, sym (ap (λ (x : Ulid). adopts (job_with x known) r) (same-ulid r.id u e)) ∙ f)
    go true e false f = rw (sym (ap (λ (x : Ulid). adopts (job_with x known) r) (same-ulid r.id u e)) ∙ f)
    go false e true f = inserted-with r known u ∙ rw e
    go false e false f = refl

adopt-good : (known : List Job) (r : Job) → Good known → good_job r ≡ true → Good (adopt known r)
adopt-good known r g h =
    elim (adopts (job_with r.id known) r) as (λ d. Good (cond d (inserted r known) known)) [ true ↦ inserted-good r h known g | false ↦ g ]

-- all of them
merged-with : (known remote : List Job) → Good remote → (u : Ulid)
    → job_with u (merged known remote) ≡ settled (job_with u known) (job_with u remote)
unfolding merged first_with
merged-with known [] g u = refl
merged-with known (r ∷ rs) g u = merged-with (adopt known r) rs (rest-good r rs g) u ∙ rw (adopt-with known r u) (go (same_ulid r.id u) refl)
  where
    -- its id is none of the later ones
    later : same_ulid r.id u ≡ true → job_with u rs ≡ none
    later e =
        first-none (λ x. same_ulid x.id u) rs
        (above-others u rs (subst (λ (x : Ulid). all (λ k. ulid_below x k.id) rs ≡ true) (same-ulid r.id u e) (first_below r rs g)))

    go : (c : Bool) → same_ulid r.id u ≡ c
        → settled (cond c (settled (job_with u known) (some r)) (job_with u known)) (job_with u rs) ≡ settled (job_with u known) (cond c (some r) (job_with u rs))
    go true e = rw (later e)
    go false e = refl

merged-good : (known remote : List Job) → Good known → Good remote → Good (merged known remote)
unfolding merged
merged-good known [] g h = g
merged-good known (r ∷ rs) g h = merged-good (adopt known r) rs (adopt-good known r g (first_good r rs h)) (rest-good r rs h)

pub merges : (known remote : List Job) → good_jobs known ≡ true → good_jobs remote ≡ true → Merged known remote (merged known remote)
merges known remote g h =
    let at = merged-with known remote (good-parts remote h) in
    record {
      stays = λ u e. at u ∙ ap (settled (job_with u known)) e;
      not_adopted = λ u r e n. at u ∙ ap (settled (job_with u known)) e ∙ rw n;
      adopted = λ u r e y. at u ∙ ap (settled (job_with u known)) e ∙ rw y;
      ids = λ u x e. let r = there (job_with u remote) x in (r.0, at u ∙ ap (λ (k : Option Job). settled k (job_with u remote)) e ∙ r.1);
      from = λ u y e. source (job_with u known) (job_with u remote) y (sym (at u) ∙ e);
      good = parts-good (merged known remote) (merged-good known remote (good-parts known g) (good-parts remote h));
    }
  where
    there : (remote : Option Job) (x : Job) → (y : Job) × (settled (some x) remote ≡ some y)
    there none x = (x, refl)
    there (some r) x = elim (adopts (some x) r) as (λ c. (y : Job) × (cond c (some r) (some x) ≡ some y)) [ true ↦ (r, refl) | false ↦ (x, refl) ]

    source : (known remote : Option Job) (y : Job) → settled known remote ≡ some y → (known ≡ some y) ⊎ (remote ≡ some y)
    source known none y e = inl e
    source known (some r) y e = go (adopts known r) e
      where
        go : (c : Bool) → cond c (some r) known ≡ some y → (known ≡ some y) ⊎ (some r ≡ some y)
        go true e = inr e
        go false e = inl e
