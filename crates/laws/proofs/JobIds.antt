-- Jobs whose ids rise, as refusal 2 has it: the first is below all others, and a job is known by its id.
use mathlib.Core.Path.{◌≡◌, refl, ap, ap₂}
use mathlib.Core.List.{List, [], ◌∷◌}
use mathlib.Core.Bool.{Bool, true, false, ◌&&◌}
use Rattle.rules.specs.Lists.{any, all, keep, linked}
use Rattle.rules.specs.declared.tables.Ulid.{Ulid}
use Rattle.rules.specs.Tables.{same_ulid, ulid_below, Job}
use Rattle.rules.specs.Bounds.{good_job, good_jobs}
use Rattle.rules.proofs.Lookups.{and_left, and_right, or_left, or_right, same-ulid}
use Rattle.rules.proofs.Ulids.{below-trans, below_other}
use Rattle.rules.proofs.Sorted.{linked-rest, linked-cons, linked-first, all_none}

-- by id
abbrev pub below : Job → Job → Bool
below a b = ulid_below a.id b.id

pub job-trans : (a b c : Job) → below a b ≡ true → below b c ≡ true → below a c ≡ true
job-trans a b c h k = below-trans a.id b.id c.id h k

-- good jobs
pub record Good (js : List Job) : Type 0 where
  pub rising : linked below js ≡ true
  pub each : all good_job js ≡ true

pub good-parts : (js : List Job) → good_jobs js ≡ true → Good js
unfolding good_jobs
good-parts js h = record { rising = and_left (linked below js) (all good_job js) h; each = and_right (linked below js) (all good_job js) h }

pub parts-good : (js : List Job) → Good js → good_jobs js ≡ true
unfolding good_jobs
parts-good js g = ap₂ ◌&&◌ g.rising g.each

-- the first is below all others
pub first_below : (k : Job) (ks : List Job) → Good (k ∷ ks) → all (below k) ks ≡ true
first_below k ks g = linked-first below job-trans k ks g.rising

pub rest-good : (k : Job) (ks : List Job) → Good (k ∷ ks) → Good ks
unfolding all
rest-good k ks g = record { rising = linked-rest below k ks g.rising; each = and_right (good_job k) (all good_job ks) g.each }

pub cons-good : (k : Job) (ks : List Job) → all (below k) ks ≡ true → good_job k ≡ true → Good ks → Good (k ∷ ks)
unfolding all
cons-good k ks h g r = record { rising = linked-cons below k ks h r.rising; each = ap₂ ◌&&◌ g r.each }

pub first_good : (k : Job) (ks : List Job) → Good (k ∷ ks) → good_job k ≡ true
unfolding all
first_good k ks g = and_left (good_job k) (all good_job ks) g.each

-- the same id on the other side of a test
pub same_left : (a b u : Ulid) → same_ulid a b ≡ true → same_ulid a u ≡ same_ulid b u
same_left a b u h = ap (λ (x : Ulid). same_ulid x u) (same-ulid a b h)

-- jobs above u are not of that id
pub above-others : (u : Ulid) (ks : List Job) → all (λ k. ulid_below u k.id) ks ≡ true → any (λ k. same_ulid k.id u) ks ≡ false
above-others u ks h = all_none (λ k. ulid_below u k.id) (λ k. same_ulid k.id u) (λ k. below_other u k.id) ks h

-- of entries of which none has p, none is kept
pub keep-none : {A : Type 0} (p : A → Bool) (xs : List A) → any p xs ≡ false → keep p xs ≡ []
unfolding any keep
keep-none p [] h = refl
keep-none p (x ∷ xs) h = rw (or_left (p x) (any p xs) h) (keep-none p xs (or_right (p x) (any p xs) h))
