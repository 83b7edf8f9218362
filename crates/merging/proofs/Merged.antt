-- Merging: which local jobs stay and which remote ones are adopted is known from the two tables as they were; the jobs after
-- the merge are those that stay, with the adopted ones put at their places one after the other.
use Prim.Native.Nat.{◌+◌}
use mathlib.Core.Path.{◌≡◌, refl, sym, ap, ◌∙◌, subst, subst₂, fun_ext}
use mathlib.Core.List.{List, [], ◌∷◌}
use mathlib.Core.Bool.{Bool, true, false, cond, ◌&&◌, ◌||◌, not, true≢false}
use mathlib.Core.Option.{Option, some, none}
use native.Mathlib.Omega.{arith}
use borrow.Author.Tests.{not-true}
use lib.Dec.{ltb}
use lib.ListN.{length, length-append}
use Rattle.rules.specs.Lists.{all, keep, first_with, concat_map}
use Rattle.rules.specs.declared.tables.Ulid.{Ulid}
use Rattle.rules.specs.Tables.{same_ulid, ulid_below, Job}
use Rattle.rules.specs.Lent.{sources_of}
use Rattle.rules.specs.Bounds.{max_jobs, max_sources}
use Rattle.rules.specs.Jobs.{job_with, inserted, adopts, merged, too_many}
use Rattle.merging.specs.Merge.{adopted, not_taken, stays, inserted_all, all_new}
use Rattle.rules.proofs.Lookups.{and_left, and_right, same-ulid, ulid-ids, first-none}
use Rattle.rules.proofs.Ulids.{below_other}
use Rattle.rules.proofs.Inserting.{keep_same, keep_all, none_kept, rising, has_id, all_above, rising-rest, rising-first, above-absent, length_inserted, entries-inserted, rising-inserted, found-other, keep-inserted}

-- jobs J that come of jobs K when new jobs A are put at their places one after the other
pub record Takes (J K A : List Job) : Type 0 where
  pub result : inserted_all K A ≡ J
  pub new : all_new K A ≡ true

nothing : {J K : List Job} → K ≡ J → Takes J K []
unfolding inserted_all all_new
nothing e = record { result = e; new = refl }

one : {J K A : List Job} {a : Job} → has_id a.id K ≡ false → Takes J (inserted a K) A → Takes J K (a ∷ A)
unfolding inserted_all all_new
one h t = record { result = t.result; new = rw h t.new }

-- a turned test
turned : (a b : Ulid) → same_ulid a b ≡ false → same_ulid b a ≡ false
turned a b h = go (same_ulid b a) refl
  where
    go : (t : Bool) → same_ulid b a ≡ t → t ≡ false
    go false e = refl
    go true e = absurd (true≢false (sym (ulid-ids.turns b a e) ∙ h))

-- ---- the next remote job r, whose id is below those of the jobs rs after it

module _ (r : Job) (rs : List Job) (up : all_above r.id rs ≡ true) where
  absent : job_with r.id rs ≡ none
  absent = first-none (λ (j : Job). same_ulid j.id r.id) rs (above-absent r.id rs up)

  -- where it is not taken, it makes no difference to the jobs that stay
  stays-untaken : (p : Job → Bool) → p r ≡ false → (l : Job) → stays p (r ∷ rs) l ≡ stays p rs l
  unfolding first_with
  stays-untaken p h l = go (same_ulid r.id l.id) refl
    where
      go : (b : Bool) → same_ulid r.id l.id ≡ b → not_taken p (cond b (some r) (job_with l.id rs)) ≡ stays p rs l
      go true e = rw (← same-ulid r.id l.id e, absent, h)
      go false e = refl

  -- where it is, the job of its id goes
  stays-taken : (p : Job → Bool) → p r ≡ true → (l : Job) → stays p (r ∷ rs) l ≡ not (same_ulid l.id r.id) && stays p rs l
  unfolding first_with
  stays-taken p h l = go (same_ulid r.id l.id) refl
    where
      go : (b : Bool) → same_ulid r.id l.id ≡ b → not_taken p (cond b (some r) (job_with l.id rs)) ≡ not (same_ulid l.id r.id) && stays p rs l
      go true e = rw (h, ulid-ids.turns r.id l.id e)
      go false e = rw (turned r.id l.id e)

-- the later ones are adopted as before
adopted-later : (known : List Job) (r s : Job) → ulid_below r.id s.id ≡ true → adopted (inserted r known) s ≡ adopted known s
adopted-later known r s h = ap (λ (o : Option Job). adopts o s) (found-other r s.id known (turned s.id r.id (below_other r.id s.id h)))

-- the jobs that stay depend on what is taken of the remote ones only
stays_same : (t p q : Job → Bool) (rs : List Job) → ((x : Job) → t x ≡ true → p x ≡ q x) → all t rs ≡ true → (l : Job) → stays p rs l ≡ stays q rs l
unfolding all first_with
stays_same t p q [] h e l = refl
stays_same t p q (r ∷ rs) h e l = go (same_ulid r.id l.id) (stays_same t p q rs h (and_right (t r) (all t rs) e) l)
  where
    go : (b : Bool) → stays p rs l ≡ stays q rs l → not_taken p (cond b (some r) (job_with l.id rs)) ≡ not_taken q (cond b (some r) (job_with l.id rs))
    go true f = ap not (h r (and_left (t r) (all t rs) e))
    go false f = f

-- ---- "Local jobs missing remotely stay.", and "remote record taken whole when adopted"

module _ (known : List Job) (r : Job) (rs : List Job) (h : rising known ≡ true) (k : rising (r ∷ rs) ≡ true) where
  up : all_above r.id rs ≡ true
  up = rising-first r rs k

  -- the next remote job is left
  left_out : adopted known r ≡ false → Takes (merged known rs) (keep (stays (adopted known) rs) known) (keep (adopted known) rs)
      → Takes (merged known rs) (keep (stays (adopted known) (r ∷ rs)) known) (keep (adopted known) rs)
  left_out e = subst (λ (K : List Job). Takes (merged known rs) K (keep (adopted known) rs)) (ap (λ (p : Job → Bool). keep p known) (sym (fun_ext (stays-untaken r rs up (adopted known) e))))

  -- it is adopted
  taken : adopted known r ≡ true → Takes (merged (inserted r known) rs) (keep (stays (adopted (inserted r known)) rs) (inserted r known)) (keep (adopted (inserted r known)) rs)
      → Takes (merged (inserted r known) rs) (keep (stays (adopted known) (r ∷ rs)) known) (r ∷ keep (adopted known) rs)
  taken e t =
      let later : (s : Job) → ulid_below r.id s.id ≡ true → adopted (inserted r known) s ≡ adopted known s = adopted-later known r in
      let gone : (l : Job) → stays (adopted known) (r ∷ rs) l ≡ not (same_ulid l.id r.id) && stays (adopted known) rs l = stays-taken r rs up (adopted known) e in
      let mine : stays (adopted known) rs r ≡ true = ap (not_taken (adopted known)) (absent r rs up) in
      let jobs : keep (stays (adopted (inserted r known)) rs) (inserted r known) ≡ inserted r (keep (stays (adopted known) (r ∷ rs)) known) =
      ap (λ (p : Job → Bool). keep p (inserted r known)) (fun_ext (stays_same (λ s. ulid_below r.id s.id) (adopted (inserted r known)) (adopted known) rs later up))
      ∙ keep-inserted r (stays (adopted known) rs) mine known h
      ∙ ap (λ (p : Job → Bool). inserted r (keep p known)) (sym (fun_ext gone)) in
      let others : keep (adopted (inserted r known)) rs ≡ keep (adopted known) rs = keep_same (λ s. ulid_below r.id s.id) (adopted (inserted r known)) (adopted known) rs later up in
      one
      (none_kept (λ l. same_ulid l.id r.id) (stays (adopted known) (r ∷ rs)) known (λ l w. not-true (same_ulid l.id r.id) (and_left (not (same_ulid l.id r.id)) (stays (adopted known) rs l) (sym (gone l) ∙ w))))
      (subst₂ (λ (K A : List Job). Takes (merged (inserted r known) rs) K A) jobs others t)

pub merged-takes : (known rs : List Job) → rising known ≡ true → rising rs ≡ true → Takes (merged known rs) (keep (stays (adopted known) rs) known) (keep (adopted known) rs)
unfolding merged keep first_with
merged-takes known [] h k = nothing (keep_all (stays (adopted known) []) known (λ l. refl))
merged-takes known (r ∷ rs) h k =
    go (adopted known r) refl (merged-takes known rs h (rising-rest r rs k)) (merged-takes (inserted r known) rs (rising-inserted r known h) (rising-rest r rs k))
  where
    go : (b : Bool) → adopted known r ≡ b
        → Takes (merged known rs) (keep (stays (adopted known) rs) known) (keep (adopted known) rs)
        → Takes (merged (inserted r known) rs) (keep (stays (adopted (inserted r known)) rs) (inserted r known)) (keep (adopted (inserted r known)) rs)
        → Takes (merged (cond b (inserted r known) known) rs) (keep (stays (adopted known) (r ∷ rs)) known) (cond b (r ∷ keep (adopted known) rs) (keep (adopted known) rs))
    go true e f t = taken known r rs h k e t
    go false e f t = left_out known r rs h k e f

-- ---- how many jobs and entries there are then

pub length-all : (K A : List Job) → all_new K A ≡ true → length (inserted_all K A) ≡ length K + length A
unfolding inserted_all all_new
length-all K [] h = omega arith
length-all K (a ∷ A) h =
    omega (arith, length_inserted a K (not-true (has_id a.id K) (and_left (not (has_id a.id K)) (all_new (inserted a K) A) h)), length-all (inserted a K) A (and_right (not (has_id a.id K)) (all_new (inserted a K) A) h))

pub entries-all : (K A : List Job) → all_new K A ≡ true → length (sources_of (inserted_all K A)) ≡ length (sources_of K) + length (sources_of A)
unfolding inserted_all all_new concat_map
entries-all K [] h = omega arith
entries-all K (a ∷ A) h =
    omega (
      arith,
      entries-inserted a K (not-true (has_id a.id K) (and_left (not (has_id a.id K)) (all_new (inserted a K) A) h)),
      entries-all (inserted a K) A (and_right (not (has_id a.id K)) (all_new (inserted a K) A) h),
      length-append a.sources (sources_of A),
    )

-- refusal 14, known before anything is changed
pub too_many_lem : {J K A : List Job} → Takes J K A → too_many J ≡ ltb max_jobs (length K + length A) || ltb max_sources (length (sources_of K) + length (sources_of A))
unfolding too_many
too_many_lem {J} {K} {A} t =
    rw (
      ap length (sym t.result) ∙ length-all K A t.new,
      ap (λ (js : List Job). length (sources_of js)) (sym t.result) ∙ entries-all K A t.new,
    )
