-- The first fresh number: so long as it has not stopped, it is above every committed run and every active destination.
use Prim.Native.Nat.{ℕ, ◌+◌, ◌≤◌, ◌<◌, max}
use mathlib.Core.Path.{◌≡◌, refl, sym, ap, ap₂, ◌∙◌, subst}
use mathlib.Core.Logic.{◌⊎◌, inl, inr}
use mathlib.Core.List.Memᴰ
use mathlib.Core.List.{List, [], ◌∷◌, map, map-append, Memᴰ}
use mathlib.Core.Bool.{Bool, true, false, cond, ◌&&◌, not}
use native.Mathlib.Omega.{arith}
use lib.Dec.{eqb}
use lib.ListN.{length}
use borrow.Author.Tests.{eqb-true}
use Rattle.rules.specs.Lists.{keep, concat_map, one_above}
use Rattle.rules.specs.declared.tables.SourceId.{SourceId}
use Rattle.rules.specs.declared.tables.Run.{Run}
use Rattle.rules.specs.declared.tables.Source.{Source}
use Rattle.rules.specs.declared.tables.SourceId.TheVariants.{SortedRun, SstView}
use Rattle.rules.specs.Tables.{Tree, Job, same_id, id_of, active, is_drain}
use Rattle.rules.specs.Lent.{runs_of}
use Rattle.rules.specs.Windows.{job_uses, used_ids}
use Rattle.rules.specs.Pick.{last_run, ids_of}
use Rattle.rules.specs.Plan.{first_fresh}
use Rattle.rules.proofs.Appended.{above-append}
use Rattle.rules.proofs.Lookups.{and_left, and_right}
use Rattle.laws.specs.Demand3.{RunsBelow, SourcesBelow}
use Rattle.laws.proofs.Used.{mem-any, same_id_lem}
use Rattle.laws.proofs.Windows.{Below, below-mem}
use Rattle.laws.proofs.Distinct.{mem-concat}

-- ---- the runs of trees

-- all ids are below what is one above them
above-below : (first : ℕ) (ids : List ℕ) → one_above ids ≤ first → Below first ids
unfolding one_above
above-below first [] h = tt
above-below first (i ∷ ids) h = (omega arith, above-below first ids (omega arith))

-- one above the runs of a tree and those of the others
runs-above : (s : Tree) (ts : List Tree)
    → one_above (ids_of (runs_of (s ∷ ts))) ≡ max (one_above (ids_of s.runs)) (one_above (ids_of (runs_of ts)))
unfolding concat_map
runs-above s ts = ap one_above (map-append (λ (r : Run). r.id) s.runs (runs_of ts)) ∙ above-append (ids_of s.runs) (ids_of (runs_of ts))

-- and no less than one above those of any tree
one_of : {t : Tree} {ts : List Tree} → Memᴰ t ts → one_above (ids_of t.runs) ≤ one_above (ids_of (runs_of ts))
one_of {t} (Memᴰ.head {x = s} {xs = ts} e) = rw e (omega (arith, runs-above s ts))
one_of (Memᴰ.tail {x = s} {xs = ts} m) = omega (arith, runs-above s ts, one_of m)

-- where one is a member there is one
some-tree : {t : Tree} {ts : List Tree} → Memᴰ t ts → 1 ≤ length ts
some-tree (Memᴰ.head e) = omega arith
some-tree (Memᴰ.tail m) = omega arith

-- the destinations of active jobs
abbrev destinations : List Job → List ℕ
destinations js = map (λ j. j.destination) (keep (λ j. active j && not (is_drain j)) js)

-- where it has not stopped it is one above all committed runs and active destinations
not_stopped : (ts : List Tree) (js : List Job) → first_fresh ts js + length ts ≤ last_run → {t : Tree} → Memᴰ t ts
    → (one_above (ids_of (runs_of ts)) ≤ first_fresh ts js) × (one_above (destinations js) ≤ first_fresh ts js)
unfolding first_fresh
not_stopped ts js h m =
    let both = above-append (ids_of (runs_of ts)) (destinations js) in
    let one = some-tree m in
    (omega arith, omega arith)

-- so every run of a tree is below it
pub committed-below : (ts : List Tree) (js : List Job) → first_fresh ts js + length ts ≤ last_run → (t : Tree)
    → Memᴰ t ts → Below (first_fresh ts js) (ids_of t.runs)
committed-below ts js h t m = above-below (first_fresh ts js) (ids_of t.runs) (omega (arith, one_of m, (not_stopped ts js h m).0))

-- ---- the runs of active jobs

-- a kept entry was there, and passed the test
pub keep-mem : {A : Type 0} (p : A → Bool) {x : A} (xs : List A) → Memᴰ x (keep p xs) → Memᴰ x xs × (p x ≡ true)
unfolding keep
keep-mem p [] m = absurd (Memᴰ.not-nil m)
keep-mem {A} p {x} (y ∷ ys) m = go (p y) refl m (keep-mem p ys)
  where
    go : (c : Bool) → p y ≡ c → Memᴰ x (cond c (y ∷ keep p ys) (keep p ys))
        → (Memᴰ x (keep p ys) → Memᴰ x ys × (p x ≡ true)) → Memᴰ x (y ∷ ys) × (p x ≡ true)
    go true e (Memᴰ.head q) ih = (Memᴰ.head q, ap p q ∙ e)
    go true e (Memᴰ.tail m) ih = let r = ih m in (Memᴰ.tail r.0, r.1)
    go false e m ih = let r = ih m in (Memᴰ.tail r.0, r.1)

-- and one that passes is kept
mem-keep : {A : Type 0} (p : A → Bool) {x : A} {xs : List A} → Memᴰ x xs → p x ≡ true → Memᴰ x (keep p xs)
unfolding keep
mem-keep p {x} (Memᴰ.head {x = y} {xs} e) h = rw (sym (ap p e) ∙ h) (Memᴰ.head e)
mem-keep p {x} (Memᴰ.tail {x = y} {xs} m) h =
    elim (p y) as (λ c. Memᴰ x (cond c (y ∷ keep p xs) (keep p xs))) [ true ↦ Memᴰ.tail (mem-keep p m h) | false ↦ mem-keep p m h ]

module _ (ts : List Tree) (js : List Job) (room : first_fresh ts js + length ts ≤ last_run) where
  -- active destinations are below the first fresh number
  destination-below : {t : Tree} → Memᴰ t ts → (j : Job) → Memᴰ j js → active j ≡ true → is_drain j ≡ false
      → j.destination < first_fresh ts js
  destination-below m j n a d =
      below-mem {ids = destinations js} (above-below (first_fresh ts js) (destinations js) (not_stopped ts js room m).1)
      (Memᴰ.map (λ (x : Job). x.destination) (mem-keep (λ x. active x && not (is_drain x)) n (ap₂ (λ (b c : Bool). b && not c) a d)))

  -- a run that a job uses is a source or its destination
  job-run : {t : Tree} → Memᴰ t ts → (j : Job) → Memᴰ j js → active j ≡ true
      → ((s : Source) → Memᴰ s j.sources → s.mark ≡ 1 → s.run < first_fresh ts js) → {n : ℕ} → Memᴰ (SortedRun n) (job_uses j) → n < first_fresh ts js
  job-run m j k a h {n} u = go (Memᴰ.append_cases (map id_of j.sources) u)
    where
      source : (s : Source) → Memᴰ s j.sources → (c : Bool) → eqb s.mark 1 ≡ c
          → cond c (SortedRun s.run) (SstView s.view) ≡ SortedRun n → n < first_fresh ts js
      source s i true e q = let same : s.run ≡ n = cc in rw (← same) (h s i (eqb-true s.mark 1 e))
      source s i false e q = absurd (let z : ◌≡◌ {A = ℕ} 0 1 = cc in omega arith)

      destination : (c : Bool) → is_drain j ≡ c → Memᴰ (SortedRun n) (cond c [] (SortedRun j.destination ∷ []))
          → n < first_fresh ts js
      destination true e i = absurd (Memᴰ.not-nil i)
      destination false e i =
          let at : SortedRun n ≡ SortedRun j.destination = Memᴰ.eq_of_singleton i in
          let same : n ≡ j.destination = cc in
          rw same (destination-below m j k a e)

      go : Memᴰ (SortedRun n) (map id_of j.sources) ⊎ Memᴰ (SortedRun n) (cond (is_drain j) [] (SortedRun j.destination ∷ []))
          → n < first_fresh ts js
      go (inl i) = let r = Memᴰ.of_map id_of j.sources i in source r.0 r.1 (eqb r.0.mark 1) refl r.2
      go (inr i) = destination (is_drain j) refl i

  pub sources-suffice : SourcesBelow ts js → RunsBelow ts js
  unfolding used_ids
  sources-suffice h t m n u =
      let found = mem-any (λ y. same_id y (SortedRun n)) (used_ids js t.prefix) u in
      let of = mem-concat job_uses (keep mine js) found.1 in
      let there = keep-mem mine js of.1 in
      let j = of.0 in
      job-run m j there.0 (and_left (active j) (eqb j.prefix t.prefix) there.1)
      (h t m j there.0 (and_left (active j) (eqb j.prefix t.prefix) there.1) (eqb-true j.prefix t.prefix (and_right (active j) (eqb j.prefix t.prefix) there.1)))
      (subst (λ (x : SourceId). Memᴰ x (job_uses j)) (same_id_lem found.0 (SortedRun n) found.2) of.2)
    where
      mine : Job → Bool
      mine j = active j && eqb j.prefix t.prefix
