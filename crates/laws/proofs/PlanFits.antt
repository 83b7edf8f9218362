-- A plan fits: each pick takes a slot, and the rows that are its sources were free before it and are used after it.
use Prim.Native.Nat.{ℕ, zero, suc, ◌+◌, ◌-◌, ◌≤◌}
use mathlib.Core.Path.{◌≡◌, refl, sym, ap, ◌∙◌}
use mathlib.Core.List.Memᴰ
use mathlib.Core.List.{List, [], ◌∷◌, ◌++◌, map, map-append, append_assoc, Memᴰ}
use mathlib.Core.Bool.{Bool, true, false, cond, ◌&&◌, not, or-true, true≢false}
use mathlib.Core.Option.{some, some-injective}
use native.Mathlib.Omega.{arith}
use lib.Dec.{eqb, ltb}
use lib.ListN.{length, take, drop, take-append-drop, length-append}
use borrow.Author.Tests.{ltb-false}
use Rattle.rules.specs.declared.Options.{Options}
use Rattle.rules.specs.Lists.{all, concat_map, total, last_of}
use Rattle.rules.specs.declared.tables.SourceId.{SourceId}
use Rattle.rules.specs.declared.tables.SourceId.TheVariants.{SortedRun}
use Rattle.rules.specs.Tables.{Tree, Job, among, view_id}
use Rattle.rules.specs.Lent.{LentTrees, LentJobs, trees_of, jobs_of, l0_of, runs_of, l0_used, runs_used}
use Rattle.rules.specs.Pick.{Spec, spec_uses, also, Picked, ids_of, sizes_of, pick}
use Rattle.rules.specs.Plan.{State, with_pick, free_slots, ordered, pass, picked, passes_from, start, planned}
use Rattle.rules.specs.Planning.{LentPlan, spec_places, source_places, plan_too_small, spec_sources}
use Rattle.rules.proofs.Appended.{all_append}
use Rattle.rules.proofs.Lookups.{and_left, or_left, or_right}
use Rattle.rules.proofs.Passes.{passes-end, passes-go-on}
use Rattle.rules.proofs.Packed.{length-l0, length_runs}
use Rattle.rules.proofs.Rows.{concat_map-append}
use Rattle.laws.specs.PlanFits.{PlanFits, PlanFitsLent, PlanHasPlaces}
use Rattle.laws.proofs.Used.{unused, mem-among, free, free-length, free-le}
use Rattle.laws.proofs.Picks.{rows_of, rows-length, Cases, takes-rows, takes-runs, pick-cases, pick-prefix, pick_free}
use Rattle.laws.proofs.Order.{ordered-only}
use Rattle.laws.proofs.Passes.{used-mine, call-keeps}
use Rattle.laws.proofs.Fuel.{pass-spends}
use Rattle.laws.proofs.Shapes.{Part, window-part, drop-part}
use Rattle.laws.proofs.Sums.{total-le, total-less}

-- ---- specs: each takes a slot
module _ (lim : ℕ → ℕ) (o : Options) (ts : List Tree) where
  passes-fit : (n passed : ℕ) (st : State)
      → length (passes_from lim o ts n passed st).specs ≤ st.slots + length st.specs
  unfolding passes_from
  passes-fit zero passed st = omega arith
  passes-fit (suc n) passed st = go (picked st (pass lim o ts st)) refl (passes-fit n (suc passed) (pass lim o ts st)) (pass-spends lim o ts st).0
    where
      next : State
      next = pass lim o ts st

      go : (c : Bool) → picked st next ≡ c
          → length (passes_from lim o ts n (suc passed) next).specs ≤ next.slots + length next.specs
          → next.slots + length next.specs ≡ st.slots + length st.specs
          → length (passes_from lim o ts (suc n) passed st).specs ≤ st.slots + length st.specs
      go false e ih same = rw (passes-end lim o ts n passed st e) (omega arith)
      go true e ih same = rw (passes-go-on lim o ts n passed st e) (omega arith)

-- ---- free rows
module _ (u : SourceId → Bool) where
  -- those of two lists
  free-append : (xs ys : List SourceId) → free u (xs ++ ys) ≡ free u xs + free u ys
  unfolding free
  free-append [] ys = omega arith
  free-append (x ∷ xs) ys =
      rw (free-append xs ys)
      (elim (u x) as (λ c. cond c (free u xs + free u ys) (suc (free u xs + free u ys)) ≡ cond c (free u xs) (suc (free u xs)) + free u ys)
      [ true ↦ refl | false ↦ omega arith ])

  -- all, where none is used
  free_all : (xs : List SourceId) → unused u xs ≡ true → length xs ≤ free u xs
  unfolding free all
  free_all [] h = omega arith
  free_all (x ∷ xs) h = go (u x) h (free_all xs)
    where
      go : (c : Bool) → (not c && unused u xs) ≡ true → (unused u xs ≡ true → length xs ≤ free u xs)
          → suc (length xs) ≤ cond c (free u xs) (suc (free u xs))
      go true h ih = absurd (true≢false (sym h))
      go false h ih = omega (arith, ih h)

  -- none, where all are used
  free-none : (xs : List SourceId) → ((x : SourceId) → Memᴰ x xs → u x ≡ true) → free u xs ≤ 0
  unfolding free
  free-none [] h = omega arith
  free-none (x ∷ xs) h = rw (h x (Memᴰ.head refl)) (free-none xs (λ y m. h y (Memᴰ.tail m)))

-- ---- a pick's sources stand in its tree one after another
record Placed (xs rows : List SourceId) : Type 0 where
  before : List SourceId
  after : List SourceId
  place : rows ≡ before ++ (xs ++ after)

-- a part of the runs is, behind the rows
runs-placed : (vs : List SourceId) (w ids : List ℕ) → Part w ids → Placed (map SortedRun w) (vs ++ map SortedRun ids)
runs-placed vs w ids part = record {
  before = vs ++ map SortedRun part.before;
  after = map SortedRun part.after;
  place =
      ap (λ (l : List ℕ). vs ++ map SortedRun l) part.place
      ∙ rw (map-append SortedRun part.before (w ++ part.after), map-append SortedRun w part.after) (sym (append_assoc vs (map SortedRun part.before) _));
}

module _ (lim : ℕ → ℕ) (o : Options) (u : SourceId → Bool) (f : ℕ) (t : Tree) where
  pick-placed : (p : Picked) → pick lim o u f t ≡ some p → Placed p.spec.sources (rows_of t)
  pick-placed p e = go (pick-cases lim o u f t p e)
    where
      go : Cases lim o u f t p → Placed p.spec.sources (rows_of t)
      go (takes-rows h q) =
          let k = length t.l0 - o.max in
          let split : map view_id t.l0 ≡ map view_id (take k t.l0) ++ map view_id (drop k t.l0) = ap (map view_id) (sym (take-append-drop k t.l0)) ∙ map-append view_id (take k t.l0) (drop k t.l0) in
          rw q
          (record {
            before = map view_id (take k t.l0);
            after = map SortedRun (ids_of t.runs);
            place =
                ap (λ (vs : List SourceId). vs ++ map SortedRun (ids_of t.runs)) split
                ∙ append_assoc (map view_id (take k t.l0)) (map view_id (drop k t.l0)) (map SortedRun (ids_of t.runs));
          })
      go (takes-runs i w k q) =
          let part : Part (last_of o.max (i ∷ w)) (ids_of t.runs) =
          drop-part (length (i ∷ w) - o.max) (rw k at (window-part lim o.min o.max u (ids_of t.runs) (sizes_of t.runs))) in
          rw (some-injective _ _ q) (runs-placed (map view_id t.l0) (last_of o.max (i ∷ w)) (ids_of t.runs) part)

  -- so as many rows as it has sources were free and are no more
  pick-spends : (p : Picked) → pick lim o u f t ≡ some p
      → free (also u p.spec) (rows_of t) + length p.spec.sources ≤ free u (rows_of t)
  pick-spends p e =
      let r = pick-placed p e in
      let s = p.spec in
      let w : SourceId → Bool = λ x. among x (spec_uses s) in
      let was = and_left (unused u s.sources) _ (sym (all_append (λ x. not (u x)) s.sources (SortedRun s.destination ∷ [])) ∙ pick_free lim o u f t p e) in
      rw (r.place, free-append u r.before (s.sources ++ r.after), free-append u s.sources r.after, free-append (also u s) r.before (s.sources ++ r.after), free-append (also u s) s.sources r.after)
      (omega (
        arith,
        free-le u w r.before,
        free-le u w r.after,
        free_all u s.sources was,
        free-none (also u s) s.sources (λ x m. rw (mem-among (Memᴰ.append_left (SortedRun s.destination ∷ []) m)) (or-true (u x))),
      ))

-- ---- a call
module _ (lim : ℕ → ℕ) (o : Options) (ts : List Tree) where
  -- the rows that are free
  abbrev free_in : State → Tree → ℕ
  free_in st t = free (st.used t.prefix) (rows_of t)

  -- its sources, and the rows that are free
  abbrev spent : State → ℕ
  spent st = length (spec_sources st.specs) + total (map (free_in st) ts)

  -- a pick adds no more sources than it takes free rows
  pick-fits : (n : ℕ) (t : Tree) (p : Picked) (st : State) → Memᴰ t ts
      → pick lim o (st.used t.prefix) st.fresh t ≡ some p → spent st ≤ n → spent (with_pick (some p) st) ≤ n
  unfolding concat_map
  pick-fits n t p st m e h =
      let next = with_pick (some p) st in
      let mine = used-mine p st t.prefix (pick-prefix lim o (st.used t.prefix) st.fresh t p e) in
      let here : free_in next t + length p.spec.sources ≤ free_in st t = rw mine (pick-spends lim o (st.used t.prefix) st.fresh t p e) in
      let less =
      total-less (length p.spec.sources) (free_in next) (free_in st) (λ c. free-le (st.used c.prefix) (λ x. eqb p.spec.prefix c.prefix && among x (spec_uses p.spec)) (rows_of c)) m here in
      rw (concat_map-append (λ (s : Spec). s.sources) st.specs (p.spec ∷ []), length-append (spec_sources st.specs) (p.spec.sources ++ []), length-append p.spec.sources [])
      (omega arith)

-- the rows of all trees
rows-total : (ts : List Tree) → total (map (λ t. length (rows_of t)) ts) ≡ length (l0_of ts) + length (runs_of ts)
unfolding total concat_map
rows-total [] = refl
rows-total (t ∷ ts) = rw (length-append t.l0 (l0_of ts), length-append t.runs (runs_of ts)) (omega (arith, rows-length t, rows-total ts))

pub plan-fits : (lim : ℕ → ℕ) (o : Options) (ts : List Tree) (js : List Job) → PlanFits lim o ts js
unfolding planned concat_map
plan-fits lim o ts js =
    let all = length (l0_of ts) + length (runs_of ts) in
    let begun : spent lim o ts (start o ts js) ≤ all =
    omega (arith, total-le (free_in lim o ts (start o ts js)) (λ t. length (rows_of t)) (λ t. free-length ((start o ts js).used t.prefix) (rows_of t)) ts, rows-total ts) in
    let end =
    call-keeps lim o (ordered ts) (λ st. spent lim o ts st ≤ all) (λ t p st m. pick-fits lim o ts all t p st (ordered-only ts m)) (free_slots o js) 0 (start o ts js) begun in
    record {
      specs = omega (arith, passes-fit lim o (ordered ts) (free_slots o js) 0 (start o ts js));
      sources = rw end.2 (omega (arith, end.1));
    }

-- once more of the lent tables
pub plan-fits-lent : (lim : ℕ → ℕ) (o : Options) (t : LentTrees) (j : LentJobs) → PlanFitsLent lim o t j
plan-fits-lent lim o t j =
    let f = plan-fits lim o (trees_of t) (jobs_of j) in
    record { specs = f.specs; sources = omega (arith, f.sources, length-l0 t, length_runs t) }

-- and of a lent plan
pub plan-has-places : (lim : ℕ → ℕ) (o : Options) (t : LentTrees) (j : LentJobs) (p : LentPlan)
    → plan_too_small (free_slots o (jobs_of j)) t p ≡ false → PlanHasPlaces lim o t j p
unfolding plan_too_small
plan-has-places lim o t j p h =
    let F = free_slots o (jobs_of j) in
    let f = plan-fits-lent lim o t j in
    let few = ltb (spec_places p) F in
    let short = ltb (source_places p) (l0_used t + runs_used t) in
    record {
      specs = omega (arith, f.specs, ltb-false (spec_places p) F (or_left few short h));
      sources = omega (arith, f.sources, ltb-false (source_places p) (l0_used t + runs_used t) (or_right few short h));
    }
