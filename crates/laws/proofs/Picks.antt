-- One pick from a tree: it is for that tree, all that it uses was free, and it uses a row of the tree.
use Prim.Native.Nat.{ℕ, zero, suc, ◌+◌, ◌-◌, ◌≤◌, ◌<◌}
use mathlib.Core.Path.{◌≡◌, refl, sym, ap, ◌∙◌}
use mathlib.Core.List.Memᴰ
use mathlib.Core.List.{List, [], ◌∷◌, ◌++◌, map, Memᴰ}
use mathlib.Core.Bool.{Bool, true, false, cond, not}
use mathlib.Core.Option.{some, some-injective, none-ne-some}
use native.Mathlib.Omega.{arith}
use lib.Dec.{leb}
use lib.ListN.{length, drop, length-append, length-map}
use borrow.Author.Tests.{leb-true, not-true}
use Rattle.rules.specs.declared.Options.{Options}
use Rattle.rules.specs.Lists.{all, total, last_of}
use Rattle.rules.specs.declared.tables.SourceId.{SourceId}
use Rattle.rules.specs.declared.tables.SourceId.TheVariants.{SortedRun}
use Rattle.rules.specs.Tables.{L0Row, Tree, among, view_id}
use Rattle.rules.specs.Chain.{held_back}
use Rattle.rules.specs.Windows.{passes, last, window}
use Rattle.rules.specs.Pick.{Spec, spec_uses, also, Picked, ids_of, sizes_of, l0_sizes_of, oldest, takes_rows, row_pick, run_pick, pick}
use Rattle.rules.proofs.Appended.{all_append}
use Rattle.rules.proofs.Lookups.{and_left, and_right}
use Rattle.laws.specs.Demand3.{first_is_row, from_rows}
use Rattle.laws.proofs.Used.{all-mem, mem-among, unused, free, free-lt}
use Rattle.laws.proofs.Windows.{window-free}

-- the ids of a tree's rows and runs
abbrev pub rows_of : Tree → List SourceId
rows_of t = map view_id t.l0 ++ map SortedRun (ids_of t.runs)

-- as many as there are
pub rows-length : (t : Tree) → length (rows_of t) ≡ length t.l0 + length t.runs
rows-length t = simp (length-append, length-map)

-- the sources of step 1
abbrev pub oldest_ids : Options → Tree → List SourceId
oldest_ids o t = map view_id (oldest o t)

-- ---- the cases of a pick

-- what was tested, and what was picked
pub data Cases (lim : ℕ → ℕ) (o : Options) (u : SourceId → Bool) (f : ℕ) (t : Tree) (p : Picked) : Type 0 where
  takes-rows : takes_rows lim o u f t ≡ true → p ≡ row_pick o f t → Cases lim o u f t p
  takes-runs : (i : ℕ) (w : List ℕ) → window lim o.min o.max u (ids_of t.runs) (sizes_of t.runs) ≡ i ∷ w
      → some p ≡ run_pick o f t (i ∷ w) → Cases lim o u f t p

module _ (lim : ℕ → ℕ) (o : Options) (u : SourceId → Bool) (f : ℕ) (t : Tree) where
  -- the window of step 2
  abbrev runs : List ℕ
  runs = window lim o.min o.max u (ids_of t.runs) (sizes_of t.runs)

  -- a pick is step 1's or step 2's
  pub pick-cases : (p : Picked) → pick lim o u f t ≡ some p → Cases lim o u f t p
  unfolding pick
  pick-cases p e = go (takes_rows lim o u f t) refl runs refl e
    where
      go : (c : Bool) → takes_rows lim o u f t ≡ c → (w : List ℕ) → runs ≡ w
          → cond c (some (row_pick o f t)) (run_pick o f t w) ≡ some p → Cases lim o u f t p
      go true h w k e = takes-rows h (sym (some-injective _ _ e))
      go false h [] k e = absurd (none-ne-some _ e)
      go false h (i ∷ w) k e = takes-runs i w k (sym e)

  -- it is for its tree
  pub pick-prefix : (p : Picked) → pick lim o u f t ≡ some p → p.spec.prefix ≡ t.prefix
  pick-prefix p e = go (pick-cases p e)
    where
      go : Cases lim o u f t p → p.spec.prefix ≡ t.prefix
      go (takes-rows h q) = ap (λ (x : Picked). x.spec.prefix) q
      go (takes-runs i w k q) = ap (λ (x : Picked). x.spec.prefix) (some-injective _ _ q)

  -- ---- all that a pick uses was free

  -- what holds of ids holds where the front is dropped
  all_drop : (p : SourceId → Bool) (k : ℕ) (ids : List ℕ) → all p (map SortedRun ids) ≡ true
      → all p (map SortedRun (drop k ids)) ≡ true
  unfolding all
  all_drop p zero ids h = h
  all_drop p (suc k) [] h = refl
  all_drop p (suc k) (i ∷ ids) h = all_drop p k ids (and_right (p (SortedRun i)) (all p (map SortedRun ids)) h)

  -- all that step 1 uses
  rows-free : takes_rows lim o u f t ≡ true → unused u (oldest_ids o t ++ (SortedRun f ∷ [])) ≡ true
  unfolding takes_rows passes
  rows-free h =
      and_left _ (not (held_back lim o.max (total (l0_sizes_of (oldest o t))) (sizes_of t.runs)))
      (and_right (leb o.min (length t.l0)) _ h)

  -- and all that either step uses
  pub pick_free : (p : Picked) → pick lim o u f t ≡ some p → unused u (spec_uses p.spec) ≡ true
  pick_free p e = go (pick-cases p e)
    where
      go : Cases lim o u f t p → unused u (spec_uses p.spec) ≡ true
      go (takes-rows h q) = rw q (rows-free h)
      go (takes-runs i w k q) =
          let whole = sym (all_append (λ x. not (u x)) (map SortedRun (i ∷ w)) (SortedRun (last (i ∷ w)) ∷ [])) ∙ (window-free lim o.min o.max u (ids_of t.runs) (sizes_of t.runs) i w k).1 in
          let front = all_drop (λ x. not (u x)) (length (i ∷ w) - o.max) (i ∷ w) (and_left (unused u (map SortedRun (i ∷ w))) _ whole) in
          rw (some-injective _ _ q, all_append (λ x. not (u x)) (map SortedRun (last_of o.max (i ∷ w))) (SortedRun (last (i ∷ w)) ∷ []), front)
          (and_right (unused u (map SortedRun (i ∷ w))) _ whole)

-- ---- a pick uses a row or a run of its tree

-- where step 1 has a source, its spec shows it
pub rows-first : {x : SourceId} (vs : List L0Row) → Memᴰ x (map view_id vs) → first_is_row (map view_id vs) ≡ true
rows-first [] m = elim m [ ]
rows-first (v ∷ vs) m = refl

-- a spec with runs for sources has no rows
pub not-rows : (s : Spec) (ids : List ℕ) → s.sources ≡ map SortedRun ids → from_rows s ≡ false
not-rows s [] e = rw e
not-rows s (i ∷ ids) e = rw e

-- where not all rows are dropped, one is left
dropped-in : (j : ℕ) (l : List L0Row) → j < length l
    → (x : SourceId) × Memᴰ x (map view_id (drop j l)) × Memᴰ x (map view_id l)
dropped-in j [] h = absurd (omega arith)
dropped-in zero (v ∷ l) h = (view_id v, Memᴰ.head refl, Memᴰ.head refl)
dropped-in (suc j) (v ∷ l) h = let r = dropped-in j l (omega arith) in (r.0, r.1, Memᴰ.tail r.2)

module _ (lim : ℕ → ℕ) (o : Options) (least : 1 ≤ o.min) (most : o.min ≤ o.max) (t : Tree) where
  -- where the L0 rows are enough, step 1 has a source
  pub a-row : leb o.min (length t.l0) ≡ true
      → (x : SourceId) × Memᴰ x (oldest_ids o t) × Memᴰ x (map view_id t.l0)
  a-row h = dropped-in (length t.l0 - o.max) t.l0 (omega (arith, leb-true o.min (length t.l0) h))

  module _ (u : SourceId → Bool) (f : ℕ) where
    -- step 1 has at least min rows
    pub enough-rows : takes_rows lim o u f t ≡ true → leb o.min (length t.l0) ≡ true
    unfolding takes_rows
    enough-rows h = and_left _ (passes lim o.max u (oldest_ids o t) f (total (l0_sizes_of (oldest o t))) (sizes_of t.runs)) h

    -- either step uses one
    pick_takes : (p : Picked) → pick lim o u f t ≡ some p
        → (x : SourceId) × Memᴰ x (rows_of t) × Memᴰ x (spec_uses p.spec)
    pick_takes p e = go (pick-cases lim o u f t p e)
      where
        go : Cases lim o u f t p → (x : SourceId) × Memᴰ x (rows_of t) × Memᴰ x (spec_uses p.spec)
        go (takes-rows h q) =
            let r = a-row (enough-rows h) in
            (r.0, Memᴰ.append_left (map SortedRun (ids_of t.runs)) r.2, rw q (Memᴰ.append_left (SortedRun f ∷ []) r.1))
        go (takes-runs i w k q) = (
          SortedRun (last (i ∷ w)),
          Memᴰ.append_right (map view_id t.l0) (window-free lim o.min o.max u (ids_of t.runs) (sizes_of t.runs) i w k).0,
          rw (some-injective _ _ q) (Memᴰ.append_right (map SortedRun (last_of o.max (i ∷ w))) (Memᴰ.head refl)),
        )

    -- so after it fewer are free
    pub fewer : {p : Picked} → pick lim o u f t ≡ some p → free (also u p.spec) (rows_of t) < free u (rows_of t)
    fewer {p} e =
        let x = pick_takes p e in
        free-lt u (λ y. among y (spec_uses p.spec)) x.1 (not-true _ (all-mem (λ y. not (u y)) (pick_free lim o u f t p e) x.2)) (mem-among x.2)
