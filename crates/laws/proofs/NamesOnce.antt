-- No destination twice: those of step 1 are fresh numbers that rise, and there are enough of them as each tree takes step 1 at
-- most once; those of step 2 are sources.
use Prim.Native.Nat.{ℕ, ◌+◌, ◌≤◌, ◌<◌}
use mathlib.Core.Path.{◌≡◌, refl, sym, ap, ◌∙◌, subst}
use mathlib.Core.Logic.{◌⊎◌, inl, inr}
use mathlib.Core.List.Memᴰ
use mathlib.Core.List.{List, [], ◌∷◌, map, Memᴰ}
use mathlib.Core.Bool.{Bool, true, false, cond, ◌||◌, true≢false}
use native.Mathlib.Omega.{arith}
use lib.Dec.{eqb}
use lib.ListN.{length}
use borrow.Author.Tests.{ne_eqb, eq-eqb, le-leb}
use Rattle.rules.specs.declared.Options.{Options}
use Rattle.rules.specs.Lists.{keep, distinct, total}
use Rattle.rules.specs.declared.tables.SourceId.TheVariants.{SortedRun}
use Rattle.rules.specs.Tables.{Tree, Job}
use Rattle.rules.specs.Lent.{rows_from}
use Rattle.rules.specs.Pick.{Spec, last_run, oldest, ids_of}
use Rattle.rules.specs.Plan.{State, first_fresh, free_slots, ordered, start, planned}
use Rattle.rules.proofs.Lookups.{or_left, or_right}
use Rattle.laws.specs.Demand3.{first_is_row, from_rows}
use Rattle.laws.specs.Disjoint.{sharing}
use Rattle.laws.specs.Shapes.{OfRows, OfRuns}
use Rattle.laws.specs.NamesOnce.{RowsOnce, NamesOnce}
use Rattle.laws.proofs.Sums.{total-le, total-less, total-ones}
use Rattle.laws.proofs.Deal.{of}
use Rattle.laws.proofs.Windows.{below-mem, last_mem}
use Rattle.laws.proofs.Picks.{a-row, rows-first}
use Rattle.laws.proofs.Fresh.{committed-below}
use Rattle.laws.proofs.Rising.{row_specs, destinations_of, row_clash, Rising, pick-rises, start-rises}
use Rattle.laws.proofs.Passes.{call-keeps}
use Rattle.laws.proofs.Distinct.{distinct-weaker, distinct-either, distinct-map}
use Rattle.laws.proofs.Disjoint.{disjoint}
use Rattle.laws.proofs.Shapes.{shapes}
use Rattle.laws.proofs.Sources.{plan-apart, own-sources, plan-sources}

-- ---- there are at most as many specs of step 1 as trees

-- the specs of step 1 that tree t gets
abbrev row_specs_of : List Spec → Tree → ℕ
row_specs_of ss t = row_specs (of (λ s. s.prefix) t.prefix ss)

-- one more spec is no fewer of step 1
rows_grow : (s : Spec) (ss : List Spec) (t : Tree) → row_specs_of ss t ≤ row_specs_of (s ∷ ss) t
unfolding keep
rows_grow s ss t = go (eqb s.prefix t.prefix) (from_rows s) refl
  where
    go : (c d : Bool) → from_rows s ≡ d
        → row_specs_of ss t ≤ row_specs (cond c (s ∷ of (λ r. r.prefix) t.prefix ss) (of (λ r. r.prefix) t.prefix ss))
    go false d e = omega arith
    go true false e = rw e (omega arith)
    go true true e = rw e (omega arith)

-- each spec of step 1 is counted with its tree
rows-by-tree : (ts : List Tree) (ss : List Spec)
    → ((s : Spec) → Memᴰ s ss → (t : Tree) × Memᴰ t ts × (s.prefix ≡ t.prefix))
    → row_specs ss ≤ total (map (row_specs_of ss) ts)
unfolding keep
rows-by-tree ts [] h = omega arith
rows-by-tree ts (s ∷ ss) h = go (from_rows s) refl (rows-by-tree ts ss (λ r m. h r (Memᴰ.tail m)))
  where
    go : (d : Bool) → from_rows s ≡ d → row_specs ss ≤ total (map (row_specs_of ss) ts)
        → length (cond d (s ∷ keep from_rows ss) (keep from_rows ss)) ≤ total (map (row_specs_of (s ∷ ss)) ts)
    go false e ih = omega (arith, total-le (row_specs_of ss) (row_specs_of (s ∷ ss)) (rows_grow s ss) ts)
    go true e ih =
        let x = h s (Memᴰ.head refl) in
        let mine : row_specs_of ss x.0 < row_specs_of (s ∷ ss) x.0 = rw (eq-eqb s.prefix x.0.prefix x.2, e) (omega arith) in
        omega (arith, total-less 1 (row_specs_of ss) (row_specs_of (s ∷ ss)) (rows_grow s ss) x.1 (omega arith))

-- ---- all together

module _ (lim : ℕ → ℕ) (o : Options) (least : 1 ≤ o.min) (most : o.min ≤ o.max) (ts : List Tree) (js : List Job) where
  abbrev specs : List Spec
  specs = (planned lim o ts js).specs

  -- at most as many specs of step 1 as trees
  few : RowsOnce ts → row_specs specs ≤ length ts
  few once =
      let s = shapes lim o least most ts js in
      omega (
        arith,
        rows-by-tree ts specs (λ r m. let x = s.made r m in (x.0, x.1, x.2.prefix)),
        total-ones (row_specs_of specs) ts (s.rows_once once.prefixes),
      )

  -- fresh numbers have risen at the end of the call
  risen-end : first_fresh ts js ≤ last_run → (end : State) × Rising (first_fresh ts js) end × (specs ≡ end.specs)
  unfolding planned
  risen-end h = call-keeps lim o (ordered ts) (Rising (first_fresh ts js)) (λ t p st m. pick-rises lim o least most ts js t p st) (free_slots o js) 0 (start o ts js) (start-rises lim o least most ts js h)

  module _ (once : RowsOnce ts) (room : first_fresh ts js + length ts ≤ last_run) where
    end : (end : State) × Rising (first_fresh ts js) end × (specs ≡ end.specs)
    end = risen-end (omega arith)

    -- and have not stopped
    enough : first_fresh ts js + row_specs end.0.specs ≤ last_run
    enough = rw (← end.2) (omega (arith, few once))

    -- a destination of step 2 is a source, and below the first fresh number
    run-destination : (s : Spec) → Memᴰ s specs → from_rows s ≡ false
        → Memᴰ (SortedRun s.destination) s.sources × (s.destination < first_fresh ts js)
    run-destination s m f = let x = (shapes lim o least most ts js).made s m in go x.0 x.1 x.2.step
      where
        go : (t : Tree) → Memᴰ t ts → OfRows o t s ⊎ OfRuns o t s
            → Memᴰ (SortedRun s.destination) s.sources × (s.destination < first_fresh ts js)
        go t k (inl r) =
            let rows = rows-first (oldest o t) (a-row lim o least most t (le-leb o.min (length t.l0) r.enough)).1 in
            absurd (true≢false (sym rows ∙ sym (ap first_is_row r.sources) ∙ f))
        go t k (inr r) =
            let in_ids = last_mem r.ids r.least in (
              rw (r.destination, r.sources) (Memᴰ.map SortedRun in_ids),
              rw r.destination
                  (below-mem {ids = ids_of t.runs} (committed-below ts js room t k) (rw r.place (Memᴰ.append_right r.before (Memᴰ.append_left r.after in_ids)))),
            )

    -- one of step 1 is not below it
    row-destination : (s : Spec) → Memᴰ s specs → from_rows s ≡ true → first_fresh ts js ≤ s.destination
    row-destination s m f = (end.1.within enough s (subst (Memᴰ s) end.2 m) f).0

    -- so no two specs have one
    apart : (s r : Spec) → Memᴰ s specs → Memᴰ r specs → (sharing s r || row_clash s r) ≡ false
        → eqb s.destination r.destination ≡ false
    apart s r m n h = go (from_rows s) refl (from_rows r) refl
      where
        go : (c : Bool) → from_rows s ≡ c → (d : Bool) → from_rows r ≡ d → eqb s.destination r.destination ≡ false
        go true e true f = rw (e, f) at (or_right (sharing s r) (row_clash s r) h)
        go true e false f = ne_eqb s.destination r.destination (λ q. omega (arith, row-destination s m e, (run-destination r n f).1))
        go false e true f = ne_eqb s.destination r.destination (λ q. omega (arith, (run-destination s m e).1, row-destination r n f))
        go false e false f =
            plan-apart lim o least most ts js once s r m n (or_left (sharing s r) (row_clash s r) h) (SortedRun s.destination) (SortedRun r.destination)
            (run-destination s m e).0 (run-destination r n f).0

    -- no destination twice
    destinations-once : distinct eqb (map (λ s. s.destination) specs) ≡ true
    destinations-once =
        let same : Spec → Spec → Bool = λ a b. eqb a.destination b.destination in
        distinct-map (λ s. s.destination) eqb same (λ a b. refl) specs
        ∙ distinct-weaker (λ a b. sharing a b || row_clash a b) same specs apart
        (distinct-either sharing row_clash specs (disjoint lim o ts js).once (rw end.2 (end.1.once enough)))

    -- and those of step 1 are the fresh numbers in order
    fresh-in-order : destinations_of specs ≡ rows_from (λ k. first_fresh ts js + k) 0 (row_specs specs)
    fresh-in-order = rw end.2 (end.1.taken enough)

  pub names-once : NamesOnce lim o ts js
  names-once = record { own = own-sources lim o least most ts js; plan = plan-sources lim o least most ts js; destinations = destinations-once; fresh = fresh-in-order }
