-- A tree's picks follow its own list, whatever fresh numbers it is offered: what is used differs in fresh numbers alone, and
-- nothing but the destination of step 1 looks at those.
use Prim.Native.Nat.{ℕ, zero, suc, ◌+◌, ◌-◌, ◌≤◌}
use mathlib.Core.Path.{◌≡◌, refl, sym, ap, ap₂, ◌∙◌}
use mathlib.Core.List.Memᴰ
use mathlib.Core.List.{List, [], ◌∷◌, ◌++◌, map, Memᴰ}
use mathlib.Core.Bool.{Bool, true, false, cond, ◌&&◌, ◌||◌, not, or-true, true≢false}
use mathlib.Core.Option.{Option, some, none}
use native.Mathlib.Omega.{arith}
use lib.Dec.{leb}
use lib.ListN.{length}
use borrow.Author.Tests.{not-true}
use Rattle.rules.specs.declared.Options.{Options}
use Rattle.rules.specs.Lists.{any, all, total, last_of}
use Rattle.rules.specs.declared.tables.SourceId.{SourceId}
use Rattle.rules.specs.declared.tables.SourceId.TheVariants.{SortedRun}
use Rattle.rules.specs.Tables.{L0Row, Tree, among, view_id}
use Rattle.rules.specs.Chain.{held_back}
use Rattle.rules.specs.Windows.{passes, last, window}
use Rattle.rules.specs.Pick.{Spec, spec_uses, also, last_run, Picked, ids_of, sizes_of, l0_sizes_of, oldest, takes_rows, row_pick, run_pick, pick, and_on, own_first, own_list}
use Rattle.rules.proofs.Appended.{all_append}
use Rattle.rules.proofs.Lookups.{and_left}
use Rattle.laws.specs.Demand3.{first_is_row, aside}
use Rattle.laws.proofs.Used.{Old, AllOld, Same, all-mem, among-append, mem-among, old-append, old-not-fresh, fresh-none, unused, unused-same, unused-plus, free, free-length}
use Rattle.laws.proofs.Windows.{Below, below_old, below-drop, below_last, window_same, window-below}
use Rattle.laws.proofs.Picks.{rows_of, rows-length, oldest_ids, a-row, rows-first, fewer}

-- a tree of which u is used gives the entries of a list, one each time it is asked, and then nothing, whatever fresh numbers
-- from `first` on it is offered
abbrev pub Follows : (ℕ → ℕ) → Options → ℕ → Tree → (SourceId → Bool) → List Spec → Type 0
Follows lim o first t u [] = (f : ℕ) → first ≤ f → pick lim o u f t ≡ none
Follows lim o first t u (s ∷ ss) =
    (f : ℕ) → first ≤ f
    → (p : Picked) × (pick lim o u f t ≡ some p) × (aside p.spec ≡ s) × (first ≤ p.fresh) × Follows lim o first t (also u p.spec) ss

-- ---- the ids of step 1

-- views are no fresh numbers
views-old : (first : ℕ) (vs : List L0Row) → AllOld first (map view_id vs)
views-old first [] = tt
views-old first (v ∷ vs) = (tt, views-old first vs)

-- the fresh number is set aside
aside-rows : (o : Options) (t : Tree) → first_is_row (oldest_ids o t) ≡ true → (f g : ℕ)
    → aside (row_pick o f t).spec ≡ aside (row_pick o g t).spec
aside-rows o t h f g = rw h

-- ---- so long as a tree's oldest rows are free, it uses no fresh number
record Unmet (first : ℕ) (o : Options) (t : Tree) (u : SourceId → Bool) : Type 0 where
  at : (f : ℕ) → first ≤ f → unused u (oldest_ids o t) ≡ true → u (SortedRun f) ≡ false

-- two picks that differ in the fresh number alone
record Alike (first : ℕ) (o : Options) (t : Tree) (u v : SourceId → Bool) (p q : Picked) : Type 0 where
  spec : aside p.spec ≡ aside q.spec
  fresh : first ≤ p.fresh
  fresh' : first ≤ q.fresh
  used : Same first (also u p.spec) (also v q.spec)
  unmet : Unmet first o t (also u p.spec)
  unmet' : Unmet first o t (also v q.spec)

-- a tree asked at two tests: both times it gives nothing, or picks that are alike
abbrev Tandem : ℕ → Options → Tree → (SourceId → Bool) → (SourceId → Bool) → Option Picked → Option Picked → Type 0
Tandem first o t u v a none = a ≡ none
Tandem first o t u v a (some q) = (p : Picked) × (a ≡ some p) × Alike first o t u v p q

-- the test of the fresh number follows from that of the rows
no-fresh-test : (n x : Bool) → (n ≡ true → x ≡ false) → (n && (not x && true)) ≡ n
no-fresh-test true x h = rw (h refl)
no-fresh-test false x h = refl

module _ (lim : ℕ → ℕ) (o : Options) (least : 1 ≤ o.min) (most : o.min ≤ o.max) (first : ℕ) (first≤ : first ≤ last_run) (t : Tree) (below : Below first (ids_of t.runs)) where
  -- the window of step 2
  abbrev runs : (SourceId → Bool) → List ℕ
  runs u = window lim o.min o.max u (ids_of t.runs) (sizes_of t.runs)

  -- step 1's test without the fresh number
  abbrev row_test : (SourceId → Bool) → Bool
  row_test u =
      leb o.min (length t.l0)
      && (unused u (oldest_ids o t) && not (held_back lim o.max (total (l0_sizes_of (oldest o t))) (sizes_of t.runs)))

  -- the fresh number that is offered does not matter
  pick_is : {u : SourceId → Bool} {f : ℕ} → Unmet first o t u → first ≤ f
      → pick lim o u f t ≡ cond (row_test u) (some (row_pick o f t)) (run_pick o f t (runs u))
  unfolding pick takes_rows passes all
  pick_is {u} {f} m h =
      rw (all_append (λ x. not (u x)) (oldest_ids o t) (SortedRun f ∷ []), no-fresh-test (unused u (oldest_ids o t)) (u (SortedRun f)) (m.at f h))

  -- ---- after a pick

  -- a row that was taken is used
  unmet-rows : (u : SourceId → Bool) (f : ℕ) → leb o.min (length t.l0) ≡ true
      → Unmet first o t (also u (row_pick o f t).spec)
  unmet-rows u f enough = record { at = λ g h n. absurd (true≢false (sym taken ∙ not-true _ (all-mem (λ x. not (now x)) n r.1))) }
    where
      r : (x : SourceId) × Memᴰ x (oldest_ids o t) × Memᴰ x (map view_id t.l0)
      r = a-row lim o least most t enough

      now : SourceId → Bool
      now = also u (row_pick o f t).spec

      taken : now r.0 ≡ true
      taken = rw (mem-among (Memᴰ.append_left (SortedRun f ∷ []) r.1)) (or-true (u r.0))

  -- a run that was taken is no fresh number
  unmet-runs : (u : SourceId → Bool) (s : Spec) → AllOld first (spec_uses s) → Unmet first o t u → Unmet first o t (also u s)
  unmet-runs u s old m =
      record { at = λ f h n. ap₂ ◌||◌ (m.at f h (and_left (unused u (oldest_ids o t)) _ (rw (unused-plus u (λ x. among x (spec_uses s)) (oldest_ids o t)) at n))) (fresh-none (spec_uses s) old h) }

  -- step 2's spec
  abbrev run_spec : ℕ → List ℕ → Spec
  run_spec i w = record { prefix = t.prefix; sources = map SortedRun (last_of o.max (i ∷ w)); destination = last (i ∷ w) }

  -- a run window is of old ids, with its destination
  old-window : (i : ℕ) (w : List ℕ) → Below first (i ∷ w) → AllOld first (spec_uses (run_spec i w))
  old-window i w b =
      old-append first (map SortedRun (last_of o.max (i ∷ w))) (SortedRun (last (i ∷ w)))
      (below_old first (last_of o.max (i ∷ w)) (below-drop first (length (i ∷ w) - o.max) (i ∷ w) b)) (below_last first i w b)

  -- rows with one fresh number or another: of old ids the same are used
  same_rows : {u v : SourceId → Bool} {f g : ℕ} → Same first u v → first ≤ f → first ≤ g
      → Same first (also u (row_pick o f t).spec) (also v (row_pick o g t).spec)
  unfolding any
  same_rows {u} {v} {f} {g} s hf hg = record { at = λ x old. ap₂ ◌||◌ (s.at x old) (rows-only f x old hf ∙ sym (rows-only g x old hg)) }
    where
      rows-only : (d : ℕ) (x : SourceId) → Old first x → first ≤ d
          → among x (oldest_ids o t ++ (SortedRun d ∷ [])) ≡ (among x (oldest_ids o t) || false)
      rows-only d x old h = rw (among-append x (oldest_ids o t) (SortedRun d ∷ []), old-not-fresh {f = d} x old h)

  -- ---- two picks at tests that say the same of old ids
  tandem : {u v : SourceId → Bool} {f g : ℕ} → Same first u v → Unmet first o t u → Unmet first o t v → first ≤ f → first ≤ g
      → Tandem first o t u v (pick lim o u f t) (pick lim o v g t)
  tandem {u} {v} {f} {g} s mu mv hf hg =
      rw (pick_is mu hf, pick_is mv hg, window_same lim o.min o.max s (ids_of t.runs) (sizes_of t.runs) below, unused-same (oldest_ids o t) s (views-old first (oldest o t)))
      (go (row_test v) refl (runs v) (window-below lim o.min o.max v first (ids_of t.runs) (sizes_of t.runs) below))
    where
      go : (c : Bool) → row_test v ≡ c → (w : List ℕ) → Below first w
          → Tandem first o t u v (cond c (some (row_pick o f t)) (run_pick o f t w)) (cond c (some (row_pick o g t)) (run_pick o g t w))
      go true h w b =
          let enough = and_left _ _ h in (
            row_pick o f t,
            refl,
            record {
              spec = aside-rows o t (rows-first (oldest o t) (a-row lim o least most t enough).1) f g;
              fresh = omega arith;
              fresh' = omega arith;
              used = same_rows s hf hg;
              unmet = unmet-rows u f enough;
              unmet' = unmet-rows v g enough;
            },
          )
      go false h [] b = refl
      go false h (i ∷ w) b = (
        _,
        refl,
        record {
          spec = refl;
          fresh = hf;
          fresh' = hg;
          used = record { at = λ x old. ap (λ (c : Bool). c || among x (spec_uses (run_spec i w))) (s.at x old) };
          unmet = unmet-runs u (run_spec i w) (old-window i w b) mu;
          unmet' = unmet-runs v (run_spec i w) (old-window i w b) mv;
        },
      )

  -- ---- the list is followed
  list-follows : (n : ℕ) {u v : SourceId → Bool} {g : ℕ} → Same first u v → Unmet first o t u → Unmet first o t v
      → first ≤ g → free v (rows_of t) ≤ n
      → Follows lim o first t u (map aside (own_first lim o n v g t))
  unfolding own_first
  list-follows zero {u} {v} {g} s mu mv hg k = λ f hf. go f (pick lim o v g t) refl (tandem s mu mv hf hg)
    where
      go : (f : ℕ) (a : Option Picked) → pick lim o v g t ≡ a → Tandem first o t u v (pick lim o u f t) a
          → pick lim o u f t ≡ none
      go f none e w = w
      go f (some q) e w = absurd (omega (arith, fewer lim o least most t v g e))
  list-follows (suc n) {u} {v} {g} s mu mv hg k =
      go (pick lim o v g t) refl (λ f hf. tandem s mu mv hf hg) (λ p q a h. list-follows n a.used a.unmet a.unmet' a.fresh' h)
    where
      next : Picked → List Spec
      next p = own_first lim o n (also v p.spec) p.fresh t

      go : (a : Option Picked) → pick lim o v g t ≡ a → ((f : ℕ) → first ≤ f → Tandem first o t u v (pick lim o u f t) a)
          → ((p q : Picked) → Alike first o t u v p q → free (also v q.spec) (rows_of t) ≤ n → Follows lim o first t (also u p.spec) (map aside (next q)))
          → Follows lim o first t u (map aside (and_on a next))
      go none e w ih = w
      go (some q) e w ih = λ f hf. let x = w f hf in (x.0, x.1, x.2.spec, x.2.fresh, ih x.0 q x.2 (omega (arith, fewer lim o least most t v g e)))

  -- where no fresh number is used at the start, a tree follows its own list
  pub own-follows : (u : SourceId → Bool) → ((f : ℕ) → first ≤ f → u (SortedRun f) ≡ false)
      → Follows lim o first t u (map aside (own_list lim o u first t))
  unfolding own_list
  own-follows u h =
      let m : Unmet first o t u = record { at = λ f k n. h f k } in
      list-follows (length t.l0 + length t.runs) (record { at = λ x p. refl }) m m (omega arith) (omega (arith, free-length u (rows_of t), rows-length t))
