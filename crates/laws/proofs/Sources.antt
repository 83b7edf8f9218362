-- No row is a source twice: not in one spec, whose sources are a part of the tree's rows; not in two of one tree, which share
-- nothing; and not in two trees, which have no row in common.
use Prim.Native.Nat.{ℕ, ◌-◌, ◌≤◌}
use mathlib.Core.Path.{◌≡◌, refl, sym, ap, ◌∙◌, subst}
use mathlib.Core.Logic.{◌⊎◌, inl, inr}
use mathlib.Core.List.Memᴰ
use mathlib.Core.List.{List, [], ◌∷◌, ◌++◌, map, map-append, Memᴰ}
use mathlib.Core.Bool.{Bool, true, false}
use native.Mathlib.Omega.{arith}
use lib.Dec.{eqb}
use lib.ListN.{length, take, drop, take-append-drop}
use borrow.Author.Tests.{eq-eqb, eqb-true, eqb-false}
use Rattle.rules.specs.declared.Options.{Options}
use Rattle.rules.specs.Lists.{distinct, concat_map}
use Rattle.rules.specs.declared.tables.Ulid.{Ulid}
use Rattle.rules.specs.declared.tables.SourceId.{SourceId}
use Rattle.rules.specs.declared.tables.Run.{Run}
use Rattle.rules.specs.declared.tables.SourceId.TheVariants.{SortedRun, SstView}
use Rattle.rules.specs.Tables.{L0Row, Tree, Job, same_ulid, same_id, among, view_id}
use Rattle.rules.specs.Lent.{l0_of, runs_of}
use Rattle.rules.specs.Pick.{Spec, spec_uses, ids_of}
use Rattle.rules.specs.Plan.{planned, own_list_of}
use Rattle.rules.specs.Planning.{spec_sources}
use Rattle.laws.specs.Disjoint.{sharing}
use Rattle.laws.specs.Shapes.{OfRows, OfRuns, Made}
use Rattle.laws.specs.NamesOnce.{RowsOnce}
use Rattle.laws.proofs.Used.{same_self, same_id_lem}
use Rattle.laws.proofs.Distinct.{any_none, left-distinct, right-distinct, distinct-map, one-part, part-distinct, distinct-concat}
use Rattle.laws.proofs.Disjoint.{disjoint}
use Rattle.laws.proofs.Shapes.{shapes}

-- ---- the rows of one tree, as ids

-- rows with distinct views
views-distinct : (vs : List L0Row) → distinct same_ulid (map (λ v. v.view) vs) ≡ true → distinct same_id (map view_id vs) ≡ true
views-distinct vs h =
    let same : L0Row → L0Row → Bool = λ a b. same_ulid a.view b.view in
    distinct-map view_id same_id same (λ a b. refl) vs ∙ sym (distinct-map (λ v. v.view) same_ulid same (λ a b. refl) vs) ∙ h

-- runs with distinct ids
ids-distinct : (ids : List ℕ) → distinct eqb ids ≡ true → distinct same_id (map SortedRun ids) ≡ true
ids-distinct ids h = distinct-map SortedRun same_id eqb (λ a b. refl) ids ∙ h

module _ {o : Options} {t : Tree} {s : Spec} where
  -- the sources of a spec are distinct where the tree's rows are
  sources-distinct : Made o t s → distinct eqb (ids_of t.runs) ≡ true
      → distinct same_ulid (map (λ v. v.view) t.l0) ≡ true → distinct same_id s.sources ≡ true
  sources-distinct made runs views = go made.step
    where
      go : OfRows o t s ⊎ OfRuns o t s → distinct same_id s.sources ≡ true
      go (inl r) =
          let k = length t.l0 - o.max in
          rw r.sources
          (right-distinct same_id (map view_id (take k t.l0)) (map view_id (drop k t.l0))
          (rw (← map-append view_id (take k t.l0) (drop k t.l0), take-append-drop k t.l0) (views-distinct t.l0 views)))
      go (inr r) =
          rw r.sources
          (ids-distinct r.ids (left-distinct eqb r.ids r.after (right-distinct eqb r.before (r.ids ++ r.after) (rw r.place at runs))))

  -- and each of them is a row or a run of the tree
  source_of : {x : SourceId} → Made o t s → Memᴰ x s.sources
      → Memᴰ x (map view_id t.l0) ⊎ Memᴰ x (map SortedRun (ids_of t.runs))
  source_of {x} made m = go made.step
    where
      go : OfRows o t s ⊎ OfRuns o t s → Memᴰ x (map view_id t.l0) ⊎ Memᴰ x (map SortedRun (ids_of t.runs))
      go (inl r) =
          let k = length t.l0 - o.max in
          inl
          (rw (← take-append-drop k t.l0, map-append view_id (take k t.l0) (drop k t.l0))
          (Memᴰ.append_right (map view_id (take k t.l0)) (rw r.sources at m)))
      go (inr r) =
          inr
          (rw (r.place, map-append SortedRun r.before (r.ids ++ r.after), map-append SortedRun r.ids r.after)
          (Memᴰ.append_right (map SortedRun r.before) (Memᴰ.append_left (map SortedRun r.after) (rw r.sources at m))))

-- ---- two specs of one tree
unshared : (s r : Spec) → sharing s r ≡ false → s.prefix ≡ r.prefix → {x y : SourceId} → Memᴰ x s.sources
    → Memᴰ y r.sources → same_id x y ≡ false
unshared s r h e {x} {y} m n =
    any_none (λ z. same_id z y)
    (any_none (λ z. among z (spec_uses s)) (rw (eq-eqb s.prefix r.prefix e) at h) (Memᴰ.append_left (SortedRun r.destination ∷ []) n))
    (Memᴰ.append_left (SortedRun s.destination ∷ []) m)

-- ---- two trees
pub map-concat : {A B C : Type 0} (g : B → C) (f : A → List B) (xs : List A)
    → map g (concat_map f xs) ≡ concat_map (λ x. map g (f x)) xs
unfolding concat_map
map-concat g f [] = refl
map-concat {C = C} g f (x ∷ xs) = map-append g (f x) (concat_map f xs) ∙ ap (λ (r : List C). map g (f x) ++ r) (map-concat g f xs)

-- a view is no run
view-no-run : {x : SourceId} (vs : List L0Row) (ids : List ℕ) → Memᴰ x (map view_id vs) → Memᴰ x (map SortedRun ids) → ⊥
view-no-run {x} vs ids a b = no (Memᴰ.of_map view_id vs a).2 (Memᴰ.of_map SortedRun ids b).2
  where
    no : {u : Ulid} {i : ℕ} → SstView u ≡ x → SortedRun i ≡ x → ⊥
    no p q = let z : ◌≡◌ {A = ℕ} 0 1 = cc in omega arith

module _ {ts : List Tree} (once : RowsOnce ts) where
  -- the rows of all trees
  all-views : distinct same_id (concat_map (λ t. map view_id t.l0) ts) ≡ true
  all-views = rw (← map-concat view_id (λ t. t.l0) ts) (views-distinct (l0_of ts) once.views)

  -- the runs of all trees
  all_runs : distinct same_id (concat_map (λ t. map SortedRun (ids_of t.runs)) ts) ≡ true
  all_runs =
      rw (← map-concat SortedRun (λ t. ids_of t.runs) ts, ← map-concat (λ (r : Run). r.id) (λ t. t.runs) ts) (ids-distinct (ids_of (runs_of ts)) once.runs)

  -- a row or run belongs to one tree
  one-tree : {t c : Tree} {x : SourceId} → Memᴰ t ts → Memᴰ c ts
      → Memᴰ x (map view_id t.l0) ⊎ Memᴰ x (map SortedRun (ids_of t.runs))
      → Memᴰ x (map view_id c.l0) ⊎ Memᴰ x (map SortedRun (ids_of c.runs)) → t ≡ c
  one-tree m n (inl a) (inl b) = one-part (λ t. map view_id t.l0) same_id same_self all-views m n a b
  one-tree m n (inr a) (inr b) = one-part (λ t. map SortedRun (ids_of t.runs)) same_id same_self all_runs m n a b
  one-tree {t} {c} m n (inl a) (inr b) = absurd (view-no-run t.l0 (ids_of c.runs) a b)
  one-tree {t} {c} m n (inr a) (inl b) = absurd (view-no-run c.l0 (ids_of t.runs) b a)

module _ (lim : ℕ → ℕ) (o : Options) (least : 1 ≤ o.min) (most : o.min ≤ o.max) (ts : List Tree) (js : List Job) where
  -- the specs of the plan
  abbrev specs : List Spec
  specs = (planned lim o ts js).specs

  -- two specs of a plan that share nothing have no source in common
  pub plan-apart : RowsOnce ts → (s r : Spec) → Memᴰ s specs → Memᴰ r specs → sharing s r ≡ false
      → (x y : SourceId) → Memᴰ x s.sources → Memᴰ y r.sources → same_id x y ≡ false
  plan-apart once s r a b h x y m n = go (eqb s.prefix r.prefix) refl (same_id x y) refl
    where
      p : (t : Tree) × Memᴰ t ts × Made o t s
      p = (shapes lim o least most ts js).made s a

      q : (t : Tree) × Memᴰ t ts × Made o t r
      q = (shapes lim o least most ts js).made r b

      go : (c : Bool) → eqb s.prefix r.prefix ≡ c → (d : Bool) → same_id x y ≡ d → d ≡ false
      go c e false f = refl
      go true e true f = sym f ∙ unshared s r h (eqb-true s.prefix r.prefix e) m n
      go false e true f =
          let here = source_of p.2 m in
          let there = source_of q.2 (subst (λ (z : SourceId). Memᴰ z r.sources) (sym (same_id_lem x y f)) n) in
          let same = ap (λ (t : Tree). t.prefix) (one-tree once p.1 q.1 here there) in
          absurd (eqb-false s.prefix r.prefix e (p.2.prefix ∙ same ∙ sym q.2.prefix))

  -- no source twice in an own list
  pub own-sources : (t : Tree) → distinct eqb (ids_of t.runs) ≡ true
      → distinct same_ulid (map (λ v. v.view) t.l0) ≡ true
      → distinct same_id (spec_sources (own_list_of lim o ts js t)) ≡ true
  own-sources t runs views =
      let made = (shapes lim o least most ts js).own_made t in
      distinct-concat (λ s. s.sources) same_id (own_list_of lim o ts js t) (λ s m. sources-distinct (made s m) runs views) sharing ((disjoint lim o ts js).own_once t)
      (λ s r m n h x y. unshared s r h ((made s m).prefix ∙ sym (made r n).prefix))

  -- and none in a plan
  pub plan-sources : RowsOnce ts → distinct same_id (spec_sources specs) ≡ true
  plan-sources once = distinct-concat (λ s. s.sources) same_id specs one_spec sharing (disjoint lim o ts js).once (plan-apart once)
    where
      one_spec : (s : Spec) → Memᴰ s specs → distinct same_id s.sources ≡ true
      one_spec s m =
          let p = (shapes lim o least most ts js).made s m in
          let runs = rw (map-concat (λ (r : Run). r.id) (λ t. t.runs) ts) at once.runs in
          let views = rw (map-concat (λ (v : L0Row). v.view) (λ t. t.l0) ts) at once.views in
          sources-distinct p.2 (part-distinct (λ t. ids_of t.runs) eqb runs p.1) (part-distinct (λ t. map (λ v. v.view) t.l0) same_ulid views p.1)
