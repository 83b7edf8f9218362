-- Finish, where it is not refused 13, and drain leave a tree that keeps refusal 2's rules, with no more rows than it had.
use Prim.Native.Nat.{ℕ, ◌+◌, ◌≤◌}
use mathlib.Core.Path.{◌≡◌, refl, sym, ap, ◌∙◌, subst}
use mathlib.Core.Logic.{◌⊎◌, inl, inr, ◌≢◌}
use mathlib.Core.List.Memᴰ
use mathlib.Core.List.{List, [], ◌∷◌, ◌++◌, map, Memᴰ}
use mathlib.Core.Bool.{Bool, true, false, cond, ◌&&◌, not, true≢false}
use mathlib.Core.Option.{Option, some, none, some-injective}
use native.Mathlib.Omega.{arith}
use lib.Dec.{eqb}
use lib.ListN.{length, take, drop, take-append-drop, length-append}
use borrow.Author.Tests.{eq-eqb, ne_eqb, not-false}
use Rattle.rules.specs.Lists.{any, keep, concat_map, distinct}
use Rattle.rules.specs.declared.tables.Ulid.{Ulid}
use Rattle.rules.specs.declared.tables.Run.{Run}
use Rattle.rules.specs.declared.tables.SourceId.{SourceId}
use Rattle.rules.specs.declared.tables.SourceId.TheVariants.{SortedRun, SstView}
use Rattle.rules.specs.Tables.{same_ulid, L0Row, Tree, Job, among, run_id, view_id}
use Rattle.rules.specs.Bounds.{falling_ids, good_marks}
use Rattle.rules.specs.Pick.{ids_of}
use Rattle.rules.specs.Validation.{tree_with}
use Rattle.rules.specs.Finish.{named, runs_left, output_place, with_output, row_of_view, mark_at, finish_tree, drain_tree, in_tree, misplaced}
use Rattle.rules.proofs.Bounds.{ByRules}
use Rattle.rules.proofs.Lookups.{or_left, or_right}
use Rattle.laws.proofs.Used.{all-mem}
use Rattle.laws.proofs.Fresh.{keep-mem}
use Rattle.laws.proofs.Distinct.{any_none, part-distinct}
use Rattle.laws.proofs.Order.{distinct_apart}
use Rattle.laws.proofs.Sources.{map-concat}
use Rattle.laws.proofs.Validates.{tree-found}
use Rattle.laws.proofs.GoodTrees.{keep-distinct, keep-falls, Sound}

-- ---- watermarks have good marks
mark-good : (u : Ulid) (v : Option L0Row) (x : Tree) → x.watermark ≡ mark_at u v → good_marks x ≡ true
mark-good u none x e = rw e
mark-good u (some v) x e = rw e

finished-marks : (j : Job) (out : Run) (t : Tree) → good_marks t ≡ true → good_marks (finish_tree j out t) ≡ true
unfolding finish_tree
finished-marks j out t h = go (named j) refl
  where
    go : (xs : List SourceId) → named j ≡ xs → good_marks (finish_tree j out t) ≡ true
    go [] e = rw e h
    go (SortedRun r ∷ xs) e = rw e h
    go (SstView u ∷ xs) e = mark-good u (row_of_view u t.l0) (finish_tree j out t) (rw e)

drained-marks : (j : Job) (t : Tree) → good_marks t ≡ true → good_marks (drain_tree j t) ≡ true
unfolding drain_tree
drained-marks j t h = go (keep (λ v. among (view_id v) (named j)) t.l0) refl
  where
    go : (vs : List L0Row) → keep (λ v. among (view_id v) (named j)) t.l0 ≡ vs → good_marks (drain_tree j t) ≡ true
    go [] e = rw e h
    go (v ∷ vs) e = mark-good v.view (some v) (drain_tree j t) (rw e)

module _ (ts : List Tree) (rules : ByRules ts) where
  -- a tree's views are distinct
  views-of : (t : Tree) → Memᴰ t ts → distinct same_ulid (map (λ v. v.view) t.l0) ≡ true
  views-of t m =
      part-distinct (λ t. map (λ v. v.view) t.l0) same_ulid (rw (map-concat (λ (v : L0Row). v.view) (λ t. t.l0) ts) at rules.views) m

  -- ---- drain
  pub drain-sound : (j : Job) (k : ℕ) (t : Tree) → Memᴰ t ts → t.prefix ≡ k → Sound k ts t (drain_tree j t)
  unfolding drain_tree
  drain-sound j k t m e = record {
    falls = keep-falls (λ r. not (among (run_id r) (named j))) t.runs (all-mem (λ (x : Tree). falling_ids x.runs) rules.falling m);
    runs = λ r n. inl (Memᴰ.map (λ (x : Run). x.id) (keep-mem (λ r. not (among (run_id r) (named j))) t.runs n).0);
    rows = λ v n. (keep-mem (λ v. not (among (view_id v) (named j))) t.l0 n).0;
    once = keep-distinct (λ (v : L0Row). v.view) same_ulid (λ v. not (among (view_id v) (named j))) t.l0 (views-of t m);
    marks = drained-marks j t (all-mem good_marks rules.marks m);
  }

  -- ---- finish
  module _ (j : Job) (out : Run) (x : Tree) (here : tree_with j.prefix ts ≡ some x) (placed : misplaced j out ts x ≡ false) where
    -- the tree of the job's prefix is the one that was checked
    checked : (t : Tree) → Memᴰ t ts → t.prefix ≡ j.prefix → t ≡ x
    checked t m e = some-injective _ _ (sym (tree-found (distinct_apart ts rules.prefixes) m j.prefix (sym e)) ∙ here)

    -- "the output's number is a run of another tree" is refused
    not-elsewhere : (c : Tree) → Memᴰ c ts → c.prefix ≢ x.prefix → Memᴰ out.id (ids_of c.runs) → ⊥
    unfolding misplaced
    not-elsewhere c m d n =
        let none = any_none (λ y. not (eqb y.prefix x.prefix) && any (λ r. eqb r.id out.id) y.runs) (or_right (not (falling_ids (finish_tree j out x).runs)) _ placed) m in
        let r = Memᴰ.of_map (λ (s : Run). s.id) c.runs n in
        true≢false (sym (eq-eqb r.0.id out.id r.2) ∙ any_none (λ s. eqb s.id out.id) (rw (ne_eqb c.prefix x.prefix d) at none) r.1)

    -- and ids that do not fall
    still-falls : falling_ids (finish_tree j out x).runs ≡ true
    unfolding misplaced
    still-falls = not-false (falling_ids (finish_tree j out x).runs) (or_left (not (falling_ids (finish_tree j out x).runs)) _ placed)

    -- a run after a finish was there, or is the output
    a-run : (t : Tree) (r : Run) → Memᴰ r (finish_tree j out t).runs → Memᴰ r t.runs ⊎ (r ≡ out)
    unfolding finish_tree with_output
    a-run t r m = go (Memᴰ.append_cases (runs_left gone (take at t.runs)) m)
      where
        gone : List SourceId
        gone = named j ++ (SortedRun j.destination ∷ [])

        at : ℕ
        at = output_place out t.runs

        whole : {q : Run} → Memᴰ q (take at t.runs ++ drop at t.runs) → Memᴰ q t.runs
        whole {q} n = subst (Memᴰ q) (take-append-drop at t.runs) n

        go : Memᴰ r (runs_left gone (take at t.runs)) ⊎ Memᴰ r (out ∷ runs_left gone (drop at t.runs))
            → Memᴰ r t.runs ⊎ (r ≡ out)
        go (inl n) = inl (whole (Memᴰ.append_left (drop at t.runs) (keep-mem (λ s. not (among (run_id s) gone)) (take at t.runs) n).0))
        go (inr (Memᴰ.head e)) = inr e
        go (inr (Memᴰ.tail n)) = inl (whole (Memᴰ.append_right (take at t.runs) (keep-mem (λ s. not (among (run_id s) gone)) (drop at t.runs) n).0))

    sound-here : Memᴰ x ts → x.prefix ≡ j.prefix → Sound j.prefix ts x (finish_tree j out x)
    unfolding finish_tree
    sound-here m e = record {
      falls = still-falls;
      runs = λ r n. go r (a-run x r n);
      rows = λ v n. (keep-mem (λ v. not (among (view_id v) (named j))) x.l0 n).0;
      once = keep-distinct (λ (v : L0Row). v.view) same_ulid (λ v. not (among (view_id v) (named j))) x.l0 (views-of x m);
      marks = finished-marks j out x (all-mem good_marks rules.marks m);
    }
      where
        go : (r : Run) → Memᴰ r x.runs ⊎ (r ≡ out)
            → Memᴰ r.id (ids_of x.runs) ⊎ ((c : Tree) → Memᴰ c ts → c.prefix ≢ j.prefix → Memᴰ r.id (ids_of c.runs) → ⊥)
        go r (inl n) = inl (Memᴰ.map (λ (s : Run). s.id) n)
        go r (inr q) = inr (λ c m d n. not-elsewhere c m (λ z. d (z ∙ e)) (subst (λ (s : Run). Memᴰ s.id (ids_of c.runs)) q n))

    pub finish-sound : (t : Tree) → Memᴰ t ts → t.prefix ≡ j.prefix → Sound j.prefix ts t (finish_tree j out t)
    finish-sound t m e =
        let same = checked t m e in
        subst (λ (y : Tree). Sound j.prefix ts y (finish_tree j out y)) (sym same)
        (sound-here (subst (λ (y : Tree). Memᴰ y ts) same m) (sym (ap (λ (y : Tree). y.prefix) same) ∙ e))

-- ---- no more rows
keep-le : {A : Type 0} (p : A → Bool) (xs : List A) → length (keep p xs) ≤ length xs
unfolding keep
keep-le p [] = omega arith
keep-le p (x ∷ xs) =
    elim (p x) as (λ c. length (cond c (x ∷ keep p xs) (keep p xs)) ≤ length (x ∷ xs)) [ true ↦ omega (arith, keep-le p xs) | false ↦ omega (arith, keep-le p xs) ]

pub finished-rows : (j : Job) (out : Run) (t : Tree) → length (finish_tree j out t).l0 ≤ length t.l0
unfolding finish_tree
finished-rows j out t = keep-le (λ v. not (among (view_id v) (named j))) t.l0

pub drained-rows : (j : Job) (t : Tree) → length (drain_tree j t).l0 ≤ length t.l0
unfolding drain_tree
drained-rows j t = keep-le (λ v. not (among (view_id v) (named j))) t.l0

pub drained-runs : (j : Job) (t : Tree) → length (drain_tree j t).runs ≤ length t.runs
unfolding drain_tree
drained-runs j t = keep-le (λ r. not (among (run_id r) (named j))) t.runs

-- of all trees
pub all-le : {A : Type 0} (of : Tree → List A) (k : ℕ) (f : Tree → Tree) → ((t : Tree) → length (of (f t)) ≤ length (of t))
    → (ts : List Tree) → length (concat_map of (in_tree k f ts)) ≤ length (concat_map of ts)
unfolding concat_map
all-le of k f h [] = omega arith
all-le of k f h (t ∷ ts) =
    rw (length-append (of (cond (eqb t.prefix k) (f t) t)) (concat_map of (in_tree k f ts)), length-append (of t) (concat_map of ts))
    (elim (eqb t.prefix k) as (λ c. length (of (cond c (f t) t)) + length (concat_map of (in_tree k f ts)) ≤ length (of t) + length (concat_map of ts))
    [ true ↦ omega (arith, h t, all-le of k f h ts) | false ↦ omega (arith, all-le of k f h ts) ])
