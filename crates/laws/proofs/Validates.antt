-- Validation accepts what is planned: the sources are a part of the tree's rows, or of its runs, and the last of runs that fall
-- is the lowest.
use Prim.Native.Nat.{ℕ, ◌-◌, ◌≤◌, min}
use mathlib.Core.Path.{◌≡◌, refl, sym, ap, ◌∙◌}
use mathlib.Core.Logic.{◌⊎◌, inl, inr}
use mathlib.Core.List.{List, [], ◌∷◌, ◌++◌, map, map-append, append_assoc, Memᴰ}
use mathlib.Core.Bool.{Bool, true, false, cond, not, or-true}
use mathlib.Core.Option.{Option, some, none}
use native.Mathlib.Omega.{arith}
use lib.Dec.{eqb, ltb}
use lib.ListN.{length, take, drop, take-append-drop}
use borrow.Author.Tests.{eq-eqb, eqb-true, le-leb, ltb-true}
use Rattle.rules.specs.declared.Options.{Options}
use Rattle.rules.specs.Lists.{first_with, linked}
use Rattle.rules.specs.declared.tables.SourceId.{SourceId}
use Rattle.rules.specs.declared.tables.Run.{Run}
use Rattle.rules.specs.declared.tables.SourceId.TheVariants.{SortedRun}
use Rattle.rules.specs.Tables.{L0Row, Tree, Job, run_id, view_id}
use Rattle.rules.specs.Bounds.{falling_ids, good_trees}
use Rattle.rules.specs.Windows.{last}
use Rattle.rules.specs.Pick.{Spec, ids_of}
use Rattle.rules.specs.Validation.{logical_order, starts_with, consecutive, lower, lowest_run, wrong_destination, tree_with, is_empty, tiered_refusal}
use Rattle.rules.proofs.Bounds.{by-rules}
use Rattle.rules.proofs.Lookups.{and_left, and_right}
use Rattle.laws.specs.Shapes.{OfRows, OfRuns, Made}
use Rattle.laws.specs.Validates.{Validates}
use Rattle.laws.proofs.Used.{all-mem, same_self}
use Rattle.laws.proofs.Picks.{a-row}
use Rattle.laws.proofs.Order.{Apart, distinct_apart, apart-same}
use Rattle.laws.proofs.Shapes.{shapes}

-- ---- 6: the tree is found

-- one with p is found, be it another than the one that is known
found-one : {A : Type 0} (p : A → Bool) {x : A} {xs : List A} → Memᴰ x xs → p x ≡ true
    → (y : A) × Memᴰ y xs × (p y ≡ true) × (first_with p xs ≡ some y)
unfolding first_with
found-one {A} p {x} (Memᴰ.head {x = y} {xs} e) h = (y, Memᴰ.head refl, sym (ap p e) ∙ h, rw (sym (ap p e) ∙ h))
found-one {A} p {x} (Memᴰ.tail {x = y} {xs} m) h = go (p y) refl (found-one p m h)
  where
    go : (c : Bool) → p y ≡ c → (z : A) × Memᴰ z xs × (p z ≡ true) × (first_with p xs ≡ some z)
        → (z : A) × Memᴰ z (y ∷ xs) × (p z ≡ true) × (cond c (some y) (first_with p xs) ≡ some z)
    go true e r = (y, Memᴰ.head refl, e, refl)
    go false e r = (r.0, Memᴰ.tail r.1, r.2, r.3)

-- no prefix twice, so the tree of a prefix is the one that has it
pub tree-found : {t : Tree} {ts : List Tree} → Apart ts → Memᴰ t ts → (k : ℕ) → k ≡ t.prefix → tree_with k ts ≡ some t
tree-found {t} {ts} d m k e =
    let r = found-one (λ c. eqb c.prefix k) m (eq-eqb t.prefix k (sym e)) in
    r.3 ∙ ap some (apart-same d m r.1 (eqb-true r.0.prefix k r.2 ∙ e))

-- ---- 8: a part of a list is consecutive
begins : (xs after : List SourceId) → starts_with (xs ++ after) xs ≡ true
unfolding starts_with
begins [] [] = refl
begins [] (y ∷ after) = refl
begins (x ∷ xs) after = rw (same_self x) (begins xs after)

here : (ys xs : List SourceId) → starts_with ys xs ≡ true → consecutive ys xs ≡ true
unfolding consecutive
here [] xs h = h
here (y ∷ ys) xs h = rw h

part-consecutive : (before xs after : List SourceId) → consecutive (before ++ (xs ++ after)) xs ≡ true
unfolding consecutive
part-consecutive [] xs after = here (xs ++ after) xs (begins xs after)
part-consecutive (y ∷ before) xs after = rw (part-consecutive before xs after) (or-true (starts_with (y ∷ (before ++ (xs ++ after))) xs))

-- ---- 9: the lowest run
rows-lowest : (vs : List L0Row) → lowest_run (map view_id vs) ≡ none
unfolding lowest_run
rows-lowest [] = refl
rows-lowest (v ∷ vs) = rows-lowest vs

-- ids that fall
abbrev Falling : List ℕ → Type 0
Falling ids = linked (λ a b. ltb b a) ids ≡ true

runs-falling : (rs : List Run) → falling_ids rs ≡ true → Falling (ids_of rs)
unfolding falling_ids linked
runs-falling [] h = refl
runs-falling (r ∷ []) h = refl
runs-falling (r ∷ (s ∷ rs)) h =
    rw (and_left (ltb s.id r.id) _ h) (runs-falling (s ∷ rs) (and_right (ltb s.id r.id) _ h))

-- a part of them falls
falling-after : (before ids : List ℕ) → Falling (before ++ ids) → Falling ids
unfolding linked
falling-after [] ids h = h
falling-after (i ∷ []) [] h = refl
falling-after (i ∷ []) (j ∷ ids) h = and_right (ltb j i) _ h
falling-after (i ∷ (j ∷ before)) ids h = falling-after (j ∷ before) ids (and_right (ltb j i) _ h)

falling-before : (ids after : List ℕ) → Falling (ids ++ after) → Falling ids
unfolding linked
falling-before [] after h = refl
falling-before (i ∷ []) after h = refl
falling-before (i ∷ (j ∷ ids)) after h = rw (and_left (ltb j i) _ h) (falling-before (j ∷ ids) after (and_right (ltb j i) _ h))

-- the last of ids that fall is the lowest
falling-lowest : (i : ℕ) (ids : List ℕ) → Falling (i ∷ ids)
    → (lowest_run (map SortedRun (i ∷ ids)) ≡ some (last (i ∷ ids))) × (last (i ∷ ids) ≤ i)
unfolding lowest_run linked last
falling-lowest i [] h = (refl, omega arith)
falling-lowest i (j ∷ ids) h =
    let r = falling-lowest j ids (and_right (ltb j i) _ h) in
    let below = ltb-true j i (and_left (ltb j i) (linked (λ a b. ltb b a) (j ∷ ids)) h) in
    let least : min i (last (j ∷ ids)) ≡ last (j ∷ ids) = omega (arith, r.1) in
    (ap (λ (x : Option ℕ). some (lower i x)) r.0 ∙ ap some least, omega (arith, r.1))

-- ---- one spec
runs-are : (rs : List Run) → map run_id rs ≡ map SortedRun (ids_of rs)
runs-are [] = refl
runs-are (r ∷ rs) = ap {B = List SourceId} (λ xs. run_id r ∷ xs) (runs-are rs)

-- what is not empty, a part of the rows, and goes to the lowest of its runs
accepts : (t : Tree) (xs : List SourceId) (d : ℕ) (before after : List SourceId) → is_empty xs ≡ false
    → logical_order t ≡ before ++ (xs ++ after) → wrong_destination d (lowest_run xs) ≡ false
    → tiered_refusal xs d (some t) ≡ 0
unfolding tiered_refusal
accepts t xs d before after filled place low = rw (filled, place, part-consecutive before xs after, low)

module _ (lim : ℕ → ℕ) (o : Options) (least : 1 ≤ o.min) (most : o.min ≤ o.max) (t : Tree) (falls : falling_ids t.runs ≡ true) (s : Spec) where
  accepts-rows : OfRows o t s → tiered_refusal s.sources s.destination (some t) ≡ 0
  accepts-rows r =
      let k = length t.l0 - o.max in
      let front = map view_id (take k t.l0) in
      let rest = map view_id (drop k t.l0) in
      rw r.sources
      (accepts t rest s.destination front (map run_id t.runs)
      (not-empty rest (a-row lim o least most t (le-leb o.min (length t.l0) r.enough)).1)
      (ap (λ (vs : List SourceId). vs ++ map run_id t.runs) (ap (map view_id) (sym (take-append-drop k t.l0)) ∙ map-append view_id (take k t.l0) (drop k t.l0))
      ∙ append_assoc front rest (map run_id t.runs))
      (ap (wrong_destination s.destination) (rows-lowest (drop k t.l0))))
    where
      not-empty : {x : SourceId} (xs : List SourceId) → Memᴰ x xs → is_empty xs ≡ false
      not-empty [] m = elim m [ ]
      not-empty (x ∷ xs) m = refl

  accepts-runs : OfRuns o t s → tiered_refusal s.sources s.destination (some t) ≡ 0
  accepts-runs r = rw r.sources (go r.ids r.least r.place r.destination)
    where
      go : (ids : List ℕ) → 1 ≤ length ids → ids_of t.runs ≡ r.before ++ (ids ++ r.after) → s.destination ≡ last ids
          → tiered_refusal (map SortedRun ids) s.destination (some t) ≡ 0
      go [] l place d = absurd (omega arith)
      go (i ∷ ids) l place d =
          let falling = falling-before (i ∷ ids) r.after (falling-after r.before ((i ∷ ids) ++ r.after) (rw place at (runs-falling t.runs falls))) in
          let lowest = (falling-lowest i ids falling).0 in
          accepts t (map SortedRun (i ∷ ids)) s.destination (map view_id t.l0 ++ map SortedRun r.before) (map SortedRun r.after) refl
          (ap (λ (xs : List SourceId). map view_id t.l0 ++ xs)
          (runs-are t.runs
          ∙ ap (map SortedRun) place
          ∙ map-append SortedRun r.before ((i ∷ ids) ++ r.after)
          ∙ ap (λ (xs : List SourceId). map SortedRun r.before ++ xs) (map-append SortedRun (i ∷ ids) r.after))
          ∙ sym (append_assoc (map view_id t.l0) (map SortedRun r.before) _))
          (ap (wrong_destination s.destination) lowest ∙ ap not (eq-eqb s.destination (last (i ∷ ids)) d))

  accepts-made : Made o t s → tiered_refusal s.sources s.destination (some t) ≡ 0
  accepts-made made = go made.step
    where
      go : OfRows o t s ⊎ OfRuns o t s → tiered_refusal s.sources s.destination (some t) ≡ 0
      go (inl r) = accepts-rows r
      go (inr r) = accepts-runs r

-- ---- all specs

pub validates : (lim : ℕ → ℕ) (o : Options) → 1 ≤ o.min → o.min ≤ o.max → (ts : List Tree) (js : List Job)
    → good_trees ts ≡ true → Validates lim o ts js
validates lim o least most ts js h = record {
  plan = λ s m. let r = (shapes lim o least most ts js).made s m in one r.0 r.1 s r.2;
  own = λ t k s m. one t k s ((shapes lim o least most ts js).own_made t s m);
}
  where
    one : (t : Tree) → Memᴰ t ts → (s : Spec) → Made o t s
        → tiered_refusal s.sources s.destination (tree_with s.prefix ts) ≡ 0
    one t m s made =
        let rules = by-rules ts h in
        rw (tree-found (distinct_apart ts rules.prefixes) m s.prefix made.prefix)
        (accepts-made lim o least most t (all-mem (λ x. falling_ids x.runs) rules.falling m) s made)
